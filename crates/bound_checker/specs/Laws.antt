-- What a valid verdict shows, and which bounds it is valid of.
use Rattle.std.specs.Prelude.{◌≡◌, ◌↔◌, ◌<◌, ℕ, Bool, true, List}
use Rattle.outage_rules.specs.Network.{Network, Problem, Cut, IsSound, IsRadial}
use Rattle.outage_rules.specs.Certificate.{Table, PassesCheck, IsCertified}
use Rattle.grid_model.specs.Parts.{Parts}
use Rattle.grid_model.specs.Sound.{IsSoundParts}
use Rattle.grid_model.specs.declared.history.Mark.{Mark}
use Rattle.bound_table.specs.Tight.{tight_bounds}
use Rattle.bound_checker.specs.declared.rules.Verdict.TheVariants.{Valid}
use Rattle.grid_model.specs.Problem.{problem_of}
use Rattle.bound_checker.specs.Claimed.{table_of, cut_of}
use Rattle.bound_checker.specs.Verdict.{verdict_of}

-- the cut is feasible, it costs so much, and no feasible cut costs less, whoever made the table
abbrev pub ValidIsCertified : Type 0
ValidIsCertified = (g : Parts) (closed : List Bool) (marks : List Mark) (dark live : List ℕ) (t : Table) (cut : Cut) (c : ℕ) → IsSoundParts g →
    verdict_of (problem_of g closed marks dark live) t cut c ≡ Valid → IsCertified (problem_of g closed marks dark live) cut c

-- no source has a parent: the number past the last device stands for none
abbrev pub SourcesHaveNoParent : Network → Table → Type 0
SourcesHaveNoParent g t = (n : ℕ) → n < g.nodes → g.is_source n ≡ true → t.parent n ≡ g.devices

-- the verdict is valid exactly where the table passes the check and gives no source a parent
abbrev pub ValidIsPassed : Type 0
ValidIsPassed = (p : Problem) (t : Table) (cut : Cut) (c : ℕ) →
    (verdict_of p t cut c ≡ Valid) ↔ (PassesCheck p t cut c × SourcesHaveNoParent p.net t)

-- the tight bounds of a problem over a radial network are valid
abbrev pub TightIsValid : Type 0
TightIsValid = (p : Problem) → IsSound p → IsRadial p.net →
    verdict_of p (table_of p.devices (tight_bounds p).rows) (cut_of (tight_bounds p).cuts) (tight_bounds p).cost ≡ Valid
