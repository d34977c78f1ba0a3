-- What a set of opened devices costs, and which sets are the best.
use Rattle.std.specs.Prelude.{◌≡◌, ℕ, ◌+◌, ◌<◌, ◌≤◌, true, false, if◌then◌else◌}
use Rattle.outage_rules.specs.Sum.{total}
use Rattle.outage_rules.specs.Network.{Problem, Cut, is_live}

-- the weights of the devices of the cut, and of the reports that it contradicts
abbrev pub cost : Problem → Cut → ℕ
cost p cut =
    total p.devices (λ d. if cut d then p.weight d else 0)
    + total p.nodes (λ n. if is_live p.net cut n then p.dark_weight n else p.live_weight n)

-- closed devices only, all that are marked open and none that are marked ok
pub record IsFeasible (p : Problem) (cut : Cut) : Type 0 where
  pub closed : (d : ℕ) → d < p.devices → cut d ≡ true → p.is_closed d ≡ true
  pub opened : (d : ℕ) → d < p.devices → p.marked_open d ≡ true → cut d ≡ true
  pub fine : (d : ℕ) → d < p.devices → p.marked_ok d ≡ true → cut d ≡ false

-- no feasible cut costs less
abbrev pub IsLowerBound : Problem → ℕ → Type 0
IsLowerBound p c = (cut : Cut) → IsFeasible p cut → c ≤ cost p cut

-- some feasible cut has this cost, and none costs less
pub record IsLeastCost (p : Problem) (c : ℕ) : Type 0 where
  pub attained : (cut : Cut) × IsFeasible p cut × (cost p cut ≡ c)
  pub least : IsLowerBound p c

pub record IsLeast (p : Problem) (cut : Cut) : Type 0 where
  pub feasible : IsFeasible p cut
  pub least : IsLowerBound p (cost p cut)

-- a least cut under which only those nodes are dark that are dark under every least cut
pub record IsDiagnosis (p : Problem) (cut : Cut) : Type 0 where
  pub least : IsLeast p cut
  pub cautious : (other : Cut) → IsLeast p other → (n : ℕ) → n < p.nodes → is_live p.net cut n ≡ false → is_live p.net other n ≡ false

-- no device is marked, and no report says that a node is live
pub record HasOnlyDarkReports (p : Problem) : Type 0 where
  pub unmarked : (d : ℕ) → p.marked_open d ≡ false
  pub not_fine : (d : ℕ) → p.marked_ok d ≡ false
  pub no_live : (n : ℕ) → p.live_weight n ≡ 0
