-- The main theorems.
use Rattle.std.specs.Prelude.{◌||◌, ◌==◌, ◌≡◌, ℕ, ◌<◌, ◌≤◌, Bool, true, false, ◌↔◌}
use Rattle.outage_rules.specs.Network.{Network, Problem, Cut, IsSoundNetwork, IsSound, IsRadial, IsLive, Walk, nothing, is_live}
use Rattle.outage_rules.specs.Diagnosis.{IsDiagnosis, IsLeastCost, HasOnlyDarkReports}
use Rattle.outage_rules.specs.TreeOrder.{IsInTreeOrder, AreSummedRows, source_total}
use Rattle.outage_rules.specs.Reference.{test_table, table_of, reference_cut, least_cost}
use Rattle.outage_rules.specs.Certificate.{Table, IsRooted, IsForest, IsWhole, HasExactRows, PassesCheck, IsCertified, AgreeWithRows, part_of, dark_cost_of}

abbrev pub CheckIsSound : Type 0
CheckIsSound = (p : Problem) (t : Table) (cut : Cut) (c : ℕ) → IsSound p → PassesCheck p t cut c → IsCertified p cut c

abbrev pub LiveIsAWalk : Type 0
LiveIsAWalk = (g : Network) (cut : Cut) (n : ℕ) → IsSoundNetwork g → n < g.nodes → (is_live g cut n ≡ true) ↔ IsLive g cut n

abbrev pub OneDiagnosis : Type 0
OneDiagnosis = (p : Problem) (t : Table) → IsSound p → IsForest p.net t → HasExactRows p t →
    ((cut : Cut) × IsDiagnosis p cut) × ((a b : Cut) → IsDiagnosis p a → IsDiagnosis p b → (d : ℕ) → d < p.devices → a d ≡ b d)

abbrev pub RowIsLeast : Type 0
RowIsLeast = (p : Problem) (t : Table) → IsSound p → IsForest p.net t → HasExactRows p t →
    (r : ℕ) → r < p.nodes → t.is_listed r ≡ true → IsLeastCost (part_of p t r) (t.live_cost r) × (t.dark_cost r ≡ dark_cost_of p t r)

abbrev pub FlagsAreDiagnosis : Type 0
FlagsAreDiagnosis = (p : Problem) (t : Table) (cut : Cut) (is_dark : ℕ → Bool) → IsSound p → IsForest p.net t → HasExactRows p t →
    AgreeWithRows p t cut is_dark → IsDiagnosis p cut

abbrev pub RadialIsForest : Type 0
RadialIsForest = (g : Network) (t : Table) → IsSoundNetwork g → IsRooted g t → IsWhole g t → IsRadial g → IsForest g t

-- where the test computes to true, the computed cut is the diagnosis
abbrev pub TestedIsDiagnosis : Type 0
TestedIsDiagnosis = (p : Problem) → ((n : ℕ) → p.is_source n ≡ true → n < p.nodes) → test_table p (table_of p) ≡ true → IsDiagnosis p (reference_cut p)

-- no device outside the network is cut
abbrev pub IsWithin : Problem → Cut → Type 0
IsWithin p cut = (d : ℕ) → p.devices ≤ d → cut d ≡ false

-- there is one diagnosis, as a set of the network's devices
abbrev pub DiagnosisIsOne : Type 0
DiagnosisIsOne = (p : Problem) (t : Table) → IsSound p → IsForest p.net t → HasExactRows p t →
    (a b : Cut) → IsWithin p a → IsWithin p b → IsDiagnosis p a → IsDiagnosis p b → a ≡ b

-- a radial network has a diagnosis: the computed cut
abbrev pub ReferenceIsDiagnosis : Type 0
ReferenceIsDiagnosis = (p : Problem) → IsSound p → IsRadial p.net → IsDiagnosis p (reference_cut p)

-- the network with one more device closed
abbrev pub with_closed : Network → ℕ → Network
with_closed g d = record g { is_closed = λ e. (e == d) || g.is_closed e }

-- closing a device whose ends aren't joined, and not both fed, leaves the network radial
abbrev pub RadialStays : Type 0
RadialStays = (g : Network) (d : ℕ) → IsRadial g → d < g.devices →
    ((k : ℕ) → Walk g nothing k (g.from d) (g.to d) → ⊥) → (IsLive g nothing (g.from d) → IsLive g nothing (g.to d) → ⊥) → IsRadial (with_closed g d)

-- devices in tree order close no loop
abbrev pub TreeIsRadial : Type 0
TreeIsRadial = (g : Network) → IsInTreeOrder g → IsSoundNetwork g × IsRadial g

-- what the computed cut costs is the least cost
abbrev pub LeastCostIsLeast : Type 0
LeastCostIsLeast = (p : Problem) → IsSound p → IsRadial p.net → IsLeastCost p (least_cost p)

-- no two numbers are the least cost
abbrev pub OneLeastCost : Type 0
OneLeastCost = (p : Problem) (a b : ℕ) → IsLeastCost p a → IsLeastCost p b → a ≡ b

-- in a tree the rows of the sources add up to the least cost
abbrev pub SummedRowsAreLeast : Type 0
SummedRowsAreLeast = (p : Problem) (row : ℕ → ℕ) → IsSound p → IsInTreeOrder p.net → HasOnlyDarkReports p →
    AreSummedRows p row → IsLeastCost p (source_total p.net row)

-- where nothing is reported, nothing is opened
abbrev pub NothingCostsNothing : Type 0
NothingCostsNothing = (p : Problem) → HasOnlyDarkReports p → ((n : ℕ) → p.dark_weight n ≡ 0) → IsLeastCost p 0

-- problems whose nodes weigh the same are one
abbrev pub EqualReportsEqualProblems : Type 0
EqualReportsEqualProblems = (p : Problem) (dark other : ℕ → ℕ) → ((n : ℕ) → dark n ≡ other n) →
    record p { dark_weight = dark } ≡ record p { dark_weight = other }
