-- What the computed table shows of its problem, and how large its rows are.
use Rattle.std.specs.Prelude.{ℕ, ◌+◌, ◌<◌, ◌≤◌, true, ◌≡◌, if◌then◌else◌}
use Rattle.outage_rules.specs.Sum.{total}
use Rattle.outage_rules.specs.Network.{Network, Problem, IsSound, IsRadial}
use Rattle.outage_rules.specs.Certificate.{Table, IsForest, HasExactRows, PassesCheck}
use Rattle.outage_rules.specs.Reference.{distance, table_of, reference_cut, least_cost}

-- in a radial network the computed table, cut and cost pass the local check
abbrev pub TightPasses : Type 0
TightPasses = (p : Problem) → IsSound p → IsRadial p.net → PassesCheck p (table_of p) (reference_cut p) (least_cost p)

-- what all reports and all marked devices weigh
abbrev pub whole_weight : Problem → ℕ
whole_weight p =
    total p.devices (λ d. if p.marked_open d then p.weight d else 0)
    + total p.nodes (λ n. p.dark_weight n + p.live_weight n)

-- no row costs more than all reports and all marked devices
abbrev pub RowsAreBounded : Type 0
RowsAreBounded = (p : Problem) (t : Table) → IsSound p → IsForest p.net t → HasExactRows p t →
    (n : ℕ) → n < p.nodes → t.is_listed n ≡ true → (t.live_cost n ≤ whole_weight p) × (t.dark_cost n ≤ whole_weight p)

-- nor does the least cost
abbrev pub LeastIsBounded : Type 0
LeastIsBounded = (p : Problem) → IsSound p → IsRadial p.net → least_cost p ≤ whole_weight p

-- a shortest walk has at most as many devices as there are nodes
abbrev pub DistanceIsBounded : Type 0
DistanceIsBounded = (g : Network) (n : ℕ) → distance g n ≤ g.nodes
