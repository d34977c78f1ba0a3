use Rattle.std.proofs.Common.{◌≡◌, ℕ, false, get_or}
use Rattle.std.specs.Prelude.{◌==◌, ◌&&◌}
use Rattle.outage_rules.specs.Sum.{some_below}
use Rattle.outage_rules.specs.Certificate.{has_parent}
use Rattle.grid_model.specs.Network.{network_of}
use Rattle.bound_checker.specs.Claimed.{table_in}
use Rattle.bound_checker.proofs.forest.flag_parents.Given as goal

abbrev pub invariant-loop-n : goal.invariant-loop-n
invariant-loop-n l = (d : ℕ) → get_or l.flags d false ≡ some_below l.n (λ n. has_parent (network_of l.grid) (table_in l.claims) n && ((table_in l.claims).parent n == d))
