use Rattle.std.proofs.Common.{◌≡◌, ℕ, ◌<◌, false}
use Rattle.grid_model.specs.Network.{network_of}
use Rattle.bound_checker.specs.Claimed.{table_in}
use Rattle.bound_checker.specs.Conditions.{is_bad_source}
use Rattle.bound_checker.proofs.forest.first_bad_source.Given as goal

abbrev pub invariant-loop-n : goal.invariant-loop-n
invariant-loop-n l = (k : ℕ) → k < l.n → is_bad_source (network_of l.grid) (table_in l.claims) k ≡ false
