use Rattle.std.proofs.Common.{◌≡◌, ℕ, ◌<◌, false, slice_index_or}
use Rattle.grid_model.specs.Network.{network_in}
use Rattle.bound_checker.specs.Claimed.{table_in}
use Rattle.bound_checker.specs.Conditions.{has_bad_parent}
use Rattle.bound_checker.proofs.forest.first_bad_parent.Given as goal

abbrev pub invariant-loop-n : goal.invariant-loop-n
invariant-loop-n l = (k : ℕ) → k < l.n → has_bad_parent (network_in l.grid (λ d. slice_index_or l.closed d false)) (table_in l.claims) k ≡ false
