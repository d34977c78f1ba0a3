use Rattle.std.proofs.Common.{◌≡◌, ℕ, ◌<◌, false, slice_index_or}
use Rattle.grid_model.specs.Network.{network_in}
use Rattle.bound_checker.specs.Claimed.{table_in}
use Rattle.bound_checker.specs.Conditions.{is_stray}
use Rattle.bound_checker.proofs.forest.first_stray.Given as goal

abbrev pub invariant-loop-d : goal.invariant-loop-d
invariant-loop-d l = (k : ℕ) → k < l.d → is_stray (network_in l.grid (λ d. slice_index_or l.closed d false)) (table_in l.claims) k ≡ false
