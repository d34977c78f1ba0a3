use Rattle.std.proofs.Common.{◌≡◌, ℕ, ◌<◌, false, slice_index_or}
use Rattle.grid_model.specs.Network.{network_in}
use Rattle.bound_checker.specs.Claimed.{cut_in}
use Rattle.bound_checker.specs.Conditions.{is_not_closed}
use Rattle.bound_checker.proofs.cuts.first_not_closed.Given as goal

abbrev pub invariant-loop-d : goal.invariant-loop-d
invariant-loop-d l = (k : ℕ) → k < l.d → is_not_closed (network_in l.grid (λ d. slice_index_or l.closed d false)) (cut_in l.cuts) k ≡ false
