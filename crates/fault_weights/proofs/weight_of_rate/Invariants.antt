-- The rate doubled so far, and that it made too little before.
use Rattle.std.proofs.Common.{◌≡◌, ◌-◌, ◌*◌, ◌^◌, ◌<◌, ℕ}
use Rattle.fault_weights.proofs.weight_of_rate.Given as goal

abbrev pub invariant-loop-failures : goal.invariant-loop-failures
invariant-loop-failures l =
    (l.failures ≡ l.rate * 2 ^ l.doublings) × ((j : ℕ) → j < l.doublings → l.rate * 2 ^ j < 1000000000)

abbrev pub decreases-loop-failures : goal.decreases-loop-failures
decreases-loop-failures l = 1000000000 - l.failures
