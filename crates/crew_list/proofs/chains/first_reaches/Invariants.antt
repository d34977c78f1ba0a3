use Rattle.std.proofs.Common.{◌≡◌, ◌<◌, ℕ, length}
use Rattle.std.specs.BTreeMap.{get}
use Rattle.std.specs.Ordering.{nat_cmp}
use Rattle.crew_list.specs.Listed.{outage_at}
use Rattle.crew_list.specs.Chains.{reach_at, step_by}
use Rattle.crew_list.proofs.chains.first_reaches.Given as goal

abbrev pub invariant-loop-place : goal.invariant-loop-place
invariant-loop-place l = (length l.reaches.items ≡ l.place) × ((k : ℕ) → k < l.place → reach_at l.reaches.items k ≡ step_by (get nat_cmp l.places) k (outage_at l.outages k).above)
