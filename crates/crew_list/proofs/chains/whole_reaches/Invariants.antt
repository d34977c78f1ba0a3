use Rattle.std.proofs.Common.{length, ◌-◌, ◌<◌, ◌^◌, ◌≤◌}
use Rattle.crew_list.specs.Chains.{IsReached}
use Rattle.crew_list.proofs.chains.whole_reaches.Given as goal

abbrev pub invariant-doubling : goal.invariant-doubling
invariant-doubling l = IsReached l.outages l.steps l.reaches.items × (1 ≤ l.steps) × (l.steps < 2 ^ 64)

abbrev pub decreases-doubling : goal.decreases-doubling
decreases-doubling l = length l.outages - l.steps
