use Rattle.std.proofs.Common.{take, ◌≡◌, map}
use Rattle.crew_list.specs.Chains.{further}
use Rattle.crew_list.proofs.chains.doubled.Given as goal

abbrev pub invariant-loop-reach : goal.invariant-loop-reach
invariant-loop-reach l = l.far.items ≡ map (further l.reaches) (take l.reach-index l.reaches)
