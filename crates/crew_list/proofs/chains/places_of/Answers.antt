use Rattle.std.proofs.Common.{arith}
use Rattle.crew_list.proofs.chains.places_of.Goals as goal
use Rattle.crew_list.proofs.Looking.{placed_more}

pub loop-place-preserved : goal.loop-place-preserved
loop-place-preserved c = placed_more c.args.outages.now c.requires c.loop-place.places c.insert.new.self c.loop-place.place _ (omega arith) c.loop-place.invariant c.in_ok-insert.ensures.updates
