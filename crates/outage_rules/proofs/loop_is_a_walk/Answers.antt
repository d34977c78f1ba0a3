use Rattle.outage_rules.proofs.Loops.{looped_by_walks}
use Rattle.outage_rules.proofs.loop_is_a_walk.Goals as goal

pub returns : goal.returns
returns c = λ g d sound l. looped_by_walks g sound d l
