use Rattle.outage_rules.proofs.Live.{live_test, live_from_test}
use Rattle.outage_rules.proofs.live_is_a_walk.Goals as goal

pub returns : goal.returns
returns c = λ p cut n sound l. (live_from_test p cut n, live_test p cut sound n l)
