use Rattle.replay_laws.proofs.Exchanges.{change_places}
use Rattle.replay_laws.proofs.exchange.reports_can_change_places.Goals as goal

pub returns : goal.returns
returns c = λ g h e f m n history reports. change_places g h e f m n history reports c.evidence_is_kept.ensures c.history_is_timely.ensures
