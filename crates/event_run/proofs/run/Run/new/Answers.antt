-- A run before the first byte.
use Rattle.event_run.proofs.PieceLines.{read_none}
use Rattle.event_run.proofs.run.Run.new.Goals as goal

pub returns : goal.returns
returns c = λ now e after. read_none _ e now c.new-3.ensures.number c.new-3.ensures.counted c.new-3.ensures.entries c.new.ensures.begins after
