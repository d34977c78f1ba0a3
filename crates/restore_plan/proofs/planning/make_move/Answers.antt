use Rattle.std.proofs.Common.{ap, ◌∙◌, Ok}
use Rattle.restore_plan.proofs.planning.make_move.Goals as goal

pub rebuild-requires-clause-radial : goal.rebuild-requires-clause-radial
rebuild-requires-clause-radial c = c.decide.ensures.opens (c.in-Ok-Opens.is ∙ ap Ok c.in-Ok-Opens.field-0-is)

pub rebuild-requires-in-Ok-Closes-clause-radial : goal.rebuild-requires-in-Ok-Closes-clause-radial
rebuild-requires-in-Ok-Closes-clause-radial c = c.decide.ensures.closes (c.in-Ok-Closes.is ∙ ap Ok c.in-Ok-Closes.field-0-is)
