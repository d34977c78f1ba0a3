use Rattle.std.proofs.Common.{rules}
use Rattle.state_tests.proofs.restore_plan_calls.isolates_a_line_and_closes_one_tie.Goals as goal

pub plan-requires-clause-radial : goal.plan-requires-clause-radial
plan-requires-clause-radial g c = c.is_radial.ensures.radial.0 (search rules)
