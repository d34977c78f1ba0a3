use Rattle.restore_plan.specs.Barred.{flagged}
use Rattle.restore_plan.proofs.Opening.{IsIsolating}
use Rattle.restore_plan.proofs.planning.isolate.Given as goal

abbrev pub invariant-loop-d : goal.invariant-loop-d
invariant-loop-d l = IsIsolating (flagged l.barred) l.fn.forest.closed l.grid l.d l.forest l.moves.items
