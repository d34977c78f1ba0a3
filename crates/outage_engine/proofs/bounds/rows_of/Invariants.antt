use Rattle.std.proofs.Common.{◌≡◌}
use Rattle.outage_engine.specs.Bounding.{kept_rows}
use Rattle.outage_engine.proofs.bounds.rows_of.Given as goal

abbrev pub invariant-loop-n : goal.invariant-loop-n
invariant-loop-n g l = l.rows.items ≡ kept_rows l.grid l.costs l.depths l.n
