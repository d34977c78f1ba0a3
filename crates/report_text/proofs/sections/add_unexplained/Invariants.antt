use Rattle.std.proofs.Common.{◌≡◌, List, ◌++◌}
use Rattle.std.specs.Prelude.{flat_map}
use Rattle.std.specs.List.{range_with_len}
use Rattle.grid_model.specs.declared.history.Event.{Event}
use Rattle.history_rules.specs.Report.{unexplained_row}
use Rattle.outage_engine.specs.Engined.{IsEngineAfter}
use Rattle.report_text.proofs.sections.add_unexplained.Given as goal

abbrev pub invariant-loop-m : goal.invariant-loop-m
invariant-loop-m l = (h : List Event) → IsEngineAfter h l.engine → l.text.items ≡ l.fn.text.items ++ flat_map (unexplained_row l.engine.grid h) (range_with_len 0 l.m)
