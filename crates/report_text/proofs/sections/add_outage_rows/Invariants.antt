use Rattle.std.proofs.Common.{◌≡◌, ◌++◌, take}
use Rattle.std.specs.Prelude.{flat_map}
use Rattle.history_rules.specs.Report.{outage_row}
use Rattle.report_text.proofs.sections.add_outage_rows.Given as goal

abbrev pub invariant-loop-outage : goal.invariant-loop-outage
invariant-loop-outage l = l.text.items ≡ l.fn.text.items ++ flat_map (outage_row l.grid) (take l.outage-index l.outages)
