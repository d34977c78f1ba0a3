use Rattle.std.proofs.Common.{◌≡◌, ◌++◌, map, take}
use Rattle.history_rules.specs.Report.{crew_rows}
use Rattle.crew_list.specs.Listed.{outage_at}
use Rattle.report_text.proofs.sections.add_crew_rows.Given as goal

abbrev pub invariant-loop-place : goal.invariant-loop-place
invariant-loop-place l = (l.number ≡ l.place-index) × (l.text.items ≡ l.fn.text.items ++ crew_rows l.grid 1 (map (outage_at l.outages) (take l.place-index l.place-items)))
