-- The parts of the report.
use Rattle.std.proofs.Common.{◌∙◌, ap}
use Rattle.interruption_ledger.specs.Ledgered.{lines_kept}
use Rattle.report_text.proofs.Told.{added_is, lines_of_grid, outages_told, outages_of_grid, outages_ordered, lines_by, lines_few, outage_rows_told, crew_rows_told, line_rows_told, indices_told, report_told}
use Rattle.report_text.proofs.report.report_of.Goals as goal

pub add_outage_rows-requires : goal.add_outage_rows-requires
add_outage_rows-requires c =
    outages_of_grid c.field.ensures.engine.0 c.args.engine.now c.field.ensures.engine.1 c.grid-grid.result.now c.deref.result.now c.history_is_timely.ensures c.grid-grid.ensures
    (c.deref.ensures.value ∙ outages_told c.field.ensures.engine.0 c.args.engine.now c.field.ensures.engine.1 c.grid-grid.result.now c.field.result.now c.judged.result.now
    c.in_ok-listed.listed.items c.grid-grid.ensures c.field.ensures.field c.judged.ensures c.in_ok-listed.ensures)

pub add_crew_rows-requires-clause-known : goal.add_crew_rows-requires-clause-known
add_crew_rows-requires-clause-known c =
    outages_of_grid c.field.ensures.engine.0 c.args.engine.now c.field.ensures.engine.1 c.grid-grid.result.now c.deref-2.result.now c.history_is_timely.ensures c.grid-grid.ensures
    (c.deref-2.ensures.value ∙ outages_told c.field.ensures.engine.0 c.args.engine.now c.field.ensures.engine.1 c.grid-grid.result.now c.field.result.now c.judged.result.now
    c.in_ok-listed.listed.items c.grid-grid.ensures c.field.ensures.field c.judged.ensures c.in_ok-listed.ensures)

pub add_crew_rows-requires-clause-ordered : goal.add_crew_rows-requires-clause-ordered
add_crew_rows-requires-clause-ordered c =
    outages_ordered c.field.ensures.engine.0 c.args.engine.now c.field.ensures.engine.1 c.deref-2.result.now c.outages_can_be_ordered.ensures
    (c.deref-2.ensures.value ∙ outages_told c.field.ensures.engine.0 c.args.engine.now c.field.ensures.engine.1 c.grid-grid.result.now c.field.result.now c.judged.result.now
    c.in_ok-listed.listed.items c.grid-grid.ensures c.field.ensures.field c.judged.ensures c.in_ok-listed.ensures)

pub add_line_rows-requires : goal.add_line_rows-requires
add_line_rows-requires c =
    lines_of_grid c.field.ensures.engine.0 c.args.engine.now c.field.ensures.engine.1 c.grid-grid.result.now c.deref-3.result.now
    c.history_is_timely.ensures c.ledger_is_kept.ensures c.grid-grid.ensures
    (c.deref-3.ensures.value ∙ c.in_ok-lines.ensures ∙ ap lines_kept c.ledger.ensures.ledger)

pub add_index_rows-requires-clause-lines : goal.add_index_rows-requires-clause-lines
add_index_rows-requires-clause-lines c =
    lines_by c.field.ensures.engine.0 c.args.engine.now c.field.ensures.engine.1 c.grid-grid.result.now c.field-2.result.now c.now.result c.deref-4.result.now
    c.ledger_is_timely.ensures c.ledger_is_kept.ensures c.grid-grid.ensures c.field-2.ensures.field c.now.ensures
    (c.deref-4.ensures.value ∙ c.in_ok-lines.ensures ∙ ap lines_kept c.ledger.ensures.ledger)

pub add_index_rows-requires-clause-count : goal.add_index_rows-requires-clause-count
add_index_rows-requires-clause-count c =
    lines_few c.field.ensures.engine.0 c.args.engine.now c.field.ensures.engine.1 c.deref-4.result.now
    c.ledger_is_timely.ensures c.ledger_is_kept.ensures c.requires
    (c.deref-4.ensures.value ∙ c.in_ok-lines.ensures ∙ ap lines_kept c.ledger.ensures.ledger)

pub returns : goal.returns
returns c = λ h after.
    let e = c.args.engine.now in
    let listed = outages_told h e after c.grid-grid.result.now c.field.result.now c.judged.result.now
    c.in_ok-listed.listed.items c.grid-grid.ensures c.field.ensures.field c.judged.ensures c.in_ok-listed.ensures in
    let kept = c.in_ok-lines.ensures ∙ ap lines_kept c.ledger.ensures.ledger in
    let outages = outage_rows_told h e after c.grid-grid.result.now c.deref.result.now c.grid-grid.ensures (c.deref.ensures.value ∙ listed) in
    let crews = crew_rows_told h e after c.grid-grid.result.now c.deref-2.result.now c.grid-grid.ensures (c.deref-2.ensures.value ∙ listed) in
    let lines = line_rows_told h e after c.grid-grid.result.now c.deref-3.result.now c.ledger_is_kept.ensures c.grid-grid.ensures (c.deref-3.ensures.value ∙ kept) in
    let indices = indices_told h e after c.grid-grid.result.now c.field-2.result.now c.now.result c.args.period c.deref-4.result.now
    c.ledger_is_kept.ensures c.grid-grid.ensures c.field-2.ensures.field c.now.ensures (c.deref-4.ensures.value ∙ kept) in
    report_told h e after c.args.period c.args.refused _ _ _ _ _ _ _ _
    c.new-text.ensures.items (c.in_ok-add_head.ensures h after)
    (added_is _ _ _ _ outages c.in_ok-add_outage_rows.ensures)
    (added_is _ _ _ _ crews c.in_ok-add_crew_rows.ensures)
    (c.in_ok-add_unexplained.ensures h after)
    (added_is _ _ _ _ lines c.in_ok-add_line_rows.ensures)
    (added_is _ _ _ _ indices c.in_ok-add_index_rows.ensures)
    c.in_ok-add_last_row.ensures
