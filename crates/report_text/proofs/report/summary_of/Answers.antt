-- The parts of the summary.
use Rattle.std.proofs.Common.{◌∙◌, ap}
use Rattle.history_rules.specs.Indices.{whole_period}
use Rattle.interruption_ledger.specs.Ledgered.{lines_kept}
use Rattle.report_text.proofs.Told.{added_is, lines_by, lines_few, indices_told, summary_told}
use Rattle.report_text.proofs.report.summary_of.Goals as goal

pub add_index_rows-requires-clause-lines : goal.add_index_rows-requires-clause-lines
add_index_rows-requires-clause-lines c =
    lines_by c.ledger.ensures.engine.0 c.args.engine.now c.ledger.ensures.engine.1 c.grid.result.now c.field.result.now c.now.result c.deref.result.now
    c.ledger_is_timely.ensures c.ledger_is_kept.ensures c.grid.ensures c.field.ensures.field c.now.ensures
    (c.deref.ensures.value ∙ c.in_ok-lines.ensures ∙ ap lines_kept c.ledger.ensures.ledger)

pub add_index_rows-requires-clause-count : goal.add_index_rows-requires-clause-count
add_index_rows-requires-clause-count c =
    lines_few c.ledger.ensures.engine.0 c.args.engine.now c.ledger.ensures.engine.1 c.deref.result.now
    c.ledger_is_timely.ensures c.ledger_is_kept.ensures c.requires
    (c.deref.ensures.value ∙ c.in_ok-lines.ensures ∙ ap lines_kept c.ledger.ensures.ledger)

pub returns : goal.returns
returns c = λ h after.
    let indices = indices_told h c.args.engine.now after c.grid.result.now c.field.result.now c.now.result whole_period c.deref.result.now
    c.ledger_is_kept.ensures c.grid.ensures c.field.ensures.field c.now.ensures
    (c.deref.ensures.value ∙ c.in_ok-lines.ensures ∙ ap lines_kept c.ledger.ensures.ledger) in
    summary_told h c.args.engine.now after c.args.refused _ _ _ _
    c.new-summary.ensures.items (c.in_ok-add_head.ensures h after)
    (added_is _ _ _ _ indices c.in_ok-add_index_rows.ensures) c.in_ok-add_last_row.ensures
