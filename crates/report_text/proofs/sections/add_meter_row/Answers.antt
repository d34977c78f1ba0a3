-- The ledger and the field tell of a meter what the events say.
use Rattle.std.proofs.lemmas.Result.{on_ok_weaker}
use Rattle.report_text.proofs.Told.{row_added}
use Rattle.report_text.proofs.sections.add_meter_row.Goals as goal

pub returns : goal.returns
returns c =
    on_ok_weaker c.add_contradicted.result
    (λ adds h after. row_added h c.args.engine.now after _ _ c.grid.result.now c.field.result.now c.ledger.result.now c.args.meter.0 c.is_dark-is_dark.result c.pull-pull.result
    c.ledger_is_kept.ensures c.requires c.grid.ensures c.field.ensures.field c.ledger.ensures.ledger c.is_dark-is_dark.ensures c.pull-pull.ensures adds)
    c.add_contradicted.ensures
