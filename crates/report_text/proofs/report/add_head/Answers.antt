-- The field and the judgement tell what the first rows say.
use Rattle.std.proofs.Common.{◌∙◌, ◌++◌, ap}
use Rattle.std.proofs.lemmas.Result.{on_ok_weaker}
use Rattle.report_text.proofs.Told.{head_told}
use Rattle.report_text.proofs.report.add_head.Goals as goal

pub returns : goal.returns
returns c =
    on_ok_weaker c.add_first_rows.result
    (λ adds h after. adds ∙ ap (λ t. c.args.text.now.items ++ t)
    (head_told h c.args.engine.now after c.field-field.result.now c.applied.result c.now.result c.args.refused c.total.result
    c.field-field.ensures.field c.applied.ensures c.now.ensures (c.total.ensures.total ∙ ap (λ k. k.total) c.costs.ensures ∙ ap (λ x. x.costs.total) c.field-field.ensures.field)))
    c.add_first_rows.ensures
