use Rattle.std.proofs.Common.{sym, ap, ◌∙◌, Some, None}
use Rattle.std.specs.Prelude.{if◌then◌else◌}
use Rattle.std.specs.Result.{result_err}
use Rattle.grid_model.specs.declared.history.Refusal.TheVariants.{Loop}
use Rattle.field_state.specs.Acted.{rule_in, closes_loop_by}
use Rattle.field_state.proofs.Ruling.{order_rule}
use Rattle.field_state.proofs.state.State.rule_against.Goals as goal

pub returns-in-Order : goal.returns-in-Order
returns-in-Order c =
    let g = c.args.grid.now in
    c.err.ensures.value ∙ ap result_err c.decide.ensures.decided ∙ order_rule g c.forest-in-Order.result.now.closed c.in-Order.d.0 c.in-Order.want
    ∙ ap (λ f. if closes_loop_by g f.closed c.in-Order.d.0 c.in-Order.want then Some Loop else None) (c.forest-in-Order.ensures ∙ ap (λ f. f.forest) c.self.view_is)
    ∙ ap (rule_in g c.args.self.now.forest.closed) (sym c.in-Order.is)
