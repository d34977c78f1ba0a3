use Rattle.std.proofs.Common.{ap, ◌∙◌}
use Rattle.std.specs.Prelude.{not}
use mathlib.Core.Bool.{beq}
use Rattle.grid_model.specs.Places.{device_at}
use Rattle.restore_plan.specs.States.{is_fed}
use Rattle.restore_plan.proofs.Flags.{differ}
use Rattle.restore_plan.proofs.queueing.has_one_fed_end.Goals as goal

pub returns : goal.returns
returns c =
    let g = c.args.grid.now in
    let closed = c.args.forest.now.closed in
    let from = c.is_fed.ensures ∙ ap (λ n. is_fed g closed n.0) c.ends.ensures.from in
    let to = c.is_fed-2.ensures ∙ ap (λ n. is_fed g closed n.0) c.ends.ensures.to in
    ap (λ b. not (beq b c.is_fed-2.result)) from ∙ ap (λ b. not (beq (is_fed g closed (device_at g c.args.d.0).from.0) b)) to ∙ differ (is_fed g closed (device_at g c.args.d.0).from.0) (is_fed g closed (device_at g c.args.d.0).to.0)
