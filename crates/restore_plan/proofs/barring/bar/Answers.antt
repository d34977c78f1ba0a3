use Rattle.std.proofs.Common.{subst, sym, ap, ◌∙◌, ◌<◌, length, get_or, set, true, false}
use Rattle.std.specs.Prelude.{◌||◌, ◌==◌}
use Rattle.std.specs.List.{list_any}
use Rattle.grid_model.specs.Places.{device_at}
use Rattle.restore_plan.specs.Barred.{ends_at, flagged}
use Rattle.restore_plan.proofs.Flags.{one_flagged}
use Rattle.restore_plan.proofs.barring.bar.Goals as goal

pub bar_around-requires-clause-node : goal.bar_around-requires-clause-node
bar_around-requires-clause-node c =
    subst (λ n. n.0 < length c.args.grid.now.nodes) (sym c.ends.ensures.from) (c.requires.sound.devices c.args.fault.0 c.requires.fault).from

pub bar_around-requires-2-clause-node : goal.bar_around-requires-2-clause-node
bar_around-requires-2-clause-node c =
    subst (λ n. n.0 < length c.args.grid.now.nodes) (sym c.ends.ensures.to) (c.requires.sound.devices c.args.fault.0 c.requires.fault).to

pub returns : goal.returns
returns c = λ d l.
    let g = c.args.grid.now in
    let any = list_any (λ x. x.0 == d) c.args.cuts.now in
    let set_first = ap (λ b. get_or (set b c.args.fault.0 true) d false) c.requires.unflagged ∙ one_flagged (length g.devices) c.args.fault.0 d c.requires.fault in
    let after_cuts = c.bar_all.ensures d ∙ ap (λ b. b || any) set_first in
    let after_from = c.bar_around.ensures d l ∙ ap (λ n. flagged c.bar_all.new.barred d || ends_at g n.0 d) c.ends.ensures.from ∙ ap (λ b. b || ends_at g (device_at g c.args.fault.0).from.0 d) after_cuts in
    c.bar_around-2.ensures d l ∙ ap (λ n. flagged c.bar_around.new.barred d || ends_at g n.0 d) c.ends.ensures.to ∙ ap (λ b. b || ends_at g (device_at g c.args.fault.0).to.0 d) after_from
