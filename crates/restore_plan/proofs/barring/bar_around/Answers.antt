use Rattle.std.proofs.Common.{◌<◌, get_or, ap, ◌∙◌, sym, subst}
use Rattle.std.specs.Prelude.{◌||◌}
use Rattle.restore_plan.specs.Barred.{flagged}
use Rattle.restore_plan.proofs.Flags.{all_within, ends_listed}
use Rattle.restore_plan.proofs.barring.bar_around.Goals as goal

pub bar_all-requires : goal.bar_all-requires
bar_all-requires c = λ k d l.
    subst (λ n. (get_or c.incident.result.now k d).0 < n) (sym c.requires.each) (all_within c.args.grid.now c.args.n.0 c.incident.result.now c.incident.ensures k d l)

pub returns-then-not-is_source : goal.returns-then-not-is_source
returns-then-not-is_source c = λ d l.
    c.bar_all.ensures d
    ∙ ap (λ b. flagged c.args.barred.now d || b) (ends_listed c.args.grid.now c.args.n.0 c.incident.result.now c.incident.ensures d l (sym c.is_source.ensures ∙ c.if-not-is_source.true))
