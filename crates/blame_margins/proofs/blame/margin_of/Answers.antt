-- A device of the diagnosis that isn't marked open has no mark.
use Rattle.std.proofs.Common.{rules, ◌≡◌, ◌-◌, ℕ, Some, subst}
use Rattle.grid_model.specs.Problem.{mark_at}
use Rattle.grid_model.specs.declared.history.Mark.TheVariants.{Opened}
use Rattle.blame_margins.specs.Blamed.{IsMargin}
use Rattle.blame_margins.proofs.BlamedLemmas.{blamed_known, blamed_unmarked, worth}
use Rattle.blame_margins.proofs.blame.margin_of.Goals as goal

pub least_without-requires-clause-device : goal.least_without-requires-clause-device
least_without-requires-clause-device g c = blamed_known c.field-field.ensures.engine.0 c.args.engine.now c.field-field.ensures.engine.1 c.args.device.0 c.requires.blamed

pub mark-requires : goal.mark-requires
mark-requires g c =
    let known = blamed_known c.field-field.ensures.engine.0 c.args.engine.now c.field-field.ensures.engine.1 c.args.device.0 c.requires.blamed in
    search rules

pub least_without-requires-clause-unmarked : goal.least_without-requires-clause-unmarked
least_without-requires-clause-unmarked g c =
    let other : mark_at c.args.engine.now.field.marks c.args.device.0 ≡ Opened → ⊥ = search rules in
    blamed_unmarked c.history_is_diagnosed.ensures c.field_poses.ensures c.field-field.ensures.engine.0 c.args.engine.now c.field-field.ensures.engine.1 c.args.device.0 c.requires.blamed other

pub returns-else-eq-clause-margin : goal.returns-else-eq-clause-margin
returns-else-eq-clause-margin g c = λ h is.
    let other : mark_at c.args.engine.now.field.marks c.args.device.0 ≡ Opened → ⊥ = search rules in
    let plain = blamed_unmarked c.history_is_diagnosed.ensures c.field_poses.ensures h c.args.engine.now is c.args.device.0 c.requires.blamed other in
    let least : c.args.engine.now.field.costs.total ≡ c.total-least.result = search rules in
    subst (λ (k : ℕ). IsMargin c.args.engine.now.grid h c.args.device.0 (Some (c.least_without.result - k))) least
    (worth c.history_is_diagnosed.ensures c.field_poses.ensures h c.args.engine.now is c.args.device.0 c.requires.blamed c.least_without.result plain (c.least_without.ensures.least h is))
