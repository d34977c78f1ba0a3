use Rattle.std.proofs.Common.{◌≡◌, true, false, sym, ap, subst, ◌∙◌, Ok}
use Rattle.std.specs.Prelude.{slice_index_or, slice_set}
use Rattle.outage_rules.specs.Network.{IsRadial}
use Rattle.outage_rules.specs.Loops.{would_loop}
use Rattle.grid_model.specs.Network.{network_in}
use Rattle.grid_model.specs.declared.history.Want.TheVariants.{Closed}
use Rattle.field_state.proofs.Turning.{refused_loops}
use Rattle.field_state.proofs.state.State.turn.Goals as goal

pub rebuild-requires-clause-radial : goal.rebuild-requires-clause-radial
rebuild-requires-clause-radial g c =
    subst (λ f. IsRadial (network_in c.args.grid.now (λ e. slice_index_or (slice_set f.closed c.args.d.0 false) e false))) c.forest.ensures
    (c.decide.ensures.opens (c.in-Ok-Opens.is ∙ ap Ok c.in-Ok-Opens.field-0-is))

pub rebuild-requires-in-Ok-Closes-clause-radial : goal.rebuild-requires-in-Ok-Closes-clause-radial
rebuild-requires-in-Ok-Closes-clause-radial g c =
    subst (λ f. IsRadial (network_in c.args.grid.now (λ e. slice_index_or (slice_set f.closed c.args.d.0 true) e false))) c.forest.ensures
    (c.decide.ensures.closes (c.in-Ok-Closes.is ∙ ap Ok c.in-Ok-Closes.field-0-is))

pub returns-in-Err : goal.returns-in-Err
returns-in-Err g c =
    let same = c.forest.ensures ∙ ap (λ f. f.forest) c.self.view_is in
    let unlooped = subst (λ f. c.args.want ≡ Closed → slice_index_or f.closed c.args.d.0 false ≡ false → would_loop (network_in c.args.grid.now (λ e. slice_index_or f.closed e false)) c.args.d.0 ≡ false)
    (sym same) c.requires.unlooped in
    absurd (refused_loops c.args.want _ _ c.in-Err.field-0 (sym c.decide.ensures.decided ∙ c.in-Err.is) unlooped)
