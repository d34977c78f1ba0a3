use Rattle.std.proofs.Common.{◌≡◌, sym, subst, false}
use Rattle.std.specs.Prelude.{slice_index_or}
use Rattle.outage_rules.specs.Loops.{would_loop}
use Rattle.grid_model.specs.Network.{network_in}
use Rattle.grid_model.specs.declared.history.Want.TheVariants.{Closed}
use Rattle.field_state.proofs.Marking.{ordered_done}
use Rattle.field_state.proofs.state.State.order.Goals as goal

pub turn-requires-clause-unlooped : goal.turn-requires-clause-unlooped
turn-requires-clause-unlooped g c =
    subst (λ f. c.args.want ≡ Closed → slice_index_or f.closed c.args.d.0 false ≡ false → would_loop (network_in c.args.grid.now (λ e. slice_index_or f.closed e false)) c.args.d.0 ≡ false)
    (sym c.take_mark.ensures.marked.forest) c.requires.unlooped

pub returns : goal.returns
returns g c = λ now ready.
    ordered_done c.args.grid.now now c.args.d c.args.want c.args.self.now c.take_mark.new.self c.turn.new.self ready c.requires.device c.take_mark.ensures.marked c.turn.ensures.turned
