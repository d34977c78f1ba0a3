use Rattle.std.proofs.Common.{false, get_or, length, ap, sym, subst, ◌∙◌}
use Rattle.std.proofs.lemmas.List.{with_items_is}
use Rattle.outage_rules.specs.Network.{IsRadial}
use Rattle.grid_model.specs.Network.{network_in}
use Rattle.grid_model.specs.Started.{started}
use Rattle.grid_model.specs.GridInside.{parts_of}
use Rattle.grid_model.proofs.Started.{devices_started}
use Rattle.grid_model.proofs.grid.Grid.starting.Goals as goal

pub invariant_of-self : goal.invariant_of-self
invariant_of-self c =
    let now = with_items_is c.self.inside.devices c.set_states.new.devices (c.set_states.auto.devices ∙ c.deref_mut.ensures.len)
    ∙ c.set_states.ensures ∙ ap (λ ds. started ds c.args.closed.now) c.deref_mut.ensures.value in
    devices_started (parts_of c.self.inside) c.args.closed.now _ c.self.inside.source_flags.items c.self.inside.device_names c.self.inside.meter_names
    (record { incident = c.self.inside.incident; standing = c.self.inside.standing }) c.self.inside.customers now
    (c.requires.states ∙ ap (λ g. length g.devices) (sym c.self.view_is))
    (subst (λ g. IsRadial (network_in g (λ d. get_or c.args.closed.now d false))) (sym c.self.view_is) c.requires.radial)
    c.self.invariant
