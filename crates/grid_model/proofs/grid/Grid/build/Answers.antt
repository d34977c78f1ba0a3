use Rattle.std.proofs.Common.{◌≡◌, ◌==◌, ◌<◌, ◌^◌, length, map, sum_by, ap, sym, subst, ◌∙◌, arith, rules}
use Rattle.std.specs.List.{list_any}
use Rattle.grid_model.specs.Places.{customers_served}
use Rattle.grid_model.specs.Sound.{IsSoundParts}
use Rattle.grid_model.specs.Indexed.{places_ending, places_standing, IsIndexed}
use Rattle.grid_model.proofs.SoundParts.{customers_within, devices_from, devices_to, devices_apart, meters_node}
use Rattle.grid_model.proofs.grid.Grid.build.Goals as goal

pub customers_of-requires : goal.customers_of-requires
customers_of-requires c =
    rw c.deref-6.ensures.value (subst (λ g. customers_served g < 2 ^ 64) (sym c.parts.view_is) (customers_within c.args.parts c.requires))

pub incident_of-requires-clause-from : goal.incident_of-requires-clause-from
incident_of-requires-clause-from c =
    let few : length c.parts.inside.nodes.items ≡ c.len-node_count.result = search rules in
    let sound : IsSoundParts _ = subst IsSoundParts (sym c.parts.view_is) c.requires in
    rw (c.deref-4.ensures.value, ← few) (devices_from _ sound)

pub incident_of-requires-clause-to : goal.incident_of-requires-clause-to
incident_of-requires-clause-to c =
    let few : length c.parts.inside.nodes.items ≡ c.len-node_count.result = search rules in
    let sound : IsSoundParts _ = subst IsSoundParts (sym c.parts.view_is) c.requires in
    rw (c.deref-4.ensures.value, ← few) (devices_to _ sound)

pub incident_of-requires-clause-apart : goal.incident_of-requires-clause-apart
incident_of-requires-clause-apart c =
    let sound : IsSoundParts _ = subst IsSoundParts (sym c.parts.view_is) c.requires in
    rw c.deref-4.ensures.value (devices_apart _ sound)

pub standing_of-requires-clause-node : goal.standing_of-requires-clause-node
standing_of-requires-clause-node c =
    let few : length c.parts.inside.nodes.items ≡ c.len-node_count.result = search rules in
    let sound : IsSoundParts _ = subst IsSoundParts (sym c.parts.view_is) c.requires in
    rw (c.deref-5.ensures.value, ← few) (meters_node _ sound)

pub invariant_of-result : goal.invariant_of-result
invariant_of-result c =
    let named : c.in_ok-of.field-0 ≡ c.parts.inside.nodes.items = c.in_ok-of.ensures ∙ c.deref-7.ensures.value in
    let nodes : length c.parts.inside.nodes.items ≡ c.len-node_count.result = search rules in
    let incident = c.in_ok-incident_of.ensures.number in
    let standing = c.in_ok-standing_of.ensures.number in
    subst (λ ns. IsIndexed (record { nodes = ns; sources = c.parts.inside.sources.items; devices = c.parts.inside.devices.items; meters = c.parts.inside.meters.items; settings = c.parts.inside.settings })
    c.in_ok-flags_of.field-0.items c.in_ok-device_names_of.field-0 c.in_ok-meter_names_of.field-0 (record { incident = c.in_ok-incident_of.field-0; standing = c.in_ok-standing_of.field-0 }) c.customers_of.result) (sym named)
    (record {
      sound = subst IsSoundParts (sym c.parts.view_is) c.requires;
      flag_count = search rules;
      source_flags = λ n. c.in_ok-flags_of.ensures.flags n ∙ ap (list_any (λ s. s.0 == n)) c.deref.ensures.value;
      devices = c.in_ok-device_names_of.ensures ∙ ap (map (λ d. d.name)) c.deref-2.ensures.value;
      meters = c.in_ok-meter_names_of.ensures ∙ ap (map (λ m. m.name)) c.deref-3.ensures.value;
      lists = record {
        incident_count = omega arith;
        incident = λ n l. c.in_ok-incident_of.ensures.members n (omega arith) ∙ ap (λ ds. places_ending ds n) c.deref-4.ensures.value;
        standing_count = omega arith;
        standing = λ n l. c.in_ok-standing_of.ensures.members n (omega arith) ∙ ap (λ ms. places_standing ms n) c.deref-5.ensures.value;
      };
      customers = c.customers_of.ensures ∙ ap (sum_by (λ m. m.customers)) c.deref-6.ensures.value;
    })
