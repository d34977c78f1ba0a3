use Rattle.std.proofs.Common.{◌≡◌, map, ap, ◌∙◌, arith}
use Rattle.std.proofs.lemmas.Result.{IfOk-weaker}
use Rattle.grid_model.specs.Groups.{places_with_either}
use Rattle.grid_model.proofs.AtNodes.{keys_below, ends_apart, places_either-ends}
use Rattle.grid_model.proofs.grid.incident_of.Goals as goal

pub returns-clause-members : goal.returns-clause-members
returns-clause-members c =
    let from : c.deref.result.now ≡ map (λ d. d.from.0) c.args.devices.now = c.deref.ensures.value ∙ c.in_ok-from.ensures in
    let to : c.deref-2.result.now ≡ map (λ d. d.to.0) c.args.devices.now = c.deref-2.ensures.value ∙ c.in_ok-to.ensures in
    let number = c.in_ok-by_either.ensures.number in
    IfOk-weaker c.into_devices.result _ _
    (λ g members. λ n l. members n (omega arith) ∙ c.in_ok-by_either.ensures.members n l
    ∙ ap (λ keys. places_with_either keys c.deref-2.result.now n) from
    ∙ ap (λ keys. places_with_either (map (λ d. d.from.0) c.args.devices.now) keys n) to
    ∙ places_either-ends c.args.devices.now n)
    c.into_devices.ensures.members

pub by_either-requires-clause-from_below : goal.by_either-requires-clause-from_below
by_either-requires-clause-from_below c =
    keys_below (λ d. d.from.0) c.args.devices.now c.deref.result.now c.args.nodes (c.deref.ensures.value ∙ c.in_ok-from.ensures) c.requires.from

pub by_either-requires-clause-to_below : goal.by_either-requires-clause-to_below
by_either-requires-clause-to_below c =
    keys_below (λ d. d.to.0) c.args.devices.now c.deref-2.result.now c.args.nodes (c.deref-2.ensures.value ∙ c.in_ok-to.ensures) c.requires.to

pub by_either-requires-clause-apart : goal.by_either-requires-clause-apart
by_either-requires-clause-apart c =
    ends_apart c.args.devices.now c.deref.result.now c.deref-2.result.now (c.deref.ensures.value ∙ c.in_ok-from.ensures) (c.deref-2.ensures.value ∙ c.in_ok-to.ensures) c.requires.apart
