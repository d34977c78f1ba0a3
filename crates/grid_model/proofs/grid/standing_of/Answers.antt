use Rattle.std.proofs.Common.{◌≡◌, map, ap, ◌∙◌, arith}
use Rattle.std.proofs.lemmas.Result.{IfOk-weaker}
use Rattle.grid_model.specs.Groups.{places_with}
use Rattle.grid_model.proofs.AtNodes.{keys_below, places_with-nodes}
use Rattle.grid_model.proofs.grid.standing_of.Goals as goal

pub returns-clause-members : goal.returns-clause-members
returns-clause-members c =
    let keys : c.deref.result.now ≡ map (λ m. m.node.0) c.args.meters.now = c.deref.ensures.value ∙ c.in_ok-places.ensures in
    let number = c.in_ok-new.ensures.number in
    IfOk-weaker c.into_meters.result _ _
    (λ g members. λ n l. members n (omega arith) ∙ c.in_ok-new.ensures.members n l
    ∙ ap (λ keys. places_with keys n) keys ∙ places_with-nodes c.args.meters.now n)
    c.into_meters.ensures.members

pub new-requires-clause-below : goal.new-requires-clause-below
new-requires-clause-below c =
    keys_below (λ m. m.node.0) c.args.meters.now c.deref.result.now c.args.nodes (c.deref.ensures.value ∙ c.in_ok-places.ensures) c.requires.node
