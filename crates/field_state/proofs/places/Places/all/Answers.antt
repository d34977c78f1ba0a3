use Rattle.std.proofs.Common.{◌≡◌, ◌<◌, All, length, take, sym, subst, arith}
use Rattle.std.proofs.lemmas.List.{get_or-take, length-take-le}
use Rattle.std.proofs.lemmas.List.Elements.{All-from_get_or}
use Rattle.grid_model.specs.declared.parts.NodeId.{NodeId}
use Rattle.radial_forest.specs.Traversed.{node_at}
use Rattle.field_state.specs.Placed.{Placed}
use Rattle.field_state.proofs.Listing.{flagged_within}
use Rattle.field_state.proofs.places.Places.all.Goals as goal

pub returns-clause-within : goal.returns-clause-within
returns-clause-within c =
    let f = c.self.inside in
    let i = c.self.invariant in
    let few = i.count in
    let each = i.long in
    let long : length (take f.count f.nodes.items) ≡ f.count = length-take-le f.count f.nodes.items (omega arith) in
    subst (λ (p : Placed). All (λ (n : NodeId). n.0 < p.room) p.nodes) c.self.view_is
    (All-from_get_or (λ (n : NodeId). n.0 < length f.listed.items) (take f.count f.nodes.items) (record { 0 = 0 })
    (λ k l. let lk : k < f.count = omega arith in
    subst (λ (n : NodeId). n.0 < length f.listed.items) (sym (get_or-take f.count f.nodes.items k (record { 0 = 0 }) lk))
    (flagged_within f.listed.items (node_at f.nodes.items k) (i.each k lk))))
