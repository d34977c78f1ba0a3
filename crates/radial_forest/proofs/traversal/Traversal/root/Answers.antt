use Rattle.std.proofs.Common.{◌≡◌, None, length, sym, ap, ◌∙◌, subst, arith}
use Rattle.std.proofs.lemmas.List.{length-take-le}
use Rattle.radial_forest.specs.Spreading.{switched, reaching, IsPartial, Grows, AreDone}
use Rattle.radial_forest.proofs.Reaching.{room}
use Rattle.radial_forest.proofs.Settled.{new_root, done_before, settled_more}
use Rattle.radial_forest.proofs.traversal.Traversal.root.Goals as goal

pub reach-requires-clause-room : goal.reach-requires-clause-room
reach-requires-clause-room c =
    let partial = c.requires.settled.partial in
    let each = partial.depths_each in
    let fresh = sym c.is_reached.ensures ∙ c.if-not-is_reached.true in
    let less = room (switched c.args.grid.now c.args.closed.now) c.args.self.now c.args.n None 0 partial c.requires.node fresh in
    omega arith

pub spread-requires-clause-partial : goal.spread-requires-clause-partial
spread-requires-clause-partial c =
    let net = switched c.args.grid.now c.args.closed.now in
    subst (IsPartial net) (sym c.reach.ensures) (new_root net c.args.self.now c.args.n c.requires.settled c.requires.node (sym c.is_reached.ensures ∙ c.if-not-is_reached.true))

pub spread-requires-clause-done : goal.spread-requires-clause-done
spread-requires-clause-done c =
    let net = switched c.args.grid.now c.args.closed.now in
    let t = c.args.self.now in
    let reached = c.self.inside.reached in
    let long : length t.order ≡ reached = sym (ap (λ x. length x.order) c.self.view_is) ∙ length-take-le reached c.self.inside.order.items c.self.invariant.reached in
    subst (λ x. AreDone net x reached) (sym c.reach.ensures)
    (subst (AreDone net (reaching t c.args.n None 0)) long (done_before net t c.args.n c.requires.settled c.requires.node (sym c.is_reached.ensures ∙ c.if-not-is_reached.true)))

pub returns-then-not-is_reached-clause-settled : goal.returns-then-not-is_reached-clause-settled
returns-then-not-is_reached-clause-settled c =
    let net = switched c.args.grid.now c.args.closed.now in
    settled_more net c.args.self.now c.args.n c.requires.settled c.requires.node (sym c.is_reached.ensures ∙ c.if-not-is_reached.true) c.spread.new.self c.spread.ensures.partial c.spread.ensures.whole (subst (λ x. Grows x c.spread.new.self) c.reach.ensures c.spread.ensures.grows)
