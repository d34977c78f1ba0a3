use Rattle.std.proofs.Common.{◌≡◌, sym, ap, ◌∙◌, subst, arith, length}
use Rattle.std.proofs.lemmas.List.{length-take-le}
use Rattle.radial_forest.specs.Traversed.{node_at}
use Rattle.radial_forest.specs.Spreading.{switched, IsDone}
use Rattle.radial_forest.proofs.Around.{node_read, done_more}
use Rattle.radial_forest.proofs.Hanging.{grows_on}
use Rattle.radial_forest.proofs.traversal.Traversal.spread.Goals as goal

pub loop-place-preserved : goal.loop-place-preserved
loop-place-preserved c =
    let net = switched c.args.grid.now c.args.closed.now in
    let t = c.loop-place.self in
    let reached = c.self.inside.reached in
    let items = c.self.inside.order.items in
    let order = ap (λ x. x.order) c.self.view_is in
    let long : reached ≡ length t.order = sym (length-take-le reached items c.self.invariant.reached) ∙ ap length order in
    let here : node_at t.order c.loop-place.place ≡ c.index-n.result.now.0 =
    sym (ap (λ xs. node_at xs c.loop-place.place) order) ∙ node_read items reached c.loop-place.place c.index-n.result.now c.loop-place-test.true c.self.invariant.reached c.index-n.ensures in
    let grows = c.go_around.ensures.grows in
    let longer = grows.long in
    record {
      partial = c.go_around.ensures.partial;
      grows = grows_on c.args.self.now t c.go_around.new.self c.loop-place.invariant.grows grows;
      within = omega arith;
      done = done_more net t c.go_around.new.self c.loop-place.place (omega arith) grows c.loop-place.invariant.done (subst (IsDone net c.go_around.new.self) (sym here) c.go_around.ensures.done);
    }
