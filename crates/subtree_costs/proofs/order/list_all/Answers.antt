use Rattle.std.proofs.Common.{◌∙◌}
use Rattle.radial_forest.specs.Spreading.{switched}
use Rattle.subtree_costs.proofs.Listed.{listing_all}
use Rattle.subtree_costs.proofs.Ordered.{order_whole}
use Rattle.subtree_costs.proofs.order.list_all.Goals as goal

pub returns-clause-order : goal.returns-clause-order
returns-clause-order c =
    let f = c.args.forest.now in
    let r = c.requires.of_grid in
    order_whole (switched c.args.grid.now f.closed) f.parents c.loop-place.list c.loop-place.count
    (listing_all (switched c.args.grid.now f.closed) f c.loop-place.list c.loop-place.count c.loop-place.place r.sound r.rooted c.loop-place.invariant.listing c.loop-place-test.false)
    (c.loop-place.auto.list ∙ (c.list_tops-count.ensures.length ∙ c.requires.room))
