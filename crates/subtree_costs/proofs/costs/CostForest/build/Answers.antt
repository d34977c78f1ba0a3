use Rattle.std.proofs.Common.{◌≡◌, sym, ap, ◌∙◌, subst, length, replicate}
use Rattle.std.proofs.lemmas.List.{length-replicate, with_items_is}
use Rattle.grid_model.specs.declared.history.Mark.TheVariants.{Nothing}
use Rattle.radial_forest.specs.Forested.{IsForestOf}
use Rattle.radial_forest.specs.ForestedInside.{forested_of}
use Rattle.radial_forest.specs.Spreading.{switched}
use Rattle.subtree_costs.specs.Listing.{IsOrder}
use Rattle.subtree_costs.specs.Shares.{no_row}
use Rattle.subtree_costs.specs.Costed.{IsCosted}
use Rattle.subtree_costs.proofs.Built.{costed_nothing}
use Rattle.subtree_costs.proofs.costs.CostForest.build.Goals as goal

pub returns-clause-costed : goal.returns-clause-costed
returns-clause-costed c =
    let g = c.args.grid.now in
    let f = forested_of c.forest.inside in
    let list = c.list_all.new.list in
    let own = subst (λ x. IsForestOf g x.closed x) (sym c.forest.view_is) c.in_ok-forest.ensures.own in
    let order = subst (λ x. IsOrder (switched g x.closed) x.parents list (length list)) (sym c.forest.view_is) c.list_all.ensures.order in
    let count = c.nodes-nodes.ensures.count in
    let each : length list ≡ length g.nodes = c.list_all.ensures.length ∙ (ap length (c.deref_mut.ensures.value ∙ c.in_ok-order.ensures.items_if_clones_equal (λ y e. e)) ∙ (length-replicate c.nodes-nodes.result _ ∙ count)) in
    let marks = c.in_ok-vec.ensures.items_if_clones_equal (λ y e. e) ∙ ap (λ n. replicate n Nothing) c.devices.ensures.count in
    let dark = c.in_ok-vec-2.ensures.items_if_clones_equal (λ y e. e) ∙ ap (λ n. replicate n 0) count in
    let live = c.in_ok-vec-3.ensures.items_if_clones_equal (λ y e. e) ∙ ap (λ n. replicate n 0) count in
    let rows = c.in_ok-new.ensures ∙ ap (λ n. replicate n no_row) count in
    let is_order = with_items_is c.in_ok-order.order list (c.list_all.auto.list ∙ c.deref_mut.ensures.len) in
    subst (λ xs. IsCosted g (record { forest = f; marks = c.in_ok-vec.field-0.items; dark = c.in_ok-vec-2.field-0.items; live = c.in_ok-vec-3.field-0.items; rows = c.in_ok-new.field-0; total = 0; order = xs })) (sym is_order)
    (subst (λ xs. IsCosted g (record { forest = f; marks = xs; dark = c.in_ok-vec-2.field-0.items; live = c.in_ok-vec-3.field-0.items; rows = c.in_ok-new.field-0; total = 0; order = list })) (sym marks)
    (subst (λ xs. IsCosted g (record { forest = f; marks = replicate (length g.devices) Nothing; dark = xs; live = c.in_ok-vec-3.field-0.items; rows = c.in_ok-new.field-0; total = 0; order = list })) (sym dark)
    (subst (λ xs. IsCosted g (record { forest = f; marks = replicate (length g.devices) Nothing; dark = replicate (length g.nodes) 0; live = xs; rows = c.in_ok-new.field-0; total = 0; order = list })) (sym live)
    (subst (λ xs. IsCosted g (record { forest = f; marks = replicate (length g.devices) Nothing; dark = replicate (length g.nodes) 0; live = replicate (length g.nodes) 0; rows = xs; total = 0; order = list })) (sym rows)
    (costed_nothing g f list c.nodes-nodes.ensures.sound own each order)))))
