use Rattle.std.proofs.Common.{◌≡◌, sym, ap, ◌∙◌, subst, length}
use Rattle.std.proofs.lemmas.List.{with_items_is}
use Rattle.outage_rules.specs.Certificate.{HasExactRows}
use Rattle.radial_forest.specs.Spreading.{switched}
use Rattle.subtree_costs.specs.Listing.{IsOrder}
use Rattle.grid_model.specs.Problem.{problem_of}
use Rattle.subtree_costs.specs.Trees.{rooted_problem}
use Rattle.subtree_costs.specs.Costed.{IsWeighed, IsPosed, rows_table}
use Rattle.subtree_costs.proofs.Built.{posed_by_order}
use Rattle.subtree_costs.proofs.costs.CostForest.work_out.Goals as goal

pub work_out-self-inside-requires-clause-ready : goal.work_out-self-inside-requires-clause-ready
work_out-self-inside-requires-clause-ready g c =
    let grid = c.args.grid.now in
    let k = c.self.inside in
    let weighed = subst (λ s. IsWeighed grid s.forest s.marks s.dark s.live) (sym c.self.view_is) c.requires.weighed in
    subst (λ xs. IsPosed grid k.forest xs c.deref-2.result.now c.deref-3.result.now) (sym c.deref.ensures.value)
    (subst (λ xs. IsPosed grid k.forest k.marks.items xs c.deref-3.result.now) (sym c.deref-2.ensures.value)
    (subst (λ xs. IsPosed grid k.forest k.marks.items k.dark.items xs) (sym c.deref-3.ensures.value)
    (posed_by_order grid k.forest k.marks.items k.dark.items k.live.items c.list_all.new.list weighed c.list_all.ensures.order)))

pub returns-clause-costed : goal.returns-clause-costed
returns-clause-costed g c =
    let grid = c.args.grid.now in
    let k = c.self.inside in
    let w = c.work_out-self-inside in
    let weighed = subst (λ s. IsWeighed grid s.forest s.marks s.dark s.live) (sym c.self.view_is) c.requires.weighed in
    let is_order = with_items_is k.order c.list_all.new.list (c.list_all.auto.list ∙ c.deref_mut.ensures.len) in
    record {
      posed = posed_by_order grid k.forest k.marks.items k.dark.items k.live.items c.list_all.new.list weighed c.list_all.ensures.order;
      rows_each = w.ensures.each;
      exact =
          subst (λ xs. HasExactRows (rooted_problem (problem_of grid k.forest.closed xs k.dark.items k.live.items) k.forest) (rows_table grid k.forest w.new.rows)) c.deref.ensures.value
          (subst (λ xs. HasExactRows (rooted_problem (problem_of grid k.forest.closed c.deref.result.now xs k.live.items) k.forest) (rows_table grid k.forest w.new.rows)) c.deref-2.ensures.value
          (subst (λ xs. HasExactRows (rooted_problem (problem_of grid k.forest.closed c.deref.result.now c.deref-2.result.now xs) k.forest) (rows_table grid k.forest w.new.rows)) c.deref-3.ensures.value
          w.ensures.exact));
      total = w.ensures.total;
      order_each =
          let before : length k.order.items ≡ length grid.nodes = ap (λ s. length s.order) c.self.view_is ∙ c.requires.order in
          ap length is_order ∙ (c.list_all.ensures.length ∙ (ap length c.deref_mut.ensures.value ∙ before));
      order = subst (λ xs. IsOrder (switched grid k.forest.closed) k.forest.parents xs (length xs)) (sym is_order) c.list_all.ensures.order;
    }
