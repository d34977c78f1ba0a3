use Rattle.std.proofs.Common.{◌≡◌, length, Bool, false, refl, ap, sym, ◌∙◌, subst, slice_index_or, add-one, suc, ℕ, arith}
use Rattle.std.specs.Prelude.{◌==◌, ◌&&◌}
use Rattle.grid_model.specs.Network.{network_in}
use Rattle.grid_model.specs.Places.{node_of}
use Rattle.radial_forest.specs.Traversed.{node_at}
use Rattle.history_rules.specs.State.{is_fed}
use Rattle.field_state.specs.Acted.{is_listed}
use Rattle.field_state.specs.Repairs.{AreReaches, restores_cost}
use Rattle.field_state.proofs.Costing.{restores_more, restores_same, restores_none}
use Rattle.field_state.proofs.Doing.{kept_still}
use Rattle.field_state.proofs.Restoring.{one_more, no_more, more_test, no_more_test}
use Rattle.field_state.proofs.state.State.restore_nodes.Goals as goal
use Rattle.field_state.proofs.state.State.restore_nodes.Goals.{then-is_fed, else-is_fed}

pub loop-n-init : goal.loop-n-init
loop-n-init g c = record {
  kept = kept_still c.args.grid.now c.args.now.0 c.args.self.now c.requires.ready.costed c.requires.ready.tallied;
  steps = λ reach at. let none = restores_none c.args.grid.now c.args.now.0 reach c.args.self.now in omega arith;
}

pub loop-n-preserved : goal.loop-n-preserved
loop-n-preserved g c =
    let grid = c.args.grid.now in
    let t = c.args.now.0 in
    let nodes = c.args.nodes.now in
    let i = c.loop-n.n-index in
    let n = node_at nodes i in
    let old = c.args.self.now in
    let mid = c.loop-n.self in
    let so_far = c.loop-n.invariant in
    let fed : ℕ → Bool = λ k. is_fed (network_in grid (λ e. slice_index_or old.forest.closed e false)) k in
    let told = ap (λ f. is_fed (network_in grid (λ e. slice_index_or f.closed e false)) n) (c.forest.ensures ∙ ap (λ f. f.forest) c.self.view_is ∙ so_far.kept.forest) in
    record {
      kept =
          elim c.if-is_fed.branch [
            | then-is_fed w ↦
                rw (add-one, w.self-is)
                (one_more grid t nodes i n fed refl old mid w.restore_node.new.self (sym told ∙ sym c.is_fed.ensures ∙ w.if-is_fed.true) so_far.kept w.restore_node.ensures.kept)
            | else-is_fed w ↦
                rw (add-one, w.self-is)
                (no_more grid t nodes i n fed refl old mid (sym told ∙ sym c.is_fed.ensures ∙ w.if-is_fed.false) so_far.kept)
          ];
      steps = λ reach at.
          elim c.if-is_fed.branch [
            | then-is_fed w ↦
                let lit = sym told ∙ sym c.is_fed.ensures ∙ w.if-is_fed.true in
                let before = so_far.steps reach at in
                let one = w.restore_node.ensures.steps reach (subst (λ f. AreReaches grid f.closed reach) (sym so_far.kept.forest) at) in
                let more = restores_more grid t reach (λ k. is_listed nodes i (node_of grid k) && fed (node_of grid k)) (λ k. node_of grid k == n)
                (λ k. is_listed nodes (suc i) (node_of grid k) && fed (node_of grid k)) old mid so_far.kept (more_test grid t nodes i n fed refl old lit) in
                rw (add-one, w.self-is, w.steps-is) (omega arith)
            | else-is_fed w ↦
                let unlit = sym told ∙ sym c.is_fed.ensures ∙ w.if-is_fed.false in
                let before = so_far.steps reach at in
                let same = restores_same grid t reach (λ k. is_listed nodes i (node_of grid k) && fed (node_of grid k))
                (λ k. is_listed nodes (suc i) (node_of grid k) && fed (node_of grid k)) old (λ k l. sym (no_more_test grid t nodes i n fed refl old unlit k)) in
                rw (add-one, w.self-is, w.steps-is) (omega arith)
          ];
    }

pub returns-clause-steps : goal.returns-clause-steps
returns-clause-steps g c reach at =
    let grid = c.args.grid.now in
    let nodes = c.args.nodes.now in
    let old = c.args.self.now in
    let whole : c.loop-n.n-index ≡ length nodes = omega arith in
    let last = ap (λ i. restores_cost grid c.args.now.0 reach old.evidence
    (λ k. is_listed nodes i (node_of grid k) && is_fed (network_in grid (λ e. slice_index_or old.forest.closed e false)) (node_of grid k))) whole in
    let taken = c.loop-n.invariant.steps reach at in
    omega arith
