use Rattle.std.proofs.Common.{◌+◌, suc, sym, ◌≡◌, refl, ap, subst, arith, length, add-one}
use Rattle.grid_model.specs.Places.{node_of}
use Rattle.std.specs.Prelude.{◌==◌}
use Rattle.evidence.specs.Kept.{kept_of}
use Rattle.field_state.specs.Acted.{IsKeptBy, restored_if}
use Rattle.field_state.proofs.Standing.{is_met, at_within, all_met, number_at}
use Rattle.field_state.proofs.Restoring.{kept_same, one_met}
use Rattle.field_state.proofs.Doing.{kept_still}
use Rattle.field_state.proofs.Costing.{restores_more, restores_same, restores_none}
use Rattle.field_state.specs.Repairs.{AreReaches, restores_cost}
use Rattle.field_state.proofs.state.State.restore_node.Goals as goal

pub restore_meter-requires-clause-meter : goal.restore_meter-requires-clause-meter
restore_meter-requires-clause-meter g c =
    at_within c.args.grid.now c.args.n.0 c.meters_at-m-items.result.now c.meters_at-m-items.ensures c.loop-m.m-index c.loop-m-test.true

pub returns-clause-kept : goal.returns-clause-kept
returns-clause-kept g c =
    let grid = c.args.grid.now in
    let t = c.args.now.0 in
    let ms = c.meters_at-m-items.result.now in
    let whole : c.loop-m.m-index ≡ length ms = omega arith in
    let last = subst (λ i. IsKeptBy grid t (λ k. restored_if (is_met ms i k) t (kept_of c.args.self.now.evidence k)) c.args.self.now c.loop-m.self) whole c.loop-m.invariant.kept in
    kept_same grid t (λ k. restored_if (is_met ms (length ms) k) t (kept_of c.args.self.now.evidence k)) (λ k. restored_if (node_of grid k == c.args.n.0) t (kept_of c.args.self.now.evidence k))
    c.args.self.now c.loop-m.self last
    (λ k lk. ap (λ b. restored_if b t (kept_of c.args.self.now.evidence k)) (all_met grid c.args.n.0 ms c.meters_at-m-items.ensures k lk))

pub loop-m-init : goal.loop-m-init
loop-m-init g c = record {
  kept = kept_still c.args.grid.now c.args.now.0 c.args.self.now c.requires.ready.costed c.requires.ready.tallied;
  steps = λ reach at. let none = restores_none c.args.grid.now c.args.now.0 reach c.args.self.now in omega arith;
}

pub loop-m-preserved : goal.loop-m-preserved
loop-m-preserved g c =
    let grid = c.args.grid.now in
    let t = c.args.now.0 in
    let ms = c.meters_at-m-items.result.now in
    let i = c.loop-m.m-index in
    let old = c.args.self.now in
    let mid = c.loop-m.self in
    let so_far = c.loop-m.invariant in
    record {
      kept = rw add-one (one_met grid t ms i (number_at ms i) old mid c.restore_meter.new.self refl so_far.kept c.restore_meter.ensures.kept);
      steps = λ reach at.
          let before = so_far.steps reach at in
          let one = c.restore_meter.ensures.steps reach (subst (λ f. AreReaches grid f.closed reach) (sym so_far.kept.forest) at) in
          let more : restores_cost grid t reach old.evidence (is_met ms i) + restores_cost grid t reach mid.evidence (λ k. k == number_at ms i) ≡ restores_cost grid t reach old.evidence (is_met ms (i + 1)) =
          rw add-one (restores_more grid t reach (is_met ms i) (λ k. k == number_at ms i) (is_met ms (suc i)) old mid so_far.kept (λ k. refl)) in
          omega arith;
    }

pub returns-clause-steps : goal.returns-clause-steps
returns-clause-steps g c reach at =
    let grid = c.args.grid.now in
    let t = c.args.now.0 in
    let ms = c.meters_at-m-items.result.now in
    let whole : c.loop-m.m-index ≡ length ms = omega arith in
    let all = restores_same grid t reach (is_met ms (length ms)) (λ k. node_of grid k == c.args.n.0) c.args.self.now (all_met grid c.args.n.0 ms c.meters_at-m-items.ensures) in
    let last = ap (λ i. restores_cost grid t reach c.args.self.now.evidence (is_met ms i)) whole in
    let taken = c.loop-m.invariant.steps reach at in
    omega arith
