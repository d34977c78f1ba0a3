use Rattle.std.proofs.Common.{sym, ap, ◌∙◌, map, ℕ, Bool}
use Rattle.std.specs.Prelude.{not}
use Rattle.grid_model.specs.Places.{node_of}
use Rattle.restore_plan.specs.States.{is_fed}
use Rattle.restore_plan.proofs.Same.{listed_more, listed_passed}
use Rattle.restore_plan.proofs.planning.list_unfed.Goals as goal
use Rattle.restore_plan.proofs.planning.list_unfed.Goals.{then-not-is_fed+in_ok-push, else-not-is_fed}

pub loop-m-preserved : goal.loop-m-preserved
loop-m-preserved c =
    let g = c.args.grid.now in
    let closed = c.args.forest.now.closed in
    let test : ℕ → Bool = λ m. not (is_fed g closed (node_of g m)) in
    let here = ap (λ m. not (is_fed g closed m.node.0)) (sym c.meter.ensures) in
    elim c.if-not-is_fed.branch [
      | then-not-is_fed+in_ok-push w ↦
          ap (λ v. map (λ m. m.0) v.items) w.unfed-is ∙ ap (λ v. map (λ m. m.0) v) w.in_ok-push.ensures.items
          ∙ listed_more test c.loop-m.m c.loop-m.unfed.items c.loop-m.invariant (here ∙ ap not (sym w.if-not-is_fed.ensures))
      | else-not-is_fed w ↦
          ap (λ v. map (λ m. m.0) v.items) w.unfed-is
          ∙ (c.loop-m.invariant ∙ listed_passed test c.loop-m.m (here ∙ ap not (sym w.if-not-is_fed.ensures)))
    ]
