use Rattle.std.proofs.Common.{subst, sym, ap, ◌∙◌, ◌+◌, false, get_or}
use Rattle.std.proofs.lemmas.Bool.{and_left, and_right}
use Rattle.restore_plan.specs.Barred.{flagged}
use Rattle.restore_plan.proofs.Opening.{IsIsolating, isolating_more, isolating_passed}
use Rattle.restore_plan.proofs.planning.isolate.Goals as goal
use Rattle.restore_plan.proofs.planning.isolate.Goals.{then-barred-d+then-is_closed+in_ok-make_move, else-barred-d, else-barred-d-via-then-barred-d+else-is_closed, else-barred-d-via-else-barred-d}

pub loop-d-preserved : goal.loop-d-preserved
loop-d-preserved c =
    let g = c.args.grid.now in
    let b = flagged c.args.barred.now in
    let start = c.args.forest.now.closed in
    let d = c.loop-d.d in
    let f = c.loop-d.forest in
    let xs = c.loop-d.moves.items in
    elim c.if-barred-d.branch [
      | then-barred-d+then-is_closed+in_ok-make_move w ↦
          subst (λ x. IsIsolating b start g (d + 1) x c.if-barred-d.moves.items) (sym w.forest-is)
          (isolating_more b start g d f w.make_move.new.forest xs c.if-barred-d.moves.items c.loop-d.invariant w.if-barred-d.true (sym w.if-is_closed.ensures)
          w.in_ok-make_move.ensures.of_grid w.in_ok-make_move.ensures.states (ap (λ v. v.items) w.moves-is ∙ w.in_ok-make_move.ensures.moves))
      | else-barred-d w ↦
          subst (λ x. IsIsolating b start g (d + 1) x c.if-barred-d.moves.items) (sym w.forest-is)
          (subst (λ v. IsIsolating b start g (d + 1) f v.items) (sym w.moves-is)
          (isolating_passed b start g d f xs c.loop-d.invariant
          (elim w.else-barred-d.branch [
            | else-barred-d-via-then-barred-d+else-is_closed v ↦ and_right (b d) (get_or f.closed d false) (sym v.if-is_closed.ensures)
            | else-barred-d-via-else-barred-d v ↦ and_left (b d) (get_or f.closed d false) v.if-barred-d.false
          ])))
    ]
