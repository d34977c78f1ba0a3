use Rattle.std.proofs.Common.{◌++◌, ◌∷◌, [], sym, ap, ◌∙◌}
use Rattle.outage_engine.specs.Bounding.{is_fed, kept_row}
use Rattle.outage_engine.proofs.BoundingLists.{listed_push, passed_over}
use Rattle.outage_engine.proofs.BoundingRows.{some_row, no_row}
use Rattle.outage_engine.proofs.bounds.rows_of.Goals as goal
use Rattle.outage_engine.proofs.bounds.rows_of.Goals.{in-Some+in_ok-push, in_default}

pub loop-n-preserved : goal.loop-n-preserved
loop-n-preserved g c =
    let fed = is_fed c.args.grid.now c.args.costs.now in
    let row = kept_row c.args.costs.now c.args.depths.now in
    let n = c.loop-n.n in
    elim c.match-row_of.branch [
      | in-Some+in_ok-push w ↦
          let is = some_row (fed n) (row n) w.in-Some.row w.in-Some.ensures in
          ap (λ v. v.items) w.rows-is
          ∙ w.in_ok-push.ensures.items
          ∙ ap (λ r. c.loop-n.rows.items ++ r ∷ []) is.1
          ∙ ap (λ rows. rows ++ row n ∷ []) c.loop-n.invariant
          ∙ listed_push (row) (fed) n is.0
      | in_default w ↦
          ap (λ v. v.items) w.rows-is
          ∙ c.loop-n.invariant
          ∙ passed_over (row) (fed) n (no_row (fed n) (row n) (sym w.in_default.is ∙ c.row_of.ensures))
    ]
