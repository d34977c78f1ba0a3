use Rattle.std.proofs.Common.{◌≡◌, true, false, Some, sym, ap, ◌∙◌, arith, get_or}
use Rattle.grid_model.specs.Places.{device_at}
use Rattle.grid_model.specs.Problem.{mark_at}
use Rattle.radial_forest.specs.Traversed.{parent_in}
use Rattle.radial_forest.specs.Spreading.{switched}
use Rattle.subtree_costs.specs.Shares.{row_at, share_of}
use Rattle.subtree_costs.specs.Trees.{depth_in}
use Rattle.subtree_costs.proofs.Changed.{mark_is_due}
use Rattle.subtree_costs.proofs.Kept.{rows_small}
use Rattle.subtree_costs.proofs.Reaching.{above_reached}
use Rattle.subtree_costs.proofs.costs.CostForest.set_mark.Goals as goal

pub note-change-requires-clause-fits : goal.note-change-requires-clause-fits
note-change-requires-clause-fits g c =
    let n = c.lower_end-n.result.0 in
    let row = ap (λ r. r.dark) (c.read-row.ensures.row ∙ ap (λ s. row_at s.rows n) c.self.view_is) in
    let weight = c.from-weight.ensures ∙ ap (λ v. v.weight) c.device.ensures in
    let small = (rows_small c.args.grid.now c.args.self.now c.requires.costed c.rows_are_bounded.ensures n c.lower_end-n.ensures.node).dark in
    let light = (c.requires.costed.posed.sound.devices c.args.d.0 c.requires.device).most_weight in
    omega arith

pub repair-requires-clause-due : goal.repair-requires-clause-due
repair-requires-clause-due g c =
    let k = c.args.self.now in
    let d = c.args.d.0 in
    let n = c.lower_end-n.result.0 in
    let hung : parent_in k.forest.parents n ≡ Some c.args.d = ap (λ s. parent_in s.forest.parents n) (sym c.self.view_is) ∙ c.lower_end-n.ensures.hangs in
    let closed : get_or k.forest.closed d false ≡ true = ap (λ s. get_or s.forest.closed d false) (sym c.self.view_is) ∙ (sym c.is_closed.ensures ∙ c.if-is_closed.true) in
    let row = c.read-row.ensures.row ∙ ap (λ s. row_at s.rows n) c.self.view_is in
    let weight = c.from-weight.ensures ∙ ap (λ v. v.weight) c.device.ensures in
    mark_is_due c.args.grid.now k c.requires.costed c.rows_are_bounded.ensures d n c.args.mark c.requires.device c.lower_end-n.ensures.node hung closed _ _ _
    c.note-change.ensures.marks c.other_end.ensures
    (c.note-change.ensures.before ∙ (ap (λ w. share_of (mark_at k.marks d) w c.read-row.result) weight ∙ ap (share_of (mark_at k.marks d) (device_at c.args.grid.now d).weight) row))
    (c.note-change.ensures.after ∙ (ap (λ w. share_of c.args.mark w c.read-row.result) weight ∙ ap (share_of c.args.mark (device_at c.args.grid.now d).weight) row))

pub returns-then-is_closed-clause-steps : goal.returns-then-is_closed-clause-steps
returns-then-is_closed-clause-steps g c n r l hung reach =
    let k = c.args.self.now in
    let d = c.args.d.0 in
    let m = c.lower_end-n.result.0 in
    let hung_m : parent_in k.forest.parents m ≡ Some c.args.d = ap (λ s. parent_in s.forest.parents m) (sym c.self.view_is) ∙ c.lower_end-n.ensures.hangs in
    let most = above_reached c.args.grid.now k c.requires.costed c.chains_are_within_reach.ensures n l m d c.lower_end-n.ensures.node hung hung_m r reach in
    let here = ap (depth_in (switched c.args.grid.now k.forest.closed) k.forest) c.other_end.ensures in
    let same = ap (λ s. depth_in (switched c.args.grid.now s.forest.closed) s.forest c.other_end.result.0) c.note-change.ensures.marks in
    let read = c.read-row.ensures.steps in
    let taken = c.repair.ensures.steps in
    omega arith
