use Rattle.std.proofs.Common.{sym, ◌∙◌, slice_index_or, false}
use Rattle.grid_model.specs.Network.{network_in}
use Rattle.grid_model.specs.Problem.{problem_of}
use Rattle.bound_checker.specs.Claimed.{table_in, cut_in}
use Rattle.bound_checker.proofs.Passed.{forest_holds, all_hang}
use Rattle.bound_checker.proofs.Joined.{by_cut, by_forest, by_rows, costs_answer}
use Rattle.bound_checker.proofs.verdict.Goals as goal

pub returns-then-is_invalid : goal.returns-then-is_invalid
returns-then-is_invalid c =
    let p = problem_of c.args.grid.now c.args.closed.now c.args.marks.now c.args.dark.now c.args.live.now in
    by_cut p (table_in c.args.claims.now) (cut_in c.args.cuts.now) c.args.cost c.verdict-by_cut.result c.verdict-by_cut.ensures (c.is_invalid.ensures.invalid c.if-is_invalid.true)

pub returns-then-is_invalid-2 : goal.returns-then-is_invalid-2
returns-then-is_invalid-2 c =
    let p = problem_of c.args.grid.now c.args.closed.now c.args.marks.now c.args.dark.now c.args.live.now in
    by_forest p (table_in c.args.claims.now) (cut_in c.args.cuts.now) c.args.cost c.in_ok-by_forest.by_forest
    (sym c.verdict-by_cut.ensures ∙ c.is_invalid.ensures.valid c.if-is_invalid.false)
    c.in_ok-by_forest.ensures (c.is_invalid-2.ensures.invalid c.if-is_invalid-2.true)

pub verdict-requires-2-clause-parents : goal.verdict-requires-2-clause-parents
verdict-requires-2-clause-parents c =
    let g = network_in c.args.grid.now (λ d. slice_index_or c.args.closed.now d false) in
    let t = table_in c.args.claims.now in
    all_hang c.args.grid.now c.args.closed.now t (forest_holds g t (sym c.in_ok-by_forest.ensures ∙ c.is_invalid-2.ensures.valid c.if-is_invalid-2.false)).1

pub returns-then-is_invalid-3 : goal.returns-then-is_invalid-3
returns-then-is_invalid-3 c =
    let p = problem_of c.args.grid.now c.args.closed.now c.args.marks.now c.args.dark.now c.args.live.now in
    by_rows p (table_in c.args.claims.now) (cut_in c.args.cuts.now) c.args.cost c.in_ok-by_rows.by_rows
    (sym c.verdict-by_cut.ensures ∙ c.is_invalid.ensures.valid c.if-is_invalid.false)
    (sym c.in_ok-by_forest.ensures ∙ c.is_invalid-2.ensures.valid c.if-is_invalid-2.false)
    c.in_ok-by_rows.ensures (c.is_invalid-3.ensures.invalid c.if-is_invalid-3.true)

pub verdict-requires-3-clause-parents : goal.verdict-requires-3-clause-parents
verdict-requires-3-clause-parents c =
    let g = network_in c.args.grid.now (λ d. slice_index_or c.args.closed.now d false) in
    let t = table_in c.args.claims.now in
    all_hang c.args.grid.now c.args.closed.now t (forest_holds g t (sym c.in_ok-by_forest.ensures ∙ c.is_invalid-2.ensures.valid c.if-is_invalid-2.false)).1

pub returns : goal.returns
returns c =
    let p = problem_of c.args.grid.now c.args.closed.now c.args.marks.now c.args.dark.now c.args.live.now in
    costs_answer p (table_in c.args.claims.now) (cut_in c.args.cuts.now) c.args.cost c.verdict-3.result
    (sym c.verdict-by_cut.ensures ∙ c.is_invalid.ensures.valid c.if-is_invalid.false)
    (sym c.in_ok-by_forest.ensures ∙ c.is_invalid-2.ensures.valid c.if-is_invalid-2.false)
    (sym c.in_ok-by_rows.ensures ∙ c.is_invalid-3.ensures.valid c.if-is_invalid-3.false)
    c.verdict-3.ensures
