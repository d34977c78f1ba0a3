use Rattle.std.proofs.Common.{◌≡◌, true, [], length, sym, arith}
use Rattle.std.proofs.lemmas.Grind.{common_steps}
use Rattle.grid_model.specs.Problem.{problem_of}
use Rattle.bound_checker.specs.Claimed.{table_in}
use Rattle.bound_checker.specs.Conditions.{is_live_above}
use Rattle.bound_checker.proofs.FirstBelow.{first_at, none_below}
use Rattle.bound_checker.proofs.rows.first_live_above.Goals as goal

pub returns-then-most-from : goal.returns-then-most-from
returns-then-most-from c =
    let ends = c.nodes-n-end.ensures.count in
    let passes : is_live_above (problem_of c.args.grid.now [] c.args.marks.now c.args.dark.now []) (table_in c.args.claims.now) c.loop-n.n ≡ true = grind (arith, common_steps) in
    sym (first_at (length c.args.grid.now.nodes) c.loop-n.n (is_live_above (problem_of c.args.grid.now [] c.args.marks.now c.args.dark.now []) (table_in c.args.claims.now)) c.loop-n.invariant passes (omega arith))

pub returns : goal.returns
returns c =
    let ends = c.nodes-n-end.ensures.count in
    sym (none_below (length c.args.grid.now.nodes) (is_live_above (problem_of c.args.grid.now [] c.args.marks.now c.args.dark.now []) (table_in c.args.claims.now)) (λ k l. c.loop-n.invariant k (omega arith)))
