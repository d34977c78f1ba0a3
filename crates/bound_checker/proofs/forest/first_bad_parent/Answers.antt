use Rattle.std.proofs.Common.{◌≡◌, true, length, sym, ◌∙◌, arith, slice_index_or, false}
use Rattle.grid_model.specs.Network.{network_in}
use Rattle.bound_checker.specs.Claimed.{table_in}
use Rattle.bound_checker.specs.Conditions.{has_bad_parent}
use Rattle.bound_checker.proofs.FirstBelow.{first_at, none_below}
use Rattle.bound_checker.proofs.forest.first_bad_parent.Goals as goal

pub returns-then-has_bad_parent : goal.returns-then-has_bad_parent
returns-then-has_bad_parent c =
    let ends = c.nodes-n-end.ensures.count in
    let passes : has_bad_parent (network_in c.args.grid.now (λ d. slice_index_or c.args.closed.now d false)) (table_in c.args.claims.now) c.loop-n.n ≡ true = sym c.has_bad_parent.ensures ∙ c.if-has_bad_parent.true in
    sym (first_at (length c.args.grid.now.nodes) c.loop-n.n (has_bad_parent (network_in c.args.grid.now (λ d. slice_index_or c.args.closed.now d false)) (table_in c.args.claims.now)) c.loop-n.invariant passes (omega arith))

pub returns : goal.returns
returns c =
    let ends = c.nodes-n-end.ensures.count in
    sym (none_below (length c.args.grid.now.nodes) (has_bad_parent (network_in c.args.grid.now (λ d. slice_index_or c.args.closed.now d false)) (table_in c.args.claims.now)) (λ k l. c.loop-n.invariant k (omega arith)))
