use Rattle.std.proofs.Common.{◌≡◌, true, length, sym, ◌∙◌, arith}
use Rattle.grid_model.specs.Network.{network_of}
use Rattle.bound_checker.specs.Claimed.{table_in}
use Rattle.bound_checker.specs.Conditions.{is_bad_source}
use Rattle.bound_checker.proofs.FirstBelow.{first_at, none_below}
use Rattle.bound_checker.proofs.forest.first_bad_source.Goals as goal

pub returns-then-is_bad_source : goal.returns-then-is_bad_source
returns-then-is_bad_source c =
    let ends = c.nodes-n-end.ensures.count in
    let passes : is_bad_source (network_of c.args.grid.now) (table_in c.args.claims.now) c.loop-n.n ≡ true = sym c.is_bad_source.ensures ∙ c.if-is_bad_source.true in
    sym (first_at (length c.args.grid.now.nodes) c.loop-n.n (is_bad_source (network_of c.args.grid.now) (table_in c.args.claims.now)) c.loop-n.invariant passes (omega arith))

pub returns : goal.returns
returns c =
    let ends = c.nodes-n-end.ensures.count in
    sym (none_below (length c.args.grid.now.nodes) (is_bad_source (network_of c.args.grid.now) (table_in c.args.claims.now)) (λ k l. c.loop-n.invariant k (omega arith)))
