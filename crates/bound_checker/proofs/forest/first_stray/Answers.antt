use Rattle.std.proofs.Common.{◌≡◌, true, length, sym, ◌∙◌, arith, slice_index_or, false}
use Rattle.grid_model.specs.Network.{network_in}
use Rattle.bound_checker.specs.Claimed.{table_in}
use Rattle.bound_checker.specs.Conditions.{is_stray}
use Rattle.bound_checker.proofs.FirstBelow.{first_at, none_below}
use Rattle.bound_checker.proofs.forest.first_stray.Goals as goal

pub returns-then-is_stray : goal.returns-then-is_stray
returns-then-is_stray c =
    let ends = c.devices-d-end.ensures.count in
    let passes : is_stray (network_in c.args.grid.now (λ d. slice_index_or c.args.closed.now d false)) (table_in c.args.claims.now) c.loop-d.d ≡ true = sym c.is_stray.ensures ∙ c.if-is_stray.true in
    sym (first_at (length c.args.grid.now.devices) c.loop-d.d (is_stray (network_in c.args.grid.now (λ d. slice_index_or c.args.closed.now d false)) (table_in c.args.claims.now)) c.loop-d.invariant passes (omega arith))

pub returns : goal.returns
returns c =
    let ends = c.devices-d-end.ensures.count in
    sym (none_below (length c.args.grid.now.devices) (is_stray (network_in c.args.grid.now (λ d. slice_index_or c.args.closed.now d false)) (table_in c.args.claims.now)) (λ k l. c.loop-d.invariant k (omega arith)))
