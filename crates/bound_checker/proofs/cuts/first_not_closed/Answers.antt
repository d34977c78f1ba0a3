use Rattle.std.proofs.Common.{◌≡◌, true, length, sym, arith, slice_index_or, false}
use Rattle.std.proofs.lemmas.Grind.{common_steps}
use Rattle.grid_model.specs.Network.{network_in}
use Rattle.bound_checker.specs.Claimed.{cut_in}
use Rattle.bound_checker.specs.Conditions.{is_not_closed}
use Rattle.bound_checker.proofs.FirstBelow.{first_at, none_below}
use Rattle.bound_checker.proofs.cuts.first_not_closed.Goals as goal

pub returns-then-not-closed-d : goal.returns-then-not-closed-d
returns-then-not-closed-d c =
    let ends = c.devices-d-end.ensures.count in
    let passes : is_not_closed (network_in c.args.grid.now (λ d. slice_index_or c.args.closed.now d false)) (cut_in c.args.cuts.now) c.loop-d.d ≡ true = grind (arith, common_steps) in
    sym (first_at (length c.args.grid.now.devices) c.loop-d.d (is_not_closed (network_in c.args.grid.now (λ d. slice_index_or c.args.closed.now d false)) (cut_in c.args.cuts.now)) c.loop-d.invariant passes (omega arith))

pub returns : goal.returns
returns c =
    let ends = c.devices-d-end.ensures.count in
    sym (none_below (length c.args.grid.now.devices) (is_not_closed (network_in c.args.grid.now (λ d. slice_index_or c.args.closed.now d false)) (cut_in c.args.cuts.now)) (λ k l. c.loop-d.invariant k (omega arith)))
