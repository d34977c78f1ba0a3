use Rattle.std.proofs.Common.{◌≡◌, true, [], length, sym, arith}
use Rattle.std.proofs.lemmas.Grind.{common_steps}
use Rattle.grid_model.specs.Problem.{problem_of}
use Rattle.bound_checker.specs.Claimed.{cut_in}
use Rattle.bound_checker.specs.Conditions.{is_missing}
use Rattle.bound_checker.proofs.FirstBelow.{first_at, none_below}
use Rattle.bound_checker.proofs.cuts.first_missing.Goals as goal

pub returns-then-not-cuts-d : goal.returns-then-not-cuts-d
returns-then-not-cuts-d c =
    let ends = c.devices-d-end.ensures.count in
    let passes : is_missing (problem_of c.args.grid.now [] c.args.marks.now [] []) (cut_in c.args.cuts.now) c.loop-d.d ≡ true = grind (arith, common_steps) in
    sym (first_at (length c.args.grid.now.devices) c.loop-d.d (is_missing (problem_of c.args.grid.now [] c.args.marks.now [] []) (cut_in c.args.cuts.now)) c.loop-d.invariant passes (omega arith))

pub returns : goal.returns
returns c =
    let ends = c.devices-d-end.ensures.count in
    sym (none_below (length c.args.grid.now.devices) (is_missing (problem_of c.args.grid.now [] c.args.marks.now [] []) (cut_in c.args.cuts.now)) (λ k l. c.loop-d.invariant k (omega arith)))
