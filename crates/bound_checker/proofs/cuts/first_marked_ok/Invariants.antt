use Rattle.std.proofs.Common.{◌≡◌, ℕ, ◌<◌, false, []}
use Rattle.grid_model.specs.Problem.{problem_of}
use Rattle.bound_checker.specs.Claimed.{cut_in}
use Rattle.bound_checker.specs.Conditions.{is_cut_though_ok}
use Rattle.bound_checker.proofs.cuts.first_marked_ok.Given as goal

abbrev pub invariant-loop-d : goal.invariant-loop-d
invariant-loop-d l = (k : ℕ) → k < l.d → is_cut_though_ok (problem_of l.grid [] l.marks [] []) (cut_in l.cuts) k ≡ false
