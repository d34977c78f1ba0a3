use Rattle.std.proofs.Common.{◌≡◌, ℕ, ◌<◌, false, []}
use Rattle.grid_model.specs.Problem.{problem_of}
use Rattle.bound_checker.specs.Claimed.{table_in}
use Rattle.bound_checker.specs.Conditions.{is_dark_above}
use Rattle.bound_checker.proofs.rows.first_dark_above.Given as goal

abbrev pub invariant-loop-n : goal.invariant-loop-n
invariant-loop-n l = (k : ℕ) → k < l.n → is_dark_above (problem_of l.grid [] l.marks [] l.live) (table_in l.claims) k ≡ false
