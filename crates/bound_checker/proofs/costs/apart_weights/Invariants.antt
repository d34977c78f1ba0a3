use Rattle.std.proofs.Common.{◌≡◌, ◌≤◌, ◌*◌, ◌^◌, [], cond}
use Rattle.std.specs.Prelude.{◌&&◌, not}
use Rattle.outage_rules.specs.Sum.{total}
use Rattle.grid_model.specs.Problem.{problem_of}
use Rattle.bound_checker.specs.Claimed.{table_in}
use Rattle.bound_checker.proofs.costs.apart_weights.Given as goal

abbrev pub invariant-loop-d : goal.invariant-loop-d
invariant-loop-d l = record {
  value : l.sum ≡ total l.d (λ d. let p = problem_of l.grid [] l.marks [] [] in let t = table_in l.claims in cond (p.marked_open d && (not (t.is_listed (p.from d)) && not (t.is_listed (p.to d)))) (p.weight d) 0);
  small : l.sum ≤ l.d * 2 ^ 64;
}
