use Rattle.std.proofs.Common.{◌≡◌, ◌≤◌, ◌*◌, ◌^◌, cond}
use Rattle.outage_rules.specs.Sum.{total}
use Rattle.grid_model.specs.Places.{is_source}
use Rattle.bound_checker.specs.Claimed.{table_in}
use Rattle.bound_checker.proofs.costs.source_costs.Given as goal

abbrev pub invariant-loop-n : goal.invariant-loop-n
invariant-loop-n l = record {
  value : l.sum ≡ total l.n (λ n. cond (is_source l.grid n) ((table_in l.claims).live_cost n) 0);
  small : l.sum ≤ l.n * 2 ^ 64;
}
