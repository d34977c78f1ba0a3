use Rattle.std.proofs.Common.{◌≡◌, ◌≤◌, ◌*◌, ◌^◌, cond, get_or}
use Rattle.outage_rules.specs.Sum.{total}
use Rattle.bound_checker.specs.Claimed.{table_in}
use Rattle.bound_checker.proofs.costs.unlisted_weights.Given as goal

abbrev pub invariant-loop-n : goal.invariant-loop-n
invariant-loop-n l = record {
  value : l.sum ≡ total l.n (λ n. cond ((table_in l.claims).is_listed n) 0 (get_or l.live n 0));
  small : l.sum ≤ l.n * 2 ^ 64;
}
