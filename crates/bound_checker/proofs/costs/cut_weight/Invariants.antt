use Rattle.std.proofs.Common.{◌≡◌, ◌≤◌, ◌*◌, ◌^◌, cond}
use Rattle.outage_rules.specs.Sum.{total}
use Rattle.grid_model.specs.Places.{device_at}
use Rattle.bound_checker.specs.Claimed.{cut_in}
use Rattle.bound_checker.proofs.costs.cut_weight.Given as goal

abbrev pub invariant-loop-d : goal.invariant-loop-d
invariant-loop-d l = record {
  value : l.sum ≡ total l.d (λ d. cond (cut_in l.cuts d) (device_at l.grid d).weight 0);
  small : l.sum ≤ l.d * 2 ^ 64;
}
