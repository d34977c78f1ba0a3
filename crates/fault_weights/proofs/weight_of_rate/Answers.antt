-- The number of doublings is the least one.
use Rattle.std.proofs.Common.{◌≤◌, arith, below_more}
use Rattle.fault_weights.specs.Rates.{IsLeastDoubling}
use Rattle.fault_weights.proofs.Doublings.{doubled, most-doublings, least-doublings, rate_weight-is}
use Rattle.fault_weights.proofs.weight_of_rate.Goals as goal

few : (c : goal.In-loop-failures) → c.loop-failures.doublings ≤ 30
few c = most-doublings c.args.rate c.loop-failures.doublings c.requires.some c.loop-failures.invariant.1

few_at_end : (c : goal.After-loop-failures) → c.loop-failures.doublings ≤ 30
few_at_end c = most-doublings c.args.rate c.loop-failures.doublings c.requires.some c.loop-failures.invariant.1

least : (c : goal.After-loop-failures) → IsLeastDoubling c.args.rate c.loop-failures.doublings
least c = record { reached = omega arith; least = c.loop-failures.invariant.1 }

pub overflow_add-doublings : goal.overflow_add-doublings
overflow_add-doublings c = omega (arith, few c)

pub loop-failures-preserved : goal.loop-failures-preserved
loop-failures-preserved c = (
  doubled c.args.rate c.loop-failures.failures c.loop-failures.doublings c.loop-failures.invariant.0,
  below_more _ _ c.loop-failures.invariant.1 (omega arith),
)

pub overflow_mul-result : goal.overflow_mul-result
overflow_mul-result c = omega (arith, few_at_end c)

pub returns-clause-weight : goal.returns-clause-weight
returns-clause-weight c = rate_weight-is c.args.rate c.loop-failures.doublings c.requires.some (least c)

pub returns-clause-least : goal.returns-clause-least
returns-clause-least c = omega (arith, least-doublings c.args.rate c.loop-failures.doublings c.requires.most (least c).reached)

pub returns-clause-most : goal.returns-clause-most
returns-clause-most c = omega (arith, few_at_end c)
