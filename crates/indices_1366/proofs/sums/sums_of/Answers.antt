use Rattle.std.proofs.Common.{arith}
use Rattle.indices_1366.proofs.Counting.{interrupted_of_none, seconds_of_none, interrupted_more, seconds_more}
use Rattle.indices_1366.proofs.sums.sums_of.Goals as goal

pub loop-line-init : goal.loop-line-init
loop-line-init c = record {
  customers = interrupted_of_none c.args.grid.now c.args.period c.args.now.0;
  customer_seconds = seconds_of_none c.args.grid.now c.args.period c.args.now.0;
  few = omega arith;
  few_seconds = omega arith;
}

pub loop-line-preserved : goal.loop-line-preserved
loop-line-preserved c = record {
  customers = interrupted_more c.args.grid.now c.args.period c.args.now.0 c.args.lines.now c.loop-line.line-index _ _ _ c.loop-line-test.true c.loop-line.invariant.customers c.with-sums.ensures.customers;
  customer_seconds = seconds_more c.args.grid.now c.args.period c.args.now.0 c.args.lines.now c.loop-line.line-index _ _ _ c.loop-line-test.true c.loop-line.invariant.customer_seconds c.with-sums.ensures.customer_seconds;
  few = omega arith;
  few_seconds = omega arith;
}
