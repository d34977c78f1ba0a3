use Rattle.std.proofs.Common.{◌≡◌, ◌≤◌, ◌*◌, ◌^◌, take}
use Rattle.history_rules.specs.Indices.{customers_interrupted, customer_seconds}
use Rattle.history_rules.specs.StampTexts.{last_second}
use Rattle.indices_1366.proofs.sums.sums_of.Given as goal

abbrev pub invariant-loop-line : goal.invariant-loop-line
invariant-loop-line l = record {
  customers : l.sums.customers ≡ customers_interrupted l.grid l.period l.now.0 (take l.line-index l.lines);
  customer_seconds : l.sums.customer_seconds ≡ customer_seconds l.grid l.period l.now.0 (take l.line-index l.lines);
  few : l.sums.customers ≤ l.line-index * 2 ^ 32;
  few_seconds : l.sums.customer_seconds ≤ l.line-index * (2 ^ 32 * last_second);
}
