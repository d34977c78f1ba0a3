use Rattle.std.proofs.Common.{◌≡◌, ◌+◌, ◌*◌, sym, ap, ◌∙◌, arith}
use Rattle.history_rules.specs.Indices.{seconds_of}
use Rattle.history_rules.specs.Outages.{customers_of}
use Rattle.indices_1366.proofs.Counting.{interrupted_of_counted, seconds_of_counted, interrupted_of_uncounted, seconds_of_uncounted}
use Rattle.indices_1366.proofs.sums.Sums.with.Goals as goal

pub returns-clause-customers : goal.returns-clause-customers
returns-clause-customers c =
    ap (λ n. c.args.self.customers + n)
    (c.from-customers.ensures ∙ ap (λ m. m.customers) c.meter.ensures
    ∙ sym (interrupted_of_counted c.args.grid.now c.args.period c.args.now.0 c.args.line (sym c.is_counted.ensures ∙ c.if-not-is_counted.false)))

pub returns-clause-customer_seconds : goal.returns-clause-customer_seconds
returns-clause-customer_seconds c =
    let customers : c.from-customers.result ≡ customers_of c.args.grid.now c.args.line.meter.0 = c.from-customers.ensures ∙ ap (λ m. m.customers) c.meter.ensures in
    let seconds : c.from-seconds.result ≡ seconds_of c.args.now.0 c.args.line = c.from-seconds.ensures ∙ c.seconds_of.ensures in
    ap (λ n. c.args.self.customer_seconds + n)
    (ap (λ n. n * c.from-seconds.result) customers ∙ ap (λ n. customers_of c.args.grid.now c.args.line.meter.0 * n) seconds
    ∙ sym (seconds_of_counted c.args.grid.now c.args.period c.args.now.0 c.args.line (sym c.is_counted.ensures ∙ c.if-not-is_counted.false)))

pub returns-then-not-is_counted-clause-customers : goal.returns-then-not-is_counted-clause-customers
returns-then-not-is_counted-clause-customers c =
    let none = interrupted_of_uncounted c.args.grid.now c.args.period c.args.now.0 c.args.line (sym c.is_counted.ensures ∙ c.if-not-is_counted.true) in
    omega arith

pub returns-then-not-is_counted-clause-customer_seconds : goal.returns-then-not-is_counted-clause-customer_seconds
returns-then-not-is_counted-clause-customer_seconds c =
    let none = seconds_of_uncounted c.args.grid.now c.args.period c.args.now.0 c.args.line (sym c.is_counted.ensures ∙ c.if-not-is_counted.true) in
    omega arith
