-- The whole reading.
use Rattle.std.proofs.Common.{rules, ◌≡◌, ◌∙◌}
use Rattle.std.proofs.lemmas.Result.{err_from_is_err_and}
use Rattle.bound_table.specs.Report.{Inside, Ended, report_reading, after_text, bare_table}
use Rattle.bound_table.proofs.ReportSteps.{after_text-whole, after_text-more}
use Rattle.bound_table.proofs.read.read_table.Goals as goal

pub returns-in_err-cost-clause-refused : goal.returns-in_err-cost-clause-refused
returns-in_err-cost-clause-refused c =
    let p = err_from_is_err_and c.from_residual.result c.from_residual.ensures.1 in
    rw (p.1, p.2) (c.in_err-cost.ensures.refused c.args.grid.now)

pub returns-then-not-is_empty-clause-refused : goal.returns-then-not-is_empty-clause-refused
returns-then-not-is_empty-clause-refused c =
    let start : report_reading c.args.grid.now c.args.bytes.now ≡ after_text c.args.grid.now (Inside (bare_table c.in_ok-cost.cost)) c.in_ok-cost.left.number c.in_ok-cost.left.text.now = c.in_ok-cost.ensures.found c.args.grid.now in
    let part : after_text c.args.grid.now (Inside (bare_table c.in_ok-cost.cost)) c.in_ok-cost.left.number c.in_ok-cost.left.text.now ≡ after_text c.args.grid.now (Ended c.read_part.new.bounds) c.in_ok-behind.behind.number c.in_ok-behind.behind.text.now = rw (c.new.ensures.items, c.new-2.ensures.items) at c.in_ok-behind.ensures.read in
    start ∙ part ∙ after_text-more c.args.grid.now c.read_part.new.bounds c.in_ok-behind.behind.number c.in_ok-behind.behind.text.now (search rules)

pub returns-clause-read : goal.returns-clause-read
returns-clause-read c =
    let start : report_reading c.args.grid.now c.args.bytes.now ≡ after_text c.args.grid.now (Inside (bare_table c.in_ok-cost.cost)) c.in_ok-cost.left.number c.in_ok-cost.left.text.now = c.in_ok-cost.ensures.found c.args.grid.now in
    let part : after_text c.args.grid.now (Inside (bare_table c.in_ok-cost.cost)) c.in_ok-cost.left.number c.in_ok-cost.left.text.now ≡ after_text c.args.grid.now (Ended c.read_part.new.bounds) c.in_ok-behind.behind.number c.in_ok-behind.behind.text.now = rw (c.new.ensures.items, c.new-2.ensures.items) at c.in_ok-behind.ensures.read in
    start ∙ part ∙ after_text-whole c.args.grid.now c.read_part.new.bounds c.in_ok-behind.behind.number c.in_ok-behind.behind.text.now (search rules)

pub returns-clause-of_network : goal.returns-clause-of_network
returns-clause-of_network c = c.read_is_of_network.ensures c.args.grid.now c.read_part.new.bounds c.args.bytes.now (returns-clause-read c)
