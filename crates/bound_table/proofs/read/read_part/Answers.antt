-- The reading up to the end of the bounds part.
use Rattle.std.proofs.Common.{rules, ◌≡◌, ◌∙◌, ◌==◌, ◌∷◌, false, ap, arith, length, length-append}
use Rattle.std.specs.List.{list_any}
use Rattle.std.proofs.lemmas.Result.{err_from_is_err_and}
use Rattle.bound_table.specs.Report.{Inside, Ended, with_line}
use Rattle.bound_table.proofs.ReportSteps.{after_text-takes, after_text-end, fault_carried, fault_moved}
use Rattle.bound_table.proofs.read.read_part.Goals as goal

pub returns-in_err-is_last-clause-refused : goal.returns-in_err-is_last-clause-refused
returns-in_err-is_last-clause-refused c =
    let p = err_from_is_err_and c.from_residual.result c.from_residual.ensures.1 in
    rw (p.1, p.2)
    (fault_moved _ _ c.in_err-is_last.field-0.0 c.lines.invariant.reading
    (fault_carried c.args.grid.now (Inside c.lines.bounds) c.lines.number c.in-Some.line.now c.in-Some.behind.now c.lines.rest.now c.in_err-is_last.field-0.0 c.in-Some.ensures.whole c.in-Some.ensures.first c.in_err-is_last.ensures.refused))

pub returns-then-is_last-clause-read : goal.returns-then-is_last-clause-read
returns-then-is_last-clause-read c =
    let ended : with_line c.args.grid.now c.lines.number c.in-Some.line.now (Inside c.lines.bounds) ≡ Ended c.add_line.new.bounds = search rules in
    c.lines.invariant.reading
    ∙ after_text-takes c.args.grid.now (Inside c.lines.bounds) (Ended c.add_line.new.bounds) c.lines.number c.in-Some.line.now c.in-Some.behind.now c.lines.rest.now c.in-Some.ensures.whole c.in-Some.ensures.first ended

pub lines-preserved : goal.lines-preserved
lines-preserved c =
    let inside : with_line c.args.grid.now c.lines.number c.in-Some.line.now (Inside c.lines.bounds) ≡ Inside c.add_line.new.bounds = search rules in
    record {
      reading = c.lines.invariant.reading
          ∙ after_text-takes c.args.grid.now (Inside c.lines.bounds) (Inside c.add_line.new.bounds) c.lines.number c.in-Some.line.now c.in-Some.behind.now c.lines.rest.now c.in-Some.ensures.whole c.in-Some.ensures.first inside;
      few = omega (arith, ap length c.in-Some.ensures.whole, length-append c.in-Some.line.now (10 ∷ c.in-Some.behind.now));
    }

pub returns-clause-refused : goal.returns-clause-refused
returns-clause-refused c =
    let none : list_any (λ b. b == 10) c.lines.rest.now ≡ false = search rules in
    c.lines.invariant.reading ∙ after_text-end c.args.grid.now (Inside c.lines.bounds) c.lines.number c.lines.rest.now none
