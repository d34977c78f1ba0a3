-- The reading up to the first line of the bounds part.
use Rattle.std.proofs.Common.{rules, ◌≡◌, ◌∙◌, ◌==◌, ◌∷◌, true, false, ap, arith, length, length-append}
use Rattle.std.specs.List.{list_any}
use Rattle.bound_table.specs.Report.{Before, Inside, bare_table, begins_bounds}
use Rattle.bound_table.proofs.ReportSteps.{after_text-takes, after_text-breaks, after_text-end}
use Rattle.bound_table.proofs.FirstLines.{first_line-taken, first_line-refused, line_before}
use Rattle.bound_table.proofs.read.find_bounds.Goals as goal

pub returns-in-Ok-clause-found : goal.returns-in-Ok-clause-found
returns-in-Ok-clause-found c =
    let first : begins_bounds c.in-Some.line.now ≡ true = search rules in
    λ g. c.lines.invariant.reading g
    ∙ after_text-takes g Before (Inside (bare_table c.in-Ok.cost)) c.lines.number c.in-Some.line.now c.in-Some.behind.now c.lines.rest.now c.in-Some.ensures.whole c.in-Some.ensures.first
    (first_line-taken g c.lines.number c.in-Some.line.now c.in-Ok.cost first (search rules))

pub returns-in-Err-clause-refused : goal.returns-in-Err-clause-refused
returns-in-Err-clause-refused c =
    let first : begins_bounds c.in-Some.line.now ≡ true = search rules in
    λ g. c.lines.invariant.reading g
    ∙ after_text-breaks g Before c.lines.number c.lines.number c.in-Err.rule c.in-Some.line.now c.in-Some.behind.now c.lines.rest.now c.in-Some.ensures.whole c.in-Some.ensures.first
    (first_line-refused g c.lines.number c.in-Some.line.now c.in-Err.rule first (search rules))

pub lines-preserved : goal.lines-preserved
lines-preserved c =
    let other : begins_bounds c.in-Some.line.now ≡ false = search rules in
    record {
      reading = λ g. c.lines.invariant.reading g
          ∙ after_text-takes g Before Before c.lines.number c.in-Some.line.now c.in-Some.behind.now c.lines.rest.now c.in-Some.ensures.whole c.in-Some.ensures.first
          (line_before g c.lines.number c.in-Some.line.now other);
      few = omega (arith, ap length c.in-Some.ensures.whole, length-append c.in-Some.line.now (10 ∷ c.in-Some.behind.now));
    }

pub returns-clause-refused : goal.returns-clause-refused
returns-clause-refused c =
    let none : list_any (λ b. b == 10) c.lines.rest.now ≡ false = search rules in
    λ g. c.lines.invariant.reading g ∙ after_text-end g Before c.lines.number c.lines.rest.now none
