-- The field before the next comma, or the last one.
use Rattle.std.proofs.Common.{rules, arith, ◌∙◌, sym, refl}
use Rattle.line_text.proofs.FieldParts.{fields_left-cut, fields_left-last}
use Rattle.line_text.proofs.commas.FieldsIterator.next.Goals as goal

pub returns-in-Some-clause-steps : goal.returns-in-Some-clause-steps
returns-in-Some-clause-steps c =
    sym c.self.view_is
    ∙ fields_left-cut c.self.inside.rest c.in_ok-rest.rest c.in-Some.field.now c.in-Some.behind.now c.in_ok-rest.was c.in-Some.ensures.whole c.in-Some.ensures.first

pub returns-in-Some-clause-goes : goal.returns-in-Some-clause-goes
returns-in-Some-clause-goes c = rw (returns-in-Some-clause-steps c) (search (rules, arith))

pub returns-in-None-clause-steps : goal.returns-in-None-clause-steps
returns-in-None-clause-steps c =
    sym c.self.view_is ∙ fields_left-last c.self.inside.rest c.in_ok-rest.rest c.in_ok-rest.was (c.in-None.ensures.none.0 refl)

pub returns-in-None-clause-goes : goal.returns-in-None-clause-goes
returns-in-None-clause-goes c = rw (returns-in-None-clause-steps c) (search (rules, arith))
