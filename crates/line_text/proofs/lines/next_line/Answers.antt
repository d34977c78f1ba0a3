-- The lines of a text that is cut at its first LF, or that has none.
use Rattle.std.proofs.Common.{rules, ◌∷◌, ◌∙◌, ap, sym}
use Rattle.event_rules.specs.Lines.{lines}
use Rattle.line_text.proofs.LineParts.{lines-cut, lines-whole}
use Rattle.line_text.proofs.lines.next_line.Goals as goal

pub returns-in-Some-clause-line : goal.returns-in-Some-clause-line
returns-in-Some-clause-line c =
    ap lines c.in-Some.ensures.whole
    ∙ lines-cut c.in-Some.line.now c.in-Some.behind.now c.in-Some.ensures.first
    ∙ ap (λ z. z ∷ lines c.in-Some.behind.now) (sym c.strip_cr.ensures)

pub returns-in-None-clause-line : goal.returns-in-None-clause-line
returns-in-None-clause-line c = lines-whole c.args.text.now (search rules) (search rules)
