-- No field is left exactly where the last one was read.
use Rattle.std.proofs.Common.{rules, ◌≡◌, ◌∙◌, sym, false}
use Rattle.std.specs.Option.{is_some}
use Rattle.line_text.proofs.FieldParts.{fields_left-none, none-fields_left}
use Rattle.line_text.proofs.commas.Fields.is_at_end.Goals as goal

pub returns : goal.returns
returns c = (
  λ e. let gone : is_some c.self.inside.rest ≡ false = search rules in sym c.self.view_is ∙ fields_left-none c.self.inside.rest gone,
  λ e. let gone = none-fields_left c.self.inside.rest (c.self.view_is ∙ e) in search rules,
)
