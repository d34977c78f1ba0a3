use Rattle.std.proofs.Common.{◌∙◌, ap, sym, refl}
use Rattle.feed_merge.specs.Merging.{first_field}
use Rattle.feed_merge.proofs.FirstFields.{first_field-cut, first_field-whole}
use Rattle.feed_merge.proofs.heads.first_field.Goals as goal

pub returns-in-Some : goal.returns-in-Some
returns-in-Some c =
    first_field-cut c.in-Some.field.now c.in-Some.field-0-1.now c.in-Some.ensures.first
    ∙ ap first_field (sym c.in-Some.ensures.whole)

pub returns-in-None : goal.returns-in-None
returns-in-None c = first_field-whole c.args.line.now (c.in-None.ensures.none.0 refl)
