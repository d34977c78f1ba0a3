-- The row is that of the rule.
use Rattle.std.proofs.Common.{[], ◌∷◌, ◌∙◌, ap}
use Rattle.std.specs.Prelude.{codes, decimal}
use Rattle.event_rules.specs.Rows.{row}
use Rattle.line_entries.proofs.Puts.{puts_same}
use Rattle.line_entries.proofs.entries.put_refused.Goals as goal

pub returns : goal.returns
returns g c =
    let words = ap (λ w. row (w ∷ decimal c.args.line ∷ c.word_of.result.now ∷ [])) c.text_of.ensures ∙ ap (λ w. row (codes "refused" ∷ decimal c.args.line ∷ w ∷ [])) c.word_of.ensures in
    let told = puts_same _ _ _ _ _ _ _ words (c.fault_of.ensures.puts _ _ _ _ _ c.put_row.ensures) in record {
      whole = told.whole;
      part = told.part;
      later = told.later;
      failed = told.failed;
      only_failed = told.only_failed;
      only_write = c.fault_of.ensures.only_write;
    }
