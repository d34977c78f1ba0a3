-- What was made is put.
use Rattle.report_text.proofs.Made.{some_puts, made_whole, made_part}
use Rattle.report_text.proofs.put.put_summary.Goals as goal

pub returns : goal.returns
returns g c =
    let some = some_puts (λ text. text.items) _ _ _ _ _ _ c.put_made.ensures in record {
      whole = made_whole (λ text. text.items) _ _ _ _ _ _ c.put_made.ensures _ _ c.summary_of.ensures;
      part = made_part (λ text. text.items) _ _ _ _ _ _ c.put_made.ensures _ _ c.summary_of.ensures;
      later = some.1.later;
      failed = some.1.failed;
      only_failed = some.1.only_failed;
    }
