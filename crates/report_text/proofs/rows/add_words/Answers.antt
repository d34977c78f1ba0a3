-- One word more.
use Rattle.std.proofs.Common.{refl, ◌∷◌}
use Rattle.report_text.proofs.Ranges.{rows_added}
use Rattle.report_text.proofs.rows.add_words.Goals as goal

pub loop-word-preserved : goal.loop-word-preserved
loop-word-preserved c =
    rows_added (λ w. 44 ∷ w.now) c.args.words.now c.loop-word.word-index _ _ _ _ _ c.loop-word-test.true refl c.loop-word.invariant c.in_ok-add_word.ensures
