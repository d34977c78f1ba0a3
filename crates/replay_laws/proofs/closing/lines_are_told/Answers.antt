use Rattle.replay_laws.proofs.Told.{told_after}
use Rattle.replay_laws.proofs.closing.lines_are_told.Goals as goal

pub returns : goal.returns
returns c = λ text g front says.
    told_after
    (record {
      run = c.run_is_history.ensures;
      diagnosed = c.history_is_diagnosed.ensures;
      shown = c.diagnosis_is_printed.ensures;
      cost = c.cost_is_printed.ensures;
    })
    g
    front
    (c.text_is_sound.ensures text g says)
