use Rattle.replay_laws.proofs.ShownBounds
use Rattle.replay_laws.proofs.closing.bounds_are_shown.Goals as goal

pub returns : goal.returns
returns c = λ text g events says.
    ShownBounds.bounds_are_shown
    (record {
      run = c.run_is_history.ensures;
      radial = c.history_is_radial.ensures;
      sound = c.problem_is_sound.ensures;
      exact = c.reference_table_is_exact.ensures;
      row = c.row_is_least.ensures;
      passed = c.valid_is_passed.ensures;
      check = c.check_is_sound.ensures;
    })
    g
    (c.text_is_sound.ensures text g says)
    events
    (λ wish asked. c.replay_is_valid.ensures text events g wish says asked)
