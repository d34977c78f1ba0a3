use Rattle.replay_laws.proofs.OwnReport.{found_valid}
use Rattle.replay_laws.proofs.round_trip.replay_is_valid.Goals as goal

pub returns : goal.returns
returns c = λ text events g wish says with_bounds.
    found_valid
    (record {
      run = c.run_is_history.ensures;
      radial = c.history_is_radial.ensures;
      sound = c.problem_is_sound.ensures;
      exact = c.reference_table_is_exact.ensures;
      rows = c.rows_are_bounded.ensures;
      least = c.least_is_bounded.ensures;
      distance = c.distance_is_bounded.ensures;
      read = c.written_is_read.ensures;
      valid = c.tight_is_valid.ensures;
    })
    g
    (c.text_is_sound.ensures text g says)
    events
    wish
    with_bounds
