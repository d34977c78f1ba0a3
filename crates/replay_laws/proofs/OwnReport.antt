-- The bounds that a replay writes are read back and found valid.
use Rattle.std.proofs.Common.{◌≡◌, ℕ, true, ap, refl, ◌∙◌, List, [], ◌++◌}
use Rattle.std.specs.Prelude.{if◌then◌else◌}
use Rattle.outage_rules.specs.Network.{IsSound, IsRadial}
use Rattle.outage_rules.specs.Agreement.{ReferenceTableIsExact}
use Rattle.outage_rules.specs.TightLaws.{RowsAreBounded, LeastIsBounded, DistanceIsBounded}
use Rattle.grid_model.specs.Parts.{Parts}
use Rattle.grid_model.specs.Sound.{IsSoundParts}
use Rattle.grid_model.specs.declared.history.Event.{Event}
use Rattle.event_rules.specs.Lines.{lines}
use Rattle.history_rules.specs.Posed.{problem_after, IsHistory}
use Rattle.history_rules.specs.Run.{history_of}
use Rattle.history_rules.specs.Output.{replay_text}
use Rattle.history_rules.specs.Laws.{HistoryIsRadial, ProblemIsSound, RunIsHistory}
use Rattle.bound_table.specs.Laws.{WrittenIsRead}
use Rattle.bound_table.specs.Printed.{bounds_text}
use Rattle.bound_table.specs.Report.{report_reading, IsRead}
use Rattle.bound_table.specs.Sound.{IsTableOf}
use Rattle.bound_table.specs.Tight.{tight_bounds}
use Rattle.bound_checker.specs.Laws.{TightIsValid}
use Rattle.bound_checker.specs.declared.rules.Verdict.TheVariants.{Valid}
use Rattle.run_rules.specs.Told.{last_problem, output, verdict_on}
use Rattle.replay_laws.specs.RoundTrip.{IsFoundValid}
use Rattle.command_words.specs.declared.words.Wish.{Wish}
use Rattle.replay_laws.proofs.LinesBefore.{replay_lines}
use Rattle.replay_laws.proofs.TightTables.{tight_within}
use Rattle.replay_laws.proofs.Weights.{is_light}

-- the laws that it stands on
pub record Laws : Type 0 where
  pub run : RunIsHistory
  pub radial : HistoryIsRadial
  pub sound : ProblemIsSound
  pub exact : ReferenceTableIsExact
  pub rows : RowsAreBounded
  pub least : LeastIsBounded
  pub distance : DistanceIsBounded
  pub read : WrittenIsRead
  pub valid : TightIsValid

module _ (laws : Laws) (g : Parts) (fits : IsSoundParts g) where
  module _ (h : List Event) (history : IsHistory g h) where
    is_sound : IsSound (problem_after g h)
    is_sound = laws.sound g h fits history

    is_radial : IsRadial (problem_after g h).net
    unfolding problem_after
    is_radial = (laws.radial g h fits history).1

    tight_of_network : IsTableOf g (tight_bounds (problem_after g h))
    unfolding problem_after
    tight_of_network = tight_within g (problem_after g h) refl refl fits.few_nodes is_sound is_radial (is_light g h fits) laws.exact laws.rows laws.least laws.distance

  module _ (events : List ℕ) where
    is_history : IsHistory g (history_of g events)
    is_history = laws.run g [] (lines events) tt

    read_back : (wish : Wish) → wish.with_bounds ≡ true → report_reading g (output g events wish) ≡ IsRead (tight_bounds (last_problem g events))
    unfolding output last_problem
    read_back wish with_bounds =
        let bounds = tight_bounds (problem_after g (history_of g events)) in
        let text = replay_lines g fits.names wish.period events in
        ap (λ b. report_reading g (replay_text g wish.period events ++ (if b then bounds_text g bounds else []))) with_bounds
        ∙ ap (λ xs. report_reading g (xs ++ bounds_text g bounds)) text.are
        ∙ laws.read g bounds text.before fits (tight_of_network (history_of g events) is_history) text.may

    is_valid : verdict_on g events (tight_bounds (last_problem g events)) ≡ Valid
    unfolding verdict_on last_problem problem_after
    is_valid = laws.valid (problem_after g (history_of g events)) (is_sound (history_of g events) is_history) (is_radial (history_of g events) is_history)

    pub found_valid : (wish : Wish) → wish.with_bounds ≡ true → IsFoundValid g events (output g events wish) (tight_bounds (last_problem g events))
    found_valid wish with_bounds = record { read = read_back wish with_bounds; verdict = is_valid }
