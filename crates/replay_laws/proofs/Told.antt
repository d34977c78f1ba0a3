-- The printed rows tell the diagnosis and the least cost after any lines.
use Rattle.std.proofs.Common.{◌≡◌, ℕ, ◌+◌, ◌^◌, ◌<◌, List, [], ◌++◌, sym, ap, ◌∙◌, subst, length, arith, append_assoc}
use Rattle.outage_rules.specs.Network.{IsRadial}
use Rattle.outage_rules.specs.Diagnosis.{IsLeastCost}
use Rattle.outage_rules.specs.TightLaws.{LeastIsBounded}
use Rattle.grid_model.specs.Parts.{Parts}
use Rattle.grid_model.specs.Sound.{IsSoundParts}
use Rattle.grid_model.specs.declared.history.Event.{Event}
use Rattle.event_rules.specs.Lines.{lines}
use Rattle.history_rules.specs.Posed.{problem_after, least_after, IsHistory}
use Rattle.history_rules.specs.Run.{history_in, history_of}
use Rattle.history_rules.specs.Output.{entries, replay_text}
use Rattle.history_rules.specs.Report.{refused_in, report_text}
use Rattle.history_rules.specs.Shown.{DiagnosisIsPrinted}
use Rattle.history_rules.specs.Laws.{HistoryIsRadial, HistoryIsDiagnosed, ProblemIsSound, RunIsHistory, RunOfParts}
use Rattle.run_rules.specs.Told.{bounds_part, output}
use Rattle.run_rules.specs.Closing.{IsToldAfter, IsToldThroughout}
use Rattle.command_words.specs.declared.words.Wish.{Wish}
use Rattle.replay_laws.specs.ClosingLaws.{CostIsPrinted}
use Rattle.replay_laws.proofs.Weights.{is_light}

-- a least cost is small
module _ (g : Parts) (h : List Event) (fits : IsSoundParts g) (history : IsHistory g h) (radial : HistoryIsRadial) where
  is_radial : IsRadial (problem_after g h).net
  unfolding problem_after
  is_radial = (radial g h fits history).1

  pub least_is_small : ProblemIsSound → LeastIsBounded → least_after g h < 2 ^ 64
  unfolding least_after
  least_is_small sound bounded =
      let light = is_light g h fits in
      let least = bounded (problem_after g h) (sound g h fits history) is_radial in omega arith

-- the laws that it stands on
pub record ToldLaws : Type 0 where
  pub run : RunIsHistory
  pub diagnosed : HistoryIsDiagnosed
  pub shown : DiagnosisIsPrinted
  pub cost : CostIsPrinted

pub told_after : (laws : ToldLaws) (g : Parts) (front : List (List ℕ)) → IsSoundParts g → IsToldAfter g front
told_after laws g front fits =
    let h = history_in g [] front in
    let told = laws.diagnosed g h fits (laws.run g [] front tt) in
    record {
      shown = λ d l. (laws.shown g d fits l).entries front;
      diagnosis = told.diagnosis;
      least = subst (IsLeastCost (problem_after g h)) (sym ((laws.cost g fits).entries front)) told.least;
    }

module _ (g : Parts) (events : List ℕ) (parts : RunOfParts) (after : (front : List (List ℕ)) → IsToldAfter g front) where
  at_front : (front rest : List (List ℕ)) → lines events ≡ front ++ rest → (more : List ℕ) × (entries g 1 [] (lines events) ≡ entries g 1 [] front ++ more)
  at_front front rest e = (entries g (1 + length front) (history_in g [] front) rest, ap (entries g 1 []) e ∙ parts.entries g 1 [] front rest)

  in_output : (front rest : List (List ℕ)) (wish : Wish) → lines events ≡ front ++ rest → (more : List ℕ) × (output g events wish ≡ entries g 1 [] front ++ more)
  unfolding output replay_text
  in_output front rest wish e =
      let first = entries g 1 [] front in
      let behind = (at_front front rest e).0 in
      let report = report_text g wish.period (refused_in g [] (lines events)) (history_of g events) in
      let bounds = bounds_part g events wish.with_bounds in (
        behind ++ (report ++ bounds),
        ap (λ t. (t ++ report) ++ bounds) (at_front front rest e).1
            ∙ append_assoc (first ++ behind) report bounds
            ∙ append_assoc first behind (report ++ bounds),
      )

  pub told_throughout : IsToldThroughout g events
  told_throughout = record { after = λ front rest e. after front; at_front = at_front; in_output = in_output }
