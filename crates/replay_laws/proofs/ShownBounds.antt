-- Bounds that pass the local check certify their cuts, and the rows of the tight ones are least.
use Rattle.std.proofs.Common.{false, ◌≡◌, ℕ, ◌<◌, true, refl, List, [], length, get_or}
use Rattle.std.specs.Prelude.{All}
use Rattle.std.specs.List.{filter, range_with_len}
use Rattle.std.proofs.lemmas.List.Elements.{All-map, filter_passes}
use Rattle.outage_rules.specs.Network.{Problem, IsSound, IsRadial}
use Rattle.outage_rules.specs.Agreement.{ReferenceTableIsExact}
use Rattle.outage_rules.specs.Certificate.{IsCertified}
use Rattle.outage_rules.specs.Laws.{CheckIsSound, RowIsLeast}
use Rattle.outage_rules.specs.Reference as reference
use Rattle.grid_model.specs.Parts.{Parts}
use Rattle.grid_model.specs.Sound.{IsSoundParts}
use Rattle.event_rules.specs.Lines.{lines}
use Rattle.history_rules.specs.Posed.{problem_after, IsHistory}
use Rattle.history_rules.specs.Run.{history_of}
use Rattle.history_rules.specs.Indices.{whole_period}
use Rattle.history_rules.specs.Laws.{HistoryIsRadial, ProblemIsSound, RunIsHistory}
use Rattle.bound_table.specs.Table.{Table}
use Rattle.bound_table.specs.Tight.{row_at, tight_bounds}
use Rattle.bound_checker.specs.Claimed.{table_of, cut_of}
use Rattle.bound_checker.specs.Laws.{ValidIsPassed}
use Rattle.bound_checker.specs.declared.rules.Verdict.TheVariants.{Valid}
use Rattle.run_rules.specs.Closing.{IsRowOfPart, ShowsBounds}
use Rattle.run_rules.specs.Told.{last_problem, output, verdict_on}
use Rattle.command_words.specs.declared.words.Wish.{Wish}
use Rattle.replay_laws.specs.RoundTrip.{IsFoundValid}
use Rattle.replay_laws.proofs.KeptNumbers.{kept_below}

-- each row of the tight bounds
module _ (p : Problem) (sound : IsSound p) (radial : IsRadial p.net) (exact : ReferenceTableIsExact) (least : RowIsLeast) where
  row_is_least : (n : ℕ) → n < p.nodes → (reference.table_of p).is_listed n ≡ true → IsRowOfPart p (row_at p (reference.table_of p) n)
  row_is_least n l fed =
      let table = exact p sound radial in
      let both = least p (reference.table_of p) sound table.0 table.1 n l fed in
      record { live = both.0; dark = both.1 }

  rows_are_least : All (IsRowOfPart p) (tight_bounds p).rows
  unfolding tight_bounds
  rows_are_least =
      let t = reference.table_of p in
      let listed = filter t.is_listed (range_with_len 0 p.nodes) in
      All-map (IsRowOfPart p) (row_at p t) listed
      (λ k d l. row_is_least (get_or listed k d) (kept_below t.is_listed p.nodes k d l) (filter_passes t.is_listed (range_with_len 0 p.nodes) k d l))

-- the laws that it stands on
pub record BoundLaws : Type 0 where
  pub run : RunIsHistory
  pub radial : HistoryIsRadial
  pub sound : ProblemIsSound
  pub exact : ReferenceTableIsExact
  pub row : RowIsLeast
  pub passed : ValidIsPassed
  pub check : CheckIsSound

module _ (laws : BoundLaws) (g : Parts) (fits : IsSoundParts g) (events : List ℕ) where
  is_history : IsHistory g (history_of g events)
  is_history = laws.run g [] (lines events) tt

  is_sound : IsSound (last_problem g events)
  unfolding last_problem
  is_sound = laws.sound g (history_of g events) fits is_history

  is_radial : IsRadial (last_problem g events).net
  unfolding last_problem problem_after
  is_radial = (laws.radial g (history_of g events) fits is_history).1

  certifies : (bounds : Table) → verdict_on g events bounds ≡ Valid → IsCertified (last_problem g events) (cut_of bounds.cuts) bounds.cost
  unfolding verdict_on
  certifies bounds valid =
      let p = last_problem g events in
      let t = table_of (length g.devices) bounds.rows in
      laws.check p t (cut_of bounds.cuts) bounds.cost is_sound ((laws.passed p t (cut_of bounds.cuts) bounds.cost).0 valid).0

  -- a replay that prints its bounds
  with_bounds : Wish
  with_bounds = record { period = whole_period; with_bounds = true; at_once = false }

  pub bounds_are_shown : ((wish : Wish) → wish.with_bounds ≡ true → IsFoundValid g events (output g events wish) (tight_bounds (last_problem g events))) → ShowsBounds g events
  unfolding with_bounds
  bounds_are_shown valid = record {
    passes = (valid with_bounds refl).verdict;
    read = λ wish e. (valid wish e).read;
    certifies = certifies;
    rows = rows_are_least (last_problem g events) is_sound is_radial laws.exact laws.row;
  }
