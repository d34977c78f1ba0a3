-- What a reader of the output knows after each front of the events, and what its bounds show.
use Rattle.std.specs.Prelude.{◌≡◌, ◌<◌, ℕ, true, List, [], ◌∷◌, ◌++◌, length, All, codes, if◌then◌else◌}
use Rattle.std.specs.Str.{bytes_eq}
use Rattle.outage_rules.specs.Network.{Problem}
use Rattle.outage_rules.specs.Diagnosis.{IsDiagnosis, IsLeastCost}
use Rattle.outage_rules.specs.Certificate.{IsCertified, part_of, dark_cost_of}
use Rattle.outage_rules.specs.Reference.{table_of}
use Rattle.grid_model.specs.Parts.{Parts}
use Rattle.grid_model.specs.Places.{device_at}
use Rattle.grid_model.specs.declared.history.Period.{Period}
use Rattle.event_rules.specs.Decimals.{value_of}
use Rattle.event_rules.specs.Fields.{between_commas}
use Rattle.event_rules.specs.Lines.{lines}
use Rattle.history_rules.specs.Posed.{problem_after, least_after, diagnosis_after}
use Rattle.history_rules.specs.Run.{history_in, history_of}
use Rattle.history_rules.specs.Output.{entries, replay_text}
use Rattle.history_rules.specs.Shown.{is_shown}
use Rattle.bound_table.specs.declared.bounds.BoundRow.{BoundRow}
use Rattle.bound_table.specs.Table.{Table}
use Rattle.bound_table.specs.Report.{report_reading, IsRead}
use Rattle.bound_table.specs.Tight.{tight_bounds}
use Rattle.bound_checker.specs.Claimed.{cut_of}
use Rattle.bound_checker.specs.declared.rules.Verdict.TheVariants.{Valid}
use Rattle.run_rules.specs.Told.{last_problem, output, verdict_on}
use Rattle.command_words.specs.declared.words.Wish.{Wish}

-- a row `cost,LINE,NUMBER` shows its number
abbrev pub cost_shown_by : List (List ℕ) → ℕ → ℕ
cost_shown_by (word ∷ line ∷ number ∷ []) before = if bytes_eq word (codes "cost") then value_of number else before
cost_shown_by fields before = before

-- the cost that is shown after rows, by the one before them
unfoldable pub cost_shown_after : ℕ → List (List ℕ) → ℕ
cost_shown_after before [] = before
cost_shown_after before (row ∷ rest) = cost_shown_after (cost_shown_by (between_commas row) before) rest

-- the cost that an output shows: that of its last such row, and 0 where it has none
abbrev pub cost_shown : List ℕ → ℕ
cost_shown output = cost_shown_after 0 (lines output)

-- a reader of the output, line by line, knows the least cost
pub record ShowsCost (g : Parts) : Type 0 where
  pub entries : (events : List (List ℕ)) → cost_shown (entries g 1 [] events) ≡ least_after g (history_in g [] events)
  pub replay : (period : Period) (events : List ℕ) → cost_shown (replay_text g period events) ≡ least_after g (history_of g events)

-- after these first lines the set that the printed rows give is the diagnosis (it is feasible, nothing feasible costs less, and it is cautious), and the printed cost is the least
pub record IsToldAfter (g : Parts) (front : List (List ℕ)) : Type 0 where
  pub shown : (d : ℕ) → d < length g.devices →
      is_shown (device_at g d).name (entries g 1 [] front) ≡ diagnosis_after g (history_in g [] front) d
  pub diagnosis : IsDiagnosis (problem_after g (history_in g [] front)) (diagnosis_after g (history_in g [] front))
  pub least : IsLeastCost (problem_after g (history_in g [] front)) (cost_shown (entries g 1 [] front))

-- so it is after each front of the lines of the events, and the rows of a front stand at the front of the output
pub record IsToldThroughout (g : Parts) (events : List ℕ) : Type 0 where
  pub after : (front rest : List (List ℕ)) → lines events ≡ front ++ rest → IsToldAfter g front
  pub at_front : (front rest : List (List ℕ)) → lines events ≡ front ++ rest →
      (more : List ℕ) × (entries g 1 [] (lines events) ≡ entries g 1 [] front ++ more)
  pub in_output : (front rest : List (List ℕ)) (wish : Wish) → lines events ≡ front ++ rest →
      (more : List ℕ) × (output g events wish ≡ entries g 1 [] front ++ more)

-- the row of a node says what the part at and below it costs at least while it is live, over all sets of the part's devices, and what the part costs while it is dark
pub record IsRowOfPart (p : Problem) (r : BoundRow) : Type 0 where
  pub live : IsLeastCost (part_of p (table_of p) r.node.0) r.live
  pub dark : r.dark ≡ dark_cost_of p (table_of p) r.node.0

-- what the bounds after the last event show
pub record ShowsBounds (g : Parts) (events : List ℕ) : Type 0 where
  -- the tight bounds pass the local check
  pub passes : verdict_on g events (tight_bounds (last_problem g events)) ≡ Valid
  -- and the output, where bounds are wished, is read as them
  pub read : (wish : Wish) → wish.with_bounds ≡ true →
      report_reading g (output g events wish) ≡ IsRead (tight_bounds (last_problem g events))
  -- bounds that pass, whoever made them, certify their cuts: these are feasible and cost what is claimed, and no feasible set costs less
  pub certifies : (bounds : Table) → verdict_on g events bounds ≡ Valid →
      IsCertified (last_problem g events) (cut_of bounds.cuts) bounds.cost
  -- each row of the tight bounds is the least cost of its part
  pub rows : All (IsRowOfPart (last_problem g events)) (tight_bounds (last_problem g events)).rows
