-- What holds after all events.
use Rattle.std.specs.Prelude.{[], true, false, ◌≡◌, ◌≢◌, ◌<◌, ◌≤◌, ◌+◌, ◌==◌, ◌⊎◌, ℕ, List, ◌∷◌, ◌++◌, None, Some, length}
use Rattle.std.specs.List.{list_any}
use Rattle.outage_rules.specs.Network.{Cut, IsSound, IsSoundNetwork, IsRadial}
use Rattle.outage_rules.specs.Diagnosis.{IsDiagnosis, IsLeastCost}
use Rattle.outage_rules.specs.Laws.{IsWithin}
use Rattle.grid_model.specs.Parts.{Parts}
use Rattle.grid_model.specs.Sound.{IsSoundParts}
use Rattle.grid_model.specs.Problem.{says_opened}
use Rattle.grid_model.specs.declared.history.Event.{Event}
use Rattle.event_rules.specs.Lines.{is_skipped}
use Rattle.history_rules.specs.State.{now, network_after, is_closed, mark_of}
use Rattle.history_rules.specs.Evidence.{dark_weight, live_weight, dark_since, came_back}
use Rattle.history_rules.specs.Posed.{problem_after, diagnosis_after, least_after, refusal_of, IsOfGrid, IsHistory}
use Rattle.history_rules.specs.Run.{history_in, up_to_last_end, counted, before_counted}
use Rattle.history_rules.specs.Output.{entries}
use Rattle.history_rules.specs.Slots.{Slots, IsTimely, slots_of, dark_in, live_in, due_in, since_in, came_back_in}

-- the slots tell what counts of a meter's reports
pub record SlotsTell (g : Parts) (m : ℕ) (h : List Event) : Type 0 where
  pub dark : dark_weight g h m ≡ dark_in g m (now h) (slots_of g m h)
  pub live : live_weight g h m ≡ live_in g m (now h) (slots_of g m h)
  pub since : dark_since g h m ≡ since_in g m (now h) (slots_of g m h)
  pub came_back : came_back g h m ≡ came_back_in g m (now h) (slots_of g m h)

abbrev pub EvidenceIsKept : Type 0
EvidenceIsKept = (g : Parts) (m : ℕ) (h : List Event) → IsTimely h → SlotsTell g m h

-- the weights at a time are those at an earlier one
pub record WeighsTheSame (g : Parts) (m : ℕ) (s : Slots) (t u : ℕ) : Type 0 where
  pub dark : dark_in g m t s ≡ dark_in g m u s
  pub live : live_in g m t s ≡ live_in g m u s

-- what slots weigh stays until they are due, and forever where they aren't
abbrev pub WeightsStayUntilDue : Type 0
WeightsStayUntilDue = (g : Parts) (m : ℕ) (s : Slots) (t u : ℕ) → t ≤ u →
    (due_in g m t s ≡ None) ⊎ ((end : ℕ) × (due_in g m t s ≡ Some end) × (u < end)) → WeighsTheSame g m s t u

-- and it changes then
abbrev pub WeightsChangeWhenDue : Type 0
WeightsChangeWhenDue = (g : Parts) (m : ℕ) (s : Slots) (t end : ℕ) → IsSoundParts g → due_in g m t s ≡ Some end →
    (t < end) × ((dark_in g m t s ≢ dark_in g m end s) ⊎ (live_in g m t s ≢ live_in g m end s))

-- the times of a history never fall
abbrev pub HistoryIsTimely : Type 0
HistoryIsTimely = (g : Parts) (h : List Event) → IsHistory g h → IsTimely h

-- only devices of the network are closed or marked
pub record IsWithinGrid (g : Parts) (h : List Event) : Type 0 where
  pub closed : (d : ℕ) → length g.devices ≤ d → is_closed g h d ≡ false
  pub opened : (d : ℕ) → length g.devices ≤ d → says_opened (mark_of g h d) ≡ false
  pub marked : (d : ℕ) → says_opened (mark_of g h d) ≡ true → is_closed g h d ≡ true

abbrev pub HistoryIsWithinGrid : Type 0
HistoryIsWithinGrid = (g : Parts) (h : List Event) → IsHistory g h → IsWithinGrid g h

-- a history leaves a radial network radial
abbrev pub HistoryIsRadial : Type 0
HistoryIsRadial = (g : Parts) (h : List Event) → IsSoundParts g → IsHistory g h → IsSoundNetwork (network_after g h) × IsRadial (network_after g h)

-- what isn't refused leaves a radial network radial
abbrev pub AppliedStaysRadial : Type 0
AppliedStaysRadial = (g : Parts) (h : List Event) (e : Event) → IsSoundParts g → IsRadial (network_after g h) → IsOfGrid g e.what →
    refusal_of g h e ≡ None → IsRadial (network_after g (e ∷ h))

-- a history poses a sound problem
abbrev pub ProblemIsSound : Type 0
ProblemIsSound = (g : Parts) (h : List Event) → IsSoundParts g → IsHistory g h → IsSound (problem_after g h)

-- the computed set of devices is the diagnosis, and the only one: each other opens the same devices of the network
pub record IsDiagnosed (g : Parts) (h : List Event) : Type 0 where
  pub diagnosis : IsDiagnosis (problem_after g h) (diagnosis_after g h)
  pub only : (other : Cut) → IsDiagnosis (problem_after g h) other → (d : ℕ) → d < length g.devices → other d ≡ diagnosis_after g h d
  pub within : IsWithin (problem_after g h) (diagnosis_after g h)
  pub least : IsLeastCost (problem_after g h) (least_after g h)

abbrev pub HistoryIsDiagnosed : Type 0
HistoryIsDiagnosed = (g : Parts) (h : List Event) → IsSoundParts g → IsHistory g h → IsDiagnosed g h

-- lines make a history of a history
abbrev pub RunIsHistory : Type 0
RunIsHistory = (g : Parts) (h : List Event) (lines : List (List ℕ)) → IsHistory g h → IsHistory g (history_in g h lines)

-- what stands behind the last LF of a text isn't ended
pub record LinesOfParts : Type 0 where
  pub ended : (text rest : List ℕ) → list_any (λ b. b == 10) rest ≡ false → up_to_last_end (text ++ 10 ∷ rest) ≡ text ++ 10 ∷ []
  pub unended : (text : List ℕ) → list_any (λ b. b == 10) text ≡ false → up_to_last_end text ≡ []

-- lines, and then more lines
pub record RunOfParts : Type 0 where
  pub history : (g : Parts) (h : List Event) (first rest : List (List ℕ)) → history_in g h (first ++ rest) ≡ history_in g (history_in g h first) rest
  pub entries : (g : Parts) (number : ℕ) (h : List Event) (first rest : List (List ℕ)) →
      entries g number h (first ++ rest) ≡ entries g number h first ++ entries g (number + length first) (history_in g h first) rest
  pub counted : (first rest : List (List ℕ)) → counted (first ++ rest) ≡ counted first ++ counted rest

-- no line is left out where no more count than may, and else those from the first one too many on
pub record LinesOfLimit : Type 0 where
  pub all : (most : ℕ) (lines : List (List ℕ)) → length (counted lines) ≤ most → before_counted most lines ≡ lines
  pub some : (most : ℕ) (first rest : List (List ℕ)) (line : List ℕ) → length (counted first) ≡ most → is_skipped line ≡ false →
      before_counted most (first ++ line ∷ rest) ≡ first
