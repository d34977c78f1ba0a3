-- Reports of different meters that come at one time: in which order they stand makes no difference.
use Rattle.std.specs.Prelude.{◌≡◌, ◌≢◌, ℕ, ◌<◌, ◌≤◌, List, ◌∷◌, ◌++◌, length, Option, Some, None}
use Rattle.grid_model.specs.Parts.{Parts}
use Rattle.grid_model.specs.declared.history.Event.{Event}
use Rattle.grid_model.specs.declared.history.What.{What}
use Rattle.grid_model.specs.declared.history.What.TheVariants.{Call, Gasp, PingDown, PingUp, Powerup}
use Rattle.history_rules.specs.State.{now, is_closed, mark_of}
use Rattle.history_rules.specs.Evidence.{dark_weight, live_weight}
use Rattle.history_rules.specs.Posed.{at_node, problem_after, least_after, diagnosis_after, refusal_of, IsHistory}
use Rattle.history_rules.specs.Outages.{outages_after}

-- the meter of a report: of a call, a last gasp, a ping or a power-up message
abbrev pub meter_of_report : What → Option ℕ
meter_of_report (Call m) = Some m.0
meter_of_report (Gasp m) = Some m.0
meter_of_report (PingDown m) = Some m.0
meter_of_report (PingUp m) = Some m.0
meter_of_report (Powerup m) = Some m.0
meter_of_report _ = None

-- reports of two meters of the network, at one time that isn't before the last event
pub record AreReportsOfTwo (g : Parts) (h : List Event) (e f : Event) (m n : ℕ) : Type 0 where
  pub first : meter_of_report e.what ≡ Some m
  pub second : meter_of_report f.what ≡ Some n
  pub known : (m < length g.meters) × (n < length g.meters)
  pub two : m ≢ n
  pub one_time : e.time.0 ≡ f.time.0
  pub timely : now h ≤ e.time.0

-- both lists of events leave the same states, marks, weights of reports, problem, diagnosis, least cost and outages, and the same events are refused next
pub record SayTheSame (g : Parts) (a b : List Event) : Type 0 where
  pub closed : (d : ℕ) → is_closed g a d ≡ is_closed g b d
  pub marks : (d : ℕ) → mark_of g a d ≡ mark_of g b d
  pub dark : (m : ℕ) → dark_weight g a m ≡ dark_weight g b m
  pub live : (m : ℕ) → live_weight g a m ≡ live_weight g b m
  pub dark_at : (n : ℕ) → at_node g (dark_weight g a) n ≡ at_node g (dark_weight g b) n
  pub live_at : (n : ℕ) → at_node g (live_weight g a) n ≡ at_node g (live_weight g b) n
  pub problem : problem_after g a ≡ problem_after g b
  pub diagnosis : (d : ℕ) → diagnosis_after g a d ≡ diagnosis_after g b d
  pub least : least_after g a ≡ least_after g b
  pub outages : outages_after g a (diagnosis_after g a) ≡ outages_after g b (diagnosis_after g b)
  pub refused : (x : Event) → refusal_of g a x ≡ refusal_of g b x

-- the reports join the events in either order, which makes no difference, neither at once nor after any later events
pub record CanChangePlaces (g : Parts) (h : List Event) (e f : Event) : Type 0 where
  pub first_second : IsHistory g (f ∷ e ∷ h)
  pub second_first : IsHistory g (e ∷ f ∷ h)
  pub at_once : SayTheSame g (f ∷ e ∷ h) (e ∷ f ∷ h)
  pub later : (more : List Event) → IsHistory g (more ++ f ∷ e ∷ h) →
      IsHistory g (more ++ e ∷ f ∷ h) × SayTheSame g (more ++ f ∷ e ∷ h) (more ++ e ∷ f ∷ h)

-- reports of two meters at one time can change places
abbrev pub ReportsExchange : Type 0
ReportsExchange = (g : Parts) (h : List Event) (e f : Event) (m n : ℕ) → IsHistory g h → AreReportsOfTwo g h e f m n → CanChangePlaces g h e f
