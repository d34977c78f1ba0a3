-- What becomes of the lines of an event text, in the words of the rules.
use Rattle.std.specs.Prelude.{◌≡◌, ◌≢◌, ◌↔◌, ◌⊎◌, ◌<◌, ◌≤◌, ℕ, true, false, List, [], ◌∷◌, Option, Some, None, length, codes, position}
use Rattle.outage_rules.specs.Network.{Network, Walk, IsLive, nothing}
use Rattle.grid_model.specs.Parts.{Parts}
use Rattle.grid_model.specs.Sound.{IsSoundParts}
use Rattle.grid_model.specs.Name.{is_name}
use Rattle.grid_model.specs.Names.{name_eq}
use Rattle.grid_model.specs.declared.history.Event.{Event}
use Rattle.grid_model.specs.declared.history.What.{What}
use Rattle.grid_model.specs.declared.history.What.TheVariants.{Order}
use Rattle.grid_model.specs.declared.history.Want.{Want}
use Rattle.grid_model.specs.declared.history.Want.TheVariants as want
use Rattle.grid_model.specs.declared.history.Refusal.TheVariants.{Backwards, NotClosed, Loop}
use Rattle.event_rules.specs.declared.read_rule.ReadRule.{ReadRule}
use Rattle.event_rules.specs.declared.read_rule.ReadRule.TheVariants.{UnknownDevice}
use Rattle.event_rules.specs.Lines.{is_skipped, most_line}
use Rattle.event_rules.specs.Fields.{between_commas, has_no_fields}
use Rattle.event_rules.specs.Stamps.{stamp_of}
use Rattle.event_rules.specs.EventLines.{IsEvent, IsRefused, event_reading}
use Rattle.history_rules.specs.State.{now, is_closed, network_after}
use Rattle.history_rules.specs.Posed.{names_open, refusal_of}
use Rattle.history_rules.specs.Run.{Unread, Unapplied, Skips, Refuses, Applies, outcome_of, history_by}

-- a walk of closed devices joins the nodes
abbrev pub AreJoined : Network → ℕ → ℕ → Type 0
AreJoined net a b = (k : ℕ) × Walk net nothing k a b

-- a walk of closed devices joins the two ends of the device, or one joins each of them to a source
abbrev pub MakesLoop : Network → ℕ → Type 0
MakesLoop net d = AreJoined net (net.from d) (net.to d) ⊎ (IsLive net nothing (net.from d) × IsLive net nothing (net.to d))

-- the order closes an open device, and that closes a loop
abbrev pub ClosesLoop : Parts → List Event → ℕ → Want → Type 0
ClosesLoop g h d wanted = (wanted ≡ want.Closed) × (is_closed g h d ≡ false) × MakesLoop (network_after g h) d

-- it is such an order
abbrev pub OrdersLoop : Parts → List Event → What → Type 0
OrdersLoop g h (Order x wanted) = ClosesLoop g h x.0 wanted
OrdersLoop g h _ = ⊥

-- what becomes of a line after these events
pub record FollowsRules (g : Parts) (h : List Event) (line : List ℕ) : Type 0 where
  -- an empty line and a comment are skipped
  pub skipped : (outcome_of g h line ≡ Skips) ↔ (is_skipped line ≡ true)
  -- a line that is no event is refused by the first rule that it breaks
  pub unread : (rule : ReadRule) → (outcome_of g h line ≡ Refuses (Unread rule)) ↔ (event_reading g line ≡ IsRefused rule)
  -- an event is refused that comes before the last one
  pub backwards : (outcome_of g h line ≡ Refuses (Unapplied Backwards)) ↔ ((e : Event) × (event_reading g line ≡ IsEvent e) × (e.time.0 < now h))
  -- or else confirms or restores an open device
  pub not_closed : (outcome_of g h line ≡ Refuses (Unapplied NotClosed))
      ↔ ((e : Event) × (event_reading g line ≡ IsEvent e) × (now h ≤ e.time.0) × (names_open g h e.what ≡ true))
  -- or else closes a loop
  pub loop : IsSoundParts g → (outcome_of g h line ≡ Refuses (Unapplied Loop))
      ↔ ((e : Event) × (event_reading g line ≡ IsEvent e) × (now h ≤ e.time.0) × OrdersLoop g h e.what)
  -- and any other is applied
  pub applied : (e : Event) → (outcome_of g h line ≡ Applies e) ↔ ((event_reading g line ≡ IsEvent e) × (refusal_of g h e ≡ None))
  -- it isn't before the last event, confirms and restores no open device, and closes no loop
  pub free : IsSoundParts g → (e : Event) → (outcome_of g h line ≡ Applies e)
      ↔ ((event_reading g line ≡ IsEvent e) × (now h ≤ e.time.0) × (names_open g h e.what ≡ false) × (OrdersLoop g h e.what → ⊥))
  -- a line that applies no event leaves the events as they were
  pub keeps : ((e : Event) → outcome_of g h line ≢ Applies e) → history_by h (outcome_of g h line) ≡ h

-- the word of an order
abbrev pub order_word : Want → List ℕ
order_word want.Opened = codes "open"
order_word want.Closed = codes "close"

-- an order for a device, well-formed and not before the last event: TIME,open,DEVICE or TIME,close,DEVICE
pub record IsTimelyOrder (h : List Event) (line : List ℕ) (at : ℕ) (name : List ℕ) (wanted : Want) : Type 0 where
  pub time : List ℕ
  pub has_fields : has_no_fields line ≡ false
  pub fields : between_commas line ≡ time ∷ order_word wanted ∷ name ∷ []
  pub short : length line ≤ most_line
  pub stamp : stamp_of time ≡ Some at
  pub named : is_name name ≡ true
  pub timely : now h ≤ at

-- the number of the device that has a name
abbrev pub device_of : Parts → List ℕ → Option ℕ
device_of g name = position (λ d. name_eq name d.name) g.devices

-- the order for a device at a time
abbrev pub order_at : ℕ → ℕ → Want → Event
order_at at d wanted = record { time = record { 0 = at }; what = Order (record { 0 = d }) wanted }

-- such an order is refused exactly where the network has no such device, or where it closes a loop
pub record OrderIsJudged (g : Parts) (h : List Event) (line : List ℕ) (at : ℕ) (name : List ℕ) (wanted : Want) : Type 0 where
  pub unknown : (outcome_of g h line ≡ Refuses (Unread UnknownDevice)) ↔ (device_of g name ≡ None)
  pub looping : IsSoundParts g → (d : ℕ) → device_of g name ≡ Some d → (outcome_of g h line ≡ Refuses (Unapplied Loop)) ↔ ClosesLoop g h d wanted
  pub applied : IsSoundParts g → (d : ℕ) → device_of g name ≡ Some d → (ClosesLoop g h d wanted → ⊥) → outcome_of g h line ≡ Applies (order_at at d wanted)

-- so it is of each line, and of each such order
pub record LinesFollowRules : Type 0 where
  pub lines : (g : Parts) (h : List Event) (line : List ℕ) → FollowsRules g h line
  pub orders : (g : Parts) (h : List Event) (line : List ℕ) (at : ℕ) (name : List ℕ) (wanted : Want) → IsTimelyOrder h line at name wanted →
      OrderIsJudged g h line at name wanted
