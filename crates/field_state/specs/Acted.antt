-- What an event does to the field where nothing is due.
use Rattle.std.specs.Prelude.{◌≡◌, ℕ, ◌+◌, ◌<◌, Bool, true, false, ◌||◌, ◌&&◌, not, ◌==◌, nat_lt, List, length, slice_index_or, slice_set, Option, Some, None, if◌then◌else◌}
use Rattle.grid_model.specs.Parts.{Parts}
use Rattle.grid_model.specs.Places.{node_of, setting_of}
use Rattle.grid_model.specs.Sound.{IsSoundParts}
use Rattle.grid_model.specs.Network.{network_in}
use Rattle.grid_model.specs.Problem as problem
use Rattle.grid_model.specs.declared.parts.Setting.TheVariants.{OkHold}
use Rattle.grid_model.specs.declared.history.Event.{Event}
use Rattle.grid_model.specs.declared.history.Mark.{Mark}
use Rattle.grid_model.specs.declared.history.What.{What}
use Rattle.grid_model.specs.declared.history.What.TheVariants.{Confirm, Restore, Order}
use Rattle.grid_model.specs.declared.history.Want.{Want}
use Rattle.grid_model.specs.declared.history.Want.TheVariants as want
use Rattle.grid_model.specs.declared.history.Refusal.{Refusal}
use Rattle.grid_model.specs.declared.history.Refusal.TheVariants.{NotClosed, Loop}
use Rattle.outage_rules.specs.Loops.{would_loop}
use Rattle.outage_rules.specs.Sum.{some_below}
use Rattle.grid_model.specs.declared.parts.NodeId.{NodeId}
use Rattle.grid_model.specs.declared.parts.DeviceId.{DeviceId}
use Rattle.radial_forest.specs.Traversed.{node_at}
use Rattle.radial_forest.specs.Forested.{IsForestOf}
use Rattle.subtree_costs.specs.Costed.{IsCosted}
use Rattle.history_rules.specs.State.{closed_by, mark_by, is_below}
use Rattle.history_rules.specs.Evidence.{is_call_of, is_signal_of}
use Rattle.history_rules.specs.Slots.{slots_after, slots_restored, end_after}
use Rattle.evidence.specs.Kept.{Kept, kept_of}
use Rattle.field_state.specs.Fielded.{Fielded, fine_end_by}
use Rattle.field_state.specs.Placed.{NotesChanges}
use Rattle.field_state.specs.Weighed.{IsTallied}

-- the event tells of the meter, or brings it back
abbrev pub is_told : ℕ → What → Bool → Bool
is_told m w brought = is_call_of m w || is_signal_of m w || brought

-- what is kept of a meter after an event of which one knows whether it brings the meter back
abbrev pub kept_after : ℕ → Event → Bool → Kept → Kept
kept_after m e brought k = if is_told m e.what brought then record { slots = slots_after m e brought k.slots; at = e.time.0 } else k

-- the event restores a device that the meter is below, where these devices are closed
abbrev pub is_brought : Parts → List Bool → ℕ → What → Bool
is_brought g closed m (Restore x) = is_below (network_in g (λ d. slice_index_or closed d false)) x.0 (node_of g m)
is_brought g closed m _ = false

-- the field of a sound network, with nothing kept after time t
pub record IsReady (g : Parts) (t : ℕ) (f : Fielded) : Type 0 where
  pub sound : IsSoundParts g
  pub costed : IsCosted g f.costs
  pub tallied : IsTallied g t f
  pub forest : IsForestOf g f.forest.closed f.forest
  pub marks_each : length f.marks ≡ length g.devices

-- the event confirms or restores an open device, where these are closed
abbrev pub stands_open : List Bool → What → Bool
stands_open closed (Confirm x c) = not (slice_index_or closed x.0 false)
stands_open closed (Restore x) = not (slice_index_or closed x.0 false)
stands_open closed _ = false

-- the event closes an open device that closes a loop
abbrev pub closes_loop_by : Parts → List Bool → ℕ → Want → Bool
closes_loop_by g closed d want.Opened = false
closes_loop_by g closed d want.Closed = not (slice_index_or closed d false) && would_loop (network_in g (λ e. slice_index_or closed e false)) d

abbrev pub closes_loop : Parts → List Bool → What → Bool
closes_loop g closed (Order x w) = closes_loop_by g closed x.0 w
closes_loop g closed _ = false

-- the first rule that refuses the event, whatever its time
abbrev pub rule_in : Parts → List Bool → What → Option Refusal
rule_in g closed w = if stands_open closed w then Some NotClosed else (if closes_loop g closed w then Some Loop else None)

-- the event is a switching order
abbrev pub is_switching : What → Bool
is_switching (Order x w) = true
is_switching _ = false

-- all but what is kept of the reports stays, and of each meter this is kept
pub record IsKeptBy (g : Parts) (t : ℕ) (kept : ℕ → Kept) (old new : Fielded) : Type 0 where
  pub now : new.now ≡ old.now
  pub applied : new.applied ≡ old.applied
  pub costed : IsCosted g new.costs
  pub forest : new.forest ≡ old.forest
  pub marks : new.marks ≡ old.marks
  pub tallied : IsTallied g t new
  pub each : (m : ℕ) → m < length g.meters → kept_of new.evidence m ≡ kept m
  pub due_devices : (d : ℕ) → slice_index_or new.due (length g.meters + d) None ≡ slice_index_or old.due (length g.meters + d) None
  pub notes : NotesChanges g old.costs new.costs old.places new.places

-- what is kept of a meter that a restoration at this time may bring back
abbrev pub restored_if : Bool → ℕ → Kept → Kept
restored_if brought t k = if brought then record { slots = slots_restored t k.slots; at = t } else k

-- the node is among the first of a list
abbrev pub is_listed : List NodeId → ℕ → ℕ → Bool
is_listed nodes count n = some_below count (λ i. node_at nodes i == n)

-- the mark of a device and its due time are set, and all else stays
pub record IsMarkedBy (g : Parts) (d : ℕ) (mark : Mark) (end : Option ℕ) (old new : Fielded) : Type 0 where
  pub now : new.now ≡ old.now
  pub applied : new.applied ≡ old.applied
  pub costed : IsCosted g new.costs
  pub forest : new.forest ≡ old.forest
  pub marks : new.marks ≡ slice_set old.marks d mark
  pub evidence : new.evidence ≡ old.evidence
  pub dark : new.dark ≡ old.dark
  pub live : new.live ≡ old.live
  pub due : new.due ≡ slice_set old.due (length g.meters + d) end
  pub notes : NotesChanges g old.costs new.costs old.places new.places

-- a device is in the state that an order wants, and all but the trees and rows stays
pub record IsTurned (g : Parts) (d : DeviceId) (w : Want) (old new : Fielded) : Type 0 where
  pub now : new.now ≡ old.now
  pub applied : new.applied ≡ old.applied
  pub costed : IsCosted g new.costs
  pub closed : (e : ℕ) → slice_index_or new.forest.closed e false ≡ closed_by (Order d w) e (slice_index_or old.forest.closed e false)
  pub marks : new.marks ≡ old.marks
  pub evidence : new.evidence ≡ old.evidence
  pub dark : new.dark ≡ old.dark
  pub live : new.live ≡ old.live
  pub due : new.due ≡ old.due

-- states, marks and what is kept are those after the event
pub record IsDone (g : Parts) (e : Event) (old new : Fielded) : Type 0 where
  pub now : new.now ≡ old.now
  pub applied : new.applied ≡ old.applied
  pub costed : IsCosted g new.costs
  pub tallied : IsTallied g e.time.0 new
  pub forest : IsForestOf g new.forest.closed new.forest
  pub closed : (d : ℕ) → slice_index_or new.forest.closed d false ≡ closed_by e.what d (slice_index_or old.forest.closed d false)
  pub marks_each : length new.marks ≡ length old.marks
  pub marks : (d : ℕ) → d < length g.devices →
      problem.mark_at new.marks d ≡ mark_by e.what (nat_lt e.time.0 (e.time.0 + setting_of g OkHold)) d (problem.mark_at old.marks d)
  pub due_devices : (d : ℕ) → d < length g.devices →
      slice_index_or new.due (length g.meters + d) None
      ≡ fine_end_by e.what (end_after e.time.0 (e.time.0 + setting_of g OkHold)) d (slice_index_or old.due (length g.meters + d) None)
  pub kept : (m : ℕ) → m < length g.meters →
      kept_of new.evidence m ≡ kept_after m e (is_brought g old.forest.closed m e.what) (kept_of old.evidence m)
  pub notes : is_switching e.what ≡ false → NotesChanges g old.costs new.costs old.places new.places
