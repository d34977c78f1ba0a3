-- What is repaired where an event is applied, and how far up.
use Rattle.std.specs.Prelude.{◌≡◌, ℕ, ◌+◌, ◌*◌, ◌<◌, ◌≤◌, max, Bool, true, false, not, ◌&&◌, ◌==◌, List, ◌∷◌, length, slice_index_or, Option, None, if◌then◌else◌}
use Rattle.outage_rules.specs.Sum.{total}
use Rattle.grid_model.specs.Parts.{Parts}
use Rattle.grid_model.specs.Places.{device_at, node_of}
use Rattle.grid_model.specs.Problem.{mark_at}
use Rattle.grid_model.specs.declared.history.Event.{Event}
use Rattle.grid_model.specs.declared.history.What.{What}
use Rattle.grid_model.specs.declared.history.What.TheVariants.{Call, Gasp, PingDown, PingUp, Powerup, Confirm, Restore, Order, Clock}
use Rattle.grid_model.specs.declared.history.Mark.{Mark}
use Rattle.grid_model.specs.declared.history.Mark.TheVariants as mark
use Rattle.radial_forest.specs.Spreading.{switched}
use Rattle.subtree_costs.specs.Reach.{IsReach}
use Rattle.subtree_costs.specs.Walks.{walks_work}
use Rattle.history_rules.specs.State.{mark_of}
use Rattle.history_rules.specs.Evidence.{dark_weight, live_weight}
use Rattle.evidence.specs.Kept.{Evident, kept_of, pull_by}
use Rattle.evidence.specs.declared.Pull.{Pull}
use Rattle.field_state.specs.Fielded.{Fielded}
use Rattle.field_state.specs.Weighed.{has_come}
use Rattle.field_state.specs.Acted.{restored_if}

-- the reach of each node, where these devices are closed
abbrev pub AreReaches : Parts → List Bool → (ℕ → ℕ) → Type 0
AreReaches g closed reach = (n : ℕ) → n < length g.nodes → IsReach (switched g closed) n (reach n)

-- one more than the reach of a meter's node, and than the greater one of a device's two ends
abbrev pub meter_length : Parts → (ℕ → ℕ) → ℕ → ℕ
meter_length g reach m = reach (node_of g m) + 1

abbrev pub device_length : Parts → (ℕ → ℕ) → ℕ → ℕ
device_length g reach d = max (reach (device_at g d).from.0) (reach (device_at g d).to.0) + 1

-- two marks are the same
abbrev pub same_mark : Mark → Mark → Bool
same_mark mark.Nothing mark.Nothing = true
same_mark mark.Opened mark.Opened = true
same_mark mark.Fine mark.Fine = true
same_mark _ _ = false

-- a meter's reports weigh something else after other events, and a device has another mark
abbrev pub weighs_otherwise : Parts → List Event → List Event → ℕ → Bool
weighs_otherwise g h h' m = not ((dark_weight g h m == dark_weight g h' m) && (live_weight g h m == live_weight g h' m))

abbrev pub is_marked_otherwise : Parts → List Event → List Event → ℕ → Bool
is_marked_otherwise g h h' d = not (same_mark (mark_of g h d) (mark_of g h' d))

-- the lengths of all meters that weigh something else
abbrev pub weights_length : Parts → List Event → List Event → (ℕ → ℕ) → ℕ
weights_length g h h' reach = total (length g.meters) (λ m. if weighs_otherwise g h h' m then meter_length g reach m else 0)

-- the lengths of all devices with another mark
abbrev pub marks_length : Parts → List Event → List Event → (ℕ → ℕ) → ℕ
marks_length g h h' reach = total (length g.devices) (λ d. if is_marked_otherwise g h h' d then device_length g reach d else 0)

-- the length of the meter or the device that an event names
abbrev pub named_length : Parts → (ℕ → ℕ) → What → ℕ
named_length g reach (Call m) = meter_length g reach m.0
named_length g reach (Gasp m) = meter_length g reach m.0
named_length g reach (PingDown m) = meter_length g reach m.0
named_length g reach (PingUp m) = meter_length g reach m.0
named_length g reach (Powerup m) = meter_length g reach m.0
named_length g reach (Confirm d said) = device_length g reach d.0
named_length g reach (Restore d) = device_length g reach d.0
named_length g reach (Order d w) = device_length g reach d.0
named_length g reach Clock = 0

-- time alone, up to that of an event
abbrev pub clock_of : Event → Event
clock_of e = record { time = e.time; what = Clock }

-- six steps for each unit of length: what time alone changes up to the event, what the event changes then, and what it names
abbrev pub repairs_work : Parts → List Event → Event → (ℕ → ℕ) → ℕ
repairs_work g h e reach =
    6 * (weights_length g h (clock_of e ∷ h) reach + marks_length g h (clock_of e ∷ h) reach
    + (weights_length g (clock_of e ∷ h) (e ∷ h) reach + marks_length g (clock_of e ∷ h) (e ∷ h) reach)
    + named_length g reach e.what)

-- the steps so far, and those that the walks up from the places of a field would take
abbrev pub spent : Parts → Fielded → ℕ → ℕ
spent g f steps = walks_work (switched g f.forest.closed) f.forest f.places + steps

-- two pulls weigh something else
abbrev pub pulls_differ : Pull → Pull → Bool
pulls_differ p q = not ((p.dark == q.dark) && (p.live == q.live))

-- six steps for each unit of length, where something is repaired
abbrev pub repair_if : Bool → ℕ → ℕ
repair_if repaired length = if repaired then 6 * length else 0

-- where the time of a meter passes, and where a restoration brings it back at that time
abbrev pub passing_cost : Parts → ℕ → (ℕ → ℕ) → Evident → ℕ → ℕ
passing_cost g t reach e m =
    repair_if (pulls_differ (pull_by g m (kept_of e m)) (pull_by g m (record { slots = (kept_of e m).slots; at = t }))) (meter_length g reach m)

abbrev pub restored_cost : Parts → ℕ → (ℕ → ℕ) → Evident → ℕ → ℕ
restored_cost g t reach e m =
    repair_if (pulls_differ (pull_by g m (kept_of e m)) (pull_by g m (restored_if true t (kept_of e m)))) (meter_length g reach m)

-- of all meters that it brings back
abbrev pub restores_cost : Parts → ℕ → (ℕ → ℕ) → Evident → (ℕ → Bool) → ℕ
restores_cost g t reach e brought = total (length g.meters) (λ m. if brought m then restored_cost g t reach e m else 0)

-- where a device gets a mark
abbrev pub marking_cost : Parts → (ℕ → ℕ) → List Mark → ℕ → Mark → ℕ
marking_cost g reach marks d mark = repair_if (not (same_mark (mark_at marks d) mark)) (device_length g reach d)

-- what is due at a time costs at most this, by its key
pub record AreCosts (g : Parts) (t : ℕ) (reach cost : ℕ → ℕ) (f : Fielded) : Type 0 where
  pub meters : (m : ℕ) → m < length g.meters → has_come t (slice_index_or f.due m None) ≡ true → passing_cost g t reach f.evidence m ≤ cost m
  pub devices : (d : ℕ) → d < length g.devices → has_come t (slice_index_or f.due (length g.meters + d) None) ≡ true
      → marking_cost g reach f.marks d mark.Nothing ≤ cost (length g.meters + d)

-- all that is due
abbrev pub dues_cost : ℕ → (ℕ → ℕ) → List (Option ℕ) → ℕ
dues_cost t cost due = total (length due) (λ key. if has_come t (slice_index_or due key None) then cost key else 0)
