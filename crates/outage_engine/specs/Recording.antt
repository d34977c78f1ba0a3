-- What the ledger takes from a judgement.
use Rattle.std.specs.Prelude.{◌≡◌, ℕ, ◌+◌, ◌<◌, ◌≤◌, ◌==◌, Bool, List, length, if◌then◌else◌}
use Rattle.outage_rules.specs.Sum.{total, some_below}
use Rattle.grid_model.specs.Parts.{Parts}
use Rattle.grid_model.specs.declared.parts.NodeId.{NodeId}
use Rattle.grid_model.specs.Places.{node_of}
use Rattle.grid_model.specs.declared.history.Event.{Event}
use Rattle.grid_model.specs.declared.history.Stamp.{Stamp}
use Rattle.history_rules.specs.Ledger.{Interrupted, interrupted_first, interrupted_by, interrupted_of, is_judged_dark}
use Rattle.radial_forest.specs.Traversed.{node_at}
use Rattle.diagnosis.specs.Judgement.{Judgement, is_dark_by, flag_in, differ}
use Rattle.interruption_ledger.specs.Ledgered.{Ledgered, interrupted_at}

-- the meter stands at a node that is flagged dark
abbrev pub is_meter_dark : Parts → Judgement → ℕ → Bool
is_meter_dark g j m = is_dark_by j (node_of g m)

-- what an event at a time leaves of a meter, by whether the meter is dark after it
abbrev pub recorded : ℕ → Stamp → Bool → Interrupted → Interrupted
recorded m t dark k = interrupted_by m t dark k.dark k

-- no meter has a line, and each is dark where it is judged dark
pub record IsFirstLedger (g : Parts) (j : Judgement) (l : Ledgered) : Type 0 where
  pub each : length l.meters ≡ length g.meters
  pub first : (m : ℕ) → m < length g.meters → interrupted_at l m ≡ interrupted_first (is_meter_dark g j m)

-- the ledger's flag of each meter is that of its node, by these flags of nodes
abbrev pub AreFlagsOf : Parts → List Bool → Ledgered → Type 0
AreFlagsOf g dark l = (m : ℕ) → m < length g.meters → (interrupted_at l m).dark ≡ flag_in dark (node_of g m)

-- how many meters the ledger doesn't have as dark as their nodes are judged
abbrev pub untold : Parts → Judgement → Ledgered → ℕ
untold g j l = total (length g.meters) (λ m. if differ (interrupted_at l m).dark (is_meter_dark g j m) then 1 else 0)

-- the meters that pass a test are recorded at a time, and the others are as they were; room is taken by those alone that weren't told before
pub record IsTold (g : Parts) (j : Judgement) (t : Stamp) (test : ℕ → Bool) (old new : Ledgered) : Type 0 where
  pub each : length new.meters ≡ length old.meters
  pub meters : (m : ℕ) → m < length g.meters → interrupted_at new m ≡ (if test m then recorded m t (is_meter_dark g j m) (interrupted_at old m) else interrupted_at old m)
  pub spare : old.spare + untold g j new ≤ new.spare + untold g j old

-- the meter stands at one of the first nodes of a list
abbrev pub stands_among : Parts → List NodeId → ℕ → ℕ → Bool
stands_among g nodes count m = some_below count (λ i. node_of g m == node_at nodes i)

-- the judgement of all meters is recorded at a time
pub record IsRecorded (g : Parts) (j : Judgement) (t : Stamp) (old new : Ledgered) : Type 0 where
  pub each : length new.meters ≡ length old.meters
  pub spare : old.spare ≤ new.spare + length g.meters
  pub done : (m : ℕ) → m < length g.meters → interrupted_at new m ≡ recorded m t (is_meter_dark g j m) (interrupted_at old m)

-- the ledger is that of the judgements after these events
pub record IsLedgerAfter (g : Parts) (h : List Event) (l : Ledgered) : Type 0 where
  pub each : length l.meters ≡ length g.meters
  pub kept : (m : ℕ) → m < length g.meters → interrupted_at l m ≡ interrupted_of m (is_judged_dark g m) h
