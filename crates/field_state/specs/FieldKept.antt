-- A field that is kept up to date where nothing is due.
use Rattle.std.specs.Prelude.{◌≡◌, ℕ, ◌+◌, ◌<◌, ◌≤◌, false, List, length, slice_index, slice_index_or, None}
use Rattle.grid_model.specs.Parts.{Parts}
use Rattle.grid_model.specs.Sound.{IsSoundParts}
use Rattle.grid_model.specs.Problem as problem
use Rattle.grid_model.specs.declared.history.Event.{Event}
use Rattle.radial_forest.specs.Forested.{IsForestOf}
use Rattle.subtree_costs.specs.Costed.{IsCosted}
use Rattle.due_queue.specs.Due.{IsNothingDue}
use Rattle.history_rules.specs.State.{now, is_closed, mark_at}
use Rattle.history_rules.specs.Posed.{at_node, IsHistory}
use Rattle.history_rules.specs.Slots.{slots_of, due_in, dark_in, live_in}
use Rattle.evidence.specs.Kept.{Evident, IsEvidenceOf, kept_of}
use Rattle.field_state.specs.Fielded.{Fielded, mark_due}

-- what a meter's slots weigh at the time up to which they are kept
abbrev pub dark_kept : Parts → Evident → ℕ → ℕ
dark_kept g e m = dark_in g m (kept_of e m).at (kept_of e m).slots

abbrev pub live_kept : Parts → Evident → ℕ → ℕ
live_kept g e m = live_in g m (kept_of e m).at (kept_of e m).slots

-- the mark of a device is that of a time until t, and is due as it was then
pub record IsMarkKept (g : Parts) (h : List Event) (t : ℕ) (f : Fielded) (d : ℕ) : Type 0 where
  pub at : ℕ
  pub earlier : at ≤ t
  pub mark : problem.mark_at f.marks d ≡ mark_at g at h d
  pub due : slice_index_or f.due (length g.meters + d) None ≡ mark_due g at h d

-- the slots of each meter are those of the events, as they weighed at some time until t; sums and due times are those of that time
pub record IsFieldKept (g : Parts) (h : List Event) (t : ℕ) (f : Fielded) : Type 0 where
  pub sound : IsSoundParts g
  pub history : IsHistory g h
  pub later : now h ≤ t
  pub costed : IsCosted g f.costs
  pub forest : IsForestOf g f.forest.closed f.forest
  pub closed : (d : ℕ) → slice_index_or f.forest.closed d false ≡ is_closed g h d
  pub marks_each : length f.marks ≡ length g.devices
  pub marks : (d : ℕ) → d < length g.devices → IsMarkKept g h t f d
  pub evidence : IsEvidenceOf g f.evidence
  pub slots : (m : ℕ) → m < length g.meters → (kept_of f.evidence m).slots ≡ slots_of g m h
  pub earlier : (m : ℕ) → m < length g.meters → (kept_of f.evidence m).at ≤ t
  pub dark_each : length f.dark ≡ length g.nodes
  pub dark : (n : ℕ) → slice_index f.dark n ≡ at_node g (dark_kept g f.evidence) n
  pub live_each : length f.live ≡ length g.nodes
  pub live : (n : ℕ) → slice_index f.live n ≡ at_node g (live_kept g f.evidence) n
  pub due_each : length f.due ≡ length g.meters + length g.devices
  pub due_meters : (m : ℕ) → m < length g.meters → slice_index_or f.due m None ≡ due_in g m (kept_of f.evidence m).at (kept_of f.evidence m).slots

-- and nothing is due at time t
pub record IsFieldAt (g : Parts) (h : List Event) (t : ℕ) (f : Fielded) : Type 0 where
  pub kept : IsFieldKept g h t f
  pub at_rest : IsNothingDue f.due t
