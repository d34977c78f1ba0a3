-- Sums of weights by node, and times by meter, that follow what is kept of the reports.
use Rattle.std.specs.Prelude.{◌≡◌, ◌≢◌, ℕ, ◌+◌, ◌<◌, ◌≤◌, Bool, false, nat_le, List, [], ◌∷◌, length, slice_index, slice_index_or, Option, Some, None, if◌then◌else◌}
use Rattle.grid_model.specs.Parts.{Parts}
use Rattle.history_rules.specs.Posed.{at_node}
use Rattle.history_rules.specs.Slots.{due_in}
use Rattle.evidence.specs.Kept.{Evident, IsEvidenceOf, kept_of, pull_by}
use Rattle.evidence.specs.declared.Pull.{Pull}
use Rattle.field_state.specs.Fielded.{Fielded}
use Rattle.field_state.specs.FieldKept.{dark_kept, live_kept}

-- the sums by node are those of what is kept of the meters
pub record IsWeighed (g : Parts) (e : Evident) (darks lives : List ℕ) : Type 0 where
  pub dark_each : length darks ≡ length g.nodes
  pub dark_sums : (n : ℕ) → slice_index darks n ≡ at_node g (dark_kept g e) n
  pub live_each : length lives ≡ length g.nodes
  pub live_sums : (n : ℕ) → slice_index lives n ≡ at_node g (live_kept g e) n

-- the sums are those of an earlier evidence, which differs at meter m alone, and weighed this there
pub record WasWeighed (g : Parts) (m : ℕ) (before : Pull) (f : Fielded) : Type 0 where
  pub was : Evident
  pub weighed : IsWeighed g was f.dark f.live
  pub others : (k : ℕ) → k ≢ m → kept_of f.evidence k ≡ kept_of was k
  pub weight : before ≡ pull_by g m (kept_of was m)

-- all but sums and times stays
pub record KeepsRest (f new : Fielded) : Type 0 where
  pub now : new.now ≡ f.now
  pub applied : new.applied ≡ f.applied
  pub forest : new.forest ≡ f.forest
  pub marks : new.marks ≡ f.marks
  pub evidence : new.evidence ≡ f.evidence

-- sums and times are those of what is kept of the meters, as of some time until t for each; one meter's time may be missing
pub record IsTalliedBut (g : Parts) (t : ℕ) (missing : ℕ) (f : Fielded) : Type 0 where
  pub evidence : IsEvidenceOf g f.evidence
  pub earlier : (m : ℕ) → m < length g.meters → (kept_of f.evidence m).at ≤ t
  pub weighed : IsWeighed g f.evidence f.dark f.live
  pub due_each : length f.due ≡ length g.meters + length g.devices
  pub due_others : (m : ℕ) → m < length g.meters → m ≢ missing → slice_index_or f.due m None ≡ due_in g m (kept_of f.evidence m).at (kept_of f.evidence m).slots

-- and none is
pub record IsTallied (g : Parts) (t : ℕ) (f : Fielded) : Type 0 where
  pub evidence : IsEvidenceOf g f.evidence
  pub earlier : (m : ℕ) → m < length g.meters → (kept_of f.evidence m).at ≤ t
  pub weighed : IsWeighed g f.evidence f.dark f.live
  pub due_each : length f.due ≡ length g.meters + length g.devices
  pub due_meters : (m : ℕ) → m < length g.meters → slice_index_or f.due m None ≡ due_in g m (kept_of f.evidence m).at (kept_of f.evidence m).slots

-- whether the time has come
abbrev pub has_come : ℕ → Option ℕ → Bool
has_come t None = false
has_come t (Some end) = nat_le end t

-- how many of the times have come
abbrev pub dues : ℕ → List (Option ℕ) → ℕ
dues t [] = 0
dues t (x ∷ rest) = (if has_come t x then 1 else 0) + dues t rest
