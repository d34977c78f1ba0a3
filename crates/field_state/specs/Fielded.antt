-- The state of the field after events.
use Rattle.std.specs.Prelude.{◌≡◌, ℕ, ◌+◌, ◌<◌, ◌≤◌, ◌==◌, false, List, [], ◌∷◌, length, slice_index, slice_index_or, sum, Option, Some, None, option_map, if◌then◌else◌, Result, Ok, Err, true, ⊤}
use Rattle.outage_rules.specs.Network.{IsSound, IsRadial}
use Rattle.outage_rules.specs.TightLaws.{whole_weight}
use Rattle.grid_model.specs.Parts.{Parts}
use Rattle.grid_model.specs.Places.{setting_of}
use Rattle.grid_model.specs.Sound.{IsSoundParts}
use Rattle.grid_model.specs.Network.{network_in}
use Rattle.grid_model.specs.Problem as problem
use Rattle.grid_model.specs.declared.parts.Setting.TheVariants.{OkHold}
use Rattle.grid_model.specs.declared.parts.NodeId.{NodeId}
use Rattle.grid_model.specs.declared.history.Event.{Event}
use Rattle.grid_model.specs.declared.history.What.{What}
use Rattle.grid_model.specs.declared.history.What.TheVariants.{Confirm, Restore, Order}
use Rattle.grid_model.specs.declared.history.Confirmed.TheVariants as confirmed
use Rattle.grid_model.specs.declared.history.Refusal.{Refusal}
use Rattle.radial_forest.specs.Forested.{IsForestOf}
use Rattle.subtree_costs.specs.Costed.{Costed, IsCosted, most_reported}
use Rattle.history_rules.specs.State.{now, is_closed, mark_of}
use Rattle.history_rules.specs.Evidence.{dark_weight, live_weight, dark_since, came_back}
use Rattle.history_rules.specs.Posed.{at_node, problem_after, IsHistory}
use Rattle.history_rules.specs.Slots.{slots_of, end_after, due_in, since_in, came_back_in}
use Rattle.evidence.specs.Kept.{Evident, IsEvidenceOf, kept_of, pull_by, stamp_at}
use Rattle.evidence.specs.declared.Pull.{Pull}

-- the clock and the number of events; the least costs of the parts, with the trees of the closed devices, the marks by device, and the sums of the
-- reports by node; what is kept of the reports by meter; when each meter's weights change next by themselves, and behind the meters each device's mark;
-- and the nodes where the last applied event, if it was no switching, changed weights, and the lower ends of the closed devices whose marks it changed
pub record Fielded : Type 0 where
  pub now : ℕ
  pub applied : ℕ
  pub costs : Costed
  pub open costs use *
  pub evidence : Evident
  pub due : List (Option ℕ)
  pub places : List NodeId

-- the end of the hold that an event leaves on the mark of device d, by the one before it
abbrev pub fine_end_by : What → Option ℕ → ℕ → Option ℕ → Option ℕ
fine_end_by (Order x w) end d before = if x.0 == d then None else before
fine_end_by (Confirm x confirmed.Fine) end d before = if x.0 == d then end else before
fine_end_by (Confirm x c) end d before = if x.0 == d then None else before
fine_end_by (Restore x) end d before = if x.0 == d then end else before
fine_end_by _ end d before = before

-- the time after t at which the mark of a device changes by itself
abbrev pub mark_due : Parts → ℕ → List Event → ℕ → Option ℕ
mark_due g t [] d = None
mark_due g t (e ∷ h) d = fine_end_by e.what (end_after t (e.time.0 + setting_of g OkHold)) d (mark_due g t h d)

-- what the counted reports of a meter weigh after events
abbrev pub pull_after : Parts → List Event → ℕ → Pull
pull_after g h m = record {
  dark = dark_weight g h m;
  live = live_weight g h m;
  due = option_map stamp_at (due_in g m (now h) (slots_of g m h));
}

-- the field is that of a sound network after these events
pub record IsFieldAfter (g : Parts) (h : List Event) (f : Fielded) : Type 0 where
  pub sound : IsSoundParts g
  pub history : IsHistory g h
  pub time : f.now ≡ now h
  pub count : f.applied ≡ length h
  pub costed : IsCosted g f.costs
  pub forest : IsForestOf g f.forest.closed f.forest
  pub closed : (d : ℕ) → slice_index_or f.forest.closed d false ≡ is_closed g h d
  pub marks_each : length f.marks ≡ length g.devices
  pub marks : (d : ℕ) → problem.mark_at f.marks d ≡ mark_of g h d
  pub evidence : IsEvidenceOf g f.evidence
  pub slots : (m : ℕ) → m < length g.meters → (kept_of f.evidence m).slots ≡ slots_of g m h
  pub earlier : (m : ℕ) → m < length g.meters → (kept_of f.evidence m).at ≤ now h
  pub pulls : (m : ℕ) → m < length g.meters → pull_by g m (kept_of f.evidence m) ≡ pull_after g h m
  pub since : (m : ℕ) → m < length g.meters → since_in g m (kept_of f.evidence m).at (kept_of f.evidence m).slots ≡ dark_since g h m
  pub came_back : (m : ℕ) → m < length g.meters → came_back_in g m (kept_of f.evidence m).at (kept_of f.evidence m).slots ≡ came_back g h m
  pub dark_each : length f.dark ≡ length g.nodes
  pub dark : (n : ℕ) → slice_index f.dark n ≡ at_node g (dark_weight g h) n
  pub live_each : length f.live ≡ length g.nodes
  pub live : (n : ℕ) → slice_index f.live n ≡ at_node g (live_weight g h) n
  pub due_each : length f.due ≡ length g.meters + length g.devices
  pub due_meters : (m : ℕ) → m < length g.meters → slice_index_or f.due m None ≡ due_in g m (now h) (slots_of g m h)
  pub due_devices : (d : ℕ) → d < length g.devices → slice_index_or f.due (length g.meters + d) None ≡ mark_due g (now h) h d

-- the field is that after some events
abbrev pub IsField : Parts → Fielded → Type 0
IsField g f = (h : List Event) × IsFieldAfter g h f

-- the answer where this rule refuses an event, if one does
abbrev pub answer_by : Option Refusal → Result ⊤ Refusal
answer_by None = Ok tt
answer_by (Some rule) = Err rule

-- states, marks and weights pose the problem of the events, within the bounds of a judgement
pub record PosesAfter (g : Parts) (h : List Event) (f : Fielded) : Type 0 where
  pub posed : problem.problem_of g f.forest.closed f.marks f.dark f.live ≡ problem_after g h
  pub radial : IsRadial (network_in g (λ d. slice_index_or f.forest.closed d false))
  pub states_each : length f.forest.closed ≡ length g.devices
  pub marked : (d : ℕ) → problem.says_opened (problem.mark_at f.marks d) ≡ true → slice_index_or f.forest.closed d false ≡ true
  pub dark_bound : sum f.dark ≤ most_reported
  pub live_bound : sum f.live ≤ most_reported
  pub posed_well : IsSound (problem_after g h)
  pub whole_bound : whole_weight (problem_after g h) ≤ 1000000000000000

abbrev pub FieldPoses : Type 0
FieldPoses = (g : Parts) (h : List Event) (f : Fielded) → IsFieldAfter g h f → PosesAfter g h f
