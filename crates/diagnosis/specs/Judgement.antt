-- What a judgement says of each node and each device, and when it agrees with the rows of a network.
use Rattle.std.specs.Prelude.{◌≡◌, ℕ, ◌+◌, ◌<◌, Bool, true, false, not, ◌&&◌, ◌||◌, nat_lt, List, length, filter, slice_index_or, Some, None}
use Rattle.std.specs.List.{range_with_len}
use Rattle.outage_rules.specs.Network.{Problem, Cut, is_live}
use Rattle.outage_rules.specs.Diagnosis.{IsDiagnosis}
use Rattle.outage_rules.specs.Laws.{IsWithin}
use Rattle.outage_rules.specs.Certificate.{other_end}
use Rattle.grid_model.specs.declared.parts.NodeId.{NodeId}
use Rattle.grid_model.specs.declared.parts.DeviceId.{DeviceId}
use Rattle.grid_model.specs.declared.history.Mark.{Mark}
use Rattle.grid_model.specs.Parts.{Parts}
use Rattle.grid_model.specs.Places.{is_source, device_at}
use Rattle.grid_model.specs.Network.{network_of}
use Rattle.grid_model.specs.Problem.{says_opened, says_fine, mark_at}
use Rattle.radial_forest.specs.Traversed.{parent_in}
use Rattle.subtree_costs.specs.Shares.{row_at}
use Rattle.subtree_costs.specs.Costed.{Costed, IsCosted, problem_in}

-- by number: which devices are opened and which nodes dark; which were so at the last beginning; and what differs since
pub record Judgement : Type 0 where
  pub opened : List Bool
  pub dark : List Bool
  pub opened_begun : List Bool
  pub dark_begun : List Bool
  pub flipped : List NodeId
  pub changed : List DeviceId

-- one entry a node or a device
pub record IsSized (nodes devices : ℕ) (j : Judgement) : Type 0 where
  pub opened : length j.opened ≡ devices
  pub dark : length j.dark ≡ nodes

-- the flag of a node or a device
abbrev pub flag_in : List Bool → ℕ → Bool
flag_in flags n = slice_index_or flags n false

-- the devices that are taken for opened
abbrev pub opened_by : Judgement → Cut
opened_by j = flag_in j.opened

-- the nodes that are dark
abbrev pub is_dark_by : Judgement → ℕ → Bool
is_dark_by j = flag_in j.dark

-- whether a device is taken for opened: where it is marked open, and below a live node where opening it costs less
abbrev pub opens : Mark → Bool → ℕ → ℕ → Bool
opens mark dark_above open_cost closed_cost =
    says_opened mark || (not dark_above && (not (says_fine mark) && nat_lt open_cost closed_cost))

-- the flags agree with the rows at a closed device, whose lower end is given: it is opened where its mark or the costs say so, and its lower end is dark where its upper end is dark or it is opened
pub record AgreeAtDevice (g : Parts) (c : Costed) (cut : Cut) (dark : ℕ → Bool) (d low : ℕ) : Type 0 where
  pub opened : cut d ≡ opens (mark_at c.marks d) (dark (other_end (network_of g) d low)) ((device_at g d).weight + (row_at c.rows low).dark) (row_at c.rows low).live
  pub below : dark low ≡ (dark (other_end (network_of g) d low) || cut d)

-- and at a root: it is dark where it is no source
abbrev pub AgreeAtRoot : Parts → (ℕ → Bool) → ℕ → Type 0
AgreeAtRoot g dark n = dark n ≡ not (is_source g n)

-- the flags of a node and of the device that it hangs from agree with the rows: a root is dark where it is no source,
-- and another node where the node above is dark or the device is opened
pub record AgreeAt (g : Parts) (c : Costed) (cut : Cut) (dark : ℕ → Bool) (n : ℕ) : Type 0 where
  pub top : parent_in c.forest.parents n ≡ None → dark n ≡ not (is_source g n)
  pub opened : (d : DeviceId) → parent_in c.forest.parents n ≡ Some d →
      cut d.0 ≡ opens (mark_at c.marks d.0) (dark (other_end (network_of g) d.0 n)) ((device_at g d.0).weight + (row_at c.rows n).dark) (row_at c.rows n).live
  pub below : (d : DeviceId) → parent_in c.forest.parents n ≡ Some d → dark n ≡ (dark (other_end (network_of g) d.0 n) || cut d.0)

-- they agree at every node, and no open device is opened
pub record Agree (g : Parts) (c : Costed) (cut : Cut) (dark : ℕ → Bool) : Type 0 where
  pub at : (n : ℕ) → n < length g.nodes → AgreeAt g c cut dark n
  pub open_ones : (d : ℕ) → d < length g.devices → flag_in c.forest.closed d ≡ false → cut d ≡ false

-- the flags of a judgement agree with the rows
pub record IsJudged (g : Parts) (c : Costed) (j : Judgement) : Type 0 where
  pub sized : IsSized (length g.nodes) (length g.devices) j
  pub agree : Agree g c (opened_by j) (is_dark_by j)

-- a node is flagged dark where the opened devices leave it dark
abbrev pub TellsDark : Problem → Judgement → Type 0
TellsDark p j = (n : ℕ) → n < p.nodes → is_dark_by j n ≡ not (is_live p.net (opened_by j) n)

-- the opened devices are the diagnosis
pub record TellsDiagnosis (p : Problem) (j : Judgement) : Type 0 where
  pub diagnosis : IsDiagnosis p (opened_by j)
  pub within : IsWithin p (opened_by j)
  pub dark : TellsDark p j

-- flags that agree with exact rows tell the diagnosis
abbrev pub JudgedTellsDiagnosis : Type 0
JudgedTellsDiagnosis = (g : Parts) (c : Costed) (j : Judgement) → IsCosted g c → IsJudged g c j → TellsDiagnosis (problem_in g c) j

-- whether two flags differ
abbrev pub differ : Bool → Bool → Bool
differ true b = not b
differ false b = b

-- the numbers of the flags that differ, each once, in rising order
abbrev pub differences : List Bool → List Bool → List ℕ
differences before now = filter (λ k. differ (slice_index_or before k false) (slice_index_or now k false)) (range_with_len 0 (length now))

-- the numbers of the flags that are set, in rising order
abbrev pub flagged : List Bool → List ℕ
flagged flags = filter (λ k. slice_index_or flags k false) (range_with_len 0 (length flags))
