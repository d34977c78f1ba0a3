-- The network of parts whose devices stand open, once they start in their states.
use Rattle.std.specs.Prelude.{◌≡◌, ℕ, Bool, false, List, length, slice_index_or}
use Rattle.outage_rules.specs.Loops.{first_loop}
use Rattle.grid_model.specs.Parts.{Parts}
use Rattle.grid_model.specs.Network.{network_in}
use Rattle.grid_model.specs.Sound.{IsSoundParts}
use Rattle.grid_model.specs.Started.{started}
use Rattle.grid_reader.specs.declared.draft.Draft.{Draft}
use Rattle.grid_reader.specs.Text.{GridReading, unless_looped}

-- the network, unless a device closes a loop: one state and one line a device
abbrev pub started_in : Parts → List Bool → List ℕ → GridReading
started_in g closed device_lines =
    unless_looped (record g { devices = started g.devices closed }) device_lines (first_loop (network_in g (λ d. slice_index_or closed d false)))

-- the parts of a draft
abbrev pub parts_in : Draft → Parts
parts_in draft = record {
  nodes = draft.nodes;
  sources = draft.sources.items;
  devices = draft.devices.items;
  meters = draft.meters.items;
  settings = draft.settings;
}

-- the parts are sound, and each device has its state and its line
pub record IsComplete (draft : Draft) : Type 0 where
  pub sound : IsSoundParts (parts_in draft)
  pub states : length draft.closed.items ≡ length draft.devices.items
  pub lines : length draft.device_lines.items ≡ length draft.devices.items
