-- What a pass over the fed nodes leaves: rows from the last node to the first.
use Rattle.std.specs.Prelude.{ℕ, ◌+◌, min, if◌then◌else◌}
use Rattle.outage_rules.specs.Certificate.{Table, other_end}
use Rattle.grid_model.specs.declared.parts.DeviceId.{DeviceId}
use Rattle.grid_model.specs.declared.history.Mark.{Mark}
use Rattle.grid_model.specs.Parts.{Parts}
use Rattle.grid_model.specs.Places.{device_at}
use Rattle.grid_model.specs.Network.{network_of}
use Rattle.grid_model.specs.Problem.{says_opened, says_fine}
use Rattle.radial_forest.specs.Traversed.{Traversed, table_with}
use Rattle.diagnosis.specs.declared.above.Above.{Above}

-- a device that leads down to a node, with its weight and its other end
abbrev pub above_by : Parts → ℕ → DeviceId → Above
above_by g n d = record {
  device = d;
  weight = (device_at g d.0).weight;
  node = record { 0 = other_end (network_of g) d.0 n };
}

-- what a device adds to the row of the node above it: where that node is live, by the row of the node below
abbrev pub live_added : Mark → ℕ → ℕ → ℕ → ℕ
live_added mark weight live dark =
    if says_opened mark then weight + dark
    else (if says_fine mark then live else min (weight + dark) live)

-- and where it is dark
abbrev pub dark_added : Mark → ℕ → ℕ → ℕ
dark_added mark weight dark = dark + (if says_opened mark then weight else 0)

-- the table of these rows over the reached nodes
abbrev pub with_rows : Traversed → (ℕ → ℕ) → (ℕ → ℕ) → Table
with_rows v live dark = table_with v.parents v.depths live dark
