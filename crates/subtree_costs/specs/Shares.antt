-- What a device and the row below it add to the row of the node above.
use Rattle.std.specs.Prelude.{ℕ, ◌+◌, min, List, slice_index_or, if◌then◌else◌}
use Rattle.outage_rules.specs.Certificate.{other_end}
use Rattle.grid_model.specs.declared.parts.DeviceId.{DeviceId}
use Rattle.grid_model.specs.declared.history.Mark.{Mark}
use Rattle.grid_model.specs.Parts.{Parts}
use Rattle.grid_model.specs.Places.{device_at}
use Rattle.grid_model.specs.Network.{network_of}
use Rattle.grid_model.specs.Problem.{says_opened, says_fine}
use Rattle.subtree_costs.specs.declared.above.Above.{Above}
use Rattle.subtree_costs.specs.declared.rows.Row.{Row}

abbrev pub no_row : Row
no_row = record { live = 0; dark = 0 }

-- the row of a node
abbrev pub row_at : List Row → ℕ → Row
row_at rows n = slice_index_or rows n no_row

-- a device that leads down to a node, with its weight and its other end
abbrev pub above_by : Parts → ℕ → DeviceId → Above
above_by g n d = record {
  device = d;
  weight = (device_at g d.0).weight;
  node = record { 0 = other_end (network_of g) d.0 n };
}

-- what a device adds where the node above is live, and where it is dark
abbrev pub share_of : Mark → ℕ → Row → Row
share_of mark weight row = record {
  live = if says_opened mark then weight + row.dark
      else (if says_fine mark then row.live else min (weight + row.dark) row.live);
  dark = row.dark + (if says_opened mark then weight else 0);
}
