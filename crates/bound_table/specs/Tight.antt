-- The bounds that show the least cost of a problem.
use Rattle.std.specs.Prelude.{ℕ, List, map, filter, Some, None, if◌then◌else◌}
use Rattle.std.specs.List.{range_with_len}
use Rattle.outage_rules.specs.Network.{Problem}
use Rattle.outage_rules.specs.Certificate as certificate
use Rattle.outage_rules.specs.Reference.{table_of, reference_cut, least_cost}
use Rattle.grid_model.specs.declared.parts.DeviceId.{DeviceId}
use Rattle.bound_table.specs.declared.bounds.BoundRow.{BoundRow}
use Rattle.bound_table.specs.Table.{Table}

-- the row of a listed node
abbrev pub row_at : Problem → certificate.Table → ℕ → BoundRow
row_at p t n = record {
  node = record { 0 = n };
  parent = if p.is_source n then None else Some (record { 0 = t.parent n });
  depth = t.depth n;
  live = t.live_cost n;
  dark = t.dark_cost n;
}

-- the devices of the diagnosis, by number
abbrev pub cuts_of : Problem → List DeviceId
cuts_of p = map (λ d. record { 0 = d }) (filter (reference_cut p) (range_with_len 0 p.devices))

-- the rows of the fed nodes, by number, each all that its child rows allow
abbrev pub rows_of : Problem → certificate.Table → List BoundRow
rows_of p t = map (row_at p t) (filter t.is_listed (range_with_len 0 p.nodes))

unfoldable pub tight_bounds : Problem → Table
tight_bounds p = record { cost = least_cost p; cuts = cuts_of p; rows = rows_of p (table_of p) }
