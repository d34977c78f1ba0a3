-- What a contract sees of a network: its parts.
use Rattle.grid_model.specs.declared.grid.Grid.TheInside.{Inside}
use Rattle.grid_model.specs.Parts.{Parts}
use Rattle.grid_model.specs.Indexed.{IsIndexed}

abbrev pub parts_of : Inside → Parts
parts_of g = record {
  nodes = g.nodes;
  sources = g.sources.items;
  devices = g.devices.items;
  meters = g.meters.items;
  settings = g.settings;
}

abbrev pub IsIndexedInside : Inside → Type 0
IsIndexedInside g =
    IsIndexed (parts_of g) g.source_flags.items g.device_names g.meter_names (record { incident = g.incident; standing = g.standing }) g.customers
