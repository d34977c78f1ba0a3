-- How a shelf in memory keeps the file that was started.
use Rattle.std.specs.Prelude.{List, Option, None, Some, option_map, slice_get}
use Rattle.outage_ports.specs.MemoryShelf as shelf
use Rattle.outage_ports.specs.declared.memory_shelf.Started.{Started}

-- the file at that index, from that place on
abbrev pub started_file : List shelf.File → Option Started → Option shelf.Started
started_file files None = None
started_file files (Some at) = option_map (shelf.started_at at.place) (slice_get files at.index)
