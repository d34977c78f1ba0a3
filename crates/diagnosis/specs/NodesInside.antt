-- What a contract sees of the watched flags of nodes that are kept in flat vectors.
use Rattle.std.specs.Prelude.{◌≡◌, ◌≤◌, length, take, slice_index}
use Rattle.grid_model.specs.declared.parts.NodeId.{NodeId}
use Rattle.radial_forest.specs.Traversed.{node_at}
use Rattle.diagnosis.specs.declared.node_flags.NodeFlags.TheInside.{Inside}
use Rattle.diagnosis.specs.Watched.{Watched, differ_at}
use Rattle.diagnosis.specs.Places.{HavePlaces}

abbrev pub watched_nodes : Inside → Watched NodeId
watched_nodes f = record { flags = f.flags.items; begun = f.begun.items; named = take f.count f.named.items }

-- all vectors have one entry a node, and the nodes whose flags differ stand in the first places of the list
pub record AreWatchedNodes (f : Inside) : Type 0 where
  pub begun : length f.begun.items ≡ length f.flags.items
  pub named : length f.named.items ≡ length f.flags.items
  pub places : length f.places.items ≡ length f.flags.items
  pub count : f.count ≤ length f.flags.items
  pub kept : HavePlaces (differ_at f.begun.items f.flags.items) f.count (node_at f.named.items) (slice_index f.places.items)
