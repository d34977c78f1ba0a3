-- What a contract sees of the list of places that is kept in flat vectors.
use Rattle.std.specs.Prelude.{◌≡◌, ◌≢◌, ℕ, ◌<◌, ◌≤◌, true, false, length, take, slice_index_or}
use Rattle.radial_forest.specs.Traversed.{node_at}
use Rattle.field_state.specs.declared.places.Places.TheInside.{Inside}
use Rattle.field_state.specs.Placed.{Placed}

abbrev pub placed_of : Inside → Placed
placed_of f = record { room = length f.listed.items; nodes = take f.count f.nodes.items }

-- there is room for each node, and what is flagged stands in the first places of the list, each once
pub record AreListed (f : Inside) : Type 0 where
  pub long : length f.nodes.items ≡ length f.listed.items
  pub count : f.count ≤ length f.listed.items
  pub each : (i : ℕ) → i < f.count → slice_index_or f.listed.items (node_at f.nodes.items i) false ≡ true
  pub all : (n : ℕ) → slice_index_or f.listed.items n false ≡ true → (i : ℕ) × (i < f.count) × (node_at f.nodes.items i ≡ n)
  pub once : (i j : ℕ) → i < j → j < f.count → node_at f.nodes.items i ≢ node_at f.nodes.items j
