-- What a contract sees of the state of the field, which is kept in flat vectors.
use Rattle.std.specs.Prelude.{◌≡◌, length}
use Rattle.field_state.specs.declared.state.State.TheInside.{Inside}
use Rattle.field_state.specs.Fielded.{Fielded}

-- the clock, the costs, the evidence, the times by key, and the places
abbrev pub fielded_of : Inside → Fielded
fielded_of f = record {
  now = f.clock.0;
  applied = f.applied;
  costs = f.costs;
  evidence = f.evidence;
  due = f.due;
  places = f.places.nodes;
}

-- each node may be a place
pub record HasPlacesInside (f : Inside) : Type 0 where
  pub room : f.places.room ≡ length f.costs.dark
