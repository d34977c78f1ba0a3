-- What a contract sees of the field: its state, without the room that a call needs.
use Rattle.std.specs.Prelude.{◌≡◌, length}
use Rattle.field_state.specs.declared.field.Field.TheInside.{Inside}
use Rattle.field_state.specs.Fielded.{Fielded}

abbrev pub state_of : Inside → Fielded
state_of f = f.state

-- the room has one entry a node
pub record HasRoomInside (f : Inside) : Type 0 where
  pub below : length f.below.items ≡ length f.state.dark
