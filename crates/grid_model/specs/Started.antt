-- The devices of a network in other starting states.
use Rattle.std.specs.Prelude.{Bool, List, [], ◌∷◌}
use Rattle.grid_model.specs.declared.parts.Device.{Device}

-- each device starts as the flag of its number says: closed, or open
abbrev pub started : List Device → List Bool → List Device
started [] closed = []
started (d ∷ devices) [] = d ∷ devices
started (d ∷ devices) (c ∷ closed) = record d { starts_closed = c } ∷ started devices closed
