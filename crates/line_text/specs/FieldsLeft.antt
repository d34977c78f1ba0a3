-- The fields that are left of a line.
use Rattle.std.specs.Prelude.{ℕ, List, [], Option, Some, None}
use Rattle.event_rules.specs.Fields.{between_commas}

-- those of what stands behind the last comma that was read, and none behind the last field
abbrev pub fields_left : Option (List ℕ) → List (List ℕ)
fields_left None = []
fields_left (Some rest) = between_commas rest
