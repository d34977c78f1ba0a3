-- The fields of a line.
use Rattle.std.specs.Prelude.{ℕ, Bool, ◌==◌, ◌||◌, List, [], ◌∷◌, ◌++◌, if◌then◌else◌, nat_eq}
use Rattle.std.specs.List.{list_any, starts_with}
use Rattle.event_rules.specs.Lines.{is_empty}

-- the part at hand, and what stands between the commas behind it
unfoldable pub parts_from : List ℕ → List ℕ → List (List ℕ)
parts_from part [] = part ∷ []
parts_from part (b ∷ rest) = if b == 44 then part ∷ parts_from [] rest else parts_from (part ++ b ∷ []) rest

-- what stands between the commas of a line
abbrev pub between_commas : List ℕ → List (List ℕ)
between_commas line = parts_from [] line

-- a double quote, a CR or an LF, which no field may hold
abbrev pub is_barred : ℕ → Bool
is_barred b = (b == 34) || ((b == 13) || (b == 10))

-- a byte order mark at the front
abbrev pub begins_with_mark : List ℕ → Bool
begins_with_mark line = starts_with nat_eq line (0xEF ∷ 0xBB ∷ 0xBF ∷ [])

-- an empty line has no fields, nor has one that begins with a byte order mark or holds a barred byte
abbrev pub has_no_fields : List ℕ → Bool
has_no_fields line = is_empty line || (begins_with_mark line || list_any is_barred line)
