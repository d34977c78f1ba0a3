-- The lines of an output.
use Rattle.std.specs.Prelude.{ℕ, List, [], ◌∷◌, ◌++◌}
use Rattle.std.specs.List.{join_with_byte}

-- words with commas between them, and the end of the line
abbrev pub row : List (List ℕ) → List ℕ
row words = join_with_byte 44 words ++ 10 ∷ []
