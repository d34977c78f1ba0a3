-- The lines of a report.
use Rattle.std.specs.Prelude.{ℕ, ◌==◌, List, [], ◌∷◌, ◌++◌, if◌then◌else◌}

-- the lines of a text behind the part of a line that is at hand: each ends with an LF
unfoldable pub ended_from : List ℕ → List ℕ → List (List ℕ)
ended_from part [] = []
ended_from part (b ∷ rest) = if b == 10 then part ∷ ended_from [] rest else ended_from (part ++ b ∷ []) rest

-- what stands behind the last LF, which ends no line
unfoldable pub unended_from : List ℕ → List ℕ → List ℕ
unended_from part [] = part
unended_from part (b ∷ rest) = if b == 10 then unended_from [] rest else unended_from (part ++ b ∷ []) rest

-- the lines of a whole text
abbrev pub ended_lines : List ℕ → List (List ℕ)
ended_lines text = ended_from [] text

-- what stands behind the last line of a whole text
abbrev pub unended_part : List ℕ → List ℕ
unended_part text = unended_from [] text
