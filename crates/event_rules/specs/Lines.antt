-- The lines of a text.
use Rattle.std.specs.Prelude.{ℕ, Bool, true, false, ◌==◌, ◌&&◌, ◌||◌, List, [], ◌∷◌, length, nat_le}

abbrev pub is_empty : List ℕ → Bool
is_empty [] = true
is_empty (b ∷ rest) = false

abbrev pub begins_with : ℕ → List ℕ → Bool
begins_with b [] = false
begins_with b (c ∷ rest) = c == b

-- a byte in front of the first line, or as the only line where there is none
abbrev pub in_front : ℕ → List (List ℕ) → List (List ℕ)
in_front b [] = (b ∷ []) ∷ []
in_front b (line ∷ behind) = (b ∷ line) ∷ behind

-- a byte before the lines of what stands behind it: an LF ends a line, and a CR directly before an LF belongs to that end
abbrev pub lines_with : Bool → Bool → ℕ → List (List ℕ) → List (List ℕ)
lines_with true is_cr b behind = [] ∷ behind
lines_with false true b behind = behind
lines_with false false b behind = in_front b behind

-- a text is cut at each LF, and a last part that isn't empty is a line too
unfoldable pub lines : List ℕ → List (List ℕ)
lines [] = []
lines (b ∷ rest) = lines_with (b == 10) ((b == 13) && begins_with 10 rest) b (lines rest)

-- a line without its end has at most so many bytes
abbrev pub most_line : ℕ
most_line = 512

-- an empty line, and one that begins with `#` and isn't too long
abbrev pub is_skipped : List ℕ → Bool
is_skipped line = is_empty line || (begins_with 35 line && nat_le (length line) most_line)
