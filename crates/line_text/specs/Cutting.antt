-- A text that is cut into its lines byte by byte.
use Rattle.std.specs.Prelude.{◌≡◌, ℕ, ◌+◌, ◌<◌, ◌≤◌, ◌==◌, List, [], ◌∷◌, ◌++◌, length, take, nat_le, Option, Some, None, if◌then◌else◌}
use Rattle.event_rules.specs.Lines.{is_empty, most_line}
use Rattle.line_text.specs.LineEnds.{without_cr}
use Rattle.line_text.specs.declared.cutter.Cut.{Cut}
use Rattle.line_text.specs.declared.cutter.Cut.TheVariants.{More, Line, TooLong}

-- The part at hand is what stands behind the last LF so far.

-- the part at hand behind one more byte
abbrev pub part_with : List ℕ → ℕ → List ℕ
part_with part b = if b == 10 then [] else part ++ b ∷ []

-- the line that ends at a byte: at an LF what stands before it, without a CR as its last byte
abbrev pub line_ended : List ℕ → ℕ → List (List ℕ)
line_ended part b = if b == 10 then without_cr part ∷ [] else []

-- the line that ends with the text: a last part that isn't empty
abbrev pub last_line : List ℕ → List (List ℕ)
last_line part = if is_empty part then [] else part ∷ []

-- the lines that end behind a part at hand
unfoldable pub lines_from : List ℕ → List ℕ → List (List ℕ)
lines_from part [] = last_line part
lines_from part (b ∷ rest) = line_ended part b ++ lines_from (part_with part b) rest

-- the lines that end in more bytes, behind a part at hand
unfoldable pub ended_from : List ℕ → List ℕ → List (List ℕ)
ended_from part [] = []
ended_from part (b ∷ rest) = line_ended part b ++ ended_from (part_with part b) rest

-- the part at hand behind more bytes
unfoldable pub part_from : List ℕ → List ℕ → List ℕ
part_from part [] = part
part_from part (b ∷ rest) = part_from (part_with part b) rest

-- what a cutter has: the part at hand, or none where it is too long to be held, the last answer, and the last line
pub record Cutting : Type 0 where
  pub part : Option (List ℕ)
  pub last : Cut
  pub line : List ℕ

-- a part is held while it may become a line: one byte more than the longest, which may be a CR before an LF
abbrev pub part_held : List ℕ → Option (List ℕ)
part_held part = if nat_le (length part) (most_line + 1) then Some part else None

-- the first so many bytes, as long as a part of that length is held
abbrev pub front_held : List ℕ → ℕ → Option (List ℕ)
front_held bytes count = if nat_le count (most_line + 1) then Some (take count bytes) else None

-- the part at hand of a cutter: exactly this one, or one that is too long like this one
abbrev pub IsAtPart : Cutting → List ℕ → Type 0
IsAtPart cutter part = cutter.part ≡ part_held part

-- the answer where these lines end: none, or one that is too long or not
abbrev pub answer_to : List (List ℕ) → Cut
answer_to [] = More
answer_to (line ∷ rest) = if nat_le (length line) most_line then Line else TooLong

-- an answer and a line tell which line ends: none, this one, or one that is too long
abbrev pub Tells : Cut → List ℕ → List (List ℕ) → Type 0
Tells More line ended = ended ≡ []
Tells Line line ended = (ended ≡ line ∷ []) × (length line ≤ most_line)
Tells TooLong line ended = (long : List ℕ) × (ended ≡ long ∷ []) × (most_line < length long)
