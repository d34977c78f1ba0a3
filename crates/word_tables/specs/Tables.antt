-- The words of a table, by their places.
use Rattle.std.specs.Prelude.{ℕ, ◌≢◌, List, Option, AllPairs, position}
use Rattle.std.specs.Str.{bytes_eq}

-- no word stands twice
abbrev pub AreDistinct : List (List ℕ) → Type 0
AreDistinct words = AllPairs (λ a b. a ≢ b) words

-- the first place whose word has these bytes
abbrev pub place_of : List (List ℕ) → List ℕ → Option ℕ
place_of words text = position (bytes_eq text) words
