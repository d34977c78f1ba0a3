-- Words and their places.
use Rattle.std.specs.Prelude.{ℕ, ◌≡◌, List, Some, slice_get}
use Rattle.word_tables.specs.Tables.{AreDistinct, place_of}

-- where no word stands twice, each is found at its place
abbrev pub WordIsAtPlace : Type 0
WordIsAtPlace = (words : List (List ℕ)) (word : List ℕ) (i : ℕ) → AreDistinct words → slice_get words i ≡ Some word → place_of words word ≡ Some i

-- what is found at a place is the word there
abbrev pub PlaceHasWord : Type 0
PlaceHasWord = (words : List (List ℕ)) (word : List ℕ) (i : ℕ) → place_of words word ≡ Some i → slice_get words i ≡ Some word
