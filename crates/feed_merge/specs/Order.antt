-- The order of the merged lines, in words.
use Rattle.std.specs.Prelude.{◌≡◌, ◌<◌, ◌⊎◌, List, [], ◌∷◌, ⊤}
use Rattle.std.specs.List.{All}
use Rattle.feed_merge.specs.Merging.{Entry}

-- at a lesser key, or at the same by a lesser feed, or in the same feed by a lesser number
abbrev pub ComesBefore : Entry → Entry → Type 0
ComesBefore entry other =
    (entry.key < other.key)
    ⊎ ((entry.key ≡ other.key) × ((entry.feed < other.feed) ⊎ ((entry.feed ≡ other.feed) × (entry.number < other.number))))

-- each line comes before all those behind it
abbrev pub Ascends : List Entry → Type 0
Ascends [] = ⊤
Ascends (entry ∷ rest) = All (ComesBefore entry) rest × Ascends rest
