-- The lines of several feeds in one list, by time.
use Rattle.std.specs.Prelude.{ℕ, Bool, ◌+◌, ◌==◌, ◌&&◌, ◌||◌, List, [], ◌∷◌, ◌++◌, length, max, nat_lt, unwrap_or, if◌then◌else◌}
use Rattle.std.specs.List.{flat_map}
use Rattle.event_rules.specs.Lines.{lines}
use Rattle.event_rules.specs.Stamps.{stamp_of}

-- what stands before the first comma of a line, and all of it where it has none
unfoldable pub first_field : List ℕ → List ℕ
first_field [] = []
first_field (b ∷ rest) = if b == 44 then [] else b ∷ first_field rest

-- the second that a line's first field names, and 0 where it is no stamp
unfoldable pub second_of : List ℕ → ℕ
second_of line = unwrap_or (stamp_of (first_field line)) 0

-- the greatest second of these lines, and 0 of none
unfoldable pub greatest_second : List (List ℕ) → ℕ
greatest_second [] = 0
greatest_second (line ∷ rest) = max (second_of line) (greatest_second rest)

-- a line of a feed
pub record Entry : Type 0 where
  -- the greatest second of the feed's lines up to this one
  pub key : ℕ
  pub feed : ℕ
  -- how many lines of the feed stand before it
  pub number : ℕ
  pub line : List ℕ

-- the line of a feed that stands behind these
abbrev pub entry_behind : ℕ → List (List ℕ) → List ℕ → Entry
entry_behind feed before line =
    record { key = greatest_second (before ++ line ∷ []); feed = feed; number = length before; line = line }

-- the lines of a feed that stand behind others
unfoldable pub entries_behind : ℕ → List (List ℕ) → List (List ℕ) → List Entry
entries_behind feed before [] = []
entries_behind feed before (line ∷ behind) = entry_behind feed before line ∷ entries_behind feed (before ++ line ∷ []) behind

-- all lines of a feed, in their order
abbrev pub entries_of : ℕ → List ℕ → List Entry
entries_of feed text = entries_behind feed [] (lines text)

-- those of each feed, from a feed's number on
abbrev pub entries_by_feed : ℕ → List (List ℕ) → List (List Entry)
entries_by_feed feed [] = []
entries_by_feed feed (text ∷ texts) = entries_of feed text ∷ entries_by_feed (feed + 1) texts

abbrev pub joined : List (List Entry) → List Entry
joined parts = flat_map (λ part. part) parts

-- those of all feeds, one feed behind the other
abbrev pub all_entries : List (List ℕ) → List Entry
all_entries feeds = joined (entries_by_feed 0 feeds)

-- by key, then by feed, then by the number in the feed
unfoldable pub comes_before : Entry → Entry → Bool
comes_before entry other =
    nat_lt entry.key other.key
    || ((entry.key == other.key)
    && (nat_lt entry.feed other.feed || ((entry.feed == other.feed) && nat_lt entry.number other.number)))

-- a line put in front of the first that it comes before
unfoldable pub put_in : Entry → List Entry → List Entry
put_in entry [] = entry ∷ []
put_in entry (first ∷ rest) = if comes_before entry first then entry ∷ first ∷ rest else first ∷ put_in entry rest

-- each line put in among those behind it
unfoldable pub sorted : List Entry → List Entry
sorted [] = []
sorted (entry ∷ rest) = put_in entry (sorted rest)

-- all lines of all feeds, those too that say nothing or that are refused
abbrev pub merged_list : List (List ℕ) → List Entry
merged_list feeds = sorted (all_entries feeds)

-- a line with a CR and an LF behind it, so that a CR at the end of a line stays
abbrev pub ended : List ℕ → List ℕ
ended line = line ++ 13 ∷ 10 ∷ []

abbrev pub text_of : List Entry → List ℕ
text_of entries = flat_map (λ entry. ended entry.line) entries

abbrev pub merged_text : List (List ℕ) → List ℕ
merged_text feeds = text_of (merged_list feeds)
