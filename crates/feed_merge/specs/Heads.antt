-- What is left of the feeds while they are merged: of each its first line that isn't taken, and what stands behind it.
use Rattle.std.specs.Prelude.{◌≡◌, ℕ, ◌+◌, ◌≤◌, ◌∷◌, ◌++◌, [], List, length, slice_index_or, Option, Some, None, option_map}
use Rattle.std.specs.List.{sum_by}
use Rattle.event_rules.specs.Lines.{lines}
use Rattle.feed_merge.specs.Merging.{Entry, greatest_second, entries_behind, joined, sorted}
use Rattle.feed_merge.specs.declared.heads.Head.{Head}

-- the last second of the year 9999
abbrev pub last_second : ℕ
last_second = 253402300799

-- the second by which a head waits
abbrev pub key_in : Option Head → Option ℕ
key_in head = option_map (λ h. h.key.0) head

-- a head stands for the rest of a feed
pub record IsRest (feed : ℕ) (head : Head) (entries : List Entry) : Type 0 where
  pub before : List (List ℕ)
  pub key : head.key.0 ≡ greatest_second (before ++ head.line.now ∷ [])
  pub known : head.key.0 ≤ last_second
  pub rest : entries ≡ entries_behind feed before (head.line.now ∷ lines head.behind.now)

-- and no head for nothing
abbrev pub IsLeft : ℕ → Option Head → List Entry → Type 0
IsLeft feed None entries = entries ≡ []
IsLeft feed (Some head) entries = IsRest feed head entries

-- the heads stand for these rests of the feeds
pub record AreLeft (heads : List (Option Head)) (parts : List (List Entry)) : Type 0 where
  pub each : length parts ≡ length heads
  pub left : (feed : ℕ) → IsLeft feed (slice_index_or heads feed None) (slice_index_or parts feed [])

-- the line is the first of these rests, and the heads stand for the others
pub record TakesFirst (parts : List (List Entry)) (line : List ℕ) (heads : List (Option Head)) : Type 0 where
  pub first : Entry
  pub others : List (List Entry)
  pub is : first.line ≡ line
  pub left : AreLeft heads others
  pub least : sorted (joined parts) ≡ first ∷ sorted (joined others)

-- how far a head stands from the end of its feed
abbrev pub bytes_of : Option Head → ℕ
bytes_of None = 0
bytes_of (Some head) = length head.behind.now + 1

abbrev pub bytes_left : List (Option Head) → ℕ
bytes_left heads = sum_by bytes_of heads
