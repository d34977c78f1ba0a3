-- Which entries of a queue are due, and which comes first: one time a key, none where the key has no entry.
use Rattle.std.specs.Prelude.{◌≡◌, ◌≢◌, ℕ, ◌<◌, ◌≤◌, ◌⊎◌, List, Option, Some, None, slice_index_or}

-- the key has an entry at this time
abbrev pub HasTime : List (Option ℕ) → ℕ → ℕ → Type 0
HasTime times key t = slice_index_or times key None ≡ Some t

-- the key's time is at most now
abbrev pub IsDue : List (Option ℕ) → ℕ → ℕ → Type 0
IsDue times now key = (t : ℕ) × HasTime times key t × (t ≤ now)

-- no key is due
abbrev pub IsNothingDue : List (Option ℕ) → ℕ → Type 0
IsNothingDue times now = (key : ℕ) → IsDue times now key → ⊥

-- an entry comes before another: at an earlier time, or at the same time by a lesser key
abbrev pub ComesBefore : ℕ → ℕ → ℕ → ℕ → Type 0
ComesBefore t key u other = (t < u) ⊎ ((t ≡ u) × (key < other))

-- the key is due, and its entry comes before that of every other key
abbrev pub IsFirstDue : List (Option ℕ) → ℕ → ℕ → Type 0
IsFirstDue times now key =
    (t : ℕ) × HasTime times key t × (t ≤ now)
    × ((other u : ℕ) → HasTime times other u → other ≢ key → ComesBefore t key u other)
