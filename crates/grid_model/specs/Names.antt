-- Names in the order of their first mention.
use Rattle.std.specs.Prelude.{◌≡◌, Bool, false, ℕ, List, [], ◌∷◌, ◌++◌, if◌then◌else◌, AllPairs}
use Rattle.std.specs.List.{list_any, position_or_len}
use Rattle.std.specs.Str.{bytes_eq}

abbrev pub name_eq : List ℕ → List ℕ → Bool
name_eq a b = bytes_eq a b

-- whether the name is among these
abbrev pub is_among : List (List ℕ) → List ℕ → Bool
is_among names name = list_any (name_eq name) names

-- the names after one more mention
abbrev pub mentioned : List (List ℕ) → List ℕ → List (List ℕ)
mentioned names name = if is_among names name then names else names ++ name ∷ []

-- the number of a name that is among these: its place
abbrev pub number_of : List (List ℕ) → List ℕ → ℕ
number_of names name = position_or_len (name_eq name) names

-- no name stands twice
abbrev pub AreDistinct : List (List ℕ) → Type 0
AreDistinct names = AllPairs (λ a b. name_eq a b ≡ false) names
