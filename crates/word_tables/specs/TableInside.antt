-- What a table holds.
use Rattle.std.specs.Prelude.{ℕ, Bool, List, Option, Some, map, nat_eq, position}
use Rattle.std.specs.Borrow.{Bor}
use Rattle.std.specs.Option.{option_eq}
use Rattle.std.specs.Str.{bytes_eq}

-- the words as bytes
abbrev pub words_of : List (Bor (List ℕ)) → List (List ℕ)
words_of words = map (λ w. w.now) words

-- the first place of a text
abbrev pub place_inside : List (Bor (List ℕ)) → List ℕ → Option ℕ
place_inside words text = position (λ w. bytes_eq text w.now) words

-- whether this is the first place of its word
abbrev pub is_first_place : List (Bor (List ℕ)) → ℕ × Bor (List ℕ) → Bool
is_first_place words e = option_eq nat_eq (place_inside words e.1.now) (Some e.0)
