-- Appending in pieces.
use Rattle.std.specs.Prelude.{◌≡◌, ◌≤◌, ◌<◌, ◌↔◌, [], ◌+◌, ◌-◌, ℕ, List, ◌++◌, length, take, drop, min, Option, None, Some}
use Rattle.std.specs.Io.KnownBytes.{Appends}
use Rattle.std.proofs.Common.{sym, ◌∙◌, ap, subst, append_assoc, arith}
use Rattle.std.proofs.Math.Seq.{take-add}
use Rattle.std.proofs.lemmas.List.{take_rest, nil_from_length, take-append-drop, drop-drop}
use Rattle.std.proofs.lemmas.Grind.{common_steps}

-- n bytes of the piece were appended, and then m of those behind them
pub appends_more : (a b c : Option (List ℕ)) (xs : List ℕ) (n m : ℕ) → Appends a b (take n xs) → Appends b c (take m (drop n xs)) → Appends a c (take (n + m) xs)
appends_more None b c xs n m h k = tt
appends_more (Some a) None c xs n m h k = absurd h
appends_more (Some a) (Some b) None xs n m h k = absurd k
appends_more (Some a) (Some b) (Some c) xs n m h k =
    k ∙ ap (λ z. z ++ take m (drop n xs)) h ∙ append_assoc a (take n xs) (take m (drop n xs)) ∙ ap (λ z. a ++ z) (sym (take-add n m xs))

-- the same, where the rest is the slice `&piece[n..]`
pub appends_slice : (a b c : Option (List ℕ)) (xs : List ℕ) (n m : ℕ) → Appends a b (take n xs) → Appends b c (take m (take (length xs - n) (drop n xs))) → Appends a c (take (n + m) xs)
appends_slice a b c xs n m h k =
    appends_more a b c xs n m h (let P : List ℕ → Type 0 = λ z. Appends b c (take m z) in subst P (take_rest xs n) k)

-- a count that is at most that slice's length leads to no place past the end
pub slice_bound : (xs : List ℕ) (n m : ℕ) → n ≤ length xs → m ≤ length (take (length xs - n) (drop n xs)) → n + m ≤ length xs
slice_bound xs n m h k = grind (arith, common_steps)

-- n bytes from a place on, of which the slice `&bytes[place..]` has as many, and what stands behind them
pub next_piece : (xs given : List ℕ) (place n : ℕ) → take n given ≡ take n (take (length xs - place) (drop place xs)) → drop place xs ≡ take n given ++ drop (place + n) xs
next_piece xs given place n h =
    let cut : take n given ≡ take n (drop place xs) = h ∙ ap (λ z. take n z) (take_rest xs place) in
    sym (take-append-drop n (drop place xs)) ∙ ap (λ z. z ++ drop n (drop place xs)) (sym cut) ∙ ap (λ z. take n given ++ z) (drop-drop n place xs)

-- nothing is copied exactly where nothing is left
pub end_of_piece : (xs : List ℕ) (place room piece n : ℕ) → n ≡ min (min (length (take (length xs - place) (drop place xs))) room) piece → 0 < room → 0 < piece → (n ≡ 0) ↔ (drop place xs ≡ [])
end_of_piece xs place room piece n e r p =
    let whole : length (take (length xs - place) (drop place xs)) ≡ length (drop place xs) = ap length (take_rest xs place) in
    (λ z. nil_from_length (drop place xs) (omega arith), λ z. let none : length (drop place xs) ≡ 0 = ap length z in omega arith)
