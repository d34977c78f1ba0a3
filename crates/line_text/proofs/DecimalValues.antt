-- The numbers that digits write.
use Rattle.std.proofs.Common.{◌≡◌, ◌+◌, ◌-◌, ◌*◌, ◌^◌, ◌<◌, ◌≤◌, ℕ, List, [], ◌∷◌, ◌++◌, length, take, drop, get_or, fold, ap, arith}
use Rattle.std.proofs.lemmas.List.{take-append-drop}
use Rattle.std.proofs.lemmas.List.Sums.{fold-append, fold_more}
use Rattle.event_rules.specs.Decimals.{value_of}

-- the number so far and one more digit
abbrev pub with_digit : ℕ → ℕ → ℕ
with_digit value b = 10 * value + (b - 48)

-- more digits write no smaller number
pub value-le : (a : ℕ) (xs : List ℕ) → a ≤ fold with_digit a xs
value-le a [] = omega arith
value-le a (b ∷ xs) = omega (arith, value-le (with_digit a b) xs)

front-le : (xs : List ℕ) (n : ℕ) → value_of (take n xs) ≤ value_of xs
front-le xs n =
    let whole : fold with_digit 0 (take n xs ++ drop n xs) ≡ value_of xs = ap (fold with_digit 0) (take-append-drop n xs) in
    let parts = fold-append with_digit 0 (take n xs) (drop n xs) in
    omega (arith, value-le (value_of (take n xs)) (drop n xs))

-- a front that is too large makes the whole too large
pub overflows : (xs : List ℕ) (i value : ℕ) → i < length xs → value ≡ value_of (take i xs) → 2 ^ 64 ≤ 10 * value + (get_or xs i 0 - 48) → 2 ^ 64 ≤ value_of xs
overflows xs i value h e large =
    let more : value_of (take (i + 1) xs) ≡ 10 * value_of (take i xs) + (get_or xs i 0 - 48) = fold_more with_digit 0 xs i 0 h in
    omega (arith, front-le xs (i + 1))
