-- Numbers that are listed one after another where a test passes.
use Rattle.std.proofs.Common.{◌≡◌, ℕ, ◌+◌, Bool, true, false, cond, refl, sym, ap, ◌∙◌, arith, List, [], ◌∷◌, ◌++◌, map}
use Rattle.std.specs.List.{filter, range_with_len}
use Rattle.std.proofs.lemmas.List.{map-append, append-nil}
use Rattle.std.proofs.lemmas.List.FromFn.{filter_of_map_range_with_len_more}

map_same : (xs : List ℕ) → map (λ x. x) xs ≡ xs
map_same [] = refl
map_same (x ∷ xs) = ap (λ ys. x ∷ ys) (map_same xs)

-- one more number is tested
pub filter_next : (test : ℕ → Bool) (n : ℕ) → filter test (range_with_len 0 (n + 1)) ≡ filter test (range_with_len 0 n) ++ cond (test n) (n ∷ []) []
filter_next test n =
    ap (filter test) (sym (map_same (range_with_len 0 (n + 1))))
    ∙ filter_of_map_range_with_len_more test (λ x. x) 0 n n (omega arith)
    ∙ ap (λ xs. filter test xs ++ cond (test n) (n ∷ []) []) (map_same (range_with_len 0 n))

-- it passes, and is listed
pub listed_push : {X : Type 0} (number : X → ℕ) (test : ℕ → Bool) (xs : List X) (n : ℕ) (x : X) → number x ≡ n → test n ≡ true
    → map number xs ≡ filter test (range_with_len 0 n) → map number (xs ++ x ∷ []) ≡ filter test (range_with_len 0 (n + 1))
listed_push number test xs n x is passes before =
    map-append number xs (x ∷ [])
    ∙ ap (λ ys. ys ++ number x ∷ []) before
    ∙ ap (λ k. filter test (range_with_len 0 n) ++ k ∷ []) is
    ∙ sym (filter_next test n ∙ ap (λ b. filter test (range_with_len 0 n) ++ cond b (n ∷ []) []) passes)

-- or it doesn't
pub passed_over : (test : ℕ → Bool) (xs : List ℕ) (n : ℕ) → test n ≡ false → xs ≡ filter test (range_with_len 0 n) → xs ≡ filter test (range_with_len 0 (n + 1))
passed_over test xs n fails before =
    before
    ∙ sym (append-nil (filter test (range_with_len 0 n)))
    ∙ sym (filter_next test n ∙ ap (λ b. filter test (range_with_len 0 n) ++ cond b (n ∷ []) []) fails)
