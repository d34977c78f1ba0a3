-- The first place of a byte.
use Rattle.std.proofs.Common.{◌≡◌, ◌+◌, ◌≤◌, true, false, Bool, cond, ℕ, suc, zero, List, [], ◌∷◌, length, take, drop, ◌++◌, ◌-◌, ◌==◌, Some, None, position, ltb, refl, ap, sym, ◌∙◌, inl, inr, arith}
use Rattle.std.specs.List.{list_any, position_or_len}
use Rattle.std.proofs.lemmas.Bool.{cases_Bool, cases_lt, lt-ltb, le-ltb, eqb-true}
use Rattle.std.proofs.lemmas.List.{take-append-drop, drop_more, take_rest}
use Rattle.std.proofs.lemmas.List.Quantifiers.{position-Some}

ltb_more : (m n : ℕ) → ltb (1 + m) (suc n) ≡ ltb m n
ltb_more m n =
    elim (cases_lt m n) [
      | inl less ↦ lt-ltb (1 + m) (suc n) (omega arith) ∙ sym (lt-ltb m n less)
      | inr more ↦ le-ltb (1 + m) (suc n) (omega arith) ∙ sym (le-ltb m n more)
    ]

-- a test passes somewhere where its first place is within the list
list_any-first : (p : ℕ → Bool) (xs : List ℕ) → list_any p xs ≡ ltb (position_or_len p xs) (length xs)
list_any-first p [] = refl
list_any-first p (x ∷ xs) =
    elim (cases_Bool (p x)) [
      | inl here ↦ rw here (sym (lt-ltb 0 (suc (length xs)) (omega arith)))
      | inr later ↦ rw later (list_any-first p xs ∙ sym (ltb_more (position_or_len p xs) (length xs)))
    ]

some_is : (b : Bool) (n k : ℕ) → Some k ≡ cond b (Some n) None → (b ≡ true) × (k ≡ n)
some_is true n k e = (refl, cc)
some_is false n k e = cc

none_is : (b : Bool) (n : ℕ) → None ≡ cond b (Some n) None → b ≡ false
none_is true n e = cc
none_is false n e = refl

-- a test that passes nowhere
pub list_any-none : (p : ℕ → Bool) (xs : List ℕ) → None ≡ position p xs → list_any p xs ≡ false
list_any-none p xs e = list_any-first p xs ∙ none_is (ltb (position_or_len p xs) (length xs)) (position_or_len p xs) e

-- a test that passes somewhere
pub list_any-some : (p : ℕ → Bool) (xs : List ℕ) (k : ℕ) → Some k ≡ position p xs → list_any p xs ≡ true
list_any-some p xs k e =
    list_any-first p xs ∙ (some_is (ltb (position_or_len p xs) (length xs)) (position_or_len p xs) k e).0

before_first : (p : ℕ → Bool) (xs : List ℕ) (k : ℕ) → k ≤ position_or_len p xs → list_any p (take k xs) ≡ false
before_first p xs zero h = refl
before_first p [] (suc k) h = refl
before_first p (x ∷ xs) (suc k) h =
    elim (cases_Bool (p x)) [
      | inl here ↦ let past = rw here at h in absurd (omega arith)
      | inr later ↦ let rest : k ≤ position_or_len p xs = let more = rw later at h in omega arith in rw later (before_first p xs k rest)
    ]

-- before the first place a test doesn't pass
pub list_any-before : (p : ℕ → Bool) (xs : List ℕ) (k : ℕ) → Some k ≡ position p xs → list_any p (take k xs) ≡ false
list_any-before p xs k e =
    let place = (some_is (ltb (position_or_len p xs) (length xs)) (position_or_len p xs) k e).1 in
    before_first p xs k (omega arith)

-- what stands before the first place of a byte, the byte, and what stands behind it
pub cut-whole : (byte : ℕ) (xs : List ℕ) (k : ℕ) → Some k ≡ position (λ b. b == byte) xs → xs ≡ take k xs ++ byte ∷ take (length xs - (k + 1)) (drop (k + 1) xs)
cut-whole byte xs k e =
    let place = position-Some (λ b. b == byte) xs k 0 (sym e) in
    let at_place = drop_more xs k 0 place.0 ∙ ap (λ z. z ∷ drop (k + 1) xs) (eqb-true _ byte place.1) in
    sym (take-append-drop k xs)
    ∙ ap (λ z. take k xs ++ z) (at_place ∙ ap (λ z. byte ∷ z) (sym (take_rest xs (k + 1))))
