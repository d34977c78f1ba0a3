-- Lists of what numbers that pass a test stand for.
use Rattle.std.proofs.Common.{◌≡◌, ℕ, zero, suc, ◌+◌, ◌<◌, Bool, true, false, cond, refl, sym, ap, ◌∙◌, arith, List, [], ◌∷◌, ◌++◌, get_or, map}
use Rattle.std.specs.Prelude.{All, AllPairs}
use Rattle.std.specs.List.{filter, range_with_len}
use Rattle.std.proofs.lemmas.Bool.{false≢true}
use Rattle.std.proofs.lemmas.List.{get_or-map, length-map, map-append, map-id, append-nil}
use Rattle.std.proofs.lemmas.List.Elements.{All-filter}
use Rattle.std.proofs.lemmas.List.Kept.{AllPairs-filter}
use Rattle.std.proofs.lemmas.List.FromFn.{length-range_with_len, get_or-range_with_len, filter_of_map_range_with_len_more}

-- where the tests agree, and what stands for a number that passes
kept : {X : Type 0} (b c : Bool) (r s : ℕ → X) (k : ℕ) (xs ys : List ℕ) → b ≡ c → (b ≡ true → r k ≡ s k) → map r xs ≡ map s ys → map r (cond b (k ∷ xs) xs) ≡ map s (cond c (k ∷ ys) ys)
kept true true r s k xs ys e h rest = ap (λ x. x ∷ map r xs) (h refl) ∙ ap (λ zs. s k ∷ zs) rest
kept true false r s k xs ys e h rest = absurd (false≢true (sym e))
kept false true r s k xs ys e h rest = absurd (false≢true e)
kept false false r s k xs ys e h rest = rest

pub same_listed : {X : Type 0} (f g : ℕ → Bool) (r s : ℕ → X) (a n : ℕ) → ((k : ℕ) → k < a + n → f k ≡ g k) → ((k : ℕ) → k < a + n → f k ≡ true → r k ≡ s k)
    → map r (filter f (range_with_len a n)) ≡ map s (filter g (range_with_len a n))
same_listed f g r s a zero agree same = refl
same_listed f g r s a (suc n) agree same =
    kept (f a) (g a) r s a (filter f (range_with_len (a + 1) n)) (filter g (range_with_len (a + 1) n)) (agree a (omega arith)) (same a (omega arith))
    (same_listed f g r s (a + 1) n (λ k l. agree k (omega arith)) (λ k l. same k (omega arith)))

-- one more number is tested
filter_next : (test : ℕ → Bool) (n : ℕ) → filter test (range_with_len 0 (n + 1)) ≡ filter test (range_with_len 0 n) ++ cond (test n) (n ∷ []) []
filter_next test n =
    ap (filter test) (sym (map-id (range_with_len 0 (n + 1))))
    ∙ filter_of_map_range_with_len_more test (λ x. x) 0 n n (omega arith)
    ∙ ap (λ xs. filter test xs ++ cond (test n) (n ∷ []) []) (map-id (range_with_len 0 n))

-- it passes, and what it stands for is listed
pub listed_push : {X : Type 0} (r : ℕ → X) (test : ℕ → Bool) (n : ℕ) → test n ≡ true
    → map r (filter test (range_with_len 0 n)) ++ r n ∷ [] ≡ map r (filter test (range_with_len 0 (n + 1)))
listed_push r test n passes =
    sym (map-append r (filter test (range_with_len 0 n)) (n ∷ []))
    ∙ sym (ap (map r) (filter_next test n ∙ ap (λ b. filter test (range_with_len 0 n) ++ cond b (n ∷ []) []) passes))

-- or it doesn't
pub passed_over : {X : Type 0} (r : ℕ → X) (test : ℕ → Bool) (n : ℕ) → test n ≡ false
    → map r (filter test (range_with_len 0 n)) ≡ map r (filter test (range_with_len 0 (n + 1)))
passed_over r test n fails =
    sym (ap (map r) (filter_next test n ∙ ap (λ b. filter test (range_with_len 0 n) ++ cond b (n ∷ []) []) fails ∙ append-nil (filter test (range_with_len 0 n))))

-- numbers of a range are below its end, and rise
range_below : (n : ℕ) → All (λ k. k < n) (range_with_len 0 n)
range_below n k d l =
    let size = length-range_with_len 0 n in
    let is = get_or-range_with_len 0 n k d (omega arith) in omega arith

range_rises : (n : ℕ) → AllPairs (λ a b. a < b) (range_with_len 0 n)
range_rises n i j d less l =
    let size = length-range_with_len 0 n in
    let x = get_or-range_with_len 0 n i d (omega arith) in
    let y = get_or-range_with_len 0 n j d (omega arith) in omega arith

pub kept_below : (test : ℕ → Bool) (n : ℕ) → All (λ k. k < n) (filter test (range_with_len 0 n))
kept_below test n = All-filter test (λ k. k < n) (range_with_len 0 n) (range_below n)

-- and so do those of what stands for them
pub kept_rise : {X : Type 0} (number : X → ℕ) (r : ℕ → X) (test : ℕ → Bool) (n : ℕ) → ((k : ℕ) → number (r k) ≡ k)
    → AllPairs (λ a b. number a < number b) (map r (filter test (range_with_len 0 n)))
kept_rise number r test n is i j d less l =
    let xs = filter test (range_with_len 0 n) in
    let size = length-map xs r in
    let rise = AllPairs-filter (λ a b. a < b) test (range_with_len 0 n) (range_rises n) i j 0 less (omega arith) in
    let x = ap number (get_or-map r xs i 0 d (omega arith)) ∙ is (get_or xs i 0) in
    let y = ap number (get_or-map r xs j 0 d (omega arith)) ∙ is (get_or xs j 0) in omega arith
