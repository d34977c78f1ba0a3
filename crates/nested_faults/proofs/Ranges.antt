-- Searches and filters over a range of numbers.
use Rattle.std.proofs.Common.{◌≡◌, ℕ, zero, suc, ◌+◌, ◌<◌, ◌≤◌, Bool, true, false, cond, refl, ap, ◌∙◌, ⊎_elim, arith, List, [], ◌∷◌, ◌++◌, Option, Some, None}
use Rattle.std.specs.Prelude.{◌&&◌, ◌||◌}
use Rattle.std.specs.List.{find, filter, filter_map, cons_option, fold, list_all, list_any, range_with_len}
use Rattle.std.proofs.lemmas.Bool.{cases_eq, and_from, and_parts}

-- no number passes
pub find_none : (test : ℕ → Bool) (a n : ℕ) → ((d : ℕ) → a ≤ d → d < a + n → test d ≡ false) → find test (range_with_len a n) ≡ None
find_none test a zero none = refl
find_none test a (suc n) none =
    ap (λ b. cond b (Some a) (find test (range_with_len (a + 1) n))) (none a (omega arith) (omega arith))
    ∙ find_none test (a + 1) n (λ d l m. none d (omega arith) (omega arith))

-- the first number that passes
pub find_first : (test : ℕ → Bool) (x a n : ℕ) → a ≤ x → x < a + n → test x ≡ true → ((d : ℕ) → a ≤ d → d < x → test d ≡ false) → find test (range_with_len a n) ≡ Some x
find_first test x a zero la lx e none = absurd (omega arith)
find_first test x a (suc n) la lx e none =
    ⊎_elim
    (λ is. ap (λ b. cond b (Some a) (find test (range_with_len (a + 1) n))) (ap test is ∙ e) ∙ ap Some is)
    (λ ne. ap (λ b. cond b (Some a) (find test (range_with_len (a + 1) n))) (none a (omega arith) (omega (arith, ne)))
    ∙ find_first test x (a + 1) n (omega (arith, ne)) (omega arith) e (λ d l m. none d (omega arith) m))
    (cases_eq a x)

pub find_same : (test test' : ℕ → Bool) (a n : ℕ) → ((d : ℕ) → a ≤ d → d < a + n → test d ≡ test' d) → find test (range_with_len a n) ≡ find test' (range_with_len a n)
find_same test test' a zero same = refl
find_same test test' a (suc n) same =
    ap (λ b. cond b (Some a) (find test (range_with_len (a + 1) n))) (same a (omega arith) (omega arith))
    ∙ ap (λ x. cond (test' a) (Some a) x) (find_same test test' (a + 1) n (λ d l m. same d (omega arith) (omega arith)))

pub all_same : (test test' : ℕ → Bool) (a n : ℕ) → ((d : ℕ) → a ≤ d → d < a + n → test d ≡ test' d) → list_all test (range_with_len a n) ≡ list_all test' (range_with_len a n)
all_same test test' a zero same = refl
all_same test test' a (suc n) same =
    ap (λ b. b && list_all test (range_with_len (a + 1) n)) (same a (omega arith) (omega arith))
    ∙ ap (λ x. test' a && x) (all_same test test' (a + 1) n (λ d l m. same d (omega arith) (omega arith)))

pub all_from : (test : ℕ → Bool) (a n : ℕ) → ((d : ℕ) → a ≤ d → d < a + n → test d ≡ true) → list_all test (range_with_len a n) ≡ true
all_from test a zero pass = refl
all_from test a (suc n) pass =
    and_from (test a) (list_all test (range_with_len (a + 1) n)) (pass a (omega arith) (omega arith)) (all_from test (a + 1) n (λ d l m. pass d (omega arith) (omega arith)))

pub all_at : (test : ℕ → Bool) (d a n : ℕ) → list_all test (range_with_len a n) ≡ true → a ≤ d → d < a + n → test d ≡ true
all_at test d a zero all l m = absurd (omega arith)
all_at test d a (suc n) all l m =
    let parts = and_parts (test a) (list_all test (range_with_len (a + 1) n)) all in
    ⊎_elim
    (λ is. ap test (sym_of is) ∙ parts.0)
    (λ ne. all_at test d (a + 1) n parts.1 (omega (arith, ne)) (omega arith))
    (cases_eq a d)
  where
    sym_of : a ≡ d → d ≡ a
    sym_of e = omega arith

pub filter_same : (test test' : ℕ → Bool) (a n : ℕ) → ((d : ℕ) → a ≤ d → d < a + n → test d ≡ test' d) → filter test (range_with_len a n) ≡ filter test' (range_with_len a n)
filter_same test test' a zero same = refl
filter_same test test' a (suc n) same =
    ap (λ b. cond b (a ∷ filter test (range_with_len (a + 1) n)) (filter test (range_with_len (a + 1) n))) (same a (omega arith) (omega arith))
    ∙ ap (λ x. cond (test' a) (a ∷ x) x) (filter_same test test' (a + 1) n (λ d l m. same d (omega arith) (omega arith)))

pub range_more : (a n : ℕ) → range_with_len a (suc n) ≡ range_with_len a n ++ (a + n) ∷ []
range_more a zero = ap (λ x. x ∷ []) (let e : a ≡ a + 0 = omega arith in e)
range_more a (suc n) = ap (λ x. a ∷ x) (range_more (a + 1) n ∙ ap (λ x. range_with_len (a + 1) n ++ x ∷ []) (let e : (a + 1) + n ≡ a + suc n = omega arith in e))

pub filter_map_same : {X : Type 0} (f f' : ℕ → Option X) (a n : ℕ) → ((d : ℕ) → a ≤ d → d < a + n → f d ≡ f' d) → filter_map f (range_with_len a n) ≡ filter_map f' (range_with_len a n)
filter_map_same f f' a zero same = refl
filter_map_same f f' a (suc n) same =
    ap (λ x. cons_option x (filter_map f (range_with_len (a + 1) n))) (same a (omega arith) (omega arith))
    ∙ ap (cons_option (f' a)) (filter_map_same f f' (a + 1) n (λ d l m. same d (omega arith) (omega arith)))

-- what a search tells of the numbers that pass
pub any_same : (test p p' : ℕ → Bool) (a n : ℕ) → ((d : ℕ) → a ≤ d → d < a + n → p d ≡ p' d) → list_any p (filter test (range_with_len a n)) ≡ list_any p' (filter test (range_with_len a n))
any_same test p p' a zero same = refl
any_same test p p' a (suc n) same =
    by (test a) (filter test (range_with_len (a + 1) n)) (same a (omega arith) (omega arith)) (any_same test p p' (a + 1) n (λ d l m. same d (omega arith) (omega arith)))
  where
    by : (b : Bool) (xs : List ℕ) → p a ≡ p' a → list_any p xs ≡ list_any p' xs → list_any p (cond b (a ∷ xs) xs) ≡ list_any p' (cond b (a ∷ xs) xs)
    by true xs here rest = ap (λ x. x || list_any p xs) here ∙ ap (λ x. p' a || x) rest
    by false xs here rest = rest

-- and a fold over them
pub fold_same : {X Y : Type 0} (test : ℕ → Bool) (step : Y → X → Y) (f f' : ℕ → X) (y : Y) (a n : ℕ) → ((d : ℕ) → a ≤ d → d < a + n → f d ≡ f' d)
    → fold (λ s d. step s (f d)) y (filter test (range_with_len a n)) ≡ fold (λ s d. step s (f' d)) y (filter test (range_with_len a n))
fold_same {X = X} {Y = Y} test step f f' y a zero same = refl
fold_same {X = X} {Y = Y} test step f f' y a (suc n) same =
    by (test a) (filter test (range_with_len (a + 1) n)) (same a (omega arith) (omega arith)) (λ s. fold_same test step f f' s (a + 1) n (λ d l m. same d (omega arith) (omega arith)))
  where
    by : (b : Bool) (xs : List ℕ) → f a ≡ f' a → ((s : Y) → fold (λ s d. step s (f d)) s xs ≡ fold (λ s d. step s (f' d)) s xs)
        → fold (λ s d. step s (f d)) y (cond b (a ∷ xs) xs) ≡ fold (λ s d. step s (f' d)) y (cond b (a ∷ xs) xs)
    by true xs here rest = ap (λ x. fold (λ s d. step s (f d)) (step y x) xs) here ∙ rest (step y (f' a))
    by false xs here rest = rest y
