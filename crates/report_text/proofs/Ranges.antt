-- Lists made of a range of numbers, and what holds of all their elements.
use Rattle.std.proofs.Common.{◌≡◌, ℕ, zero, suc, ◌+◌, ◌<◌, ◌≤◌, Bool, true, false, cond, refl, sym, ap, ◌∙◌, arith, add-one, List, [], ◌∷◌, ◌++◌, reverse, Option, Some, None, append-nil, append_assoc, length, get_or, take}
use Rattle.std.specs.Prelude.{IfSome}
use Rattle.std.specs.List.{All, find, filter_map, flat_map, cons_option, range_with_len}
use Rattle.std.proofs.lemmas.Grind.{flat_map-append}
use Rattle.std.proofs.lemmas.List.Elements.{All-nil, All-cons, All-head, All-tail, All-append}
use Rattle.line_entries.proofs.ChangeRows.{rows_more}
use mathlib.Core.List.{reverse_aux}

range_more : (a n : ℕ) → range_with_len a (suc n) ≡ range_with_len a n ++ (a + n) ∷ []
range_more a zero = ap (λ x. x ∷ []) (let e : a ≡ a + 0 = omega arith in e)
range_more a (suc n) = ap (λ x. a ∷ x) (range_more (a + 1) n ∙ ap (λ x. range_with_len (a + 1) n ++ x ∷ []) (let e : (a + 1) + n ≡ a + suc n = omega arith in e))

-- one number more
pub flat_map_more : {X : Type 0} (f : ℕ → List X) (n : ℕ) → flat_map f (range_with_len 0 (n + 1)) ≡ flat_map f (range_with_len 0 n) ++ f n
flat_map_more f n =
    ap (λ k. flat_map f (range_with_len 0 k)) (add-one n)
    ∙ ap (flat_map f) (range_more 0 n)
    ∙ ap (λ k. flat_map f (range_with_len 0 n ++ k ∷ [])) (let e : 0 + n ≡ n = omega arith in e)
    ∙ flat_map-append f (range_with_len 0 n) (n ∷ [])
    ∙ ap (λ x. flat_map f (range_with_len 0 n) ++ x) (append-nil (f n))

pub flat_map_same : {X : Type 0} (f f' : ℕ → List X) (a n : ℕ) → ((d : ℕ) → a ≤ d → d < a + n → f d ≡ f' d) → flat_map f (range_with_len a n) ≡ flat_map f' (range_with_len a n)
flat_map_same f f' a zero same = refl
flat_map_same f f' a (suc n) same =
    ap (λ x. x ++ flat_map f (range_with_len (a + 1) n)) (same a (omega arith) (omega arith))
    ∙ ap (λ x. f' a ++ x) (flat_map_same f f' (a + 1) n (λ d l m. same d (omega arith) (omega arith)))

pub All-flat_map : {X : Type 0} (P : X → Type 0) (f : ℕ → List X) (a n : ℕ) → ((d : ℕ) → a ≤ d → d < a + n → All P (f d)) → All P (flat_map f (range_with_len a n))
All-flat_map P f a zero all = All-nil P
All-flat_map P f a (suc n) all =
    All-append P (f a) (flat_map f (range_with_len (a + 1) n)) (all a (omega arith) (omega arith)) (All-flat_map P f (a + 1) n (λ d l m. all d (omega arith) (omega arith)))

All-cons_option : {X : Type 0} (P : X → Type 0) (o : Option X) (xs : List X) → IfSome o P → All P xs → All P (cons_option o xs)
All-cons_option P None xs h all = all
All-cons_option P (Some x) xs h all = All-cons P x xs h all

pub All-filter_map : {X : Type 0} (P : X → Type 0) (f : ℕ → Option X) (a n : ℕ) → ((d : ℕ) → a ≤ d → d < a + n → IfSome (f d) P) → All P (filter_map f (range_with_len a n))
All-filter_map P f a zero all = All-nil P
All-filter_map P f a (suc n) all =
    All-cons_option P (f a) (filter_map f (range_with_len (a + 1) n)) (all a (omega arith) (omega arith)) (All-filter_map P f (a + 1) n (λ d l m. all d (omega arith) (omega arith)))

-- a number that is found lies within the range
pub find_within : (test : ℕ → Bool) (top a n : ℕ) → a + n ≤ top → IfSome (find test (range_with_len a n)) (λ d. d < top)
find_within test top a zero l = tt
find_within test top a (suc n) l = by (test a) (find test (range_with_len (a + 1) n)) (omega arith) (find_within test top (a + 1) n (omega arith))
  where
    by : (b : Bool) (o : Option ℕ) → a < top → IfSome o (λ d. d < top) → IfSome (cond b (Some a) o) (λ d. d < top)
    by true o here rest = here
    by false o here rest = rest

onto : {X : Type 0} (P : X → Type 0) (xs ys : List X) → All P xs → All P ys → All P (reverse_aux xs ys)
onto P [] ys all more = more
onto P (x ∷ xs) ys all more = onto P xs (x ∷ ys) (All-tail P x xs all) (All-cons P x ys (All-head P x xs all) more)

pub All-reverse : {X : Type 0} (P : X → Type 0) (xs : List X) → All P xs → All P (reverse xs)
All-reverse P xs all = onto P xs [] all (All-nil P)

-- the rows of one element more
pub rows_added : {X : Type 0} (f : X → List ℕ) (xs : List X) (n : ℕ) (x d : X) (old mid new : List ℕ) → n < length xs → x ≡ get_or xs n d → mid ≡ old ++ flat_map f (take n xs) → new ≡ mid ++ f x
    → new ≡ old ++ flat_map f (take (n + 1) xs)
rows_added f xs n x d old mid new l is before adds =
    adds
    ∙ ap (λ t. t ++ f x) before
    ∙ append_assoc old (flat_map f (take n xs)) (f x)
    ∙ ap (λ t. old ++ t) (sym (rows_more f xs n x d l is))
