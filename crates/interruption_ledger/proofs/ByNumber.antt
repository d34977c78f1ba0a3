-- A list that is in order by a number, as its parts for one number after another.
use Rattle.std.proofs.Common.{◌≡◌, ℕ, zero, suc, ◌+◌, ◌<◌, ◌≤◌, List, [], ◌∷◌, ◌++◌, ltb, refl, sym, ap, ◌∙◌, inl, inr, arith}
use Rattle.std.specs.Prelude.{Bool, true, false, cond, ◌⊎◌, ◌==◌, filter, flat_map, not, ◌&&◌}
use Rattle.std.specs.List.{All, range_with_len}
use Rattle.std.specs.List.Sorted.{IsNonDecreasingBy, IsStableByKey, ties}
use Rattle.std.specs.Ordering.{is_lt, nat_cmp}
use Rattle.std.specs.declared.cmp.Ordering.TheVariants.{Less, Equal, Greater}
use Rattle.std.proofs.lemmas.Bool.{cases_eq, cases_order, eq-eqb, ne_eqb, lt-ltb, le-ltb, cond-true, cond-false}
use Rattle.std.proofs.lemmas.List.Elements.{All-head, All-tail, All-weaker, filter_agree}

abbrev pub has_number : {X : Type 0} → (X → ℕ) → ℕ → X → Bool
has_number key m x = key x == m

-- the elements of each number from a to below a + n
abbrev pub parts : {X : Type 0} → (X → ℕ) → ℕ → ℕ → List X → List X
parts key a n xs = flat_map (λ m. filter (has_number key m) xs) (range_with_len a n)

none_of : {X : Type 0} (key : X → ℕ) (m : ℕ) (xs : List X) → All (λ x. m < key x) xs → filter (has_number key m) xs ≡ []
none_of key m [] all = refl
none_of key m (x ∷ xs) all =
    let above : m < key x = All-head (λ y. m < key y) x xs all in
    cond-false (key x == m) (x ∷ filter (has_number key m) xs) (filter (has_number key m) xs) (ne_eqb (key x) m (λ e. let same : key x ≡ m = e in omega arith))
    ∙ none_of key m xs (All-tail (λ y. m < key y) x xs all)

-- an element of a lesser number
passed_over : {X : Type 0} (key : X → ℕ) (a n : ℕ) (x : X) (xs : List X) → key x < a → parts key a n (x ∷ xs) ≡ parts key a n xs
passed_over key a zero x xs lt = refl
passed_over key a (suc n) x xs lt =
    ap (λ p. p ++ parts key (a + 1) n (x ∷ xs)) (cond-false (key x == a) (x ∷ filter (has_number key a) xs) (filter (has_number key a) xs) (ne_eqb (key x) a (λ e. let same : key x ≡ a = e in omega arith)))
    ∙ ap (λ p. filter (has_number key a) xs ++ p) (passed_over key (a + 1) n x xs (omega arith))

taken_first : {X : Type 0} (key : X → ℕ) (a n : ℕ) (x : X) (xs : List X) → a ≤ key x → All (λ y. key x ≤ key y) xs
    → (a + 1 ≤ key x → parts key (a + 1) n (x ∷ xs) ≡ x ∷ parts key (a + 1) n xs) → (key x ≡ a) ⊎ (key x ≡ a → ⊥)
    → parts key a (suc n) (x ∷ xs) ≡ x ∷ parts key a (suc n) xs
taken_first key a n x xs low all later (inl e) =
    ap (λ p. p ++ parts key (a + 1) n (x ∷ xs)) (cond-true (key x == a) (x ∷ filter (has_number key a) xs) (filter (has_number key a) xs) (eq-eqb (key x) a e))
    ∙ ap (λ p. x ∷ (filter (has_number key a) xs ++ p)) (passed_over key (a + 1) n x xs (omega arith))
taken_first key a n x xs low all later (inr ne) =
    let above : a < key x = omega arith in
    let nothing = none_of key a xs (All-weaker (λ y. key x ≤ key y) (λ y. a < key y) (λ y h. omega arith) xs all) in
    ap (λ p. p ++ parts key (a + 1) n (x ∷ xs)) (cond-false (key x == a) (x ∷ filter (has_number key a) xs) (filter (has_number key a) xs) (ne_eqb (key x) a ne) ∙ nothing)
    ∙ later (omega arith)
    ∙ ap (λ p. x ∷ (p ++ parts key (a + 1) n xs)) (sym nothing)

-- an element of a number no greater than any other's comes first
put_first : {X : Type 0} (key : X → ℕ) (a n : ℕ) (x : X) (xs : List X) → a ≤ key x → key x < a + n → All (λ y. key x ≤ key y) xs
    → parts key a n (x ∷ xs) ≡ x ∷ parts key a n xs
put_first key a zero x xs low high all = absurd (omega arith)
put_first key a (suc n) x xs low high all =
    taken_first key a n x xs low all (λ l. put_first key (a + 1) n x xs l (omega arith) all) (cases_eq (key x) a)

no_parts : {X : Type 0} (key : X → ℕ) (a n : ℕ) → parts key a n [] ≡ []
no_parts key a zero = refl
no_parts key a (suc n) = no_parts key (a + 1) n

-- a list in order is its parts
pub in_parts : {X : Type 0} (key : X → ℕ) (n : ℕ) (xs : List X) → IsNonDecreasingBy key xs → All (λ x. key x < n) xs → xs ≡ parts key 0 n xs
in_parts key n [] up all = sym (no_parts key 0 n)
in_parts key n (x ∷ xs) up all =
    ap (λ l. x ∷ l) (in_parts key n xs (λ i j d le lt. up (suc i) (suc j) d (omega arith) (omega arith)) (All-tail (λ y. key y < n) x xs all))
    ∙ sym (put_first key 0 n x xs (omega arith) (omega (arith, All-head (λ y. key y < n) x xs all)) (λ k d lt. up 0 (suc k) d (omega arith) (omega arith)))

pub flat_map_alike : {X : Type 0} (f g : ℕ → List X) (a n : ℕ) → ((m : ℕ) → a ≤ m → m < a + n → f m ≡ g m)
    → flat_map f (range_with_len a n) ≡ flat_map g (range_with_len a n)
flat_map_alike f g a zero same = refl
flat_map_alike f g a (suc n) same =
    ap (λ p. p ++ flat_map f (range_with_len (a + 1) n)) (same a (omega arith) (omega arith))
    ∙ ap (λ p. g a ++ p) (flat_map_alike f g (a + 1) n (λ m low high. same m (omega arith) (omega arith)))

less_is : (l e : Bool) → is_lt (cond l Less (cond e Equal Greater)) ≡ l
less_is true e = refl
less_is false true = refl
less_is false false = refl

abbrev neither_less : ℕ → ℕ → Bool
neither_less a b = not (is_lt (nat_cmp a b)) && not (is_lt (nat_cmp b a))

neither_is : (a b : ℕ) (l k : Bool) → ltb a b ≡ l → ltb b a ≡ k → neither_less a b ≡ not l && not k
neither_is a b l k e f =
    ap (λ x. not x && not (is_lt (nat_cmp b a))) (less_is (ltb a b) (a == b) ∙ e)
    ∙ ap (λ y. not l && not y) (less_is (ltb b a) (b == a) ∙ f)

tie_by_order : (a b : ℕ) → (a ≡ b) ⊎ ((a < b) ⊎ (b < a)) → (b == a) ≡ neither_less a b
tie_by_order a b (inl e) = eq-eqb b a (sym e) ∙ sym (neither_is a b false false (le-ltb a b (omega arith)) (le-ltb b a (omega arith)))
tie_by_order a b (inr (inl l)) = ne_eqb b a (λ e. omega arith) ∙ sym (neither_is a b true false (lt-ltb a b l) (le-ltb b a (omega arith)))
tie_by_order a b (inr (inr l)) = ne_eqb b a (λ e. omega arith) ∙ sym (neither_is a b false true (le-ltb a b (omega arith)) (lt-ltb b a l))

-- a stable sort by the number keeps the elements of each number as they are
pub same_parts : {X : Type 0} (key : X → ℕ) (sample : ℕ → X) (is_sample : (m : ℕ) → key (sample m) ≡ m) (xs ys : List X) → IsStableByKey key nat_cmp xs ys
    → (m : ℕ) → filter (has_number key m) ys ≡ filter (has_number key m) xs
same_parts {X} key sample is_sample xs ys stable m =
    let tie = λ (x y : X). ties (λ p q. is_lt (nat_cmp (key p) (key q))) x y in
    let agree : (y : X) → has_number key m y ≡ tie (sample m) y = λ y. tie_by_order m (key y) (cases_order m (key y)) ∙ ap (λ j. neither_less j (key y)) (sym (is_sample m)) in
    filter_agree (has_number key m) (tie (sample m)) agree ys ∙ stable (sample m) ∙ sym (filter_agree (has_number key m) (tie (sample m)) agree xs)
