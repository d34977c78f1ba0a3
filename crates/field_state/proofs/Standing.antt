-- The meters at a node, as the list of them has them.
use Rattle.std.proofs.Common.{◌≡◌, ℕ, zero, suc, ◌+◌, ◌<◌, Bool, true, false, cond, refl, sym, ap, ◌∙◌, subst, ⊎_elim, arith, List, [], ◌∷◌, ◌++◌, length, get_or, map, filter, All}
use Rattle.std.specs.Prelude.{◌==◌, ◌||◌}
use Rattle.std.specs.List.{Contains, range_with_len}
use Rattle.std.proofs.Math.ListN.{get_or-map}
use Rattle.std.proofs.lemmas.Bool.{cases_lt, eqb-true, eq-eqb, or_cases}
use Rattle.std.proofs.lemmas.List.{length-map}
use Rattle.std.proofs.lemmas.List.Elements.{All-filter, All-from_get_or, filter_passes, Contains-append_left, Contains-append_right, filter-append}
use Rattle.std.proofs.lemmas.List.FromFn.{length-range_with_len, get_or-range_with_len, map-range_with_len_more}
use Rattle.outage_rules.specs.Sum.{some_below}
use Rattle.grid_model.specs.declared.parts.MeterId.{MeterId}
use Rattle.grid_model.specs.Parts.{Parts}
use Rattle.grid_model.specs.Places.{node_of, meters_at}

-- the number at a place of a list of meters
abbrev pub number_at : List MeterId → ℕ → ℕ
number_at xs j = (get_or xs j (record { 0 = 0 })).0

-- the meter is among the first of a list
abbrev pub is_met : List MeterId → ℕ → ℕ → Bool
is_met xs count m = some_below count (λ i. m == number_at xs i)

-- two tests that say the same
pub same_test : (a b : Bool) → (a ≡ true → b ≡ true) → (b ≡ true → a ≡ true) → a ≡ b
same_test true b h k = sym (h refl)
same_test false true h k = k refl
same_test false false h k = refl

-- a number that passes, where some does
pub passing_below : (n : ℕ) (test : ℕ → Bool) → some_below n test ≡ true → (i : ℕ) × (i < n) × (test i ≡ true)
passing_below zero test e = cc
passing_below (suc n) test e =
    ⊎_elim
    (λ below. let found = passing_below n test below in let l = found.1 in (found.0, omega arith, found.2))
    (λ here. (n, omega arith, here))
    (or_cases (some_below n test) (test n) e)

or_first : (a b : Bool) → a ≡ true → (a || b) ≡ true
or_first a b e = ap (λ x. x || b) e

or_second : (a b : Bool) → b ≡ true → (a || b) ≡ true
or_second true b e = refl
or_second false b e = e

pub some_passes : (n : ℕ) (test : ℕ → Bool) (i : ℕ) → i < n → test i ≡ true → some_below n test ≡ true
some_passes zero test i l e = absurd (omega arith)
some_passes (suc n) test i l e =
    ⊎_elim
    (λ below. or_first (some_below n test) (test n) (some_passes n test i below e))
    (λ at. let same : n ≡ i = omega arith in or_second (some_below n test) (test n) (ap test same ∙ e))
    (cases_lt i n)

map_same : (xs : List ℕ) → map (λ x. x) xs ≡ xs
map_same [] = refl
map_same (x ∷ xs) = ap (λ ys. x ∷ ys) (map_same xs)

range_more : (n : ℕ) → range_with_len 0 (n + 1) ≡ range_with_len 0 n ++ n ∷ []
range_more n = sym (map_same (range_with_len 0 (n + 1))) ∙ map-range_with_len_more (λ x. x) 0 n n (omega arith) ∙ ap (λ xs. xs ++ n ∷ []) (map_same (range_with_len 0 n))

-- a number that passes is among those that pass
among : (p : ℕ → Bool) (n d : ℕ) → d < n → p d ≡ true → Contains (filter p (range_with_len 0 n)) d
among p zero d l e = absurd (omega arith)
among p (suc n) d l e =
    subst (λ xs. Contains xs d) (sym (ap (filter p) (ap (range_with_len 0) (let x : suc n ≡ n + 1 = omega arith in x) ∙ range_more n) ∙ filter-append p (range_with_len 0 n) (n ∷ [])))
    (⊎_elim
    (λ a. Contains-append_left (filter p (range_with_len 0 n)) (filter p (n ∷ [])) d (among p n d a e))
    (λ a. let same : d ≡ n = omega arith in
    Contains-append_right (filter p (range_with_len 0 n)) (filter p (n ∷ [])) d
    (subst (λ xs. Contains xs d) (sym (ap (λ b. cond b (n ∷ []) []) (sym (ap p same) ∙ e)))
    (subst (λ x. Contains (x ∷ []) d) same (0, omega arith, refl))))
    (cases_lt d n))

module _ (g : Parts) (n : ℕ) (xs : List MeterId) (listed : map (λ m. m.0) xs ≡ meters_at g n) where
  at_is : (j : ℕ) → number_at xs j ≡ get_or (meters_at g n) j 0
  at_is j = sym (get_or-map (λ m. m.0) xs j (record { 0 = 0 })) ∙ ap (λ ys. get_or ys j 0) listed

  long : length xs ≡ length (meters_at g n)
  long = sym (length-map xs (λ m. m.0)) ∙ ap length listed

  pub at_within : (j : ℕ) → j < length xs → number_at xs j < length g.meters
  at_within j l =
      let below : All (λ m. m < length g.meters) (range_with_len 0 (length g.meters)) = All-from_get_or (λ m. m < length g.meters) (range_with_len 0 (length g.meters)) 0 (λ i li. let e = length-range_with_len 0 (length g.meters) in let x = get_or-range_with_len 0 (length g.meters) i 0 (omega arith) in omega arith) in
      subst (λ x. x < length g.meters) (sym (at_is j)) (All-filter (λ m. node_of g m == n) (λ m. m < length g.meters) (range_with_len 0 (length g.meters)) below j 0 (let e = long in omega arith))

  pub at_stands : (j : ℕ) → j < length xs → (node_of g (number_at xs j) == n) ≡ true
  at_stands j l =
      ap (λ m. node_of g m == n) (at_is j) ∙ filter_passes (λ m. node_of g m == n) (range_with_len 0 (length g.meters)) j 0 (let e = long in omega arith)

  -- each meter at the node is in the list
  place_of : (m : ℕ) → m < length g.meters → (node_of g m == n) ≡ true → (j : ℕ) × (j < length xs) × (number_at xs j ≡ m)
  place_of m l stands =
      let here = among (λ m. node_of g m == n) (length g.meters) m l stands in
      let lj = here.1 in
      let within : here.0 < length xs = let e = long in omega arith in
      (here.0, within, at_is here.0 ∙ default (meters_at g n) here.0 m here.1 ∙ here.2)
    where
      default : (ys : List ℕ) (i x : ℕ) → i < length ys → get_or ys i 0 ≡ get_or ys i x
      default [] i x l = absurd (omega arith)
      default (y ∷ ys) zero x l = refl
      default (y ∷ ys) (suc i) x l = default ys i x (omega arith)

  -- the list has the meters at the node
  pub all_met : (m : ℕ) → m < length g.meters → is_met xs (length xs) m ≡ (node_of g m == n)
  all_met m l = same_test (is_met xs (length xs) m) (node_of g m == n) met_stands stands_met where
    met_stands : is_met xs (length xs) m ≡ true → (node_of g m == n) ≡ true
    met_stands e =
        let found = passing_below (length xs) (λ i. m == number_at xs i) e in
        ap (λ k. node_of g k == n) (eqb-true m (number_at xs found.0) found.2) ∙ at_stands found.0 found.1

    stands_met : (node_of g m == n) ≡ true → is_met xs (length xs) m ≡ true
    stands_met e =
        let place = place_of m l e in
        some_passes (length xs) (λ i. m == number_at xs i) place.0 place.1 (eq-eqb m (number_at xs place.0) (sym place.2))
