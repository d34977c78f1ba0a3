-- The crew order has the same outages, sorted.
use Rattle.std.proofs.Common.{◌≡◌, ℕ, zero, suc, ◌<◌, ◌⊎◌, inl, inr, Bool, true, false, cond, List, [], ◌∷◌, map, length, refl, sym, ap, ◌∙◌, All, filter, arith}
use Rattle.std.specs.Prelude.{⊤, ◌==◌, ◌&&◌, ◌||◌, nat_lt, if◌then◌else◌, slice_index_or}
use Rattle.std.proofs.lemmas.Bool.{false≢true, ltb-true, lt-ltb, le-ltb, eqb-true, eq-eqb, or_cases, or_left, or_right, or_from, and_parts, and_from, and_right, false_from_ne_true}
use Rattle.std.proofs.lemmas.List.Elements.{All-nil, All-cons, All-head, All-tail, All-weaker}
use Rattle.grid_model.specs.declared.history.Outage.{Outage}
use Rattle.history_rules.specs.Crew.{top_of, count_above, group_customers, group_since, has_none, second_or_zero, rises, comes_before, placed, in_order, crew_order, CrewOrderIsSorted}

-- the first pair rises, or it is even and the others rise
abbrev rises_or : ℕ → ℕ → Bool → Bool
rises_or x y rest = nat_lt x y || ((x == y) && rest)

means : (x y : ℕ) (rest : Bool) → rises_or x y rest ≡ true → (x < y) ⊎ ((x ≡ y) × (rest ≡ true))
means x y rest e = by_side (or_cases (nat_lt x y) ((x == y) && rest) e)
  where
    by_side : (nat_lt x y ≡ true) ⊎ (((x == y) && rest) ≡ true) → (x < y) ⊎ ((x ≡ y) × (rest ≡ true))
    by_side (inl less) = inl (ltb-true x y less)
    by_side (inr even) =
        let parts = and_parts (x == y) rest even in
        inr (eqb-true x y parts.0, parts.1)

by_less : (x y : ℕ) (rest : Bool) → x < y → rises_or x y rest ≡ true
by_less x y rest less = or_left (nat_lt x y) ((x == y) && rest) (lt-ltb x y less)

by_rest : (x y : ℕ) (rest : Bool) → x ≡ y → rest ≡ true → rises_or x y rest ≡ true
by_rest x y rest even e = or_right (nat_lt x y) ((x == y) && rest) (and_from (x == y) rest (eq-eqb x y even) e)

-- one step of a chain
chained : (x y z : ℕ) (a b c : Bool) → (a ≡ true → b ≡ true → c ≡ true) → rises_or x y a ≡ true → rises_or y z b ≡ true → rises_or x z c ≡ true
chained x y z a b c join p q = by_sides (means x y a p) (means y z b q)
  where
    by_sides : (x < y) ⊎ ((x ≡ y) × (a ≡ true)) → (y < z) ⊎ ((y ≡ z) × (b ≡ true)) → rises_or x z c ≡ true
    by_sides (inl less) (inl more) = by_less x z c (omega arith)
    by_sides (inl less) (inr even) = by_less x z c (omega arith)
    by_sides (inr even) (inl more) = by_less x z c (omega arith)
    by_sides (inr even) (inr same) = by_rest x z c (omega arith) (join even.1 same.1)

stays : (x : ℕ) (a : Bool) → a ≡ false → rises_or x x a ≡ false
stays x a e = or_from (nat_lt x x) ((x == x) && a) (le-ltb x x (omega arith)) (and_right (x == x) a e)

-- two outages by what counts of each
abbrev pairs : List (Outage → ℕ) → Outage → Outage → List (ℕ × ℕ)
pairs keys a b = map (λ key. (key a, key b)) keys

pairs_chain : (keys : List (Outage → ℕ)) (a b c : Outage) → rises (pairs keys a b) ≡ true → rises (pairs keys b c) ≡ true → rises (pairs keys a c) ≡ true
pairs_chain [] a b c p q = p
pairs_chain (key ∷ keys) a b c p q =
    chained (key a) (key b) (key c) (rises (pairs keys a b)) (rises (pairs keys b c)) (rises (pairs keys a c)) (pairs_chain keys a b c) p q

pairs_stay : (keys : List (Outage → ℕ)) (a : Outage) → rises (pairs keys a a) ≡ false
pairs_stay [] a = refl
pairs_stay (key ∷ keys) a = stays (key a) (rises (pairs keys a a)) (pairs_stay keys a)

-- all that counts behind the customers
abbrev keys_of : List Outage → List (Outage → ℕ)
keys_of all =
    (λ o. has_none (group_since all (top_of all o)))
    ∷ (λ o. second_or_zero (group_since all (top_of all o)))
    ∷ (λ o. top_of all o)
    ∷ (λ o. count_above all o)
    ∷ (λ o. o.device.0) ∷ []

abbrev size_of : List Outage → Outage → ℕ
size_of all o = group_customers all (top_of all o)

before_chains : (all : List Outage) (a b c : Outage) → comes_before all a b ≡ true → comes_before all b c ≡ true → comes_before all a c ≡ true
unfolding comes_before
before_chains all a b c p q =
    let keys = keys_of all in
    chained (size_of all c) (size_of all b) (size_of all a) (rises (pairs keys b c)) (rises (pairs keys a b)) (rises (pairs keys a c)) (λ y x. pairs_chain keys a b c x y) q p

before_stays : (all : List Outage) (a : Outage) → comes_before all a a ≡ false
unfolding comes_before
before_stays all a = stays (size_of all a) (rises (pairs (keys_of all) a a)) (pairs_stay (keys_of all) a)

-- how many pass a test
abbrev passing_of : (Outage → Bool) → List Outage → ℕ
passing_of test xs = length (filter test xs)

count_step : (here new : Bool) (x y : Outage) (before after : List Outage) → length after ≡ length (cond new (x ∷ before) before) →
    length (cond here (y ∷ after) after) ≡ length (cond new (x ∷ cond here (y ∷ before) before) (cond here (y ∷ before) before))
count_step true true x y before after e = ap suc e
count_step true false x y before after e = ap suc e
count_step false true x y before after e = e
count_step false false x y before after e = e

count_new : (new : Bool) (x : Outage) (before after : List Outage) → length before ≡ length after → length (cond new (x ∷ before) before) ≡ length (cond new (x ∷ after) after)
count_new true x before after e = ap suc e
count_new false x before after e = e

count_placed : (first : Bool) (test : Outage → Bool) (x y : Outage) (ys rest : List Outage) → passing_of test rest ≡ passing_of test (x ∷ ys) →
    passing_of test (if first then x ∷ y ∷ ys else y ∷ rest) ≡ passing_of test (x ∷ y ∷ ys)
count_placed true test x y ys rest e = refl
count_placed false test x y ys rest e = count_step (test y) (test x) x y (filter test ys) (filter test rest) e

placed_count : (before : Outage → Outage → Bool) (test : Outage → Bool) (x : Outage) (ys : List Outage) → passing_of test (placed before x ys) ≡ passing_of test (x ∷ ys)
unfolding placed
placed_count before test x [] = refl
placed_count before test x (y ∷ ys) = count_placed (before x y) test x y ys (placed before x ys) (placed_count before test x ys)

ordered_count : (before : Outage → Outage → Bool) (test : Outage → Bool) (xs : List Outage) → passing_of test (in_order before xs) ≡ passing_of test xs
unfolding in_order
ordered_count before test [] = refl
ordered_count before test (x ∷ xs) =
    placed_count before test x (in_order before xs) ∙ count_new (test x) x (filter test (in_order before xs)) (filter test xs) (ordered_count before test xs)

-- an order that chains and puts nothing before itself
record IsOrder (before : Outage → Outage → Bool) : Type 0 where
  chain : (a b c : Outage) → before a b ≡ true → before b c ≡ true → before a c ≡ true
  still : (a : Outage) → before a a ≡ false

-- none that stands later comes before an earlier one
abbrev AreSorted : (Outage → Outage → Bool) → List Outage → Type 0
AreSorted before [] = ⊤
AreSorted before (x ∷ xs) = All (λ y. before y x ≡ false) xs × AreSorted before xs

all_step : (first : Bool) (P : Outage → Type 0) (x y : Outage) (ys rest : List Outage) → P x → All P (y ∷ ys) → All P rest → All P (if first then x ∷ y ∷ ys else y ∷ rest)
all_step true P x y ys rest one all behind = All-cons P x (y ∷ ys) one all
all_step false P x y ys rest one all behind = All-cons P y rest (All-head P y ys all) behind

all_placed : (before : Outage → Outage → Bool) (P : Outage → Type 0) (x : Outage) (ys : List Outage) → P x → All P ys → All P (placed before x ys)
unfolding placed
all_placed before P x [] one all = All-cons P x [] one all
all_placed before P x (y ∷ ys) one all = all_step (before x y) P x y ys (placed before x ys) one all (all_placed before P x ys one (All-tail P y ys all))

-- what doesn't come before the later one doesn't come before the earlier one
not_before : (before : Outage → Outage → Bool) → IsOrder before → (x y z : Outage) → before x y ≡ true → before z y ≡ false → before z x ≡ false
not_before before order x y z earlier later = false_from_ne_true (before z x) (λ e. false≢true (sym later ∙ order.chain z x y e earlier))

sorted_step : (before : Outage → Outage → Bool) → IsOrder before → (x y : Outage) (ys rest : List Outage) (first : Bool) → before x y ≡ first → AreSorted before (y ∷ ys) →
    (before x y ≡ false → All (λ z. before z y ≡ false) rest) → AreSorted before rest → AreSorted before (if first then x ∷ y ∷ ys else y ∷ rest)
sorted_step before order x y ys rest true e sorted all behind =
    let step = λ (z : Outage) (later : before z y ≡ false). not_before before order x y z e later in (
      All-cons (λ z. before z x ≡ false) y ys (step y (order.still y)) (All-weaker (λ z. before z y ≡ false) (λ z. before z x ≡ false) step ys sorted.0),
      sorted,
    )
sorted_step before order x y ys rest false e sorted all behind = (all e, behind)

sorted_placed : (before : Outage → Outage → Bool) → IsOrder before → (x : Outage) (ys : List Outage) → AreSorted before ys → AreSorted before (placed before x ys)
unfolding placed
sorted_placed before order x [] sorted = (All-nil (λ y. before y x ≡ false), tt)
sorted_placed before order x (y ∷ ys) sorted =
    sorted_step before order x y ys (placed before x ys) (before x y) refl sorted
    (λ e. all_placed before (λ z. before z y ≡ false) x ys e sorted.0) (sorted_placed before order x ys sorted.1)

ordered_sorted : (before : Outage → Outage → Bool) → IsOrder before → (xs : List Outage) → AreSorted before (in_order before xs)
unfolding in_order
ordered_sorted before order [] = tt
ordered_sorted before order (x ∷ xs) = sorted_placed before order x (in_order before xs) (ordered_sorted before order xs)

at_places : (before : Outage → Outage → Bool) (xs : List Outage) (i j : ℕ) (x : Outage) → AreSorted before xs → i < j → j < length xs →
    before (slice_index_or xs j x) (slice_index_or xs i x) ≡ false
at_places before [] i j x sorted l within = absurd (omega arith)
at_places before (y ∷ ys) i zero x sorted l within = absurd (omega arith)
at_places before (y ∷ ys) zero (suc j) x sorted l within = sorted.0 j x (omega arith)
at_places before (y ∷ ys) (suc i) (suc j) x sorted l within = at_places before ys i j x sorted.1 (omega arith) (omega arith)

pub crew_order_is_sorted : CrewOrderIsSorted
crew_order_is_sorted all =
    let order : IsOrder (comes_before all) = record { chain = before_chains all; still = before_stays all } in
    record {
      same = λ test. ordered_count (comes_before all) test all;
      sorted = λ i j x l within. at_places (comes_before all) (crew_order all) i j x (ordered_sorted (comes_before all) order all) l within;
    }
