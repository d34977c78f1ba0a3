-- Ranks in order give outages in order.
use Rattle.std.proofs.Common.{◌≡◌, ℕ, suc, ◌+◌, ◌<◌, ◌≤◌, Bool, true, false, cond, List, [], ◌∷◌, ◌++◌, length, map, get_or, refl, sym, ap, ◌∙◌, subst, inl, inr, arith}
use Rattle.std.specs.Prelude.{◌≢◌, ◌⊎◌, ◌==◌, ◌&&◌, ◌||◌, nat_lt, nat_eq}
use Rattle.std.specs.List.{All, IsDistinct, list_any}
use Rattle.std.specs.List.Sorted.{IsPermutation, IsSorted}
use Rattle.std.specs.Cmp.{IsTotalOrder}
use Rattle.std.specs.declared.cmp.Ordering.{Ordering}
use Rattle.std.specs.Ordering.{is_lt, nat_cmp, ordering_then}
use Rattle.std.specs.declared.cmp.Ordering.TheVariants.{Less, Equal, Greater}
use Rattle.std.proofs.lemmas.Bool.{cases_order, eq-eqb, eqb-true, eqb-false, lt-ltb, ne_eqb, or_left, or_right, or_parts, or_cases, and_from, true≢false}
use Rattle.std.proofs.lemmas.Cmp.{nat_cmp_total, nat_eq_equiv, on_total, then_total, back_total}
use Rattle.std.proofs.lemmas.List.{get_or-map, get_or_default, length-map, same_lists}
use Rattle.std.proofs.lemmas.List.Elements.{Contains-get_or, All-weaker, All-map, All-from_get_or, All-get_or}
use Rattle.std.proofs.lemmas.List.FromFn.{length-map-range_with_len, get_or-map-range_with_len, map-range_with_len_more}
use Rattle.std.proofs.lemmas.List.Sorted.{IsPermutation-map, Contains-permutation, All-permutation, length_permutation, ranks_by, sorted_far}
use Rattle.std.proofs.lemmas.Map.Keys.{IsDistinct-from_apart, IsDistinct-IsPermutation, apart_from_distinct}
use Rattle.std.proofs.lemmas.Map.Steps.{length-le_from_distinct_below}
use Rattle.grid_model.specs.declared.history.Outage.{Outage}
use Rattle.history_rules.specs.Crew.{CanBeOrdered, comes_before, crew_order, rises, top_of, count_above, group_customers, group_since, has_none, second_or_zero}
use Rattle.crew_list.specs.Listed.{no_outage, outage_at}
use Rattle.crew_list.specs.Chains.{device_at}
use Rattle.crew_list.specs.Ranks.{rank_of, ranks_of}
use Rattle.crew_list.specs.declared.ranks.Rank.{Rank}
use Rattle.crew_list.proofs.Sorting.{IsFirst, IsRising, rising_from, sorts}

-- the order of ranks
abbrev pub rank_cmp : Rank → Rank → Ordering
rank_cmp a b =
    ordering_then (nat_cmp b.customers.0 a.customers.0)
    (ordering_then (nat_cmp a.without_second b.without_second)
    (ordering_then (nat_cmp a.second b.second)
    (ordering_then (nat_cmp a.top b.top)
    (ordering_then (nat_cmp a.above b.above)
    (ordering_then (nat_cmp a.device b.device)
    (nat_cmp a.place b.place))))))

rank_total : IsTotalOrder rank_cmp
rank_total =
    then_total (on_total (λ (r : Rank). r.customers.0) (back_total nat_cmp_total))
    (then_total (on_total (λ (r : Rank). r.without_second) nat_cmp_total)
    (then_total (on_total (λ (r : Rank). r.second) nat_cmp_total)
    (then_total (on_total (λ (r : Rank). r.top) nat_cmp_total)
    (then_total (on_total (λ (r : Rank). r.above) nat_cmp_total)
    (then_total (on_total (λ (r : Rank). r.device) nat_cmp_total)
    (on_total (λ (r : Rank). r.place) nat_cmp_total))))))

-- what outages are compared by, as pairs of numbers
abbrev pairs : List Outage → Outage → Outage → List (ℕ × ℕ)
pairs all a b =
    (group_customers all (top_of all b), group_customers all (top_of all a))
    ∷ (has_none (group_since all (top_of all a)), has_none (group_since all (top_of all b)))
    ∷ (second_or_zero (group_since all (top_of all a)), second_or_zero (group_since all (top_of all b)))
    ∷ (top_of all a, top_of all b)
    ∷ (count_above all a, count_above all b)
    ∷ (a.device.0, b.device.0) ∷ []

abbrev by_pairs : List (ℕ × ℕ) → Ordering → Ordering
by_pairs [] o = o
by_pairs (p ∷ ps) o = ordering_then (nat_cmp p.0 p.1) (by_pairs ps o)

abbrev flipped : List (ℕ × ℕ) → List (ℕ × ℕ)
flipped [] = []
flipped (p ∷ ps) = (p.1, p.0) ∷ flipped ps

abbrev HasApart : List (ℕ × ℕ) → Type 0
HasApart [] = ⊥
HasApart (p ∷ ps) = (p.0 ≢ p.1) ⊎ HasApart ps

not_less : (less same : Bool) (o : Ordering) (r : Bool) → (is_lt o ≡ false → r ≡ false) → is_lt (ordering_then (cond less Less (cond same Equal Greater)) o) ≡ false → (less || (same && r)) ≡ false
not_less true same o r rest h = absurd (true≢false h)
not_less false true o r rest h = rest h
not_less false false o r rest h = refl

not_risen : (ps : List (ℕ × ℕ)) (o : Ordering) → is_lt (by_pairs ps o) ≡ false → rises ps ≡ false
not_risen [] o h = refl
not_risen (p ∷ ps) o h = not_less (nat_lt p.0 p.1) (p.0 == p.1) (by_pairs ps o) (rises ps) (λ later. not_risen ps o later) h

-- what doesn't rank below another doesn't come before it
not_before : (all : List Outage) (i j : ℕ) → is_lt (rank_cmp (rank_of all i) (rank_of all j)) ≡ false → comes_before all (outage_at all i) (outage_at all j) ≡ false
unfolding comes_before
not_before all i j h = not_risen (pairs all (outage_at all i) (outage_at all j)) (nat_cmp i j) h

-- the numbers of one pair, and what follows it
one_pair : (x y : ℕ) (r s : Bool) → (x ≡ y → r ≡ false → s ≡ true) → (nat_lt x y || ((x == y) && r)) ≡ false → (nat_lt y x || ((y == x) && s)) ≡ true
one_pair x y r s rest h = pick (cases_order x y)
  where
    pick : (x ≡ y) ⊎ ((x < y) ⊎ (y < x)) → (nat_lt y x || ((y == x) && s)) ≡ true
    pick (inl e) =
        or_right (nat_lt y x) ((y == x) && s) (and_from (y == x) s (eq-eqb y x (sym e)) (rest e (ap (λ t. t && r) (sym (eq-eqb x y e)) ∙ (or_parts (nat_lt x y) ((x == y) && r) h).1)))
    pick (inr (inl less)) = absurd (true≢false (sym (lt-ltb x y less) ∙ (or_parts (nat_lt x y) ((x == y) && r) h).0))
    pick (inr (inr more)) = or_left (nat_lt y x) ((y == x) && s) (lt-ltb y x more)

past_pair : (p : ℕ × ℕ) (ps : List (ℕ × ℕ)) → HasApart (p ∷ ps) → p.0 ≡ p.1 → HasApart ps
past_pair p ps (inl ne) e = absurd (ne e)
past_pair p ps (inr later) e = later

other_way : (ps : List (ℕ × ℕ)) → HasApart ps → rises ps ≡ false → rises (flipped ps) ≡ true
other_way [] apart h = absurd apart
other_way (p ∷ ps) apart h = one_pair p.0 p.1 (rises ps) (rises (flipped ps)) (λ e later. other_way ps (past_pair p ps apart e) later) h

-- of two devices one comes before the other
one_before : (all : List Outage) (a b : Outage) → a.device.0 ≢ b.device.0 → comes_before all a b ≡ false → comes_before all b a ≡ true
unfolding comes_before
one_before all a b ne h = other_way (pairs all a b) (inr (inr (inr (inr (inr (inl ne)))))) h

-- where a number stands in a list that has it
member : (xs : List ℕ) (q : ℕ) → list_any (nat_eq q) xs ≡ true → (k : ℕ) × (k < length xs) × (get_or xs k q ≡ q)
member [] q e = absurd (true≢false (sym e))
member (x ∷ xs) q e = pick (λ later. member xs q later) (or_cases (nat_eq q x) (list_any (nat_eq q) xs) e)
  where
    pick : (list_any (nat_eq q) xs ≡ true → (k : ℕ) × (k < length xs) × (get_or xs k q ≡ q)) → (nat_eq q x ≡ true) ⊎ (list_any (nat_eq q) xs ≡ true)
        → (k : ℕ) × (k < length (x ∷ xs)) × (get_or (x ∷ xs) k q ≡ q)
    pick later (inl here) = (0, omega arith, sym (eqb-true q x here))
    pick later (inr there) = let k = later there in let lt : k.0 < length xs = k.1 in (suc k.0, omega arith, k.2)

-- a rank is that of its place
pub record IsRankOf (all : List Outage) (r : Rank) : Type 0 where
  pub rank : r ≡ rank_of all r.place
  pub within : r.place < length all

abbrev outage_of : List Outage → Rank → Outage
outage_of all r = outage_at all r.place

-- one more rank
pub ranks_more : (all : List Outage) (i : ℕ) (ranks next : List Rank) (r : Rank) → ranks ≡ ranks_of all i → r ≡ rank_of all i → next ≡ ranks ++ r ∷ [] → next ≡ ranks_of all (i + 1)
ranks_more all i ranks next r is of after =
    after ∙ ap (λ rs. rs ++ r ∷ []) is ∙ ap (λ x. ranks_of all i ++ x ∷ []) of ∙ sym (map-range_with_len_more (rank_of all) 0 i i (omega arith))

-- each rank is that of its place
pub of_places : (all : List Outage) (sorted : List Rank) → IsPermutation (ranks_of all (length all)) sorted → All (IsRankOf all) sorted
of_places all sorted same =
    All-permutation (IsRankOf all) (ranks_of all (length all)) sorted same
    (All-from_get_or (IsRankOf all) (ranks_of all (length all)) (rank_of all 0)
    (λ k lt.
    let inside : k < length all = omega (arith, length-map-range_with_len (rank_of all) 0 (length all)) in
    subst (IsRankOf all) (sym (get_or-map-range_with_len (rank_of all) 0 (length all) k k (rank_of all 0) inside (omega arith))) (record { rank = refl; within = inside })))

ranks_apart : (all : List Outage) → CanBeOrdered all → IsDistinct nat_eq (map (λ r. r.device) (ranks_of all (length all)))
ranks_apart all can =
    IsDistinct-from_apart nat_eq (map (λ r. r.device) ranks)
    (λ i j d less lt.
    let inside : j < length all = omega (arith, length-map ranks (λ (r : Rank). r.device), length-map-range_with_len (rank_of all) 0 (length all)) in
    ne_eqb (get_or (map (λ r. r.device) ranks) i d) (get_or (map (λ r. r.device) ranks) j d)
    (λ e. can.apart i j no_outage less inside (sym (device_of i d (omega arith)) ∙ e ∙ device_of j d inside)))
  where
    ranks : List Rank
    ranks = ranks_of all (length all)

    device_of : (k d : ℕ) → k < length all → get_or (map (λ r. r.device) ranks) k d ≡ device_at all k
    device_of k d lt =
        get_or-map (λ (r : Rank). r.device) ranks k (rank_of all 0) d (omega (arith, length-map-range_with_len (rank_of all) 0 (length all)))
        ∙ ap (λ r. r.device) (get_or-map-range_with_len (rank_of all) 0 (length all) k k (rank_of all 0) lt (omega arith))

eq_flips : (x y : ℕ) → nat_eq x y ≡ nat_eq y x
eq_flips x y = nat_eq_equiv.symm x y

-- ranks at different places of the order are of different devices
devices_differ : (all : List Outage) → CanBeOrdered all → (sorted : List Rank) → IsPermutation (ranks_of all (length all)) sorted
    → (i j : ℕ) (d : Rank) → i < j → j < length sorted → (get_or sorted i d).device ≢ (get_or sorted j d).device
devices_differ all can sorted same i j d less lt e =
    let f = λ (r : Rank). r.device in
    let distinct = IsDistinct-IsPermutation nat_eq eq_flips (map f (ranks_of all (length all))) (map f sorted) (IsPermutation-map f (ranks_of all (length all)) sorted same) (ranks_apart all can) in
    let apart = apart_from_distinct nat_eq (map f sorted) i j 0 distinct less (omega (arith, length-map sorted f)) in
    eqb-false (get_or (map f sorted) i 0) (get_or (map f sorted) j 0) apart
    (get_or-map f sorted i d 0 (omega arith) ∙ e ∙ sym (get_or-map f sorted j d 0 lt))

pair_in_order : (all : List Outage) (a b : Rank) → IsRankOf all a → IsRankOf all b → a.device ≢ b.device → is_lt (rank_cmp b a) ≡ false → IsFirst (comes_before all) (outage_of all a) (outage_of all b)
pair_in_order all a b of_a of_b ne least =
    let behind = not_before all b.place a.place (sym (ap (λ r. is_lt (rank_cmp r (rank_of all a.place))) of_b.rank) ∙ sym (ap (λ r. is_lt (rank_cmp b r)) of_a.rank) ∙ least) in
    record {
      first = one_before all (outage_of all b) (outage_of all a) (λ e. ne (ap (λ r. r.device) of_a.rank ∙ sym e ∙ sym (ap (λ r. r.device) of_b.rank))) behind;
      not_behind = behind;
    }

rising_outages : (all : List Outage) → CanBeOrdered all → (sorted : List Rank) → IsPermutation (ranks_of all (length all)) sorted → IsSorted rank_cmp sorted
    → IsRising (comes_before all) (map (outage_of all) sorted)
rising_outages all can sorted same up =
    rising_from (comes_before all) (outage_of all) sorted (rank_of all 0)
    (λ i j less lt.
    pair_in_order all (get_or sorted i (rank_of all 0)) (get_or sorted j (rank_of all 0))
    (All-get_or (IsRankOf all) sorted i (rank_of all 0) (omega arith) (of_places all sorted same)) (All-get_or (IsRankOf all) sorted j (rank_of all 0) lt (of_places all sorted same))
    (devices_differ all can sorted same i j (rank_of all 0) less lt)
    (sorted_far (λ x y. is_lt (rank_cmp x y)) (ranks_by rank_total (λ (r : Rank). r)) sorted up i j (rank_of all 0) (omega arith) lt))

all_outages : (all : List Outage) → map (outage_of all) (ranks_of all (length all)) ≡ all
all_outages all =
    same_lists (map (outage_of all) (ranks_of all (length all))) all (length-map (ranks_of all (length all)) (outage_of all) ∙ length-map-range_with_len (rank_of all) 0 (length all))
    (λ k d lt.
    let inside : k < length all = omega (arith, length-map (ranks_of all (length all)) (outage_of all), length-map-range_with_len (rank_of all) 0 (length all)) in
    get_or-map (outage_of all) (ranks_of all (length all)) k (rank_of all 0) d (omega (arith, length-map-range_with_len (rank_of all) 0 (length all)))
    ∙ ap (outage_of all) (get_or-map-range_with_len (rank_of all) 0 (length all) k k (rank_of all 0) inside (omega arith))
    ∙ get_or_default all k no_outage d inside)

-- the outages of ranks in order are in the crew order
pub ranked : (all : List Outage) → CanBeOrdered all → (sorted : List Rank) → IsPermutation (ranks_of all (length all)) sorted → IsSorted rank_cmp sorted
    → map (outage_of all) sorted ≡ crew_order all
ranked all can sorted same up =
    let moved = subst (λ xs. IsPermutation xs (map (outage_of all) sorted)) (all_outages all) (IsPermutation-map (outage_of all) (ranks_of all (length all)) sorted same) in
    sym (sorts (comes_before all) all (map (outage_of all) sorted)
    (λ i j d less lt e. can.apart i j d less lt (ap (λ o. o.device.0) e))
    (rising_outages all can sorted same up)
    (λ k d lt. Contains-permutation all (map (outage_of all) sorted) (get_or all k d) moved (Contains-get_or all k d lt))
    (length_permutation all (map (outage_of all) sorted) moved))

-- there are no more outages than numbers of devices
pub few_outages : (all : List Outage) → CanBeOrdered all → (ranks : List Rank) → ranks ≡ ranks_of all (length all) → (n : ℕ) → All (λ r. r.device < n) ranks → length all ≤ n
few_outages all can ranks is n fits =
    let f = λ (r : Rank). r.device in
    let below : All (λ d. d < n) (map f ranks) = All-map (λ d. d < n) f ranks fits in
    let few = length-le_from_distinct_below (map f ranks) n (subst (λ rs. IsDistinct nat_eq (map f rs)) (sym is) (ranks_apart all can))
    (λ q e. let k = member (map f ranks) q e in subst (λ d. d < n) k.2 (below k.0 q k.1)) in
    omega (arith, length-map ranks f, ap length is, length-map-range_with_len (rank_of all) 0 (length all))

-- each place is one of the outages
pub places_within : (all : List Outage) (sorted : List Rank) → IsPermutation (ranks_of all (length all)) sorted → (places : List ℕ) → places ≡ map (λ r. r.place) sorted → All (λ k. k < length all) places
places_within all sorted same places is =
    subst (All (λ k. k < length all)) (sym is) (All-map (λ k. k < length all) (λ r. r.place) sorted (All-weaker (IsRankOf all) (λ r. r.place < length all) (λ r of. of.within) sorted (of_places all sorted same)))

pub places_fit : (all : List Outage) → CanBeOrdered all → (ranks sorted xs : List Rank) → ranks ≡ ranks_of all (length all) → IsPermutation ranks sorted → (n : ℕ) → All (λ r. r.device < n) ranks
    → xs ≡ sorted → All (λ r. r.place < n) xs
places_fit all can ranks sorted xs is same n fits now =
    let few = few_outages all can ranks is n fits in
    subst (All (λ r. r.place < n)) (sym now)
    (All-weaker (IsRankOf all) (λ r. r.place < n) (λ r of. let w : r.place < length all = of.within in omega arith) sorted (of_places all sorted (subst (λ rs. IsPermutation rs sorted) is same)))

map_both : (all : List Outage) (rs : List Rank) → map (outage_at all) (map (λ r. r.place) rs) ≡ map (outage_of all) rs
map_both all [] = refl
map_both all (r ∷ rs) = ap (λ os. outage_of all r ∷ os) (map_both all rs)

-- the places of ranks in order lead to the crew order
pub places_ordered : (all : List Outage) → CanBeOrdered all → (sorted : List Rank) → IsPermutation (ranks_of all (length all)) sorted → IsSorted rank_cmp sorted
    → (places : List ℕ) → places ≡ map (λ r. r.place) sorted → map (outage_at all) places ≡ crew_order all
places_ordered all can sorted same up places is = ap (map (outage_at all)) is ∙ map_both all sorted ∙ ranked all can sorted same up
