-- Following `above` for some steps, and then for some more.
use Rattle.std.proofs.Common.{◌≡◌, ℕ, zero, suc, ◌+◌, ◌-◌, ◌<◌, ◌≤◌, true, List, [], ◌∷◌, length, map, get_or, refl, sym, ap, ◌∙◌, subst, inl, inr, arith}
use Rattle.std.specs.Prelude.{◌≢◌, ◌⊎◌, ◌==◌, Option, Some, None, IfSome, find, option_map, unwrap_or}
use Rattle.std.specs.Option.{option_map_or}
use Rattle.std.specs.List.{list_any}
use Rattle.std.proofs.lemmas.Bool.{cases_order, eq-eqb, eqb-true, ne_eqb, or_cases, false≢true, cond-true, cond-false}
use Rattle.std.proofs.lemmas.List.{get_or-map, length-map}
use Rattle.grid_model.specs.declared.history.Outage.{Outage}
use Rattle.grid_model.specs.declared.parts.DeviceId.{DeviceId}
use Rattle.history_rules.specs.Crew.{above_of, above_in, top_within, count_within, is_device_of, CanBeOrdered}
use Rattle.crew_list.specs.Listed.{no_outage, outage_at}
use Rattle.crew_list.specs.Chains.{device_at, no_reach, reach_at, step_by, further, IsReached}
use Rattle.crew_list.specs.declared.chains.Reach.{Reach}

-- places of one device are one
pub same_place : (all : List Outage) → CanBeOrdered all → (i j : ℕ) → i < length all → j < length all → device_at all i ≡ device_at all j → i ≡ j
same_place all can i j li lj e = pick (cases_order i j)
  where
    pick : (i ≡ j) ⊎ ((i < j) ⊎ (j < i)) → i ≡ j
    pick (inl same) = same
    pick (inr (inl less)) = absurd (can.apart i j no_outage less lj e)
    pick (inr (inr more)) = absurd (can.apart j i no_outage more li (sym e))

found_in : (os : List Outage) (d k : ℕ) → k < length os → (get_or os k no_outage).device.0 ≡ d → ((j : ℕ) → j < k → (get_or os j no_outage).device.0 ≢ d)
    → find (λ o. o.device.0 == d) os ≡ Some (get_or os k no_outage)
found_in [] d k lt here before = absurd (omega arith)
found_in (o ∷ os) d zero lt here before = cond-true (o.device.0 == d) (Some o) (find (λ q. q.device.0 == d) os) (eq-eqb o.device.0 d here)
found_in (o ∷ os) d (suc k) lt here before =
    cond-false (o.device.0 == d) (Some o) (find (λ q. q.device.0 == d) os) (ne_eqb o.device.0 d (before 0 (omega arith)))
    ∙ found_in os d k (omega arith) here (λ j l. before (suc j) (omega arith))

-- what stands above the device of a place
pub above_at : (all : List Outage) → CanBeOrdered all → (k : ℕ) → k < length all → above_in all (device_at all k) ≡ above_of (Some (outage_at all k))
above_at all can k lt = ap above_of (found_in all (device_at all k) k lt refl (λ j l. can.apart j k no_outage l lt))

device_place : (os : List Outage) (d : ℕ) → list_any (λ o. o.device.0 == d) os ≡ true → (p : ℕ) × (p < length os) × ((get_or os p no_outage).device.0 ≡ d)
device_place [] d e = absurd (false≢true e)
device_place (o ∷ os) d e = pick (λ later. device_place os d later) (or_cases (o.device.0 == d) (list_any (λ q. q.device.0 == d) os) e)
  where
    pick : (list_any (λ q. q.device.0 == d) os ≡ true → (p : ℕ) × (p < length os) × ((get_or os p no_outage).device.0 ≡ d))
        → ((o.device.0 == d) ≡ true) ⊎ (list_any (λ q. q.device.0 == d) os ≡ true) → (p : ℕ) × (p < length (o ∷ os)) × ((get_or (o ∷ os) p no_outage).device.0 ≡ d)
    pick later (inl here) = (0, omega arith, eqb-true o.device.0 d here)
    pick later (inr there) = let p = later there in let lt : p.0 < length os = p.1 in (suc p.0, omega arith, p.2)

-- where nothing stands above, no step is taken
pub stays : (all : List Outage) (k d : ℕ) → above_in all d ≡ None → top_within all k d ≡ d
unfolding top_within
stays all zero d e = refl
stays all (suc k) d e = ap (λ o. option_map_or (top_within all k) o d) e

pub count_stays : (all : List Outage) (k d : ℕ) → above_in all d ≡ None → count_within all k d ≡ 0
unfolding count_within
count_stays all zero d e = refl
count_stays all (suc k) d e = ap (λ o. option_map_or (λ a. suc (count_within all k a)) o 0) e

top_split : (all : List Outage) (a b d : ℕ) (o : Option ℕ) → above_in all d ≡ o → ((e : ℕ) → top_within all (a + b) e ≡ top_within all b (top_within all a e))
    → option_map_or (top_within all (a + b)) o d ≡ top_within all b (option_map_or (top_within all a) o d)
top_split all a b d None is more = sym (stays all b d is)
top_split all a b d (Some e) is more = more e

pub top_more : (all : List Outage) (a b d : ℕ) → top_within all (a + b) d ≡ top_within all b (top_within all a d)
unfolding top_within
top_more all zero b d = let e : 0 + b ≡ b = omega arith in ap (λ n. top_within all n d) e
top_more all (suc a) b d =
    let e : suc a + b ≡ suc (a + b) = omega arith in
    ap (λ n. top_within all n d) e ∙ top_split all a b d (above_in all d) refl (λ u. top_more all a b u)

count_split : (all : List Outage) (a b d : ℕ) (o : Option ℕ) → above_in all d ≡ o → ((e : ℕ) → count_within all (a + b) e ≡ count_within all a e + count_within all b (top_within all a e))
    → option_map_or (λ e. suc (count_within all (a + b) e)) o 0 ≡ option_map_or (λ e. suc (count_within all a e)) o 0 + count_within all b (option_map_or (top_within all a) o d)
count_split all a b d None is more = let none = count_stays all b d is in omega arith
count_split all a b d (Some e) is more = let m = more e in omega arith

pub count_more : (all : List Outage) (a b d : ℕ) → count_within all (a + b) d ≡ count_within all a d + count_within all b (top_within all a d)
unfolding count_within top_within
count_more all zero b d =
    let e : 0 + b ≡ b = omega arith in
    let f : count_within all b d ≡ 0 + count_within all b d = omega arith in
    ap (λ n. count_within all n d) e ∙ f
count_more all (suc a) b d =
    let e : suc a + b ≡ suc (a + b) = omega arith in
    ap (λ n. count_within all n d) e ∙ count_split all a b d (above_in all d) refl (λ u. count_more all a b u)

few_of : (all : List Outage) (k : ℕ) (o : Option ℕ) → ((e : ℕ) → count_within all k e ≤ k) → option_map_or (λ e. suc (count_within all k e)) o 0 ≤ suc k
few_of all k None few = omega arith
few_of all k (Some e) few = let f = few e in omega arith

-- no more outages are counted than steps are taken
pub count_few : (all : List Outage) (k d : ℕ) → count_within all k d ≤ k
unfolding count_within
count_few all zero d = omega arith
count_few all (suc k) d = few_of all k (above_in all d) (λ e. count_few all k e)

-- what one step from a place comes to
record IsStep (all : List Outage) (k : ℕ) (r : Reach) : Type 0 where
  inside : r.place < length all
  top : device_at all r.place ≡ top_within all 1 (device_at all k)
  count : r.above ≡ count_within all 1 (device_at all k)

first_step : (all : List Outage) → CanBeOrdered all → (get : ℕ → Option ℕ) → ((k : ℕ) → k < length all → get (device_at all k) ≡ Some k)
    → (k : ℕ) → k < length all → (o : Option DeviceId) → (outage_at all k).above ≡ o → IsStep all k (step_by get k o)
unfolding top_within count_within
first_step all can get places k lt None is =
    let e : above_in all (device_at all k) ≡ None = above_at all can k lt ∙ ap (option_map (λ d. d.0)) is in
    record { inside = lt; top = sym (stays all 1 (device_at all k) e); count = sym (count_stays all 1 (device_at all k) e) }
first_step all can get places k lt (Some d) is =
    let e : above_in all (device_at all k) ≡ Some d.0 = above_at all can k lt ∙ ap (option_map (λ u. u.0)) is in
    let known : is_device_of all d.0 ≡ true = subst (λ o. IfSome o (λ u. is_device_of all u.0 ≡ true)) is (can.above k no_outage lt) in
    let p = device_place all d.0 known in
    let at : unwrap_or (get d.0) k ≡ p.0 = ap (λ o. unwrap_or o k) (ap get (sym p.2) ∙ places p.0 p.1) in
    record {
      inside = subst (λ n. n < length all) (sym at) p.1;
      top = ap (device_at all) at ∙ p.2 ∙ sym (ap (λ o. option_map_or (top_within all 0) o (device_at all k)) e);
      count = sym (ap (λ o. option_map_or (λ a. suc (count_within all 0 a)) o 0) e);
    }

-- one step from each place
pub first_reached : (all : List Outage) → CanBeOrdered all → (get : ℕ → Option ℕ) → ((k : ℕ) → k < length all → get (device_at all k) ≡ Some k)
    → (reaches : List Reach) → length reaches ≡ length all → ((k : ℕ) → k < length all → reach_at reaches k ≡ step_by get k (outage_at all k).above) → IsReached all 1 reaches
first_reached all can get places reaches each steps =
    let one : (k : ℕ) → k < length all → IsStep all k (reach_at reaches k) = (λ k lt. subst (IsStep all k) (sym (steps k lt)) (first_step all can get places k lt (outage_at all k).above refl)) in
    record { each = each; within = λ k lt. (one k lt).inside; place = λ k lt. (one k lt).top; above = λ k lt. (one k lt).count }

further_at : (reaches : List Reach) (k : ℕ) → k < length reaches → reach_at (map (further reaches) reaches) k ≡ further reaches (reach_at reaches k)
further_at reaches k lt = get_or-map (further reaches) reaches k no_reach no_reach lt

-- twice as many steps from each place
pub doubled_reached : (all : List Outage) (steps more : ℕ) (reaches next : List Reach) → IsReached all steps reaches → next ≡ map (further reaches) reaches → more ≡ steps + steps → IsReached all more next
doubled_reached all steps more reaches next r is twice =
    subst (λ n. IsReached all n next) (sym twice) (subst (IsReached all (steps + steps)) (sym is) (record { each = each; within = within; place = place; above = above }))
  where
    far : List Reach
    far = map (further reaches) reaches

    each : length far ≡ length all
    each = length-map reaches (further reaches) ∙ r.each

    inside : (k : ℕ) → k < length all → k < length reaches
    inside k lt = let e = r.each in omega arith

    within : (k : ℕ) → k < length all → (reach_at far k).place < length all
    within k lt = subst (λ x. x.place < length all) (sym (further_at reaches k (inside k lt))) (r.within (reach_at reaches k).place (r.within k lt))

    place : (k : ℕ) → k < length all → device_at all (reach_at far k).place ≡ top_within all (steps + steps) (device_at all k)
    place k lt =
        ap (λ x. device_at all x.place) (further_at reaches k (inside k lt)) ∙ r.place (reach_at reaches k).place (r.within k lt)
        ∙ ap (top_within all steps) (r.place k lt) ∙ sym (top_more all steps steps (device_at all k))

    above : (k : ℕ) → k < length all → (reach_at far k).above ≡ count_within all (steps + steps) (device_at all k)
    above k lt =
        ap (λ x. x.above) (further_at reaches k (inside k lt)) ∙ ap (λ n. n + (reach_at reaches (reach_at reaches k).place).above) (r.above k lt)
        ∙ ap (λ n. count_within all steps (device_at all k) + n) (r.above (reach_at reaches k).place (r.within k lt) ∙ ap (count_within all steps) (r.place k lt))
        ∙ sym (count_more all steps steps (device_at all k))

-- more steps than there are outages lead no further
pub whole_reached : (all : List Outage) → CanBeOrdered all → (steps : ℕ) (reaches : List Reach) → length all ≤ steps → IsReached all steps reaches → IsReached all (length all) reaches
whole_reached all can steps reaches le r = record { each = r.each; within = r.within; place = place; above = above }
  where
    rest : ℕ
    rest = steps - length all

    split : steps ≡ length all + rest
    split = omega arith

    ends : (k : ℕ) → k < length all → above_in all (top_within all (length all) (device_at all k)) ≡ None
    ends k lt = can.ends k no_outage lt

    place : (k : ℕ) → k < length all → device_at all (reach_at reaches k).place ≡ top_within all (length all) (device_at all k)
    place k lt =
        r.place k lt ∙ ap (λ n. top_within all n (device_at all k)) split ∙ top_more all (length all) rest (device_at all k)
        ∙ stays all rest (top_within all (length all) (device_at all k)) (ends k lt)

    above : (k : ℕ) → k < length all → (reach_at reaches k).above ≡ count_within all (length all) (device_at all k)
    above k lt =
        let e = r.above k lt in
        let f : count_within all steps (device_at all k) ≡ count_within all (length all + rest) (device_at all k) = ap (λ n. count_within all n (device_at all k)) split in
        let g = count_more all (length all) rest (device_at all k) in
        let h = count_stays all rest (top_within all (length all) (device_at all k)) (ends k lt) in
        omega arith
