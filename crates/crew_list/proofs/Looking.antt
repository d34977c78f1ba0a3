-- The loops that find the places of devices, and take the first steps.
use Rattle.std.proofs.Common.{◌≡◌, ℕ, ◌+◌, ◌<◌, Bool, true, false, cond, List, length, get_or, refl, sym, ap, ◌∙◌, inl, inr, arith}
use Rattle.std.specs.Prelude.{◌⊎◌, ltb, Some}
use Rattle.std.specs.Ordering.{is_eq, nat_cmp}
use Rattle.std.specs.declared.cmp.Ordering.TheVariants.{Less, Equal, Greater}
use Rattle.std.specs.BTreeMap.{BTreeMap, get, Updates}
use Rattle.std.proofs.lemmas.Bool.{cases_eq, ne_eqb}
use Rattle.std.proofs.lemmas.List.{get_or_default}
use Rattle.grid_model.specs.declared.history.Outage.{Outage}
use Rattle.history_rules.specs.Crew.{CanBeOrdered}
use Rattle.crew_list.specs.Listed.{no_outage}
use Rattle.crew_list.specs.Chains.{device_at, no_reach, reach_at, IsReached}
use Rattle.crew_list.specs.declared.chains.Reach.{Reach}
use Rattle.crew_list.proofs.Steps.{count_few}

neither : (t : Bool) → is_eq (cond t Less Greater) ≡ false
neither true = refl
neither false = refl

ne_at : (a b : ℕ) → (a ≡ b → ⊥) → is_eq (nat_cmp a b) ≡ false
ne_at a b ne = ap (λ t. is_eq (cond (ltb a b) Less (cond t Equal Greater))) (ne_eqb a b ne) ∙ neither (ltb a b)

-- one more device has its place
pub placed_more : (all : List Outage) → CanBeOrdered all → (m n : BTreeMap ℕ ℕ) (i : ℕ) (e : Outage) → i < length all
    → ((k : ℕ) → k < i → get nat_cmp m (device_at all k) ≡ Some k) → Updates nat_cmp m n (get_or all i e).device.0 (Some i)
    → (k : ℕ) → k < i + 1 → get nat_cmp n (device_at all k) ≡ Some k
placed_more all can m n i e lt before up k l = pick (cases_eq k i)
  where
    is : (get_or all i e).device.0 ≡ device_at all i
    is = ap (λ o. o.device.0) (get_or_default all i e no_outage lt)

    pick : (k ≡ i) ⊎ (k ≡ i → ⊥) → get nat_cmp n (device_at all k) ≡ Some k
    pick (inl same) = ap (λ j. get nat_cmp n (device_at all j)) same ∙ ap (get nat_cmp n) (sym is) ∙ up.1 ∙ ap Some (sym same)
    pick (inr ne) =
        let less : k < i = omega arith in
        up.2 (device_at all k) (ne_at (get_or all i e).device.0 (device_at all k) (λ same. can.apart k i no_outage less lt (sym same ∙ is))) ∙ before k less

-- no more outages are counted than fit
pub few_reached : (all : List Outage) (steps bound : ℕ) (reaches xs : List Reach) → IsReached all steps reaches → xs ≡ reaches → steps < bound
    → (k : ℕ) (d : Reach) → k < length xs → (get_or xs k d).above < bound
few_reached all steps bound reaches xs r is few k d lt =
    let inside : k < length all = omega (arith, ap length is, r.each) in
    let e : (get_or xs k d).above ≡ (reach_at xs k).above = ap (λ x. x.above) (get_or_default xs k d no_reach lt) in
    let f : (reach_at xs k).above ≡ (reach_at reaches k).above = ap (λ ys. (reach_at ys k).above) is in
    let g = r.above k inside in
    let h = count_few all steps (device_at all k) in
    omega arith

-- each step leads to an outage
pub within_reached : (all : List Outage) (steps : ℕ) (reaches xs : List Reach) → IsReached all steps reaches → xs ≡ reaches
    → (k : ℕ) (d : Reach) → k < length xs → (get_or xs k d).place < length xs
within_reached all steps reaches xs r is k d lt =
    let inside : k < length all = omega (arith, ap length is, r.each) in
    let e : (get_or xs k d).place ≡ (reach_at xs k).place = ap (λ x. x.place) (get_or_default xs k d no_reach lt) in
    let f : (reach_at xs k).place ≡ (reach_at reaches k).place = ap (λ ys. (reach_at ys k).place) is in
    let g = r.within k inside in
    let h : length xs ≡ length all = ap length is ∙ r.each in
    omega arith
