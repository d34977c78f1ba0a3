-- One meter more in the tallies.
use Rattle.std.proofs.Common.{◌≡◌, ℕ, zero, suc, ◌+◌, ◌*◌, ◌<◌, ◌≤◌, Bool, true, false, cond, refl, sym, ap, ◌∙◌, subst, ⊎_elim, arith, List, [], ◌∷◌, ◌++◌, length, set, Option, Some, None, add-one, append-nil, suc-mul, inl, inr, length-append, length-set}
use Rattle.std.specs.Prelude.{option_map, ◌||◌, filter, sum_by, ◌⊎◌}
use Rattle.std.specs.List.{list_any, range_with_len}
use Rattle.std.proofs.lemmas.Bool.{cases_eq, cases_order, eq-eqb, ne_eqb}
use Rattle.std.proofs.lemmas.List.{get_or-set_same, get_or-set_other, get_or_past}
use Rattle.std.proofs.lemmas.List.Elements.{filter-append}
use Rattle.std.proofs.lemmas.List.Folds.{list_any-append}
use Rattle.std.proofs.lemmas.List.Sums.{sum_by_push, sum_by-cons, fold_push}
use Rattle.grid_model.specs.Parts.{Parts}
use Rattle.grid_model.specs.Places.{node_of, no_meter, meter_at}
use Rattle.grid_model.specs.Sound.{IsSoundParts}
use Rattle.grid_model.specs.declared.parts.DeviceId.{DeviceId}
use Rattle.grid_model.specs.declared.parts.Meter.{Meter}
use Rattle.grid_model.specs.declared.history.Stamp.{Stamp}
use Rattle.history_rules.specs.Evidence.{earliest}
use Rattle.history_rules.specs.Outages.{is_at, customers_of}
use Rattle.evidence.specs.Kept.{Evident, stamp_at}
use Rattle.nested_faults.specs.LastCuts.{noted_at}
use Rattle.nested_faults.specs.Tallies.{no_tally, tally_at, members, since_kept, back_kept, IsTallyOf, AreTallies}
use Rattle.nested_faults.specs.declared.tally.Tally.{Tally}
use Rattle.nested_faults.proofs.Ranges.{range_more}

-- of no meters
pub none_told : (g : Parts) (e : Evident) → IsTallyOf g e [] no_tally
none_told g e = record { count = refl; customers = refl; since = refl; nested = refl }

or_none : (b : Bool) → (b || false) ≡ b
or_none true = refl
or_none false = refl

-- of one meter more
one_more : (g : Parts) (e : Evident) (ms : List ℕ) (m : ℕ) (t u : Tally) → IsTallyOf g e ms t → u.meters ≡ t.meters + 1 → u.customers ≡ t.customers + customers_of g m
    → option_map (λ s. s.0) u.since ≡ earliest (option_map (λ s. s.0) t.since) (since_kept g e m) → u.nested ≡ (t.nested || back_kept g e m) → IsTallyOf g e (ms ++ m ∷ []) u
one_more g e ms m t u told count customers since nested = record {
  count = let a = told.count in let b = length-append ms (m ∷ []) in omega arith;
  customers = let a = told.customers in let b = sum_by_push (customers_of g) ms m in omega arith;
  since = since ∙ ap (λ x. earliest x (since_kept g e m)) told.since ∙ sym (fold_push (λ s m. earliest s (since_kept g e m)) None ms m);
  nested = nested ∙ ap (λ b. b || back_kept g e m) told.nested ∙ ap (λ b. list_any (back_kept g e) ms || b) (sym (or_none (back_kept g e m))) ∙ sym (list_any-append (back_kept g e) ms (m ∷ []));
}

filter_more : (test : ℕ → Bool) (m : ℕ) → filter test (range_with_len 0 (m + 1)) ≡ filter test (range_with_len 0 m) ++ cond (test m) (m ∷ []) []
filter_more test m =
    ap (λ n. filter test (range_with_len 0 n)) (add-one m)
    ∙ ap (filter test) (range_more 0 m ∙ ap (λ x. range_with_len 0 m ++ x ∷ []) (let e : 0 + m ≡ m = omega arith in e))
    ∙ filter-append test (range_with_len 0 m) (m ∷ [])

module _ (g : Parts) (e : Evident) (last : List (Option DeviceId)) (m : ℕ) where
  joins : (d : ℕ) → Bool
  joins d = is_at d (option_map (λ x. x.0) (noted_at last (node_of g m)))

  -- the meter is one of the device that is noted of its node
  member : (d : ℕ) (o : Option DeviceId) → o ≡ noted_at last (node_of g m) → is_at d (option_map (λ x. x.0) o) ≡ true → members g last d (m + 1) ≡ members g last d m ++ m ∷ []
  member d o is e =
      filter_more (λ k. is_at d (option_map (λ x. x.0) (noted_at last (node_of g k)))) m
      ∙ ap (λ b. members g last d m ++ cond b (m ∷ []) []) (ap (λ x. is_at d (option_map (λ y. y.0) x)) (sym is) ∙ e)

  -- and of no other one
  no_member : (d : ℕ) (o : Option DeviceId) → o ≡ noted_at last (node_of g m) → is_at d (option_map (λ x. x.0) o) ≡ false → members g last d (m + 1) ≡ members g last d m
  no_member d o is e =
      filter_more (λ k. is_at d (option_map (λ x. x.0) (noted_at last (node_of g k)))) m
      ∙ ap (λ b. members g last d m ++ cond b (m ∷ []) []) (ap (λ x. is_at d (option_map (λ y. y.0) x)) (sym is) ∙ e)
      ∙ append-nil (members g last d m)

  pub passed_by : (tallies : List Tally) → AreTallies g e last m tallies → ◌≡◌ {A = Option DeviceId} None (noted_at last (node_of g m)) → AreTallies g e last (m + 1) tallies
  passed_by tallies before is d l = subst (λ ms. IsTallyOf g e ms (tally_at tallies d)) (sym (no_member d None is refl)) (before d l)

  pub counted_in : (tallies : List Tally) (x : DeviceId) (u : Tally) → AreTallies g e last m tallies → Some x ≡ noted_at last (node_of g m) → x.0 < length tallies
      → IsTallyOf g e (members g last x.0 m ++ m ∷ []) u → AreTallies g e last (m + 1) (set tallies x.0 u)
  counted_in tallies x u before is within told d l =
      ⊎_elim
      (λ s. subst (λ k. IsTallyOf g e (members g last k (m + 1)) (tally_at (set tallies x.0 u) k)) s
      (subst (λ t. IsTallyOf g e (members g last x.0 (m + 1)) t) (sym (get_or-set_same tallies x.0 u no_tally within))
      (subst (λ ms. IsTallyOf g e ms u) (sym (member x.0 (Some x) is (eq-eqb x.0 x.0 refl))) told)))
      (λ ne. subst (λ t. IsTallyOf g e (members g last d (m + 1)) t) (sym (get_or-set_other tallies x.0 d u no_tally (λ s. ne (sym s))))
      (subst (λ ms. IsTallyOf g e ms (tally_at tallies d)) (sym (no_member d (Some x) is (ne_eqb x.0 d ne))) (before d (let a = length-set tallies x.0 u in omega arith))))
      (cases_eq x.0 d)

-- no more than all numbers of a range, and as many times the most at one
filter_few : (test : ℕ → Bool) (f : ℕ → ℕ) (most : ℕ) (a n : ℕ) → ((k : ℕ) → f k ≤ most) → (length (filter test (range_with_len a n)) ≤ n) × (sum_by f (filter test (range_with_len a n)) ≤ n * most)
filter_few test f most a zero small = (omega arith, omega arith)
filter_few test f most a (suc n) small = by (test a) (filter_few test f most (a + 1) n small)
  where
    by : (b : Bool) → (length (filter test (range_with_len (a + 1) n)) ≤ n) × (sum_by f (filter test (range_with_len (a + 1) n)) ≤ n * most)
        → (length (cond b (a ∷ filter test (range_with_len (a + 1) n)) (filter test (range_with_len (a + 1) n))) ≤ suc n) × (sum_by f (cond b (a ∷ filter test (range_with_len (a + 1) n)) (filter test (range_with_len (a + 1) n))) ≤ suc n * most)
    by true few = (let x = few.0 in omega arith, (let x = few.1 in let y = small a in let s = sum_by-cons f a (filter test (range_with_len (a + 1) n)) in let z = suc-mul n most in omega arith))
    by false few = (let x = few.0 in omega arith, (let x = few.1 in let z = suc-mul n most in omega arith))

module _ (g : Parts) (sound : IsSoundParts g) where
  few_customers : (k : ℕ) → customers_of g k ≤ 1000000
  few_customers k =
      ⊎_elim
      (λ l. (sound.meters k l).most_customers)
      (λ l. let e = ap (λ m. m.customers) (get_or_past g.meters k no_meter l) in omega arith)
      (below_or_not k (length g.meters))
    where
      below_or_not : (a b : ℕ) → (a < b) ⊎ (b ≤ a)
      below_or_not a b = ⊎_elim (λ e. inr (omega (arith, e))) (λ s. ⊎_elim (λ l. inl l) (λ l. inr (omega (arith, l))) s) (cases_order a b)

  -- what is told of some of the first meters has room for one meter more
  pub room_for_one : (e : Evident) (last : List (Option DeviceId)) (d m : ℕ) (t : Tally) → m < length g.meters → IsTallyOf g e (members g last d m) t
      → (t.meters + 1 ≤ 500000) × (t.customers + customers_of g m ≤ 500000000000)
  room_for_one e last d m t l told =
      let few = filter_few (λ k. is_at d (option_map (λ x. x.0) (noted_at last (node_of g k)))) (customers_of g) 1000000 0 m few_customers in
      let one = few_customers m in
      let most = sound.few_meters in
      let a = told.count in
      let b = told.customers in
      let x = few.0 in
      let y = few.1 in
      (omega arith, omega arith)

-- the seconds of a time
pub seconds_back : (o : Option ℕ) → option_map (λ t. t.0) (option_map stamp_at o) ≡ o
seconds_back None = refl
seconds_back (Some t) = refl

-- what is told of one meter more, by what was kept of it
pub one_counted : (g : Parts) (e : Evident) (ms : List ℕ) (m : ℕ) (t u : Tally) (meter : Meter) (since : Option Stamp) (back : Bool)
    → IsTallyOf g e ms t → meter ≡ meter_at g m → since ≡ option_map stamp_at (since_kept g e m) → back ≡ back_kept g e m
    → u.meters ≡ t.meters + 1 → u.customers ≡ t.customers + meter.customers → option_map (λ s. s.0) u.since ≡ earliest (option_map (λ s. s.0) t.since) (option_map (λ s. s.0) since)
    → u.nested ≡ (t.nested || back) → IsTallyOf g e (ms ++ m ∷ []) u
one_counted g e ms m t u meter since back told is_meter is_since is_back count customers first nested =
    one_more g e ms m t u told count
    (customers ∙ ap (λ x. t.customers + x.customers) is_meter)
    (first ∙ ap (earliest (option_map (λ s. s.0) t.since)) (ap (option_map (λ s. s.0)) is_since ∙ seconds_back (since_kept g e m)))
    (nested ∙ ap (λ b. t.nested || b) is_back)
