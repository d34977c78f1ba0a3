-- The computed table of a radial network is a forest with exact rows, so the computed cut is the diagnosis.
use Rattle.std.proofs.Common.{◌≡◌, ℕ, zero, suc, ◌+◌, ◌-◌, ◌<◌, ◌≤◌, min, Bool, true, false, cond, refl, sym, ap, ◌∙◌, subst, inl, inr, ⊎_elim, arith}
use Rattle.std.specs.Prelude.{◌||◌, ◌&&◌, not, ◌⊎◌, ◌==◌}
use Rattle.std.proofs.lemmas.Bool.{cases_Bool, or_cases, or_right, and_parts, false≢true, ne_eqb, eqb-true, not-true}
use Rattle.outage_rules.specs.Sum.{some_below}
use Rattle.outage_rules.specs.Network.{Problem, IsSound, IsRadial, Joins, usable, live_within, is_live, nothing}
use Rattle.outage_rules.specs.Diagnosis.{IsDiagnosis}
use Rattle.outage_rules.specs.Certificate.{Table, has_parent, upper, is_child, choice, dark_share, IsRooted, IsForest, IsWhole, HasParent, HasExactRows}
use Rattle.outage_rules.specs.Reference.{least_below, last_below, distance, leads_to, Costs, table_with, costs_within, table_of, reference_cut, greedy}
use Rattle.outage_rules.proofs.Sums.{total_same, some_below_at}
use Rattle.outage_rules.proofs.Live.{carries, carried, live_from_within, live_test, live_from_test}
use Rattle.outage_rules.proofs.Radial.{forest_from_radial}
use Rattle.outage_rules.proofs.Cautious.{is_diagnosis}
use Rattle.outage_rules.proofs.Exists.{greedy_opens}

least_passes : (b : ℕ) (test : ℕ → Bool) → test b ≡ true → test (least_below b test) ≡ true
least_passes zero test e = e
least_passes (suc b) test e = ⊎_elim
    (λ x. subst (λ y. test (cond y 0 (suc (least_below b (λ k. test (suc k))))) ≡ true) (sym x) x)
    (λ x. subst (λ y. test (cond y 0 (suc (least_below b (λ k. test (suc k))))) ≡ true) (sym x) (least_passes b (λ k. test (suc k)) e))
    (cases_Bool (test 0))

least_first : (b : ℕ) (test : ℕ → Bool) (k : ℕ) → test k ≡ true → least_below b test ≤ k
least_first zero test k e = omega arith
least_first (suc b) test zero e = subst (λ y. cond y 0 (suc (least_below b (λ k. test (suc k)))) ≤ 0) (sym e) (omega arith)
least_first (suc b) test (suc k) e = ⊎_elim
    (λ x. subst (λ y. cond y 0 (suc (least_below b (λ k. test (suc k)))) ≤ suc k) (sym x) (omega arith))
    (λ x. subst (λ y. cond y 0 (suc (least_below b (λ k. test (suc k)))) ≤ suc k) (sym x) (let r = least_first b (λ k. test (suc k)) k e in omega arith))
    (cases_Bool (test 0))

last_passes : (n : ℕ) (test : ℕ → Bool) → some_below n test ≡ true → (last_below n test < n) × (test (last_below n test) ≡ true)
last_passes zero test e = absurd (false≢true e)
last_passes (suc n) test e = ⊎_elim
    (λ x. subst (λ y. (cond y n (last_below n test) < suc n) × (test (cond y n (last_below n test)) ≡ true)) (sym x) (omega arith, x))
    (λ x. subst (λ y. (cond y n (last_below n test) < suc n) × (test (cond y n (last_below n test)) ≡ true)) (sym x)
    (let r = last_passes n test (⊎_elim (λ s. s) (λ s. absurd (false≢true (sym x ∙ s))) (or_cases (some_below n test) (test n) e)) in let l = r.0 in (omega arith, r.1)))
    (cases_Bool (test n))

same_bool : (a b : Bool) → (a ≡ true → b ≡ true) → (b ≡ true → a ≡ true) → a ≡ b
same_bool true b f g = sym (f refl)
same_bool false true f g = g refl
same_bool false false f g = refl

module _ (p : Problem) (sound : IsSound p) where
  -- how a node hangs from a nearer one
  record Hangs (n k d : ℕ) : Type 0 where
    pub within : d < p.devices
    pub closed : p.is_closed d ≡ true
    pub ends : (p.from d ≡ n) ⊎ (p.to d ≡ n)
    pub near : live_within p.net nothing k (cond (p.to d == n) (p.from d) (p.to d)) ≡ true
    pub joins : Joins p.net nothing d (cond (p.to d == n) (p.from d) (p.to d)) n
    pub node : cond (p.to d == n) (p.from d) (p.to d) < p.nodes

  hangs : (n k d : ℕ) → d < p.devices → leads_to p.net (live_within p.net nothing k) n d ≡ true → Hangs n k d
  hangs n k d l e =
      let a = and_parts (usable p.net nothing d) ((p.to d == n && live_within p.net nothing k (p.from d)) || (p.from d == n && live_within p.net nothing k (p.to d))) e in
      let c = (and_parts (p.is_closed d) (not (nothing d)) a.0).0 in
      ⊎_elim
      (λ x. let b = and_parts (p.to d == n) (live_within p.net nothing k (p.from d)) x in
      let t = eqb-true (p.to d) n b.0 in
      let u : cond (p.to d == n) (p.from d) (p.to d) ≡ p.from d = ap (λ y. cond y (p.from d) (p.to d)) b.0 in
      record {
        within = l;
        closed = c;
        ends = inr t;
        near = ap (live_within p.net nothing k) u ∙ b.1;
        joins = record { within = l; closed = c; uncut = refl; ends = inl (sym u, t) };
        node = subst (λ y. y < p.nodes) (sym u) (sound.from d l);
      })
      (λ x. let b = and_parts (p.from d == n) (live_within p.net nothing k (p.to d)) x in
      let f = eqb-true (p.from d) n b.0 in
      let u : cond (p.to d == n) (p.from d) (p.to d) ≡ p.to d = ap (λ y. cond y (p.from d) (p.to d)) (ne_eqb (p.to d) n (λ t. sound.apart d l (f ∙ sym t))) in
      record {
        within = l;
        closed = c;
        ends = inl f;
        near = ap (live_within p.net nothing k) u ∙ b.1;
        joins = record { within = l; closed = c; uncut = refl; ends = inr (f, sym u) };
        node = subst (λ y. y < p.nodes) (sym u) (sound.to d l);
      })
      (or_cases (p.to d == n && live_within p.net nothing k (p.from d)) (p.from d == n && live_within p.net nothing k (p.to d)) a.1)

  at_distance : (n : ℕ) → is_live p.net nothing n ≡ true → live_within p.net nothing (distance p.net n) n ≡ true
  at_distance n e = least_passes p.nodes (λ k. live_within p.net nothing k n) e

  module _ (c : Costs) where
    hung : (n k : ℕ) → n < p.nodes → distance p.net n ≡ k → is_live p.net nothing n ≡ true → p.is_source n ≡ false → HasParent p.net (table_with p c) n
    hung n zero l dist on src = absurd (false≢true (sym src ∙ subst (λ k. live_within p.net nothing k n ≡ true) dist (at_distance n on)))
    hung n (suc k) l dist on src =
        let here : live_within p.net nothing (suc k) n ≡ true = subst (λ j. live_within p.net nothing j n ≡ true) dist (at_distance n on) in
        let some = ⊎_elim
        (λ x. let y = least_first p.nodes (λ j. live_within p.net nothing j n) k x in absurd (omega (arith, dist)))
        (λ x. x)
        (or_cases (live_within p.net nothing k n) (some_below p.devices (leads_to p.net (live_within p.net nothing k) n)) here) in
        let back : k ≡ distance p.net n - 1 = omega (arith, dist) in
        let last = last_passes p.devices (leads_to p.net (live_within p.net nothing (distance p.net n - 1)) n) (subst (λ j. some_below p.devices (leads_to p.net (live_within p.net nothing j) n) ≡ true) back some) in
        let h = hangs n (distance p.net n - 1) ((table_with p c).parent n) last.0 last.1 in
        let u = upper p.net (table_with p c) n in
        let listed : is_live p.net nothing u ≡ true = live_test p.net nothing sound.net u h.node (live_from_within p.net nothing (distance p.net n - 1) u h.near) in
        let less = least_first p.nodes (λ j. live_within p.net nothing j u) (distance p.net n - 1) h.near in
        let over : live_within p.net nothing (suc (distance p.net u)) n ≡ true = or_right (live_within p.net nothing (distance p.net u) n) _
        (some_below_at p.devices (carries p.net nothing (live_within p.net nothing (distance p.net u)) n) ((table_with p c).parent n) h.within
        (carried p.net nothing (live_within p.net nothing (distance p.net u)) ((table_with p c).parent n) u n h.joins (at_distance u listed))) in
        let more = least_first p.nodes (λ j. live_within p.net nothing j n) (suc (distance p.net u)) over in
        record {
          within = h.within;
          closed = h.closed;
          ends = h.ends;
          listed = listed;
          deeper = omega (arith, dist, less, more);
        }

    rooted : IsRooted p.net (table_with p c)
    rooted = record {
      source = λ n l s. let on = live_test p.net nothing sound.net n l (n, 0, s, refl) in (on, let z = least_first p.nodes (λ j. live_within p.net nothing j n) 0 s in omega (arith, z));
      parent = λ n l hp. let a = and_parts (is_live p.net nothing n) (not (p.is_source n)) hp in hung n (distance p.net n) l refl a.0 (not-true (p.is_source n) a.1);
    }

    onward : (d a b : ℕ) → d < p.devices → p.is_closed d ≡ true → ((p.from d ≡ a) × (p.to d ≡ b)) ⊎ ((p.from d ≡ b) × (p.to d ≡ a)) → b < p.nodes → is_live p.net nothing a ≡ true → is_live p.net nothing b ≡ true
    onward d a b l cl ends lb on =
        let v = live_from_test p.net nothing a on in
        live_test p.net nothing sound.net b lb (v.0, suc v.1, v.2, (a, d, v.3, record { within = l; closed = cl; uncut = refl; ends = ends }))

    whole : IsWhole p.net (table_with p c)
    whole d l cl = same_bool (is_live p.net nothing (p.from d)) (is_live p.net nothing (p.to d))
        (onward d (p.from d) (p.to d) l cl (inl (refl, refl)) (sound.to d l))
        (onward d (p.to d) (p.from d) l cl (inr (refl, refl)) (sound.from d l))

  -- after k rounds the rows at distance d are settled, where d + k is more than the number of nodes
  near : (n : ℕ) → is_live p.net nothing n ≡ true → distance p.net n ≤ p.nodes
  near n on = least_first p.nodes (λ k. live_within p.net nothing k n) p.nodes on

  abbrev round : ℕ → Table
  round k = table_with p (costs_within p k)

  abbrev Settled : ℕ → ℕ → Type 0
  Settled k n = ((round k).live_cost n ≡ (round (suc k)).live_cost n) × ((round k).dark_cost n ≡ (round (suc k)).dark_cost n)

  abbrev FarSettled : ℕ → Type 0
  FarSettled k = (n : ℕ) → n < p.nodes → is_live p.net nothing n ≡ true → p.nodes < distance p.net n + k → Settled k n

  one_more : (k : ℕ) → FarSettled k → FarSettled (suc k)
  one_more k known n l on far = (
    ap (λ s. p.dark_weight n + s) (total_same p.nodes (λ m. cond (is_child p.net (round k) n m) (choice p (round k) m) 0) (λ m. cond (is_child p.net (round k) n m) (choice p (round (suc k)) m) 0) (λ m lm. lives m lm (cases_Bool (is_child p.net (round k) n m)))),
    ap (λ s. p.live_weight n + s) (total_same p.nodes (λ m. cond (is_child p.net (round k) n m) (dark_share p (round k) m) 0) (λ m. cond (is_child p.net (round k) n m) (dark_share p (round (suc k)) m) 0) (λ m lm. darks m lm (cases_Bool (is_child p.net (round k) n m)))),
  )
    where
      below : (m : ℕ) → m < p.nodes → is_child p.net (round k) n m ≡ true → ((round k).live_cost m ≡ (round (suc k)).live_cost m) × ((round k).dark_cost m ≡ (round (suc k)).dark_cost m)
      below m lm ch =
          let a = and_parts (has_parent p.net (round k) m) (upper p.net (round k) m == n) ch in
          let b = and_parts (is_live p.net nothing m) (not (p.is_source m)) a.0 in
          let h = (rooted (costs_within p k)).parent m lm a.0 in
          let deep = h.deeper in
          let e = ap (distance p.net) (eqb-true (upper p.net (round k) m) n a.1) in
          known m lm b.0 (omega (arith, deep, e, far))

      choice_by : ℕ → ℕ → ℕ → ℕ
      choice_by m live dark = cond (p.marked_open ((round k).parent m)) (p.weight ((round k).parent m) + dark) (cond (p.marked_ok ((round k).parent m)) live (min (p.weight ((round k).parent m) + dark) live))

      lives : (m : ℕ) → m < p.nodes → (is_child p.net (round k) n m ≡ true) ⊎ (is_child p.net (round k) n m ≡ false) → cond (is_child p.net (round k) n m) (choice p (round k) m) 0 ≡ cond (is_child p.net (round k) n m) (choice p (round (suc k)) m) 0
      lives m lm (inl ch) =
          let s = below m lm ch in
          ap (λ x. cond (is_child p.net (round k) n m) x 0)
          (ap (λ x. cond (p.marked_open ((round k).parent m)) (p.weight ((round k).parent m) + (round k).dark_cost m) (cond (p.marked_ok ((round k).parent m)) x (min (p.weight ((round k).parent m) + (round k).dark_cost m) x))) s.0
          ∙ ap (λ y. cond (p.marked_open ((round k).parent m)) (p.weight ((round k).parent m) + y) (cond (p.marked_ok ((round k).parent m)) ((round (suc k)).live_cost m) (min (p.weight ((round k).parent m) + y) ((round (suc k)).live_cost m)))) s.1)
      lives m lm (inr ch) = ap (λ b. cond b (choice p (round k) m) 0) ch ∙ sym (ap (λ b. cond b (choice p (round (suc k)) m) 0) ch)

      darks : (m : ℕ) → m < p.nodes → (is_child p.net (round k) n m ≡ true) ⊎ (is_child p.net (round k) n m ≡ false) → cond (is_child p.net (round k) n m) (dark_share p (round k) m) 0 ≡ cond (is_child p.net (round k) n m) (dark_share p (round (suc k)) m) 0
      darks m lm (inl ch) =
          let s = below m lm ch in
          ap (λ x. cond (is_child p.net (round k) n m) (x + cond (p.marked_open ((round k).parent m)) (p.weight ((round k).parent m)) 0) 0) s.1
      darks m lm (inr ch) = ap (λ b. cond b (dark_share p (round k) m) 0) ch ∙ sym (ap (λ b. cond b (dark_share p (round (suc k)) m) 0) ch)

  settled : (k : ℕ) → FarSettled k
  settled zero n l on far = let d = near n on in absurd (omega arith)
  settled (suc k) n l on far = one_more k (settled k) n l on far

  rows : HasExactRows p (table_of p)
  rows = record {
    live = λ n l on. (settled (suc p.nodes) n l on (omega arith)).0;
    dark = λ n l on. (settled (suc p.nodes) n l on (omega arith)).1;
  }

-- the computed table is a forest with exact rows
pub exact_table : (p : Problem) → IsSound p → IsRadial p.net → IsForest p.net (table_of p) × HasExactRows p (table_of p)
exact_table p sound radial =
    let c = costs_within p (suc p.nodes) in
    (forest_from_radial p.net (table_of p) sound.net (rooted p sound c) (whole p sound c) radial, rows p sound)

-- so its cut is the diagnosis
pub computed : (p : Problem) → IsSound p → IsRadial p.net → IsDiagnosis p (reference_cut p)
computed p sound radial =
    let exact = exact_table p sound radial in
    is_diagnosis p (table_of p) sound exact.0 exact.1 (greedy p (table_of p)) (greedy_opens p (table_of p) sound exact.0)
