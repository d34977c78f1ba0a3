-- What closing a device with one fed end comes to.
use Rattle.std.proofs.Common.{◌≡◌, ◌≢◌, ℕ, zero, suc, ◌<◌, Bool, true, false, List, length, refl, sym, ap, ◌∙◌, subst, inl, inr, ⊎_elim, get_or, set}
use Rattle.std.specs.Prelude.{◌&&◌, ◌||◌, not, ◌⊎◌}
use Rattle.std.proofs.lemmas.Bool.{cases_Bool, cases_eq, eq-eqb, false≢true, false_from_ne_true, not-true, not_from_false}
use Rattle.std.proofs.lemmas.List.{get_or-set_same, get_or-set_other}
use Rattle.outage_rules.specs.Network.{Joins, Walk, IsLive, IsSoundNetwork, Cut, only, nothing, is_live}
use Rattle.outage_rules.specs.Loops.{would_loop}
use Rattle.outage_rules.proofs.Live.{live_test, live_from_test}
use Rattle.outage_rules.proofs.Loops.{AreLooped, looped_by_walks}
use Rattle.outage_rules.proofs.Closing.{Path, then_to, one, back}
use Rattle.grid_model.specs.Parts.{Parts}
use Rattle.grid_model.specs.Network.{network_in}
use Rattle.grid_model.specs.Places.{device_at}
use Rattle.restore_plan.specs.States.{network_at, is_fed}
use Rattle.restore_plan.specs.Restoring.{has_one_fed_end, is_ready}

-- one of two tests passes
one_passes : (a b : Bool) → ((a && not b) || (b && not a)) ≡ true → ((a ≡ true) × (b ≡ false)) ⊎ ((b ≡ true) × (a ≡ false))
one_passes true false e = inl (refl, refl)
one_passes false true e = inr (refl, refl)
one_passes true true e = absurd (false≢true e)
one_passes false false e = absurd (false≢true e)

-- both do or none
both_same : (a b : Bool) → ((a && not b) || (b && not a)) ≡ false → a ≡ b
both_same true true e = refl
both_same false false e = refl
both_same true false e = absurd (false≢true (sym e))
both_same false true e = absurd (false≢true (sym e))

-- with more devices closed all walks stay
more_walks : (g : Parts) (c more : ℕ → Bool) (cut : Cut) → ((d : ℕ) → d < length g.devices → c d ≡ true → more d ≡ true) → (k a b : ℕ) → Walk (network_in g c) cut k a b → Walk (network_in g more) cut k a b
more_walks g c more cut h zero a b w = w
more_walks g c more cut h (suc k) a b w =
    (w.0, w.1, more_walks g c more cut h k a w.0 w.2, record { within = w.3.within; closed = h w.1 w.3.within w.3.closed; uncut = w.3.uncut; ends = w.3.ends })

module _ (g : Parts) (closed : List Bool) (sound : IsSoundNetwork (network_at g closed)) where
  walked : (n : ℕ) → is_fed g closed n ≡ true → IsLive (network_at g closed) nothing n
  walked n e = live_from_test (network_at g closed) nothing n e

  tested : (n : ℕ) → n < length g.nodes → IsLive (network_at g closed) nothing n → is_fed g closed n ≡ true
  tested n l v = live_test (network_at g closed) nothing sound n l v

  -- what a walk joins to a fed node is fed
  fed_along : (a b : ℕ) → b < length g.nodes → Path (network_at g closed) nothing a b → is_fed g closed a ≡ true → is_fed g closed b ≡ true
  fed_along a b l p e =
      let v = walked a e in
      let q = then_to (network_at g closed) nothing v.0 a b (v.1, v.3) p in
      tested b l (v.0, q.0, v.2, q.1)

  module _ (d : ℕ) (ld : d < length g.devices) where
    ends_alike : AreLooped (network_at g closed) d → is_fed g closed (device_at g d).from.0 ≡ is_fed g closed (device_at g d).to.0
    ends_alike (inl w) =
        let from = (device_at g d).from.0 in
        let to = (device_at g d).to.0 in
        ⊎_elim
        (λ e. e ∙ sym (fed_along from to (sound.to d ld) w e))
        (λ e. e ∙ sym (false_from_ne_true (is_fed g closed to)
        (λ f. false≢true (sym e ∙ fed_along to from (sound.from d ld) (back (network_at g closed) nothing w.0 from to w.1) f))))
        (cases_Bool (is_fed g closed from))
    ends_alike (inr v) = tested (device_at g d).from.0 (sound.from d ld) v.0 ∙ sym (tested (device_at g d).to.0 (sound.to d ld) v.1)

    -- closing a device with one fed end closes no loop
    pub closes_no_loop : has_one_fed_end g closed d ≡ true → would_loop (network_at g closed) d ≡ false
    closes_no_loop e =
        false_from_ne_true (would_loop (network_at g closed) d) (λ t.
        let alike = ends_alike ((looped_by_walks (network_at g closed) sound d ld).0 t) in
        ⊎_elim
        (λ a. false≢true (sym a.1 ∙ sym alike ∙ a.0))
        (λ a. false≢true (sym a.1 ∙ alike ∙ a.0))
        (one_passes (is_fed g closed (device_at g d).from.0) (is_fed g closed (device_at g d).to.0) e))

    module _ (each : length closed ≡ length g.devices) where
      here : get_or (set closed d true) d false ≡ true
      here = get_or-set_same closed d true false (subst (λ n. d < n) (sym each) ld)

      stays : (e : ℕ) → e < length g.devices → get_or closed e false ≡ true → get_or (set closed d true) e false ≡ true
      stays e le c =
          ⊎_elim
          (λ q. ap (λ x. get_or (set closed d true) x false) q ∙ here)
          (λ q. get_or-set_other closed d e true false q ∙ c)
          (cases_eq e d)

      -- what was fed is fed after a closing
      pub fed_before : (n : ℕ) → n < length g.nodes → is_fed g closed n ≡ true → is_fed g (set closed d true) n ≡ true
      fed_before n l e =
          let v = walked n e in
          live_test (network_at g (set closed d true)) nothing (record { from = sound.from; to = sound.to; apart = sound.apart; sources = sound.sources }) n l
          (v.0, v.1, v.2, more_walks g (λ x. get_or closed x false) (λ x. get_or (set closed d true) x false) nothing stays v.1 v.0 n v.3)

    module _ (each : length closed ≡ length g.devices) (one_end : has_one_fed_end g closed d ≡ true) where
      -- the other end gets fed
      pub end_gets_fed : ((is_fed g closed (device_at g d).from.0 ≡ false) × (is_fed g (set closed d true) (device_at g d).from.0 ≡ true))
          ⊎ ((is_fed g closed (device_at g d).to.0 ≡ false) × (is_fed g (set closed d true) (device_at g d).to.0 ≡ true))
      end_gets_fed =
          ⊎_elim
          (λ a. inr (a.1, carried from to (sound.from d ld) (sound.to d ld) (inl (refl, refl)) a.0))
          (λ a. inl (a.1, carried to from (sound.to d ld) (sound.from d ld) (inr (refl, refl)) a.0))
          (one_passes (is_fed g closed from) (is_fed g closed to) one_end)
        where
          from : ℕ
          from = (device_at g d).from.0

          to : ℕ
          to = (device_at g d).to.0

          carried : (a b : ℕ) → a < length g.nodes → b < length g.nodes
              → (((device_at g d).from.0 ≡ a) × ((device_at g d).to.0 ≡ b)) ⊎ (((device_at g d).from.0 ≡ b) × ((device_at g d).to.0 ≡ a))
              → is_fed g closed a ≡ true → is_fed g (set closed d true) b ≡ true
          carried a b la lb ends f =
              let v = live_from_test (network_at g (set closed d true)) nothing a (fed_before each a la f) in
              live_test (network_at g (set closed d true)) nothing (record { from = sound.from; to = sound.to; apart = sound.apart; sources = sound.sources }) b lb
              (v.0, suc v.1, v.2, (a, d, v.3, record { within = ld; closed = here each; uncut = refl; ends = ends }))

      pub gets_fed : (n : ℕ) × (n < length g.nodes) × (is_fed g closed n ≡ false) × (is_fed g (set closed d true) n ≡ true)
      gets_fed =
          ⊎_elim
          (λ a. ((device_at g d).from.0, sound.from d ld, a.0, a.1))
          (λ a. ((device_at g d).to.0, sound.to d ld, a.0, a.1))
          end_gets_fed

    -- walks that avoid the device were there before it was closed
    avoiding : (k a b : ℕ) → Walk (network_at g (set closed d true)) (only d) k a b → Walk (network_at g closed) nothing k a b
    avoiding zero a b w = w
    avoiding (suc k) a b w = (
      w.0,
      w.1,
      avoiding k a w.0 w.2,
      record {
        within = w.3.within;
        closed = sym (get_or-set_other closed d w.1 true false (λ q. false≢true (sym w.3.uncut ∙ eq-eqb w.1 d q))) ∙ w.3.closed;
        uncut = refl;
        ends = w.3.ends;
      },
    )

    -- what wasn't fed before is fed by the device alone
    pub by_it_alone : (n : ℕ) → n < length g.nodes → is_fed g closed n ≡ false → is_live (network_at g (set closed d true)) (only d) n ≡ false
    by_it_alone n l e =
        false_from_ne_true (is_live (network_at g (set closed d true)) (only d) n) (λ t.
        let v = live_from_test (network_at g (set closed d true)) (only d) n t in
        false≢true (sym e ∙ tested n l (v.0, v.1, v.2, avoiding v.1 v.0 n v.3)))

  -- where no device is ready, all that open devices could feed is fed
  module _ (barred : ℕ → Bool) (none : (d : ℕ) → d < length g.devices → is_ready g barred closed d ≡ false) where
    step : (d m n : ℕ) → n < length g.nodes → Joins (network_in g (λ e. not (barred e))) nothing d m n → is_fed g closed m ≡ true → is_fed g closed n ≡ true
    step d m n l j e = ⊎_elim (λ c. when_closed c) (λ o. when_open o) (cases_Bool (get_or closed d false))
      where
        when_closed : get_or closed d false ≡ true → is_fed g closed n ≡ true
        when_closed c = fed_along m n l (one (network_at g closed) nothing d m n (record { within = j.within; closed = c; uncut = refl; ends = j.ends })) e

        alike : get_or closed d false ≡ false → is_fed g closed (device_at g d).from.0 ≡ is_fed g closed (device_at g d).to.0
        alike o =
            both_same (is_fed g closed (device_at g d).from.0) (is_fed g closed (device_at g d).to.0)
            (sym (ap (λ b. (not b && not (get_or closed d false)) && has_one_fed_end g closed d) (not-true (barred d) j.closed)
            ∙ ap (λ b. not b && has_one_fed_end g closed d) o) ∙ none d j.within)

        when_open : get_or closed d false ≡ false → is_fed g closed n ≡ true
        when_open o =
            ⊎_elim
            (λ a. sym (ap (is_fed g closed) (sym a.0) ∙ alike o ∙ ap (is_fed g closed) a.1) ∙ e)
            (λ a. ap (is_fed g closed) (sym a.0) ∙ alike o ∙ ap (is_fed g closed) a.1 ∙ e)
            j.ends

    within : (d m n : ℕ) → Joins (network_in g (λ e. not (barred e))) nothing d m n → m < length g.nodes
    within d m n j =
        ⊎_elim
        (λ a. subst (λ x. x < length g.nodes) a.0 (sound.from d j.within))
        (λ a. subst (λ x. x < length g.nodes) a.1 (sound.to d j.within))
        j.ends

    walk_fed : (k s n : ℕ) → n < length g.nodes → is_fed g closed s ≡ true → Walk (network_in g (λ e. not (barred e))) nothing k s n → is_fed g closed n ≡ true
    walk_fed zero s n l e w = ap (is_fed g closed) (sym w) ∙ e
    walk_fed (suc k) s n l e w = step w.1 w.0 n l w.3 (walk_fed k s w.0 (within w.1 w.0 n w.3) e w.2)

    pub all_fed : (n : ℕ) → n < length g.nodes → IsLive (network_in g (λ e. not (barred e))) nothing n → is_fed g closed n ≡ true
    all_fed n l v = walk_fed v.1 v.0 n l (tested v.0 (sound.sources v.0 v.2) (v.0, 0, v.2, refl)) v.3

  -- where no barred device is closed, what is fed is joined to a source by the others
  pub fed_by_others : (barred : ℕ → Bool) → ((d : ℕ) → d < length g.devices → barred d ≡ true → get_or closed d false ≡ false) → (n : ℕ) → is_fed g closed n ≡ true → IsLive (network_in g (λ e. not (barred e))) nothing n
  fed_by_others barred opened n e =
      let v = walked n e in
      (v.0, v.1, v.2, more_walks g (λ d. get_or closed d false) (λ d. not (barred d)) nothing unbarred v.1 v.0 n v.3)
    where
      unbarred : (d : ℕ) → d < length g.devices → get_or closed d false ≡ true → not (barred d) ≡ true
      unbarred d l c = not_from_false (barred d) (false_from_ne_true (barred d) (λ b. false≢true (sym (opened d l b) ∙ c)))
