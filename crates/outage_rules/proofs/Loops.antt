-- The first devices are radial exactly where none of them closes a loop.
use Rattle.std.proofs.Common.{◌≡◌, ℕ, zero, suc, ◌<◌, ◌≤◌, true, false, refl, sym, ap, ◌∙◌, subst, inl, inr, ⊎_elim, arith}
use Rattle.std.specs.Prelude.{◌⊎◌, ◌↔◌, ◌&&◌, ◌==◌, nat_lt, None}
use Rattle.std.proofs.lemmas.Bool.{cases_Bool, cases_lt, or_cases, or_left, or_right, and_from, and_parts, eq-eqb, eqb-true, ne_eqb, lt-ltb, ltb-true, le-ltb, false≢true, false_from_ne_true}
use Rattle.outage_rules.specs.Network.{Network, Walk, IsLive, IsSoundNetwork, IsRadial, only, nothing, is_live}
use Rattle.outage_rules.specs.Laws.{with_closed}
use Rattle.outage_rules.specs.Loops.{with_sources, before, are_joined, would_loop, loops, first_loop}
use Rattle.outage_rules.proofs.Live.{live_test, live_from_test}
use Rattle.outage_rules.proofs.Closing.{radial_stays, radial_with_fewer, walk_with_source}
use Rattle.outage_rules.proofs.FirstBelow.{none_below, fails_below}

-- a walk joins the ends of the device, or both are live
abbrev pub AreLooped : Network → ℕ → Type 0
AreLooped g d = ((k : ℕ) × Walk g nothing k (g.from d) (g.to d)) ⊎ (IsLive g nothing (g.from d) × IsLive g nothing (g.to d))

-- the test of a walk between two nodes finds one
joined_walk : (g : Network) (a b : ℕ) → are_joined g a b ≡ true → (k : ℕ) × Walk g nothing k a b
joined_walk g a b t =
    let v = live_from_test (with_sources g (λ n. n == a)) nothing b t in
    (v.1, subst (λ x. Walk g nothing v.1 x b) (eqb-true v.0 a v.2) (walk_with_source (with_sources g (λ n. n == a)) g.is_source nothing v.1 v.0 b v.3))

-- what loops by the test does so by walks
looped : (g : Network) (d : ℕ) → would_loop g d ≡ true → AreLooped g d
looped g d t =
    ⊎_elim
    (λ a. inl (joined_walk g (g.from d) (g.to d) a))
    (λ a. let both = and_parts (is_live g nothing (g.from d)) (is_live g nothing (g.to d)) a in
    inr (live_from_test g nothing (g.from d) both.0, live_from_test g nothing (g.to d) both.1))
    (or_cases (are_joined g (g.from d) (g.to d)) (is_live g nothing (g.from d) && is_live g nothing (g.to d)) t)

module _ (g : Network) (sound : IsSoundNetwork g) where
  -- one node as the source
  sound_from : (a : ℕ) → a < g.nodes → IsSoundNetwork (with_sources g (λ n. n == a))
  sound_from a l = record {
    from = sound.from;
    to = sound.to;
    apart = sound.apart;
    sources = λ n e. subst (λ x. x < g.nodes) (sym (eqb-true n a e)) l;
  }

  -- where there is a walk, the test finds it
  walk_joined : (a b : ℕ) → a < g.nodes → b < g.nodes → (k : ℕ) × Walk g nothing k a b → are_joined g a b ≡ true
  walk_joined a b la lb p =
      live_test (with_sources g (λ n. n == a)) nothing (sound_from a la) b lb
      (a, p.0, eq-eqb a a refl, walk_with_source g (λ n. n == a) nothing p.0 a b p.1)

  loops_by_test : (d : ℕ) → d < g.devices → AreLooped g d → would_loop g d ≡ true
  loops_by_test d l (inl p) =
      or_left (are_joined g (g.from d) (g.to d)) (is_live g nothing (g.from d) && is_live g nothing (g.to d))
      (walk_joined (g.from d) (g.to d) (sound.from d l) (sound.to d l) p)
  loops_by_test d l (inr b) =
      or_right (are_joined g (g.from d) (g.to d)) (is_live g nothing (g.from d) && is_live g nothing (g.to d))
      (and_from (is_live g nothing (g.from d)) (is_live g nothing (g.to d))
      (live_test g nothing sound (g.from d) (sound.from d l) b.0) (live_test g nothing sound (g.to d) (sound.to d l) b.1))

  pub looped_by_walks : (d : ℕ) → d < g.devices → (would_loop g d ≡ true) ↔ AreLooped g d
  looped_by_walks d l = (looped g d, loops_by_test d l)

module _ (g : Network) where
  -- a walk of devices before d is one of devices before k that avoids d
  later : (d k : ℕ) → d < k → (j a b : ℕ) → Walk (before g d) nothing j a b → Walk (before g k) (only d) j a b
  later d k l zero a b w = w
  later d k l (suc j) a b w = (
    w.0,
    w.1,
    later d k l j a w.0 w.2,
    record {
      within = w.3.within;
      closed = and_from (nat_lt w.1 k) (g.is_closed w.1) (lt-ltb w.1 k earlier) parts.1;
      uncut = ne_eqb w.1 d other;
      ends = w.3.ends;
    },
  )
    where
      parts : (nat_lt w.1 d ≡ true) × (g.is_closed w.1 ≡ true)
      parts = and_parts (nat_lt w.1 d) (g.is_closed w.1) w.3.closed

      earlier : w.1 < k
      earlier = let m = ltb-true w.1 d parts.0 in omega arith

      other : w.1 ≡ d → ⊥
      other e = let m = ltb-true w.1 d parts.0 in absurd (omega arith)

  -- where the first k devices are radial none of them loops
  none_loops : (k : ℕ) → k ≤ g.devices → IsRadial (before g k) → (d : ℕ) → d < k → loops g d ≡ false
  none_loops k lk radial d l = false_from_ne_true (loops g d) (λ t. unlooped t)
    where
      not_looped : g.is_closed d ≡ true → AreLooped (before g d) d → ⊥
      not_looped closed a =
          let r = radial d (omega arith) (and_from (nat_lt d k) (g.is_closed d) (lt-ltb d k l) closed) in
          ⊎_elim
          (λ p. r.0 p.0 (later d k l p.0 (g.from d) (g.to d) p.1))
          (λ b. r.1 (b.0.0, b.0.1, b.0.2, later d k l b.0.1 b.0.0 (g.from d) b.0.3) (b.1.0, b.1.1, b.1.2, later d k l b.1.1 b.1.0 (g.to d) b.1.3))
          a

      unlooped : loops g d ≡ true → ⊥
      unlooped t =
          let a = and_parts (g.is_closed d) (would_loop (before g d) d) t in
          not_looped a.0 (looped (before g d) d a.1)

  module _ (sound : IsSoundNetwork g) where
    sound_before : (k : ℕ) → IsSoundNetwork (before g k)
    sound_before k = record { from = sound.from; to = sound.to; apart = sound.apart; sources = sound.sources }

    -- a device that doesn't loop leaves the devices up to it radial
    one_more : (k : ℕ) → k < g.devices → IsRadial (before g k) → loops g k ≡ false → IsRadial (before g (suc k))
    one_more k l radial unlooped = ⊎_elim (λ c. when_closed c) (λ o. when_open o) (cases_Bool (g.is_closed k))
      where
        -- what is closed up to k is k, or closed before it
        up_to : (d : ℕ) → (nat_lt d (suc k) && g.is_closed d) ≡ true → (d ≡ k) ⊎ ((nat_lt d k && g.is_closed d) ≡ true)
        up_to d e =
            let a = and_parts (nat_lt d (suc k)) (g.is_closed d) e in
            let m = ltb-true d (suc k) a.0 in
            ⊎_elim
            (λ less. inr (and_from (nat_lt d k) (g.is_closed d) (lt-ltb d k less) a.1))
            (λ more. inl (omega arith))
            (cases_lt d k)

        not_looped : g.is_closed k ≡ true → AreLooped (before g k) k → ⊥
        not_looped c a = false≢true (sym unlooped ∙ and_from (g.is_closed k) (would_loop (before g k) k) c (loops_by_test (before g k) (sound_before k) k l a))

        when_closed : g.is_closed k ≡ true → IsRadial (before g (suc k))
        when_closed c =
            radial_with_fewer (with_closed (before g k) k) (λ d. nat_lt d (suc k) && g.is_closed d)
            (λ d ld e. ⊎_elim
            (λ q. or_left (d == k) (nat_lt d k && g.is_closed d) (eq-eqb d k q))
            (λ q. or_right (d == k) (nat_lt d k && g.is_closed d) q)
            (up_to d e))
            (radial_stays (before g k) k radial l (λ j w. not_looped c (inl (j, w))) (λ v w. not_looped c (inr (v, w))))

        when_open : g.is_closed k ≡ false → IsRadial (before g (suc k))
        when_open o =
            radial_with_fewer (before g k) (λ d. nat_lt d (suc k) && g.is_closed d)
            (λ d ld e. ⊎_elim
            (λ q. absurd (false≢true (sym o ∙ ap g.is_closed (sym q) ∙ (and_parts (nat_lt d (suc k)) (g.is_closed d) e).1)))
            (λ q. q)
            (up_to d e))
            radial

    radial_up_to : (k : ℕ) → k ≤ g.devices → ((d : ℕ) → d < k → loops g d ≡ false) → IsRadial (before g k)
    radial_up_to zero lk none = λ d l closed. absurd (false≢true (sym (le-ltb d 0 (omega arith)) ∙ (and_parts (nat_lt d 0) (g.is_closed d) closed).0))
    radial_up_to (suc k) lk none = one_more k (omega arith) (radial_up_to k (omega arith) (λ d l. none d (omega arith))) (none k (omega arith))

    pub radial_before' : (k : ℕ) → k ≤ g.devices → IsRadial (before g k) ↔ ((d : ℕ) → d < k → loops g d ≡ false)
    radial_before' k lk = (none_loops k lk, radial_up_to k lk)

    -- all devices are before their number
    all_before : IsRadial g → IsRadial (before g g.devices)
    all_before radial = radial_with_fewer g (λ d. nat_lt d g.devices && g.is_closed d) (λ d l e. (and_parts (nat_lt d g.devices) (g.is_closed d) e).1) radial

    before_all : IsRadial (before g g.devices) → IsRadial g
    before_all radial = radial_with_fewer (before g g.devices) g.is_closed (λ d l e. and_from (nat_lt d g.devices) (g.is_closed d) (lt-ltb d g.devices l) e) radial

    pub no_first_loop : (first_loop g ≡ None) ↔ IsRadial g
    unfolding first_loop
    no_first_loop = (
      λ e. before_all (radial_up_to g.devices (omega arith) (fails_below g.devices (loops g) e)),
      λ radial. none_below g.devices (loops g) (none_loops g.devices (omega arith) (all_before radial)),
    )
