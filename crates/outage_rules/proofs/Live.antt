-- The test of liveness says whether there is a walk of any length.
use Rattle.std.proofs.Common.{◌≡◌, ℕ, zero, suc, ◌<◌, ◌≤◌, Bool, true, false, cond, refl, sym, ap, ◌∙◌, subst, inl, inr, ⊎_elim, arith}
use Rattle.std.specs.Prelude.{◌||◌, ◌&&◌, not, ◌⊎◌, ◌==◌}
use Rattle.std.proofs.lemmas.Bool.{cases_Bool, cases_lt, or_cases, or_right, or_left, and_from, and_parts, false≢true, eq-eqb, eqb-true, not-true, not_from_false}
use Rattle.outage_rules.specs.Sum.{total, some_below}
use Rattle.outage_rules.specs.Network.{Network, Cut, Joins, Walk, IsLive, IsSoundNetwork, usable, live_within, is_live}
use Rattle.outage_rules.proofs.Sums.{total_lt, total_ones, some_below_at, some_below_true}

-- what some device carries on to n from a set of live nodes
abbrev pub carries : Network → Cut → (ℕ → Bool) → ℕ → ℕ → Bool
carries p cut on n d = usable p cut d && ((p.to d == n && on (p.from d)) || (p.from d == n && on (p.to d)))

abbrev one_if : Bool → ℕ
one_if b = cond b 1 0

-- live within k + 1 devices, and not within k
abbrev fresh : Network → Cut → ℕ → ℕ → Bool
fresh p cut k n = live_within p cut (suc k) n && not (live_within p cut k n)

module _ (p : Network) (cut : Cut) where
  -- a device that joins a live node to n carries on to it
  pub carried : (on : ℕ → Bool) (d m n : ℕ) → Joins p cut d m n → on m ≡ true → carries p cut on n d ≡ true
  carried on d m n j e =
      and_from (usable p cut d) _ (and_from (p.is_closed d) (not (cut d)) j.closed (not_from_false (cut d) j.uncut))
      (⊎_elim
      (λ b. or_left (p.to d == n && on (p.from d)) (p.from d == n && on (p.to d)) (and_from (p.to d == n) (on (p.from d)) (eq-eqb (p.to d) n b.1) (ap on b.0 ∙ e)))
      (λ b. or_right (p.to d == n && on (p.from d)) (p.from d == n && on (p.to d)) (and_from (p.from d == n) (on (p.to d)) (eq-eqb (p.from d) n b.0) (ap on b.1 ∙ e)))
      j.ends)

  -- and the other way round
  carrier : (on : ℕ → Bool) (d n : ℕ) → d < p.devices → carries p cut on n d ≡ true → (m : ℕ) × Joins p cut d m n × (on m ≡ true) × ((m ≡ p.from d) ⊎ (m ≡ p.to d))
  carrier on d n l t =
      let a = and_parts (usable p cut d) ((p.to d == n && on (p.from d)) || (p.from d == n && on (p.to d))) t in
      let u = and_parts (p.is_closed d) (not (cut d)) a.0 in
      ⊎_elim
      (λ b. let c = and_parts (p.to d == n) (on (p.from d)) b in
      (p.from d, record { within = l; closed = u.0; uncut = not-true (cut d) u.1; ends = inl (refl, eqb-true (p.to d) n c.0) }, c.1, inl refl))
      (λ b. let c = and_parts (p.from d == n) (on (p.to d)) b in
      (p.to d, record { within = l; closed = u.0; uncut = not-true (cut d) u.1; ends = inr (eqb-true (p.from d) n c.0, refl) }, c.1, inr refl))
      (or_cases (p.to d == n && on (p.from d)) (p.from d == n && on (p.to d)) a.1)

  within_from_walk : (k s n : ℕ) → p.is_source s ≡ true → Walk p cut k s n → live_within p cut k n ≡ true
  within_from_walk zero s n src e = ap p.is_source (sym e) ∙ src
  within_from_walk (suc k) s n src w =
      or_right (live_within p cut k n) _ (some_below_at p.devices (carries p cut (live_within p cut k) n) w.1 w.3.within (carried (live_within p cut k) w.1 w.0 n w.3 (within_from_walk k s w.0 src w.2)))

  pub live_from_within : (k n : ℕ) → live_within p cut k n ≡ true → IsLive p cut n
  live_from_within zero n t = (n, 0, t, refl)
  live_from_within (suc k) n t =
      ⊎_elim
      (λ a. live_from_within k n a)
      (λ a. let s = some_below_true p.devices (carries p cut (live_within p cut k) n) a in
      let c = carrier (live_within p cut k) s.0 n s.1 s.2 in
      let v = live_from_within k c.0 c.2 in
      (v.0, suc v.1, v.2, (c.0, s.0, v.3, c.1)))
      (or_cases (live_within p cut k n) (some_below p.devices (carries p cut (live_within p cut k) n)) t)

  more : (k j n : ℕ) → live_within p cut k n ≡ true → k ≤ j → live_within p cut j n ≡ true
  more k zero n t l = subst (λ x. live_within p cut x n ≡ true) (let e : k ≡ 0 = omega arith in e) t
  more k (suc j) n t l =
      ⊎_elim
      (λ a. subst (λ x. live_within p cut x n ≡ true) (let e : k ≡ suc j = omega arith in e) t)
      (λ a. or_left (live_within p cut j n) _ (more k j n t a))
      (cases_lt j k)

  -- one more device reaches no more nodes
  abbrev Stable : ℕ → Type 0
  Stable k = (n : ℕ) → n < p.nodes → live_within p cut (suc k) n ≡ true → live_within p cut k n ≡ true

  module _ (sound : IsSoundNetwork p) where
    again : (k j n : ℕ) → ((m : ℕ) → m < p.nodes → live_within p cut k m ≡ true → live_within p cut j m ≡ true) → some_below p.devices (carries p cut (live_within p cut k) n) ≡ true → live_within p cut (suc j) n ≡ true
    again k j n h t =
        let s = some_below_true p.devices (carries p cut (live_within p cut k) n) t in
        let c = carrier (live_within p cut k) s.0 n s.1 s.2 in
        let l : c.0 < p.nodes = ⊎_elim (λ e. subst (λ x. x < p.nodes) (sym e) (sound.from s.0 s.1)) (λ e. subst (λ x. x < p.nodes) (sym e) (sound.to s.0 s.1)) c.3 in
        or_right (live_within p cut j n) _ (some_below_at p.devices (carries p cut (live_within p cut j) n) s.0 s.1 (carried (live_within p cut j) s.0 c.0 n c.1 (h c.0 l c.2)))

    next : (k : ℕ) → Stable k → Stable (suc k)
    next k st n l t =
        ⊎_elim
        (λ a. a)
        (λ a. again (suc k) k n st a)
        (or_cases (live_within p cut (suc k) n) (some_below p.devices (carries p cut (live_within p cut (suc k)) n)) t)

    -- each step reaches one more node, until no step does
    grows : (k : ℕ) → Stable k ⊎ (k ≤ total p.nodes (λ n. one_if (live_within p cut k n)))
    grows zero = inr (omega arith)
    grows (suc k) = go (grows k)
      where
        stays : some_below p.nodes (fresh p cut k) ≡ false → Stable k
        stays none n l t =
            ⊎_elim
            (λ a. a)
            (λ a. absurd (false≢true (sym none ∙ some_below_at p.nodes (fresh p cut k) n l (and_from (live_within p cut (suc k) n) (not (live_within p cut k n)) t (not_from_false (live_within p cut k n) a)))))
            (cases_Bool (live_within p cut k n))

        at_most : (a b : Bool) → (a ≡ true → b ≡ true) → one_if a ≤ one_if b
        at_most true true h = omega arith
        at_most true false h = absurd (false≢true (h refl))
        at_most false b h = at_least b
          where
            at_least : (b : Bool) → 0 ≤ one_if b
            at_least b = omega arith

        larger : k ≤ total p.nodes (λ n. one_if (live_within p cut k n)) → some_below p.nodes (fresh p cut k) ≡ true → suc k ≤ total p.nodes (λ n. cond (live_within p cut (suc k) n) 1 0)
        larger le some =
            let s = some_below_true p.nodes (fresh p cut k) some in
            let a = and_parts (live_within p cut (suc k) s.0) (not (live_within p cut k s.0)) s.2 in
            let x = ap one_if a.0 in
            let y = ap one_if (not-true (live_within p cut k s.0) a.1) in
            let lt = total_lt p.nodes (λ n. one_if (live_within p cut k n)) (λ n. cond (live_within p cut (suc k) n) 1 0) s.0 s.1 (λ n l. at_most (live_within p cut k n) (live_within p cut (suc k) n) (λ t. or_left (live_within p cut k n) _ t)) (omega arith) in
            omega arith

        go : Stable k ⊎ (k ≤ total p.nodes (λ n. one_if (live_within p cut k n))) → Stable (suc k) ⊎ (suc k ≤ total p.nodes (λ n. cond (live_within p cut (suc k) n) 1 0))
        go (inl st) = inl (next k st)
        go (inr le) = ⊎_elim (λ some. inr (larger le some)) (λ none. inl (next k (stays none))) (cases_Bool (some_below p.nodes (fresh p cut k)))

    settled : Stable p.nodes
    settled = go (grows p.nodes)
      where
        at_most_one : (a : Bool) → one_if a ≤ 1
        at_most_one true = omega arith
        at_most_one false = omega arith

        go : Stable p.nodes ⊎ (p.nodes ≤ total p.nodes (λ n. one_if (live_within p cut p.nodes n))) → Stable p.nodes
        go (inl st) = st
        go (inr le) = λ n l t. ⊎_elim
            (λ a. a)
            (λ a. let x = ap one_if a in
            let lt = total_lt p.nodes (λ m. one_if (live_within p cut p.nodes m)) (λ m. 1) n l (λ m k. at_most_one (live_within p cut p.nodes m)) (omega arith) in
            let ones = total_ones p.nodes in absurd (omega arith))
            (cases_Bool (live_within p cut p.nodes n))

    pub saturated : (k n : ℕ) → n < p.nodes → live_within p cut k n ≡ true → live_within p cut p.nodes n ≡ true
    saturated zero n l t = more 0 p.nodes n t (omega arith)
    saturated (suc k) n l t =
        ⊎_elim
        (λ a. saturated k n l a)
        (λ a. settled n l (again k p.nodes n (λ m lm e. saturated k m lm e) a))
        (or_cases (live_within p cut k n) (some_below p.devices (carries p cut (live_within p cut k) n)) t)

    pub live_test : (n : ℕ) → n < p.nodes → IsLive p cut n → is_live p cut n ≡ true
    live_test n l v = saturated v.1 n l (within_from_walk v.1 v.0 n v.2 v.3)

  pub live_from_test : (n : ℕ) → is_live p cut n ≡ true → IsLive p cut n
  live_from_test n t = live_from_within p.nodes n t
