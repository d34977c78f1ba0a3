-- Closing a device that doesn't loop leaves the network radial.
use Rattle.std.proofs.Common.{◌≡◌, ℕ, zero, suc, ◌<◌, Bool, true, false, refl, sym, ap, ◌∙◌, subst, inl, inr, ⊎_elim}
use Rattle.std.specs.Prelude.{◌||◌, ◌⊎◌, ◌==◌}
use Rattle.std.proofs.lemmas.Bool.{cases_eq, ne_eqb}
use Rattle.outage_rules.specs.Network.{Network, Cut, Joins, Walk, IsLive, IsRadial, only, nothing}
use Rattle.outage_rules.specs.Laws.{with_closed}
use Rattle.outage_rules.specs.Loops.{with_states}

-- a walk of some length
abbrev pub Path : Network → Cut → ℕ → ℕ → Type 0
Path g cut a b = (k : ℕ) × Walk g cut k a b

-- the two ends of the device, in one order or the other
abbrev AreEnds : Network → ℕ → ℕ → ℕ → Type 0
AreEnds g d x y = ((g.from d ≡ x) × (g.to d ≡ y)) ⊎ ((g.from d ≡ y) × (g.to d ≡ x))

module _ (g : Network) where
  pub append : (cut : Cut) (j k a b c : ℕ) → Walk g cut j a b → Walk g cut k b c → Path g cut a c
  append cut j zero a b c v w = (j, subst (λ x. Walk g cut j a x) w v)
  append cut j (suc k) a b c v w = let r = append cut j k a b w.0 v w.2 in (suc r.0, (w.0, w.1, r.1, w.3))

  pub then_to : (cut : Cut) (a b c : ℕ) → Path g cut a b → Path g cut b c → Path g cut a c
  then_to cut a b c p q = append cut p.0 q.0 a b c p.1 q.1

  turned : (cut : Cut) (d a b : ℕ) → Joins g cut d a b → Joins g cut d b a
  turned cut d a b j = record { within = j.within; closed = j.closed; uncut = j.uncut; ends = ⊎_elim (λ e. inr e) (λ e. inl e) j.ends }

  pub one : (cut : Cut) (d a b : ℕ) → Joins g cut d a b → Path g cut a b
  one cut d a b j = (suc zero, (a, d, refl, j))

  pub back : (cut : Cut) (k a b : ℕ) → Walk g cut k a b → Path g cut b a
  back cut zero a b w = (0, sym w)
  back cut (suc k) a b w = then_to cut b w.0 a (one cut w.1 b w.0 (turned cut w.1 w.0 b w.3)) (back cut k a w.0 w.2)

  uncut : (e k a b : ℕ) → Walk g (only e) k a b → Walk g nothing k a b
  uncut e zero a b w = w
  uncut e (suc k) a b w = (w.0, w.1, uncut e k a w.0 w.2, record { within = w.3.within; closed = w.3.closed; uncut = refl; ends = w.3.ends })

  pub free : (e a b : ℕ) → Path g (only e) a b → Path g nothing a b
  free e a b p = (p.0, uncut e p.0 a b p.1)

  module _ (d : ℕ) (radial : IsRadial g) (ld : d < g.devices) (unjoined : (k : ℕ) → Walk g nothing k (g.from d) (g.to d) → ⊥) (unfed : IsLive g nothing (g.from d) → IsLive g nothing (g.to d) → ⊥) where
    no_path : (x y : ℕ) → AreEnds g d x y → Path g nothing x y → ⊥
    no_path x y (inl e) p = let q = subst (λ v. Path g nothing v (g.to d)) (sym e.0) (subst (λ v. Path g nothing x v) (sym e.1) p) in unjoined q.0 q.1
    no_path x y (inr e) p =
        let q = subst (λ v. Path g nothing v (g.from d)) (sym e.1) (subst (λ v. Path g nothing x v) (sym e.0) p) in
        let r = back nothing q.0 (g.to d) (g.from d) q.1 in unjoined r.0 r.1

    not_both : (x y : ℕ) → AreEnds g d x y → IsLive g nothing x → IsLive g nothing y → ⊥
    not_both x y (inl e) p q = unfed (subst (IsLive g nothing) (sym e.0) p) (subst (IsLive g nothing) (sym e.1) q)
    not_both x y (inr e) p q = unfed (subst (IsLive g nothing) (sym e.0) q) (subst (IsLive g nothing) (sym e.1) p)

    -- a walk that passes the new device once
    record Through (e a n : ℕ) : Type 0 where
      pub x : ℕ
      pub y : ℕ
      pub ends : AreEnds g d x y
      pub first : Path g (only e) a x
      pub last : Path g (only e) y n

    old_join : (cut : Cut) (f m n : ℕ) → Joins (with_closed g d) cut f m n → (f == d) ≡ false → Joins g cut f m n
    old_join cut f m n j ne = record { within = j.within; closed = sym (ap (λ b. b || g.is_closed f) ne) ∙ j.closed; uncut = j.uncut; ends = j.ends }

    passed : (e a m n : ℕ) → AreEnds g d m n → Path g (only e) a m ⊎ Through e a m → Path g (only e) a n ⊎ Through e a n
    passed e a m n ends (inl p) = inr (record { x = m; y = n; ends = ends; first = p; last = (0, refl) })
    passed e a m n ends (inr t) = again ends t.ends
      where
        again : AreEnds g d m n → AreEnds g d t.x t.y → Path g (only e) a n ⊎ Through e a n
        again (inl u) (inl v) = absurd (no_path t.y m (inr (u.0, v.1)) (free e t.y m t.last))
        again (inl u) (inr v) = inl (subst (λ z. Path g (only e) a z) (sym v.1 ∙ u.1) t.first)
        again (inr u) (inl v) = inl (subst (λ z. Path g (only e) a z) (sym v.0 ∙ u.0) t.first)
        again (inr u) (inr v) = absurd (no_path t.y m (inl (v.0, u.1)) (free e t.y m t.last))

    longer : (e a m n f : ℕ) → Joins g (only e) f m n → Path g (only e) a m ⊎ Through e a m → Path g (only e) a n ⊎ Through e a n
    longer e a m n f j (inl p) = inl (suc p.0, (m, f, p.1, j))
    longer e a m n f j (inr t) = inr (record { x = t.x; y = t.y; ends = t.ends; first = t.first; last = (suc t.last.0, (m, f, t.last.1, j)) })

    split : (e k a n : ℕ) → Walk (with_closed g d) (only e) k a n → Path g (only e) a n ⊎ Through e a n
    split e zero a n w = inl (0, w)
    split e (suc k) a n w =
        ⊎_elim
        (λ q. passed e a w.0 n (subst (λ v. AreEnds g v w.0 n) q w.3.ends) (split e k a w.0 w.2))
        (λ q. longer e a w.0 n w.1 (old_join (only e) w.1 w.0 n w.3 (ne_eqb w.1 d q)) (split e k a w.0 w.2))
        (cases_eq w.1 d)

    -- walks that avoid the new device were there before
    avoiding : (k a b : ℕ) → Walk (with_closed g d) (only d) k a b → Walk g nothing k a b
    avoiding zero a b w = w
    avoiding (suc k) a b w =
        let j = old_join (only d) w.1 w.0 b w.3 w.3.uncut in
        (w.0, w.1, avoiding k a w.0 w.2, record { within = j.within; closed = j.closed; uncut = refl; ends = j.ends })

    module _ (e : ℕ) (le : e < g.devices) (closed : g.is_closed e ≡ true) where
      across : Path g nothing (g.from e) (g.to e)
      across = one nothing e (g.from e) (g.to e) (record { within = le; closed = closed; uncut = refl; ends = inl (refl, refl) })

      no_other_walk : Path g (only e) (g.from e) (g.to e) ⊎ Through e (g.from e) (g.to e) → ⊥
      no_other_walk (inl p) = (radial e le closed).0 p.0 p.1
      no_other_walk (inr t) =
          let to_from = free e (g.from e) t.x t.first in
          let from_to = free e t.y (g.to e) t.last in
          no_path t.x t.y t.ends (then_to nothing t.x (g.from e) t.y (back nothing to_from.0 (g.from e) t.x to_from.1)
          (then_to nothing (g.from e) (g.to e) t.y across (back nothing from_to.0 t.y (g.to e) from_to.1)))

      from_source : (s n : ℕ) → g.is_source s ≡ true → Path g nothing s n → IsLive g nothing n
      from_source s n src p = (s, p.0, src, p.1)

      not_both_fed : (s r : ℕ) → g.is_source s ≡ true → g.is_source r ≡ true → Path g (only e) s (g.from e) ⊎ Through e s (g.from e) → Path g (only e) r (g.to e) ⊎ Through e r (g.to e) → ⊥
      not_both_fed s r ss sr (inl p) (inl q) = (radial e le closed).1 (s, p.0, ss, p.1) (r, q.0, sr, q.1)
      not_both_fed s r ss sr (inl p) (inr t) =
          let tail = free e t.y (g.to e) t.last in
          not_both t.x t.y t.ends (from_source r t.x sr (free e r t.x t.first))
          (from_source s t.y ss (then_to nothing s (g.from e) t.y (free e s (g.from e) p) (then_to nothing (g.from e) (g.to e) t.y across (back nothing tail.0 t.y (g.to e) tail.1))))
      not_both_fed s r ss sr (inr t) (inl q) =
          let tail = free e t.y (g.from e) t.last in
          not_both t.x t.y t.ends (from_source s t.x ss (free e s t.x t.first))
          (from_source r t.y sr (then_to nothing r (g.to e) t.y (free e r (g.to e) q) (then_to nothing (g.to e) (g.from e) t.y (back nothing across.0 (g.from e) (g.to e) across.1) (back nothing tail.0 t.y (g.from e) tail.1))))
      not_both_fed s r ss sr (inr t) (inr u) = both t.ends u.ends
        where
          same : t.y ≡ u.y → ⊥
          same q =
              let p = then_to (only e) (g.from e) t.y (g.to e) (back (only e) t.last.0 t.y (g.from e) t.last.1) (subst (λ v. Path g (only e) v (g.to e)) (sym q) u.last) in
              (radial e le closed).0 p.0 p.1

          across_ends : t.y ≡ u.x → ⊥
          across_ends q = not_both t.x t.y t.ends (from_source s t.x ss (free e s t.x t.first)) (subst (IsLive g nothing) (sym q) (from_source r u.x sr (free e r u.x u.first)))

          both : AreEnds g d t.x t.y → AreEnds g d u.x u.y → ⊥
          both (inl a) (inl b) = same (sym a.1 ∙ b.1)
          both (inl a) (inr b) = across_ends (sym a.1 ∙ b.1)
          both (inr a) (inl b) = across_ends (sym a.0 ∙ b.0)
          both (inr a) (inr b) = same (sym a.0 ∙ b.0)

    pub radial_stays' : IsRadial (with_closed g d)
    radial_stays' e le c = ⊎_elim (λ q. itself q) (λ q. another (sym (ap (λ b. b || g.is_closed e) (ne_eqb e d q)) ∙ c)) (cases_eq e d)
      where
        itself : e ≡ d → (((k : ℕ) → Walk (with_closed g d) (only e) k (g.from e) (g.to e) → ⊥) × (IsLive (with_closed g d) (only e) (g.from e) → IsLive (with_closed g d) (only e) (g.to e) → ⊥))
        itself q = subst (λ f. ((k : ℕ) → Walk (with_closed g d) (only f) k (g.from f) (g.to f) → ⊥) × (IsLive (with_closed g d) (only f) (g.from f) → IsLive (with_closed g d) (only f) (g.to f) → ⊥)) (sym q)
            (λ k w. unjoined k (avoiding k (g.from d) (g.to d) w), λ v w. unfed (v.0, v.1, v.2, avoiding v.1 v.0 (g.from d) v.3) (w.0, w.1, w.2, avoiding w.1 w.0 (g.to d) w.3))

        another : g.is_closed e ≡ true → (((k : ℕ) → Walk (with_closed g d) (only e) k (g.from e) (g.to e) → ⊥) × (IsLive (with_closed g d) (only e) (g.from e) → IsLive (with_closed g d) (only e) (g.to e) → ⊥))
        another closed = (
          λ k w. no_other_walk e le closed (split e k (g.from e) (g.to e) w),
          λ v w. not_both_fed e le closed v.0 w.0 v.2 w.2 (split e v.1 v.0 (g.from e) v.3) (split e w.1 w.0 (g.to e) w.3),
        )

pub radial_stays : (g : Network) (d : ℕ) → IsRadial g → d < g.devices →
    ((k : ℕ) → Walk g nothing k (g.from d) (g.to d) → ⊥) → (IsLive g nothing (g.from d) → IsLive g nothing (g.to d) → ⊥) → IsRadial (with_closed g d)
radial_stays g d radial ld unjoined unfed = radial_stays' g d radial ld unjoined unfed

module _ (g : Network) (c : ℕ → Bool) (less : (d : ℕ) → d < g.devices → c d ≡ true → g.is_closed d ≡ true) where
  walk_before : (cut : Cut) (k a b : ℕ) → Walk (with_states g c) cut k a b → Walk g cut k a b
  walk_before cut zero a b w = w
  walk_before cut (suc k) a b w = (w.0, w.1, walk_before cut k a w.0 w.2, record { within = w.3.within; closed = less w.1 w.3.within w.3.closed; uncut = w.3.uncut; ends = w.3.ends })

  live_before : (cut : Cut) (n : ℕ) → IsLive (with_states g c) cut n → IsLive g cut n
  live_before cut n v = (v.0, v.1, v.2, walk_before cut v.1 v.0 n v.3)

  -- with fewer closed devices the network stays radial
  pub radial_with_fewer : IsRadial g → IsRadial (with_states g c)
  radial_with_fewer radial d l closed =
      let r = radial d l (less d l closed) in
      (λ k w. r.0 k (walk_before (only d) k (g.from d) (g.to d) w), λ a b. r.1 (live_before (only d) (g.from d) a) (live_before (only d) (g.to d) b))

-- a walk doesn't ask for sources
pub walk_with_source : (g : Network) (s : ℕ → Bool) (cut : Cut) (k a b : ℕ) → Walk g cut k a b → Walk (record g { is_source = s }) cut k a b
walk_with_source g s cut zero a b w = w
walk_with_source g s cut (suc k) a b w = (w.0, w.1, walk_with_source g s cut k a w.0 w.2, record { within = w.3.within; closed = w.3.closed; uncut = w.3.uncut; ends = w.3.ends })
