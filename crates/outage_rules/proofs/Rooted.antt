-- Nodes that hang from the sources, and the walks down to them.
use Rattle.std.proofs.Common.{◌≡◌, ℕ, zero, suc, ◌<◌, true, false, cond, refl, sym, ap, ◌∙◌, subst, inl, inr, ⊎_elim, arith}
use Rattle.std.specs.Prelude.{◌||◌, ◌&&◌, not, ◌⊎◌}
use Rattle.std.proofs.lemmas.Bool.{cases_Bool, or_parts, and_from, and_parts, eq-eqb, ne_eqb, not-true, not_from_false}
use Rattle.outage_rules.specs.Network.{Network, Cut, Joins, IsLive, IsSoundNetwork}
use Rattle.outage_rules.specs.Certificate.{Table, has_parent, upper, cut_above, lit, IsRooted, HasParent}

module _ (p : Network) (t : Table) (cut : Cut) (sound : IsSoundNetwork p) (rooted : IsRooted p t) where
  -- the two ends of a parent device are the node and the node above
  pub parent_ends : (n : ℕ) → HasParent p t n → ((p.from (t.parent n) ≡ n) × (p.to (t.parent n) ≡ upper p t n)) ⊎ ((p.to (t.parent n) ≡ n) × (p.from (t.parent n) ≡ upper p t n))
  parent_ends n h =
      ⊎_elim
      (λ e. let ne : (p.to (t.parent n) ≡ n) → ⊥ = λ e'. sound.apart (t.parent n) h.within (e ∙ sym e') in
      inl (e, sym (ap (λ b. cond b (p.from (t.parent n)) (p.to (t.parent n))) (ne_eqb (p.to (t.parent n)) n ne))))
      (λ e. inr (e, sym (ap (λ b. cond b (p.from (t.parent n)) (p.to (t.parent n))) (eq-eqb (p.to (t.parent n)) n e))))
      h.ends

  -- a device above the node is cut where its parent device is, or one above the node above
  pub chain : (n : ℕ) → has_parent p t n ≡ true → HasParent p t n → cut_above p t cut (t.depth n) n ≡ (cut (t.parent n) || cut_above p t cut (t.depth (upper p t n)) (upper p t n))
  chain n hp h =
      ap (λ k. cut_above p t cut k n) h.deeper
      ∙ ap (λ b. b && (cut (t.parent n) || cut_above p t cut (t.depth (upper p t n)) (upper p t n))) hp

  pub up_within : (n : ℕ) → HasParent p t n → upper p t n < p.nodes
  up_within n h =
      ⊎_elim
      (λ b. subst (λ x. x < p.nodes) b.1 (sound.to (t.parent n) h.within))
      (λ b. subst (λ x. x < p.nodes) b.1 (sound.from (t.parent n) h.within))
      (parent_ends n h)

  pub joined_up : (n : ℕ) → HasParent p t n → cut (t.parent n) ≡ false → Joins p cut (t.parent n) (upper p t n) n
  joined_up n h u = record {
    within = h.within;
    closed = h.closed;
    uncut = u;
    ends = ⊎_elim (λ b. inr (b.0, b.1)) (λ b. inl (b.1, b.0)) (parent_ends n h);
  }

  pub longer : (d m n : ℕ) → Joins p cut d m n → IsLive p cut m → IsLive p cut n
  longer d m n j v = (v.0, suc v.1, v.2, (m, d, v.3, j))

  -- a listed node under no cut device is live
  climbs : (k n : ℕ) → n < p.nodes → t.is_listed n ≡ true → t.depth n ≡ k → cut_above p t cut k n ≡ false → IsLive p cut n
  climbs zero n l in_table e u =
      ⊎_elim
      (λ s. (n, 0, s, refl))
      (λ s. let h = rooted.parent n l (and_from (t.is_listed n) (not (p.is_source n)) in_table (not_from_false (p.is_source n) s)) in
      absurd (let x = h.deeper in omega arith))
      (cases_Bool (p.is_source n))
  climbs (suc k) n l in_table e u =
      ⊎_elim
      (λ s. (n, 0, s, refl))
      (λ s. let hp = and_from (t.is_listed n) (not (p.is_source n)) in_table (not_from_false (p.is_source n) s) in
      let h = rooted.parent n l hp in
      let x = h.deeper in
      let parts = or_parts (cut (t.parent n)) (cut_above p t cut k (upper p t n)) (sym (ap (λ b. b && (cut (t.parent n) || cut_above p t cut k (upper p t n))) hp) ∙ u) in
      longer (t.parent n) (upper p t n) n (joined_up n h parts.0) (climbs k (upper p t n) (up_within n h) h.listed (omega arith) parts.1))
      (cases_Bool (p.is_source n))

  pub live_from_lit : (n : ℕ) → n < p.nodes → lit p t cut n ≡ true → IsLive p cut n
  live_from_lit n l e =
      let a = and_parts (t.is_listed n) (not (cut_above p t cut (t.depth n) n)) e in
      climbs (t.depth n) n l a.0 refl (not-true (cut_above p t cut (t.depth n) n) a.1)
