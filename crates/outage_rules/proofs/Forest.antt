-- Live by walks is live by the table.
use Rattle.std.proofs.Common.{◌≡◌, ℕ, zero, suc, ◌<◌, true, false, sym, ap, ◌∙◌, subst, inl, inr, ⊎_elim}
use Rattle.std.specs.Prelude.{not, ◌⊎◌}
use Rattle.std.proofs.lemmas.Bool.{or_parts, or_from, and_from, and_parts, false≢true, not_from_false}
use Rattle.outage_rules.specs.Network.{Network, Cut, Joins, Walk, IsLive, IsSoundNetwork}
use Rattle.outage_rules.specs.Certificate.{Table, has_parent, upper, cut_above, lit, IsForest, HasParent}
use Rattle.outage_rules.proofs.Rooted.{parent_ends, chain}

module _ (p : Network) (t : Table) (cut : Cut) (sound : IsSoundNetwork p) (forest : IsForest p t) where
  record Reached (n : ℕ) : Type 0 where
    within : n < p.nodes
    listed : t.is_listed n ≡ true
    uncut : cut_above p t cut (t.depth n) n ≡ false

  -- the two nodes that a parent device joins
  abbrev Neighbors : ℕ → ℕ → ℕ → Type 0
  Neighbors v m n = ((m ≡ upper p t v) × (n ≡ v)) ⊎ ((m ≡ v) × (n ≡ upper p t v))

  neighbors : (v m n d : ℕ) → t.parent v ≡ d → HasParent p t v → Joins p cut d m n → Neighbors v m n
  neighbors v m n d e h j =
      ⊎_elim
      (λ a. ⊎_elim
      (λ b. inr (sym b.0 ∙ ap p.from (sym e) ∙ a.0, sym b.1 ∙ ap p.to (sym e) ∙ a.1))
      (λ b. inl (sym b.1 ∙ ap p.to (sym e) ∙ a.1, sym b.0 ∙ ap p.from (sym e) ∙ a.0))
      j.ends)
      (λ a. ⊎_elim
      (λ b. inl (sym b.0 ∙ ap p.from (sym e) ∙ a.1, sym b.1 ∙ ap p.to (sym e) ∙ a.0))
      (λ b. inr (sym b.1 ∙ ap p.to (sym e) ∙ a.0, sym b.0 ∙ ap p.from (sym e) ∙ a.1))
      j.ends)
      (parent_ends p t cut sound forest.rooted v h)

  end_within : (d m n : ℕ) → Joins p cut d m n → n < p.nodes
  end_within d m n j =
      ⊎_elim
      (λ b. subst (λ x. x < p.nodes) b.1 (sound.to d j.within))
      (λ b. subst (λ x. x < p.nodes) b.0 (sound.from d j.within))
      j.ends

  listed_end : (d m n : ℕ) → Joins p cut d m n → t.is_listed m ≡ true → (t.is_listed (p.from d) ≡ false) × (t.is_listed (p.to d) ≡ false) → ⊥
  listed_end d m n j l u =
      ⊎_elim
      (λ b. false≢true (sym u.0 ∙ ap t.is_listed b.0 ∙ l))
      (λ b. false≢true (sym u.1 ∙ ap t.is_listed b.1 ∙ l))
      j.ends

  step : (d m n : ℕ) → Reached m → Joins p cut d m n → Reached n
  step d m n r j =
      ⊎_elim
      (λ s. along s.0 s.2 s.3 (forest.parent s.0 s.1 s.2))
      (λ u. absurd (listed_end d m n j r.listed u))
      (forest.stray d j.within j.closed)
    where
      down : (v : ℕ) → has_parent p t v ≡ true → t.parent v ≡ d → HasParent p t v → m ≡ upper p t v → n ≡ v → Reached n
      down v hp e h em en = record {
        within = end_within d m n j;
        listed = ap t.is_listed en ∙ (and_parts (t.is_listed v) (not (p.is_source v)) hp).0;
        uncut = ap (λ x. cut_above p t cut (t.depth x) x) en ∙ chain p t cut sound forest.rooted v hp h
            ∙ or_from (cut (t.parent v)) (cut_above p t cut (t.depth (upper p t v)) (upper p t v)) (ap cut e ∙ j.uncut) (ap (λ x. cut_above p t cut (t.depth x) x) (sym em) ∙ r.uncut);
      }

      up : (v : ℕ) → has_parent p t v ≡ true → HasParent p t v → m ≡ v → n ≡ upper p t v → Reached n
      up v hp h em en = record {
        within = end_within d m n j;
        listed = ap t.is_listed en ∙ h.listed;
        uncut = ap (λ x. cut_above p t cut (t.depth x) x) en
            ∙ (or_parts (cut (t.parent v)) (cut_above p t cut (t.depth (upper p t v)) (upper p t v)) (sym (chain p t cut sound forest.rooted v hp h) ∙ ap (λ x. cut_above p t cut (t.depth x) x) (sym em) ∙ r.uncut)).1;
      }

      along : (v : ℕ) → has_parent p t v ≡ true → t.parent v ≡ d → HasParent p t v → Reached n
      along v hp e h =
          ⊎_elim
          (λ a. down v hp e h a.0 a.1)
          (λ a. up v hp h a.0 a.1)
          (neighbors v m n d e h j)

  reached : (k s n : ℕ) → p.is_source s ≡ true → Walk p cut k s n → Reached n
  reached zero s n src e =
      let a = forest.source s (sound.sources s src) src in
      subst Reached e (record {
        within = sound.sources s src;
        listed = a.0;
        uncut = ap (λ k. cut_above p t cut k s) a.1;
      })
  reached (suc k) s n src w = step w.1 w.0 n (reached k s w.0 src w.2) w.3

  -- live by walks is live by the table
  pub lit_from_live : (n : ℕ) → IsLive p cut n → lit p t cut n ≡ true
  lit_from_live n v =
      let r = reached v.1 v.0 n v.2 v.3 in
      and_from (t.is_listed n) (not (cut_above p t cut (t.depth n) n)) r.listed (not_from_false (cut_above p t cut (t.depth n) n) r.uncut)
