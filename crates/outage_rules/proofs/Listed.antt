-- A forest that lists all nodes is of a radial network.
use Rattle.std.proofs.Common.{◌≡◌, ℕ, ◌<◌, true, refl, sym, ap, ◌∙◌, subst, ⊎_elim, arith}
use Rattle.std.specs.Prelude.{not}
use Rattle.std.proofs.lemmas.Bool.{and_parts, or_left, eq-eqb, not-true, false≢true}
use Rattle.outage_rules.specs.Network.{Network, Walk, IsLive, IsSoundNetwork, IsRadial, only, nothing}
use Rattle.outage_rules.specs.Certificate.{Table, has_parent, upper, cut_above, IsForest}
use Rattle.outage_rules.proofs.Rooted.{parent_ends, chain, up_within}
use Rattle.outage_rules.proofs.Forest.{lit_from_live}
use Rattle.outage_rules.proofs.Closing.{Path, append, back}
use Rattle.outage_rules.proofs.Agreement.{live_without, end_is}

-- the device closes no loop with the others
abbrev ClosesNone : Network → ℕ → Type 0
ClosesNone g d = ((k : ℕ) → Walk g (only d) k (g.from d) (g.to d) → ⊥) × (IsLive g (only d) (g.from d) → IsLive g (only d) (g.to d) → ⊥)

module _ (g : Network) (t : Table) (sound : IsSoundNetwork g) (forest : IsForest g t) where
  -- without its parent device a node isn't live
  cut_off : (n : ℕ) → n < g.nodes → has_parent g t n ≡ true → IsLive g (only (t.parent n)) n → ⊥
  cut_off n l hp v =
      let lit = and_parts (t.is_listed n) (not (cut_above g t (only (t.parent n)) (t.depth n) n)) (lit_from_live g t (only (t.parent n)) sound forest n v) in
      false≢true (sym (not-true (cut_above g t (only (t.parent n)) (t.depth n) n) lit.1)
      ∙ chain g t (only (t.parent n)) sound forest.rooted n hp (forest.parent n l hp)
      ∙ or_left (only (t.parent n) (t.parent n)) (cut_above g t (only (t.parent n)) (t.depth (upper g t n)) (upper g t n)) (eq-eqb (t.parent n) (t.parent n) refl))

  -- and the node above it is
  above : (n : ℕ) → n < g.nodes → has_parent g t n ≡ true → IsLive g (only (t.parent n)) (upper g t n)
  above n l hp =
      let h = forest.parent n l hp in
      live_without g t sound forest (t.parent n) (upper g t n)
      (λ x lx hx near same. let deep = h.deeper in ⊎_elim
      (λ a. let e = ap t.depth a in omega arith)
      (λ a. let d = (forest.parent x lx hx).deeper in
      let e = ap t.depth a in omega arith)
      (end_is g t sound forest n x (t.parent n) h.ends lx hx same))
      (up_within g t nothing sound forest.rooted n h) h.listed

  -- so no other walk leads from the node above to it
  unjoined : (n : ℕ) → n < g.nodes → has_parent g t n ≡ true → Path g (only (t.parent n)) (upper g t n) n → ⊥
  unjoined n l hp p =
      let v = above n l hp in
      let w = append g (only (t.parent n)) v.1 p.0 v.0 (upper g t n) n v.3 p.1 in
      cut_off n l hp (v.0, w.0, v.2, w.1)

  -- a parent device closes no loop
  closes_none : (n : ℕ) → n < g.nodes → has_parent g t n ≡ true → ClosesNone g (t.parent n)
  closes_none n l hp =
      ⊎_elim
      (λ e. (
        λ k w. let p = back g (only (t.parent n)) k (g.from (t.parent n)) (g.to (t.parent n)) w in
            unjoined n l hp (subst (λ x. Path g (only (t.parent n)) x n) e.1 (subst (λ x. Path g (only (t.parent n)) (g.to (t.parent n)) x) e.0 p)),
        λ v w. cut_off n l hp (subst (IsLive g (only (t.parent n))) e.0 v),
      ))
      (λ e. (
        λ k w. unjoined n l hp (subst (λ x. Path g (only (t.parent n)) x n) e.1 (subst (λ x. Path g (only (t.parent n)) (g.from (t.parent n)) x) e.0 (k, w))),
        λ v w. cut_off n l hp (subst (IsLive g (only (t.parent n))) e.0 w),
      ))
      (parent_ends g t nothing sound forest.rooted n (forest.parent n l hp))

  -- each closed device is one, since no node is unlisted
  pub radial_from_forest : ((n : ℕ) → n < g.nodes → t.is_listed n ≡ true) → IsRadial g
  radial_from_forest all d l closed =
      ⊎_elim
      (λ s. subst (ClosesNone g) s.3 (closes_none s.0 s.1 s.2))
      (λ u. absurd (false≢true (sym u.0 ∙ all (g.from d) (sound.from d l))))
      (forest.stray d l closed)
