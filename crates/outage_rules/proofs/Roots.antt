-- With separate roots as its sources a network is radial exactly where it is radial.
use Rattle.std.proofs.Common.{◌≡◌, ℕ, ◌<◌, Bool, true, refl, sym, subst, inl, ⊎_elim}
use Rattle.std.proofs.lemmas.Bool.{cases_eq}
use Rattle.outage_rules.specs.Network.{Network, Cut, Walk, IsRadial, only, nothing}
use Rattle.outage_rules.specs.Loops.{with_sources, AreSeparateRoots}
use Rattle.outage_rules.proofs.Closing.{Path, then_to, one, back, free, walk_with_source}

module _ (g : Network) (roots : ℕ → Bool) (separate : AreSeparateRoots g roots) where
  -- the walks are the same
  to_roots : (cut : Cut) (k a b : ℕ) → Walk g cut k a b → Walk (with_sources g roots) cut k a b
  to_roots cut k a b w = walk_with_source g roots cut k a b w

  from_roots : (cut : Cut) (k a b : ℕ) → Walk (with_sources g roots) cut k a b → Walk g cut k a b
  from_roots cut k a b w = walk_with_source (with_sources g roots) g.is_source cut k a b w

  -- each source is a root
  pub radial_from_roots : IsRadial (with_sources g roots) → IsRadial g
  radial_from_roots radial d l closed =
      let r = radial d l closed in (
        λ k w. r.0 k (to_roots (only d) k (g.from d) (g.to d) w),
        λ v w. r.1 (v.0, v.1, separate.sources v.0 v.2, to_roots (only d) v.1 v.0 (g.from d) v.3) (w.0, w.1, separate.sources w.0 w.2, to_roots (only d) w.1 w.0 (g.to d) w.3),
      )

  -- from one root a walk around the device would join its ends, and two roots that it joins are sources
  not_both : IsRadial g → (d : ℕ) → d < g.devices → g.is_closed d ≡ true → (s r : ℕ) → roots s ≡ true → roots r ≡ true → Path g (only d) s (g.from d) → Path g (only d) r (g.to d) → ⊥
  not_both radial d l closed s r at_s at_r p q =
      ⊎_elim
      (λ e. let w = then_to g (only d) (g.from d) s (g.to d) (back g (only d) p.0 s (g.from d) p.1) (subst (λ x. Path g (only d) x (g.to d)) (sym e) q) in
      (radial d l closed).0 w.0 w.1)
      (λ ne. let w = through in
      let src = separate.apart s r at_s at_r ne w.0 w.1 in
      (radial d l closed).1 (s, p.0, src.0, p.1) (r, q.0, src.1, q.1))
      (cases_eq s r)
    where
      across : Path g nothing (g.from d) (g.to d)
      across = one g nothing d (g.from d) (g.to d) (record { within = l; closed = closed; uncut = refl; ends = inl (refl, refl) })

      through : Path g nothing s r
      through =
          let last = free g d r (g.to d) q in
          then_to g nothing s (g.from d) r (free g d s (g.from d) p) (then_to g nothing (g.from d) (g.to d) r across (back g nothing last.0 r (g.to d) last.1))

  pub radial_to_roots : IsRadial g → IsRadial (with_sources g roots)
  radial_to_roots radial d l closed = (
    λ k w. (radial d l closed).0 k (from_roots (only d) k (g.from d) (g.to d) w),
    λ v w. not_both radial d l closed v.0 w.0 v.2 w.2 (v.1, from_roots (only d) v.1 v.0 (g.from d) v.3) (w.1, from_roots (only d) w.1 w.0 (g.to d) w.3),
  )
