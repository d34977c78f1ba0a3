-- Where all nodes are reached, a network is radial exactly where each closed device is a parent device.
use Rattle.std.proofs.Common.{◌≡◌, ℕ, ◌<◌, Bool, true, refl, sym, ap, ◌∙◌, subst, inl, inr, ⊎_elim, Option, Some, None, is_some}
use Rattle.std.specs.Prelude.{◌↔◌}
use Rattle.std.proofs.lemmas.Bool.{false≢true}
use Rattle.outage_rules.specs.Network.{Network, IsSoundNetwork, IsRadial}
use Rattle.outage_rules.specs.Certificate.{IsRooted, IsForest, has_parent}
use Rattle.outage_rules.specs.Laws.{RadialIsForest}
use Rattle.outage_rules.specs.Loops.{with_sources, ForestIsRadial, RadialByRoots}
use Rattle.grid_model.specs.declared.parts.DeviceId.{DeviceId}
use Rattle.radial_forest.specs.Traversed.{Traversed, parent_in, number_of_device, table_of}
use Rattle.radial_forest.specs.Spreading.{is_reached, hangs, is_root, IsPartial, IsSettled, HangsFrom, AreParents}
use Rattle.radial_forest.proofs.Ending.{has_parent_is, is_rooted}

-- with other sources what is reached is the same
partial_with : (g : Network) (s : ℕ → Bool) (t : Traversed) → IsPartial g t → IsPartial (with_sources g s) t
partial_with g s t p = record {
  parents_each = p.parents_each;
  depths_each = p.depths_each;
  counted = p.counted;
  hung = λ n l e. let h = p.hung n l e in (h.0, record { within = h.1.within; closed = h.1.closed; ends = h.1.ends; listed = h.1.listed; deeper = h.1.deeper });
  top = p.top;
  placed = p.placed;
  all = p.all;
  once = p.once;
  after_upper = p.after_upper;
  shallow = p.shallow;
}

-- a parent device by its number
parent_is : (o : Option DeviceId) (d : ℕ) → is_some o ≡ true → number_of_device o ≡ d → o ≡ Some (record { 0 = d })
parent_is None d e n = absurd (false≢true e)
parent_is (Some x) d e n = ap (λ k. Some (record { 0 = k })) n

module _ (g : Network) (t : Traversed) (sound : IsSoundNetwork g) (settled : IsSettled g t) (all : (n : ℕ) → n < g.nodes → is_reached t n ≡ true) where
  partial : IsPartial (with_sources g (is_root t)) t
  partial = partial_with g (is_root t) t settled.partial

  sound' : IsSoundNetwork (with_sources g (is_root t))
  sound' = record { from = sound.from; to = sound.to; apart = sound.apart; sources = settled.separate.within }

  rooted : IsRooted (with_sources g (is_root t)) (table_of t)
  rooted = is_rooted (with_sources g (is_root t)) t partial (λ n. refl)

  forest : AreParents g t g.devices → IsForest (with_sources g (is_root t)) (table_of t)
  forest parents = record {
    rooted = rooted;
    stray = λ d l c. inl (⊎_elim (at d (g.from d) (sound.from d l)) (at d (g.to d) (sound.to d l)) (parents d l c));
  }
    where
      at : (d n : ℕ) → n < g.nodes → HangsFrom t n d → (m : ℕ) × (m < g.nodes) × (has_parent (with_sources g (is_root t)) (table_of t) m ≡ true) × ((table_of t).parent m ≡ d)
      at d n l e = (n, l, sym (has_parent_is (with_sources g (is_root t)) t partial (λ v. refl) n l) ∙ ap is_some e, ap number_of_device e)

  parents : IsForest (with_sources g (is_root t)) (table_of t) → AreParents g t g.devices
  parents f d l c =
      ⊎_elim
      (λ s. let h = f.rooted.parent s.0 s.1 s.2 in
      let hung : hangs t s.0 ≡ true = has_parent_is (with_sources g (is_root t)) t partial (λ v. refl) s.0 s.1 ∙ s.2 in
      let is : HangsFrom t s.0 d = parent_is (parent_in t.parents s.0) d hung s.3 in
      ⊎_elim
      (λ e. inl (subst (λ n. HangsFrom t n d) (sym (sym (ap g.from s.3) ∙ e)) is))
      (λ e. inr (subst (λ n. HangsFrom t n d) (sym (sym (ap g.to s.3) ∙ e)) is))
      h.ends)
      (λ s. absurd (false≢true (sym s.0 ∙ all (g.from d) (sound.from d l))))
      (f.stray d l c)

  pub radial_by_parents : RadialIsForest → ForestIsRadial → RadialByRoots → AreParents g t g.devices ↔ IsRadial g
  radial_by_parents to_forest to_radial by_roots =
      let same = by_roots g (is_root t) sound settled.separate in (
        λ p. same.0 (to_radial (with_sources g (is_root t)) (table_of t) sound' (forest p) all),
        λ r. parents (to_forest (with_sources g (is_root t)) (table_of t) sound' rooted settled.whole (same.1 r)),
      )
