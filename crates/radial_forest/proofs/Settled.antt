-- Root after root is reached, each with what closed devices join to it.
use Rattle.std.proofs.Common.{◌≡◌, ◌≢◌, ℕ, ◌<◌, true, false, None, sym, ap, ◌∙◌, subst, ⊎_elim, length, is_some}
use Rattle.std.specs.Prelude.{◌&&◌, not}
use Rattle.std.proofs.lemmas.Bool.{cases_eq, and_parts, and_from, false≢true}
use Rattle.outage_rules.specs.Network.{Network, IsSoundNetwork, Walk, nothing}
use Rattle.outage_rules.specs.Certificate.{IsWhole}
use Rattle.grid_model.specs.declared.parts.NodeId.{NodeId}
use Rattle.radial_forest.specs.Traversed.{Traversed, table_of}
use Rattle.radial_forest.specs.Spreading.{reaching, is_reached, hangs, is_root, IsPartial, Grows, AreDone, IsSettled}
use Rattle.radial_forest.proofs.Reaching.{kept, reached_here, reached_other, parent_here, parent_other, place_before}
use Rattle.radial_forest.proofs.Sources.{root_partial}
use Rattle.radial_forest.proofs.Ending.{whole_walk}

root_reached : (t : Traversed) (n : ℕ) → is_root t n ≡ true → is_reached t n ≡ true
root_reached t n e = (and_parts (is_reached t n) (not (hangs t n)) e).0

-- at first the roots are the sources
pub settled_start : (g : Network) (t : Traversed) → IsSoundNetwork g → IsPartial g t → IsWhole g (table_of t) → ((n : ℕ) → is_root t n ≡ g.is_source n) → IsSettled g t
settled_start g t sound partial whole roots = record {
  partial = partial;
  whole = whole;
  separate = record {
    within = λ n e. sound.sources n (sym (roots n) ∙ e);
    sources = λ n e. roots n ∙ e;
    apart = λ a b ra rb ne k w. (sym (roots a) ∙ ra, sym (roots b) ∙ rb);
  };
}

module _ (g : Network) (t : Traversed) (m : NodeId) (settled : IsSettled g t) (lm : m.0 < g.nodes) (fresh : is_reached t m.0 ≡ false) where
  pub new_root : IsPartial g (reaching t m None 0)
  new_root = root_partial g t m settled.partial lm fresh

  still : (v : ℕ) → is_reached t v ≡ true → is_reached (reaching t m None 0) v ≡ true
  still = kept g t m None 0 settled.partial lm fresh

  -- what stood in the order before is done
  pub done_before : AreDone g (reaching t m None 0) (length t.order)
  done_before j lj d ld c ends =
      let on = (settled.partial.placed j lj).1 in
      let here = place_before g t m None 0 settled.partial lm j lj in
      let same = settled.whole d ld c in
      ⊎_elim
      (λ e. let from = ap (is_reached t) (e ∙ here) ∙ on in record { from = still (g.from d) from; to = still (g.to d) (sym same ∙ from) })
      (λ e. let to = ap (is_reached t) (e ∙ here) ∙ on in record { from = still (g.from d) (same ∙ to); to = still (g.to d) to })
      ends

  root_other : (v : ℕ) → v ≢ m.0 → is_root (reaching t m None 0) v ≡ is_root t v
  root_other v ne =
      ap (λ b. b && not (hangs (reaching t m None 0) v)) (reached_other g t m None 0 settled.partial lm v ne)
      ∙ ap (λ o. is_reached t v && not (is_some o)) (parent_other g t m None 0 settled.partial lm v ne)

  root_here : is_root (reaching t m None 0) m.0 ≡ true
  root_here =
      and_from (is_reached (reaching t m None 0) m.0) (not (hangs (reaching t m None 0) m.0)) (reached_here g t m None 0 settled.partial lm)
      (ap (λ o. not (is_some o)) (parent_here g t m None 0 settled.partial lm))

  new_apart : (t' : Traversed) → Grows (reaching t m None 0) t' → (a b : ℕ) → is_root t' a ≡ true → is_root t' b ≡ true → a ≢ b → (k : ℕ) → Walk g nothing k a b → (g.is_source a ≡ true) × (g.is_source b ≡ true)
  new_apart t' grows a b ra rb ne k w =
      ⊎_elim
      (λ x. absurd (false≢true (sym fresh ∙ sym (ap (is_reached t) x) ∙ whole_walk g t settled.whole k a b w ∙ root_reached t b (old b (λ y. ne (x ∙ sym y)) rb))))
      (λ x. ⊎_elim
      (λ y. absurd (false≢true (sym fresh ∙ sym (ap (is_reached t) y) ∙ sym (whole_walk g t settled.whole k a b w) ∙ root_reached t a (old a x ra))))
      (λ y. settled.separate.apart a b (old a x ra) (old b y rb) ne k w)
      (cases_eq b m.0))
      (cases_eq a m.0)
    where
      old : (v : ℕ) → v ≢ m.0 → is_root t' v ≡ true → is_root t v ≡ true
      old v x e = sym (root_other v x) ∙ sym (grows.roots v) ∙ e

  pub settled_more : (t' : Traversed) → IsPartial g t' → IsWhole g (table_of t') → Grows (reaching t m None 0) t' → IsSettled g t'
  settled_more t' partial whole grows = record {
    partial = partial;
    whole = whole;
    separate = record {
      within = λ n e. ⊎_elim
          (λ x. subst (λ v. v < g.nodes) (sym x) lm)
          (λ x. settled.separate.within n (sym (root_other n x) ∙ sym (grows.roots n) ∙ e))
          (cases_eq n m.0);
      sources = λ n e. grows.roots n ∙ ⊎_elim
          (λ x. ap (is_root (reaching t m None 0)) x ∙ root_here)
          (λ x. root_other n x ∙ settled.separate.sources n e)
          (cases_eq n m.0);
      apart = new_apart t' grows;
    };
  }

  pub kept_on : (t' : Traversed) → Grows (reaching t m None 0) t' → (v : ℕ) → is_reached t v ≡ true → is_reached t' v ≡ true
  kept_on t' grows v e = grows.reached v (still v e)
