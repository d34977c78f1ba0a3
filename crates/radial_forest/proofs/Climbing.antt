-- From each node a walk of parent devices leads to its root.
use Rattle.std.proofs.Common.{◌≡◌, ℕ, zero, suc, ◌<◌, ◌≤◌, true, false, refl, sym, ap, ◌∙◌, subst, inl, inr, ⊎_elim, arith, List, Option, Some, None, is_some}
use Rattle.std.specs.Prelude.{◌⊎◌, not}
use Rattle.std.proofs.lemmas.Bool.{cases_Bool, and_parts, not-true, ne_eqb, false≢true}
use Rattle.outage_rules.specs.Network.{Network, Cut, IsSoundNetwork, IsRadial, Joins, Walk, only, nothing, is_live}
use Rattle.outage_rules.specs.Certificate.{HasParent, other_end, upper}
use Rattle.outage_rules.specs.Laws.{LiveIsAWalk}
use Rattle.outage_rules.proofs.Closing.{Path, then_to, one, back}
use Rattle.grid_model.specs.declared.parts.NodeId.{NodeId}
use Rattle.grid_model.specs.declared.parts.DeviceId.{DeviceId}
use Rattle.radial_forest.specs.Traversed.{Traversed, parent_in, number_of_device, table_of}
use Rattle.radial_forest.specs.Forested.{root_in, IsParentOf, HasRoots}
use Rattle.radial_forest.specs.Spreading.{is_reached, hangs, IsSettled, AreParents}
use Rattle.radial_forest.specs.Rooting.{HasRootOfUpper}
use Rattle.radial_forest.proofs.Around.{other_within}
use Rattle.radial_forest.proofs.Alike.{same_test}
use Rattle.radial_forest.proofs.Hanging.{other_is, joins_other}

none_from : (o : Option DeviceId) → is_some o ≡ false → o ≡ None
none_from None e = refl
none_from (Some d) e = absurd (false≢true (sym e))

module _ (g : Network) (t : Traversed) (roots : List NodeId) (sound : IsSoundNetwork g) (settled : IsSettled g t) (rooted : (n : ℕ) → n < g.nodes → HasRootOfUpper g t roots n) where
  above : (n : ℕ) → n < g.nodes → hangs t n ≡ true → HasParent g (table_of t) n
  above n l h = (settled.partial.hung n l h).1

  up_within : (n : ℕ) → n < g.nodes → hangs t n ≡ true → upper g (table_of t) n < g.nodes
  up_within n l h = other_within g ((table_of t).parent n) n sound (above n l h).within

  joins_up : (n : ℕ) → n < g.nodes → hangs t n ≡ true → Joins g nothing ((table_of t).parent n) n (upper g (table_of t) n)
  joins_up n l h = let p = above n l h in joins_other g ((table_of t).parent n) n p.within p.closed p.ends

  -- a walk to the root that the cut doesn't touch, where it touches no parent device so near to the roots
  climb : (cut : Cut) (k n : ℕ) → (table_of t).depth n ≡ k → n < g.nodes
      → ((m : ℕ) → m < g.nodes → hangs t m ≡ true → (table_of t).depth m ≤ k → cut ((table_of t).parent m) ≡ false) → Path g cut n (root_in roots n)
  climb cut zero n e l free =
      ⊎_elim
      (λ h. let deep = (above n l h).deeper in absurd (omega arith))
      (λ h. (0, sym ((rooted n l).top h)))
      (cases_Bool (hangs t n))
  climb cut (suc k) n e l free =
      ⊎_elim
      (λ h. let j = joins_up n l h in
      let deep = (above n l h).deeper in
      let step = one g cut ((table_of t).parent n) n (upper g (table_of t) n) (record { within = j.within; closed = j.closed; uncut = free n l h (omega arith); ends = j.ends }) in
      let rest = climb cut k (upper g (table_of t) n) (omega arith) (up_within n l h) (λ m lm hm le. free m lm hm (omega arith)) in
      then_to g cut n (upper g (table_of t) n) (root_in roots n) step (subst (Path g cut (upper g (table_of t) n)) (sym ((rooted n l).below h)) rest))
      (λ h. (0, sym ((rooted n l).top h)))
      (cases_Bool (hangs t n))

  -- a node that hangs from none is a root
  own : (n : ℕ) → n < g.nodes → hangs t n ≡ false → (root_in roots n < g.nodes) × (hangs t (root_in roots n) ≡ false)
  own n l h = let same = (rooted n l).top h in (subst (λ v. v < g.nodes) (sym same) l, ap (hangs t) same ∙ h)

  -- the root hangs from no device
  root_top : (k n : ℕ) → (table_of t).depth n ≡ k → n < g.nodes → (root_in roots n < g.nodes) × (hangs t (root_in roots n) ≡ false)
  root_top zero n e l = ⊎_elim (λ h. let deep = (above n l h).deeper in absurd (omega arith)) (own n l) (cases_Bool (hangs t n))
  root_top (suc k) n e l =
      ⊎_elim
      (λ h. let deep = (above n l h).deeper in
      subst (λ v. (v < g.nodes) × (hangs t v ≡ false)) (sym ((rooted n l).below h)) (root_top k (upper g (table_of t) n) (omega arith) (up_within n l h)))
      (own n l)
      (cases_Bool (hangs t n))

  to_root : (n : ℕ) → n < g.nodes → Path g nothing n (root_in roots n)
  to_root n l = climb nothing ((table_of t).depth n) n refl l (λ m lm h le. refl)

  from_root : (n : ℕ) → n < g.nodes → Path g nothing (root_in roots n) n
  from_root n l = let p = to_root n l in back g nothing p.0 n (root_in roots n) p.1

  -- a root is its own
  root_own : (n : ℕ) → n < g.nodes → hangs t n ≡ false → root_in roots n ≡ n
  root_own n l = (rooted n l).top

  source_own : (s : ℕ) → s < g.nodes → g.is_source s ≡ true → root_in roots s ≡ s
  source_own s l e = root_own s l (not-true (hangs t s) (and_parts (is_reached t s) (not (hangs t s)) (settled.separate.sources s e)).1)

  module _ (n d : ℕ) (l : n < g.nodes) (hung : hangs t n ≡ true) (is_d : (table_of t).parent n ≡ d) where
    up_is : upper g (table_of t) n ≡ other_end g d n
    up_is = ap (λ x. other_end g x n) is_d

    -- the device hangs no node nearer to the root
    hangs_none : (m : ℕ) → m < g.nodes → hangs t m ≡ true → (table_of t).depth m ≤ (table_of t).depth (upper g (table_of t) n) → only d ((table_of t).parent m) ≡ false
    hangs_none m lm hm le = ne_eqb ((table_of t).parent m) d differs
      where
        m_deep : (table_of t).parent m ≡ d → upper g (table_of t) m ≡ n → ⊥
        m_deep e u =
            let a = (above n l hung).deeper in
            let b = (above m lm hm).deeper in
            let c = ap (table_of t).depth u in absurd (omega arith)

        m_is_n : m ≡ n → ⊥
        m_is_n e = let a = (above n l hung).deeper in let c = ap (table_of t).depth e in absurd (omega arith)

        differs : (table_of t).parent m ≡ d → ⊥
        differs e =
            let jn = subst (λ x. Joins g nothing x n (other_end g x n)) is_d (joins_up n l hung) in
            let jm = subst (λ x. Joins g nothing x m (other_end g x m)) e (joins_up m lm hm) in
            ⊎_elim
            (λ a. ⊎_elim
            (λ b. m_is_n (sym b.0 ∙ a.0))
            (λ b. m_deep e (ap (λ x. other_end g x m) e ∙ (sym b.0 ∙ a.0)))
            jm.ends)
            (λ a. ⊎_elim
            (λ b. m_deep e (ap (λ x. other_end g x m) e ∙ (sym b.1 ∙ a.1)))
            (λ b. m_is_n (sym b.1 ∙ a.1))
            jm.ends)
            jn.ends

    -- a walk without it leads from the node above to the root
    up_to_root : Path g (only d) (upper g (table_of t) n) (root_in roots (upper g (table_of t) n))
    up_to_root = climb (only d) ((table_of t).depth (upper g (table_of t) n)) (upper g (table_of t) n) refl (up_within n l hung) hangs_none

    -- a walk without the device would close a loop with it
    is_needed : IsRadial g → (k : ℕ) → Walk g (only d) k n (root_in roots n) → ⊥
    is_needed radial k w =
        let j = subst (λ x. Joins g nothing x n (other_end g x n)) is_d (joins_up n l hung) in
        let down = back g (only d) up_to_root.0 (upper g (table_of t) n) (root_in roots (upper g (table_of t) n)) up_to_root.1 in
        let p : Path g (only d) n (other_end g d n) =
        subst (Path g (only d) n) up_is (then_to g (only d) n (root_in roots n) (upper g (table_of t) n) (k, w) (subst (λ v. Path g (only d) v (upper g (table_of t) n)) (sym ((rooted n l).below hung)) down)) in
        let q = back g (only d) p.0 n (other_end g d n) p.1 in
        ⊎_elim
        (λ a. (radial d j.within j.closed).0 p.0 (subst (λ v. Walk g (only d) p.0 v (g.to d)) (sym a.0) (subst (Walk g (only d) p.0 n) (sym a.1) p.1)))
        (λ a. (radial d j.within j.closed).0 q.0 (subst (λ v. Walk g (only d) q.0 v (g.to d)) (sym a.0) (subst (Walk g (only d) q.0 (other_end g d n)) (sym a.1) q.1)))
        j.ends

    is_parent : IsRadial g → IsParentOf g roots n d
    is_parent radial =
        let p = above n l hung in
        record {
          within = subst (λ x. x < g.devices) is_d p.within;
          closed = sym (ap g.is_closed is_d) ∙ p.closed;
          ends = subst (λ x. (g.from x ≡ n) ⊎ (g.to x ≡ n)) is_d p.ends;
          same_root = sym ((rooted n l).below hung ∙ ap (root_in roots) up_is);
          needed = is_needed radial;
          upper = subst (λ v. Path g (only d) v (root_in roots n)) up_is (subst (Path g (only d) (upper g (table_of t) n)) (sym ((rooted n l).below hung)) up_to_root);
        }

  module _ (parents : AreParents g t g.devices) where
    -- a closed device joins nodes of one root
    same_across : (d : ℕ) → d < g.devices → g.is_closed d ≡ true → root_in roots (g.from d) ≡ root_in roots (g.to d)
    same_across d l c =
        ⊎_elim
        (λ e. (rooted (g.from d) (sound.from d l)).below (ap is_some e)
        ∙ ap (root_in roots) (ap (λ o. other_end g (number_of_device o) (g.from d)) e
        ∙ other_is g d (g.to d) (g.from d) sound (record { within = l; closed = c; uncut = refl; ends = inr (refl, refl) })))
        (λ e. sym ((rooted (g.to d) (sound.to d l)).below (ap is_some e)
        ∙ ap (root_in roots) (ap (λ o. other_end g (number_of_device o) (g.to d)) e
        ∙ other_is g d (g.from d) (g.to d) sound (record { within = l; closed = c; uncut = refl; ends = inl (refl, refl) }))))
        (parents d l c)

    same_along : (k a b : ℕ) → Walk g nothing k a b → root_in roots a ≡ root_in roots b
    same_along zero a b w = ap (root_in roots) w
    same_along (suc k) a b w =
        same_along k a w.0 w.2
        ∙ ⊎_elim
        (λ e. sym (ap (root_in roots) e.0) ∙ same_across w.1 w.3.within w.3.closed ∙ ap (root_in roots) e.1)
        (λ e. sym (ap (root_in roots) e.1) ∙ sym (same_across w.1 w.3.within w.3.closed) ∙ ap (root_in roots) e.0)
        w.3.ends

    is_fed : LiveIsAWalk → (n : ℕ) → n < g.nodes → g.is_source (root_in roots n) ≡ is_live g nothing n
    is_fed live n l =
        same_test (g.is_source (root_in roots n)) (is_live g nothing n)
        (λ e. (live g nothing n sound l).1 (let p = from_root n l in (root_in roots n, p.0, e, p.1)))
        (λ e. let w = (live g nothing n sound l).0 e in
        ap g.is_source (sym (same_along w.1 w.0 n w.3) ∙ source_own w.0 (sound.sources w.0 w.2) w.2) ∙ w.2)

    pub has_roots : IsRadial g → LiveIsAWalk → HasRoots g t.parents roots
    has_roots radial live = record {
      within = λ n l. (root_top ((table_of t).depth n) n refl l).0;
      joined = to_root;
      same_root = λ m n lm ln. (
        λ e. then_to g nothing m (root_in roots m) n (to_root m lm) (subst (λ v. Path g nothing v n) (sym e) (from_root n ln)),
        λ p. same_along p.0 m n p.1,
      );
      fed = is_fed live;
      top = λ n l. (
        λ e. root_own n l (ap is_some e),
        λ e. none_from (parent_in t.parents n) (sym (ap (hangs t) e) ∙ (root_top ((table_of t).depth n) n refl l).1),
      );
      parent = λ n d l e. is_parent n d.0 l (ap is_some e) (ap number_of_device e) radial;
      closed = parents;
    }
