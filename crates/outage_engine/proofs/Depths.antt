-- How deep the nodes are, from the first node of an order to the last.
use Rattle.std.proofs.Common.{◌≡◌, ◌≢◌, ℕ, suc, zero, ◌+◌, ◌<◌, ◌≤◌, Bool, true, false, cond, refl, sym, ap, ◌∙◌, subst, inl, inr, ⊎_elim, arith, below_more, List, length, set, get_or, Option, Some, None, is_some}
use Rattle.std.specs.Prelude.{◌⊎◌, ◌&&◌, not, nat_lt}
use Rattle.std.proofs.lemmas.List.{get_or-set_same, get_or-set_other, length-set}
use Rattle.outage_rules.specs.Certificate.{other_end}
use Rattle.grid_model.specs.declared.parts.DeviceId.{DeviceId}
use Rattle.grid_model.specs.Parts.{Parts}
use Rattle.grid_model.specs.Network.{network_of}
use Rattle.radial_forest.specs.Traversed.{parent_in, number_of_device, node_at}
use Rattle.radial_forest.specs.Spreading.{switched}
use Rattle.subtree_costs.specs.Trees.{depth_in, devices_up}
use Rattle.subtree_costs.specs.Costed.{Costed, IsCosted}
use Rattle.outage_engine.specs.Bounding.{AreDepths}

-- the nodes below place k of the order have their depth, which is less than k, and the others have none yet
pub record AreDeepBelow (g : Parts) (c : Costed) (k : ℕ) (depths : List ℕ) : Type 0 where
  pub each : length depths ≡ length g.nodes
  pub deep : (j : ℕ) → j < k → (get_or depths (node_at c.order j) 0 ≡ depth_in (switched g c.forest.closed) c.forest (node_at c.order j)) × (get_or depths (node_at c.order j) 0 ≤ j)
  pub rest : (n : ℕ) → ((j : ℕ) → j < k → node_at c.order j ≢ n) → get_or depths n 0 ≡ 0

either_parent : (o : Option DeviceId) → (o ≡ None) ⊎ ((d : DeviceId) × (o ≡ Some d))
either_parent None = inl refl
either_parent (Some d) = inr (d, refl)

module _ (g : Parts) (c : Costed) (costed : IsCosted g c) where
  abbrev depth : ℕ → ℕ
  depth n = depth_in (switched g c.forest.closed) c.forest n

  -- a root has depth 0
  top_depth : (n : ℕ) → parent_in c.forest.parents n ≡ None → depth n ≡ 0
  top_depth n e = at (length c.forest.parents)
    where
      at : (k : ℕ) → devices_up (switched g c.forest.closed) c.forest.parents k n ≡ 0
      at zero = refl
      at (suc k) = ap (λ o. cond (is_some o) (suc (devices_up (switched g c.forest.closed) c.forest.parents k (other_end (switched g c.forest.closed) (number_of_device o) n))) 0) e

  -- and another node one more than the node above
  below_depth : (n : ℕ) (d : DeviceId) → n < length g.nodes → parent_in c.forest.parents n ≡ Some d → depth n ≡ suc (depth (other_end (network_of g) d.0 n))
  below_depth n d l e =
      (costed.posed.trees.parent n l hangs).deeper
      ∙ ap (λ o. suc (depth (other_end (network_of g) (number_of_device o) n))) e
    where
      none : (b : Bool) → not (b && false) ≡ true
      none true = refl
      none false = refl

      hangs : (true && not (nat_lt n (length c.forest.parents) && not (is_some (parent_in c.forest.parents n)))) ≡ true
      hangs = ap (λ o. not (nat_lt n (length c.forest.parents) && not (is_some o))) e ∙ none (nat_lt n (length c.forest.parents))

  pub deep_none : (depths : List ℕ) → length depths ≡ length g.nodes → ((n : ℕ) → get_or depths n 0 ≡ 0) → AreDeepBelow g c 0 depths
  deep_none depths each none = record {
    each = each;
    deep = λ j l. absurd (omega arith);
    rest = λ n apart. none n;
  }

  module _ (k : ℕ) (l : k < length c.order) (depths : List ℕ) (before : AreDeepBelow g c k depths) where
    abbrev here : ℕ
    here = node_at c.order k

    -- a root is next
    pub deep_top : parent_in c.forest.parents here ≡ None → AreDeepBelow g c (k + 1) depths
    deep_top e = record {
      each = before.each;
      deep = below_more _ _ before.deep (let none = before.rest here (λ j lj. costed.order.once j k lj l) in (none ∙ sym (top_depth here e), omega arith));
      rest = λ n apart. before.rest n (λ j lj. apart j (omega arith));
    }

    -- or another node
    pub deep_more : (d : DeviceId) → parent_in c.forest.parents here ≡ Some d
        → AreDeepBelow g c (k + 1) (set depths here (get_or depths (other_end (network_of g) d.0 here) 0 + 1))
    deep_more d e = record {
      each = length-set depths here _ ∙ before.each;
      deep = below_more _ _
          (λ j lj. let kept = get_or-set_other depths here (node_at c.order j) x 0 (costed.order.once j k lj l) in
          let deep = before.deep j lj in
          let a = deep.1 in (kept ∙ deep.0, omega arith))
          (let is = get_or-set_same depths here x 0 (let a = before.each in let b = costed.order.within k l in omega arith) in
          let b = costed.order.behind k d l e in
          let above = before.deep b.0 b.1 in
          let more = below_depth here d (costed.order.within k l) e in
          let same = ap (λ n. get_or depths n 0) b.2 in
          let same' = ap depth b.2 in
          let less = b.1 in let most = above.1 in let told = above.0 in
          (omega arith, omega arith));
      rest = λ n apart. get_or-set_other depths here n x 0 (λ s. apart k (omega arith) (sym s)) ∙ before.rest n (λ j lj. apart j (omega arith));
    }
      where
        x : ℕ
        x = get_or depths (other_end (network_of g) d.0 here) 0 + 1

    -- whichever it is
    pub deep_next : (depths' : List ℕ) → (parent_in c.forest.parents here ≡ None → depths' ≡ depths)
        → ((d : DeviceId) → parent_in c.forest.parents here ≡ Some d → depths' ≡ set depths here (get_or depths (other_end (network_of g) d.0 here) 0 + 1))
        → AreDeepBelow g c (k + 1) depths'
    deep_next depths' top below =
        ⊎_elim
        (λ e. subst (AreDeepBelow g c (k + 1)) (sym (top e)) (deep_top e))
        (λ s. subst (AreDeepBelow g c (k + 1)) (sym (below s.0 s.1)) (deep_more s.0 s.1))
        (either_parent (parent_in c.forest.parents here))

    -- the node above isn't as deep as the place
    pub deep_fits : (d : DeviceId) → parent_in c.forest.parents here ≡ Some d → get_or depths (other_end (network_of g) d.0 here) 0 < k
    deep_fits d e =
        let b = costed.order.behind k d l e in
        let above = before.deep b.0 b.1 in
        let same = ap (λ n. get_or depths n 0) b.2 in
        let less = b.1 in let most = above.1 in omega arith

  pub deep_all : (depths : List ℕ) → AreDeepBelow g c (length c.order) depths → AreDepths g c depths
  deep_all depths all = record {
    each = all.each;
    depth = λ n l. let a = costed.order.all n l in subst (λ x. get_or depths x 0 ≡ depth x) a.2 (all.deep a.0 a.1).0;
  }
