-- The node above a node, as the code reads it.
use Rattle.std.proofs.Common.{◌≡◌, ℕ, suc, ◌<◌, ◌≤◌, Bool, true, false, refl, sym, ap, ◌∙◌, subst, arith, length, Option, Some, None, is_some, nat_lt}
use Rattle.std.specs.Prelude.{option_map, ◌&&◌, ◌==◌, not}
use Rattle.std.proofs.lemmas.Bool.{and_parts, eqb-true, ltb-true, lt-ltb, false_from_ne_true}
use Rattle.outage_rules.specs.Network.{IsSoundNetwork, nothing}
use Rattle.outage_rules.specs.Certificate.{Table, has_parent, upper, is_child, HasParent}
use Rattle.outage_rules.proofs.Rooted.{up_within}
use Rattle.grid_model.specs.declared.parts.DeviceId.{DeviceId}
use Rattle.grid_model.specs.Parts.{Parts}
use Rattle.radial_forest.specs.Traversed.{parent_in, number_of_device}
use Rattle.radial_forest.specs.Forested.{Forested}
use Rattle.radial_forest.specs.Spreading.{switched}
use Rattle.subtree_costs.specs.declared.above.Above.{Above}
use Rattle.subtree_costs.specs.declared.posed.Posed.{Posed}
use Rattle.subtree_costs.specs.Shares.{above_by}
use Rattle.subtree_costs.specs.Trees.{hangs, is_top, from_roots, hanger, tree_table}
use Rattle.subtree_costs.specs.Repairs.{IsReady, problem_at, depth_at}

above_is : (g : Parts) (n : ℕ) (o : Option DeviceId) (a : Above) → Some a ≡ option_map (above_by g n) o → (a ≡ above_by g n (record { 0 = number_of_device o })) × (is_some o ≡ true)
above_is g n None a e = cc
above_is g n (Some d) a e = (cc, refl)

none_above : (g : Parts) (n : ℕ) (o : Option DeviceId) → ◌≡◌ {A = Option Above} None (option_map (above_by g n) o) → is_some o ≡ false
none_above g n None e = refl
none_above g n (Some d) e = cc

-- with the roots as sources the network is sound
pub sound_from_roots : (g : Parts) (f : Forested) → IsSoundNetwork (switched g f.closed) → length f.parents ≡ length g.nodes → IsSoundNetwork (from_roots (switched g f.closed) f)
sound_from_roots g f sound each = record {
  from = sound.from;
  to = sound.to;
  apart = sound.apart;
  sources = λ n t. subst (λ k. n < k) each (ltb-true n (length f.parents) (and_parts (nat_lt n (length f.parents)) (not (hangs f.parents n)) t).0);
}

module _ (f : Forested) (n : ℕ) (l : n < length f.parents) where
  -- a root is a node that doesn't hang
  pub top_is : is_top f n ≡ not (hangs f.parents n)
  top_is = ap (λ b. b && not (hangs f.parents n)) (lt-ltb n (length f.parents) l)

  -- and what hangs has a parent
  pub parent_is : not (is_top f n) ≡ hangs f.parents n
  parent_is = ap not top_is ∙ twice (hangs f.parents n)
    where
      twice : (b : Bool) → not (not b) ≡ b
      twice true = refl
      twice false = refl

module _ (q : Posed) (ready : IsReady q) (n : ℕ) (l : n < length q.grid.now.nodes) where
  l_parents : n < length q.forest.now.parents
  l_parents = subst (λ k. n < k) (sym ready.forest.parents_each) l

  abbrev pub zero_table : Table
  zero_table = tree_table (switched q.grid.now q.forest.now.closed) q.forest.now (λ m. 0) (λ m. 0)

  -- no node is its own child
  pub not_own : is_child (problem_at q).net zero_table n n ≡ false
  not_own = false_from_ne_true (is_child (problem_at q).net zero_table n n) (λ t.
      let a = and_parts (has_parent (problem_at q).net zero_table n) (upper (problem_at q).net zero_table n == n) t in
      let d = (ready.trees.parent n l a.0).deeper in
      let e = ap (depth_at q) (eqb-true (upper (problem_at q).net zero_table n) n a.1) in
      absurd (omega arith))

  -- a node with no device above it is a root
  module _ (e : ◌≡◌ {A = Option Above} None (option_map (above_by q.grid.now n) (parent_in q.forest.now.parents n))) where
    unhung : hangs q.forest.now.parents n ≡ false
    unhung = none_above q.grid.now n (parent_in q.forest.now.parents n) e

    pub root_is : is_top q.forest.now n ≡ true
    root_is = top_is q.forest.now n l_parents ∙ ap not unhung

    pub no_parent : has_parent (problem_at q).net zero_table n ≡ false
    no_parent = ap not root_is

  module _ (a : Above) (e : Some a ≡ option_map (above_by q.grid.now n) (parent_in q.forest.now.parents n)) where
    pub above_read : a ≡ above_by q.grid.now n (record { 0 = hanger q.forest.now.parents n })
    above_read = (above_is q.grid.now n (parent_in q.forest.now.parents n) a e).0

    hung : hangs q.forest.now.parents n ≡ true
    hung = (above_is q.grid.now n (parent_in q.forest.now.parents n) a e).1

    pub not_root : is_top q.forest.now n ≡ false
    not_root = top_is q.forest.now n l_parents ∙ ap not hung

    pub has_above : has_parent (problem_at q).net zero_table n ≡ true
    has_above = ap not not_root

    parent : HasParent (problem_at q).net zero_table n
    parent = ready.trees.parent n l has_above

    pub upper_read : upper (problem_at q).net zero_table n ≡ a.node.0
    upper_read = sym (ap (λ b. b.node.0) above_read)

    pub node_within : a.node.0 < length q.grid.now.nodes
    node_within = subst (λ v. v < length q.grid.now.nodes) upper_read
        (up_within (problem_at q).net zero_table nothing (sound_from_roots q.grid.now q.forest.now ready.forest.sound ready.forest.parents_each) ready.trees.rooted n parent)

    pub node_deeper : depth_at q n ≡ suc (depth_at q a.node.0)
    node_deeper = parent.deeper ∙ ap (λ v. suc (depth_at q v)) upper_read

    pub device_within : a.device.0 < length q.grid.now.devices
    device_within = subst (λ d. d < length q.grid.now.devices) (sym (ap (λ b. b.device.0) above_read)) parent.within

    pub weight_small : a.weight ≤ 1000000
    weight_small = subst (λ w. w ≤ 1000000) (sym (ap (λ b. b.weight) above_read)) (ready.sound.devices (hanger q.forest.now.parents n) parent.within).most_weight
