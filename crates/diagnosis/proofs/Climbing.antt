-- The walk from a node up to its root, by the devices from which nodes hang.
use Rattle.std.proofs.Common.{◌≡◌, ◌≢◌, ℕ, zero, suc, ◌+◌, ◌<◌, ◌≤◌, sym, ap, ◌∙◌, subst, ⊎_elim, arith, List, length, set, take, Some, None, is_some}
use Rattle.std.specs.Prelude.{◌&&◌, not}
use Rattle.std.proofs.lemmas.Bool.{cases_eq, lt-ltb}
use Rattle.std.proofs.lemmas.List.{length-take-le, get_or-take, get_or-set_same, get_or-set_other}
use Rattle.outage_rules.specs.Network.{Network}
use Rattle.outage_rules.specs.Certificate.{other_end}
use Rattle.grid_model.specs.declared.parts.NodeId.{NodeId}
use Rattle.grid_model.specs.declared.parts.DeviceId.{DeviceId}
use Rattle.grid_model.specs.Parts.{Parts}
use Rattle.radial_forest.specs.Traversed.{parent_in, number_of_device, node_at}
use Rattle.radial_forest.specs.Spreading.{switched}
use Rattle.radial_forest.proofs.Around.{other_within}
use Rattle.radial_forest.proofs.Fitting.{at_most}
use Rattle.subtree_costs.specs.Trees.{is_top, depth_in}
use Rattle.subtree_costs.specs.Costed.{Costed, IsCosted}
use Rattle.subtree_costs.specs.Walks.{node_up}
use Rattle.diagnosis.specs.Judging.{IsWalkUp}
use Rattle.diagnosis.proofs.Flagged.{either_parent}

module _ (g : Parts) (c : Costed) (costed : IsCosted g c) where
  abbrev net : Network
  net = switched g c.forest.closed

  abbrev depth : ℕ → ℕ
  depth = depth_in net c.forest

  within_parents : (m : ℕ) → m < length g.nodes → m < length c.forest.parents
  within_parents m l = subst (λ k. m < k) (sym costed.posed.forest.parents_each) l

  is_root : (m : ℕ) → m < length g.nodes → is_top c.forest m ≡ not (is_some (parent_in c.forest.parents m))
  is_root m l = ap (λ b. b && not (is_some (parent_in c.forest.parents m))) (lt-ltb m (length c.forest.parents) (within_parents m l))

  -- no device leads up from a root
  pub top_depth : (m : ℕ) → m < length g.nodes → parent_in c.forest.parents m ≡ None → depth m ≡ 0
  top_depth m l e = (costed.posed.trees.rooted.source m l (is_root m l ∙ ap (λ o. not (is_some o)) e)).1

  -- a node that hangs is one device further from its root than the node above
  module _ (m : ℕ) (l : m < length g.nodes) (d : DeviceId) (e : parent_in c.forest.parents m ≡ Some d) where
    pub hung_within : d.0 < length g.devices
    hung_within = (costed.posed.forest.rooted.parent m d l e).within

    pub above_within : other_end net d.0 m < length g.nodes
    above_within = other_within net d.0 m costed.posed.forest.sound hung_within

    pub above_depth : depth m ≡ suc (depth (other_end net d.0 m))
    above_depth =
        let h = costed.posed.trees.rooted.parent m l (ap not (is_root m l) ∙ ap (λ o. not (not (is_some o))) e) in
        h.deeper ∙ ap (λ x. suc (depth (other_end net x m))) (ap number_of_device e)

  module _ (n : ℕ) (ln : n < length g.nodes) where
    abbrev up : ℕ → ℕ
    up k = node_up net c.forest.parents k n

    -- the node above by the device, as the definition has it
    pub up_one : (k : ℕ) (d : DeviceId) → parent_in c.forest.parents (up k) ≡ Some d → other_end net d.0 (up k) ≡ up (suc k)
    up_one k d e = ap (λ x. other_end net x (up k)) (sym (ap number_of_device e))

    -- each device leads one up
    pub climbs : (k : ℕ) → k ≤ depth n → (up k < length g.nodes) × (depth (up k) + k ≡ depth n)
    climbs zero le = (ln, omega arith)
    climbs (suc k) le =
        let b = climbs k (omega arith) in
        let s = b.1 in
        ⊎_elim
        (λ e. let t = top_depth (up k) b.0 e in absurd (omega arith))
        (λ x.
        let i = up_one k x.0 x.1 in
        let deep = above_depth (up k) b.0 x.0 x.1 in
        let same = ap depth i in
        (subst (λ v. v < length g.nodes) i (above_within (up k) b.0 x.0 x.1), omega arith))
        (either_parent (parent_in c.forest.parents (up k)))

    pub climbs_on : (k : ℕ) → k ≤ depth n → (d : DeviceId) → parent_in c.forest.parents (up k) ≡ Some d → k + 1 ≤ depth n
    climbs_on k le d e = let b = climbs k le in let s = b.1 in let deep = above_depth (up k) b.0 d e in omega arith

    pub climbs_end : (k : ℕ) → k ≤ depth n → parent_in c.forest.parents (up k) ≡ None → k ≡ depth n
    climbs_end k le e = let b = climbs k le in let s = b.1 in let t = top_depth (up k) b.0 e in omega arith

    -- no walk is as long as there are nodes
    pub depth_small : depth n < length g.nodes
    depth_small =
        let few = at_most up (suc (depth n)) (length g.nodes) (λ k l. (climbs k (omega arith)).0)
        (λ j k l lk e. let a = (climbs j (omega arith)).1 in let b = (climbs k (omega arith)).1 in let s = ap depth e in absurd (omega arith)) in
        omega arith

    -- one more node of the walk is listed
    module _ (walk : List NodeId) (k : ℕ) (m : NodeId) (d : DeviceId) (long : length walk ≡ length g.nodes) (le : k ≤ depth n)
        (before : (j : ℕ) → j ≤ k → node_at walk j ≡ up j) (hangs : parent_in c.forest.parents (node_at walk k) ≡ Some d) (is : m.0 ≡ other_end net d.0 (node_at walk k)) where
      hangs_up : parent_in c.forest.parents (up k) ≡ Some d
      hangs_up = ap (parent_in c.forest.parents) (sym (before k (omega arith))) ∙ hangs

      pub more_deep : k + 1 ≤ depth n
      more_deep = climbs_on k le d hangs_up

      pub more_room : k + 1 < length walk
      more_room = let a = more_deep in let b = depth_small in omega arith

      more_is : m.0 ≡ up (suc k)
      more_is = is ∙ ap (other_end net d.0) (before k (omega arith)) ∙ up_one k d hangs_up

      pub more_within : m.0 < length g.nodes
      more_within = subst (λ v. v < length g.nodes) (sym more_is) (climbs (suc k) (let a = more_deep in omega arith)).0

      pub more_here : node_at (set walk (k + 1) m) (k + 1) ≡ m.0
      more_here = ap (λ x. x.0) (get_or-set_same walk (k + 1) m (record { 0 = 0 }) more_room)

      pub more_nodes : (j : ℕ) → j ≤ k + 1 → node_at (set walk (k + 1) m) j ≡ up j
      more_nodes j l =
          ⊎_elim
          (λ e. let s : j ≡ suc k = omega arith in ap (node_at (set walk (k + 1) m)) e ∙ more_here ∙ more_is ∙ ap up (sym s))
          (λ ne. ap (λ x. x.0) (get_or-set_other walk (k + 1) j m (record { 0 = 0 }) ne) ∙ before j (let x : j ≢ k + 1 = ne in omega arith))
          (cases_eq j (k + 1))

    -- the list of them is a walk up
    module _ (walk : List NodeId) (long : length walk ≡ depth n + 1) (nodes : (k : ℕ) → k < length walk → node_at walk k ≡ up k) where
      pub walk_up : IsWalkUp g c walk
      walk_up = record {
        within = λ k l. subst (λ v. v < length g.nodes) (sym (nodes k l)) (climbs k (omega arith)).0;
        up = λ k x l e.
            let lk : k < length walk = omega arith in
            let lk' : suc k < length walk = omega arith in
            let i = nodes k lk in
            let same : suc k ≡ k + 1 = omega arith in
            ap (other_end net x.0) i ∙ up_one k x (ap (parent_in c.forest.parents) (sym i) ∙ e) ∙ sym (nodes (suc k) lk') ∙ ap (node_at walk) same;
        top = λ k e.
            let lk : k < length walk = omega arith in
            let i = nodes k lk in
            let b = climbs k (omega arith) in
            let s = b.1 in
            ⊎_elim
            (λ t. ap (parent_in c.forest.parents) i ∙ t)
            (λ x. let deep = above_depth (up k) b.0 x.0 x.1 in absurd (omega arith))
            (either_parent (parent_in c.forest.parents (up k)));
      }

-- the front of a list
pub front_long : (list : List NodeId) (count : ℕ) → count ≤ length list → length (take count list) ≡ count
front_long list count le = length-take-le count list le

pub front_at : (list : List NodeId) (count k : ℕ) → k < count → node_at (take count list) k ≡ node_at list k
front_at list count k l = ap (λ x. x.0) (get_or-take count list k (record { 0 = 0 }) l)
