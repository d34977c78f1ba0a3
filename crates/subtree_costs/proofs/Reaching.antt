-- A node's chain up to its root is no longer than its reach.
use Rattle.std.proofs.Common.{◌≡◌, ℕ, zero, suc, ◌+◌, ◌<◌, ◌≤◌, true, refl, sym, ap, ◌∙◌, subst, inl, inr, ⊎_elim, arith, length, Some, is_some}
use Rattle.std.proofs.lemmas.Bool.{cases_Bool, not_from_false}
use Rattle.outage_rules.specs.Network.{Network, nothing, is_live}
use Rattle.outage_rules.specs.Certificate.{Table, has_parent, upper, other_end, HasParent}
use Rattle.outage_rules.proofs.Rooted.{parent_ends, up_within}
use Rattle.grid_model.specs.Parts.{Parts}
use Rattle.radial_forest.specs.Traversed.{parent_in, number_of_device}
use Rattle.radial_forest.specs.Spreading.{switched}
use Rattle.radial_forest.proofs.LowerSide.{one_hangs}
use Rattle.subtree_costs.specs.Trees.{is_top, depth_in}
use Rattle.subtree_costs.specs.Costed.{Costed, IsCosted, tree_problem, rows_table}
use Rattle.subtree_costs.specs.Laws.{AreFedRows, ChainsAreWithinReach}
use Rattle.subtree_costs.specs.Reach.{IsSimpleWalk, IsReach}
use Rattle.subtree_costs.specs.Walks.{node_up}
use Rattle.subtree_costs.proofs.Hung.{parent_is}
use Rattle.subtree_costs.proofs.Kept.{rooted_sound, kept_forest}

module _ (g : Parts) (c : Costed) (costed : IsCosted g c) (n : ℕ) (l : n < length g.nodes) where
  abbrev net : Network
  net = switched g c.forest.closed

  abbrev table : Table
  table = rows_table g c.forest c.rows

  -- what isn't at the root hangs from the node above
  pub hung : (m : ℕ) → m < length g.nodes → 0 < depth_in net c.forest m → HasParent (tree_problem g c).net table m
  hung m lm deep =
      ⊎_elim
      (λ t. absurd (let a = ((kept_forest g c costed).source m lm t).1 in omega arith))
      (λ t. (kept_forest g c costed).parent m lm (not_from_false (is_top c.forest m) t))
      (cases_Bool (is_top c.forest m))

  -- each device leads one up
  pub climbs : (i : ℕ) → i ≤ depth_in net c.forest n → (node_up net c.forest.parents i n < length g.nodes) × (depth_in net c.forest (node_up net c.forest.parents i n) + i ≡ depth_in net c.forest n)
  climbs zero le = (l, omega arith)
  climbs (suc i) le =
      let a = climbs i (omega arith) in
      let b = a.1 in
      let h = hung (node_up net c.forest.parents i n) a.0 (omega arith) in
      let deeper : depth_in net c.forest (node_up net c.forest.parents i n) ≡ suc (depth_in net c.forest (node_up net c.forest.parents (suc i) n)) = h.deeper in
      (up_within (tree_problem g c).net table nothing (rooted_sound g c.forest c.marks c.dark c.live costed.posed).net (kept_forest g c costed).rooted (node_up net c.forest.parents i n) h, omega arith)

  walk_up : IsSimpleWalk net (depth_in net c.forest n) (λ i. node_up net c.forest.parents i n)
  walk_up = record {
    joined = λ i li.
        let a = climbs i (omega arith) in
        let b = a.1 in
        let h = hung (node_up net c.forest.parents i n) a.0 (omega arith) in (
          table.parent (node_up net c.forest.parents i n),
          record {
            within = h.within;
            closed = h.closed;
            uncut = refl;
            ends = ⊎_elim (λ x. inl x) (λ x. inr (x.1, x.0))
                (parent_ends (tree_problem g c).net table nothing (rooted_sound g c.forest c.marks c.dark c.live costed.posed).net (kept_forest g c costed).rooted (node_up net c.forest.parents i n) h);
          },
        );
    apart = λ i j li lj same.
        let a = (climbs i (omega arith)).1 in
        let b = (climbs j lj).1 in
        let e = ap (depth_in net c.forest) same in
        absurd (omega arith);
  }

  pub depth_reached : AreFedRows g c → (r : ℕ) → IsReach net n r → depth_in net c.forest n ≤ r
  depth_reached fed r reach =
      ⊎_elim
      (λ f. let a = reach.fed f in let b = fed.depth n l f in omega arith)
      (λ f. reach.longest f (depth_in net c.forest n) (λ i. node_up net c.forest.parents i n) refl walk_up)
      (cases_Bool (is_live net nothing n))

-- nor is the chain of the node from which it hangs, with one more device
pub above_reached : (g : Parts) (c : Costed) → IsCosted g c → ChainsAreWithinReach → (n : ℕ) → n < length g.nodes
    → (m d : ℕ) → m < length g.nodes → parent_in c.forest.parents n ≡ Some (record { 0 = d }) → parent_in c.forest.parents m ≡ Some (record { 0 = d })
    → (r : ℕ) → IsReach (switched g c.forest.closed) n r → depth_in (switched g c.forest.closed) c.forest (other_end (switched g c.forest.closed) d m) + 1 ≤ r
above_reached g c costed chains n l m d lm hung_n hung_m r reach =
    let net = switched g c.forest.closed in
    let table = rows_table g c.forest c.rows in
    let same = one_hangs net c.forest costed.posed.forest.sound costed.posed.forest.rooted m n d lm l hung_m hung_n in
    let hp : has_parent (tree_problem g c).net table n ≡ true = parent_is c.forest n (subst (λ k. n < k) (sym costed.posed.forest.parents_each) l) ∙ ap is_some hung_n in
    let deeper : depth_in net c.forest n ≡ suc (depth_in net c.forest (upper net table n)) = ((kept_forest g c costed).parent n l hp).deeper in
    let above : depth_in net c.forest (upper net table n) ≡ depth_in net c.forest (other_end net d m) =
    ap (λ e. depth_in net c.forest (other_end net e n)) (ap number_of_device hung_n) ∙ ap (λ k. depth_in net c.forest (other_end net d k)) (sym same) in
    let most = chains g c costed n r l reach in
    omega arith
