-- What an order of all nodes shows: from each node a chain of parents leads to a root, so the trees are a forest.
use Rattle.std.proofs.Common.{◌≡◌, ℕ, zero, suc, ◌<◌, ◌≤◌, true, false, cond, refl, sym, ap, ◌∙◌, subst, inl, ⊎_elim, arith, length, List, Option, Some, None, is_some}
use Rattle.std.specs.Prelude.{not}
use Rattle.std.proofs.lemmas.Bool.{cases_Bool, not-true, false≢true}
use Rattle.outage_rules.specs.Network.{Network}
use Rattle.outage_rules.specs.Certificate.{other_end, HasParent, IsForest}
use Rattle.grid_model.specs.declared.parts.NodeId.{NodeId}
use Rattle.grid_model.specs.declared.parts.DeviceId.{DeviceId}
use Rattle.grid_model.specs.Parts.{Parts}
use Rattle.radial_forest.specs.Traversed.{parent_in, node_at, number_of_device}
use Rattle.radial_forest.specs.Forested.{Forested, IsForestOf}
use Rattle.radial_forest.specs.Spreading.{switched}
use Rattle.radial_forest.proofs.Fitting.{at_most}
use Rattle.subtree_costs.specs.Trees.{hangs, is_top, from_roots, hanger, devices_up, depth_in, tree_table}
use Rattle.subtree_costs.specs.Listing.{IsDownward, IsOrder}
use Rattle.subtree_costs.proofs.Hung.{top_is, parent_is}

pub some_from : (o : Option DeviceId) → is_some o ≡ true → o ≡ Some (record { 0 = number_of_device o })
some_from None e = absurd (false≢true e)
some_from (Some d) e = refl

pub none_from : (o : Option DeviceId) → is_some o ≡ false → o ≡ None
none_from None e = refl
none_from (Some d) e = absurd (false≢true (sym e))

module _ (net : Network) (parents : List (Option DeviceId)) where
  -- no device leads up from a root
  pub up_none : (k n : ℕ) → hangs parents n ≡ false → devices_up net parents k n ≡ 0
  up_none zero n e = refl
  up_none (suc k) n e = ap (λ b. cond b (suc (devices_up net parents k (other_end net (hanger parents n) n))) 0) e

  pub up_one : (k n u : ℕ) → hangs parents n ≡ true → other_end net (hanger parents n) n ≡ u → devices_up net parents (suc k) n ≡ suc (devices_up net parents k u)
  up_one k n u e is = ap (λ b. cond b (suc (devices_up net parents k (other_end net (hanger parents n) n))) 0) e ∙ ap (λ v. suc (devices_up net parents k v)) is

  module _ (list : List NodeId) (count : ℕ) (down : IsDownward net parents list count) where
    behind : (k : ℕ) → k < count → hangs parents (node_at list k) ≡ true → (j : ℕ) × (j < k) × (node_at list j ≡ other_end net (hanger parents (node_at list k)) (node_at list k))
    behind k l e = down.behind k (record { 0 = hanger parents (node_at list k) }) l (some_from (parent_in parents (node_at list k)) e)

    -- where the chain from an earlier place is no longer than the place is far behind, so is the chain from here
    up_step : (k j : ℕ) → k ≤ j → hangs parents (node_at list k) ≡ true → (i : ℕ) → i < k → node_at list i ≡ other_end net (hanger parents (node_at list k)) (node_at list k)
        → ((m : ℕ) → i ≤ m → devices_up net parents m (node_at list i) ≡ devices_up net parents i (node_at list i))
        → devices_up net parents j (node_at list k) ≡ devices_up net parents k (node_at list k)
    up_step zero j far e i li is rest = absurd (omega arith)
    up_step (suc k) zero far e i li is rest = absurd (omega arith)
    up_step (suc k) (suc j) far e i li is rest =
        up_one j (node_at list (suc k)) (node_at list i) e (sym is)
        ∙ ap suc (rest j (omega arith) ∙ sym (rest k (omega arith)))
        ∙ sym (up_one k (node_at list (suc k)) (node_at list i) e (sym is))

    -- the chain from a place of the order is no longer than the place is far behind
    up_at : (b k : ℕ) → k ≤ b → k < count → (j : ℕ) → k ≤ j → devices_up net parents j (node_at list k) ≡ devices_up net parents k (node_at list k)
    up_at zero k le l j far =
        ⊎_elim
        (λ e. let a = behind k l e in let la = a.1 in absurd (omega arith))
        (λ e. up_none j (node_at list k) e ∙ sym (up_none k (node_at list k) e))
        (cases_Bool (hangs parents (node_at list k)))
    up_at (suc b) k le l j far =
        ⊎_elim
        (λ e. let a = behind k l e in let la = a.1 in
        up_step k j far e a.0 a.1 a.2 (λ m le'. up_at b a.0 (omega arith) (omega arith) m le'))
        (λ e. up_none j (node_at list k) e ∙ sym (up_none k (node_at list k) e))
        (cases_Bool (hangs parents (node_at list k)))

    -- so a node is one device deeper than the node above it
    up_deeper : (most k : ℕ) → count ≤ most → k < count → hangs parents (node_at list k) ≡ true
        → devices_up net parents most (node_at list k) ≡ suc (devices_up net parents most (other_end net (hanger parents (node_at list k)) (node_at list k)))
    up_deeper zero k all l e = absurd (omega arith)
    up_deeper (suc most) k all l e =
        let a = behind k l e in
        let la = a.1 in
        up_one most (node_at list k) (node_at list a.0) e (sym a.2)
        ∙ ap suc (up_at a.0 a.0 (omega arith) (omega arith) most (omega arith) ∙ sym (up_at a.0 a.0 (omega arith) (omega arith) (suc most) (omega arith)))
        ∙ ap (λ v. suc (devices_up net parents (suc most) v)) a.2

module _ (g : Parts) (f : Forested) (forest : IsForestOf g f.closed f) (list : List NodeId) (count : ℕ) (order : IsOrder (switched g f.closed) f.parents list count) where
  few : count ≤ length f.parents
  few = subst (λ k. count ≤ k) (sym forest.parents_each) (at_most (node_at list) count (length g.nodes) order.within order.once)

  within_parents : (n : ℕ) → n < length g.nodes → n < length f.parents
  within_parents n l = subst (λ k. n < k) (sym forest.parents_each) l

  depth_deeper : (n : ℕ) → n < length g.nodes → hangs f.parents n ≡ true → depth_in (switched g f.closed) f n ≡ suc (depth_in (switched g f.closed) f (other_end (switched g f.closed) (hanger f.parents n) n))
  depth_deeper n l e =
      let a = order.all n l in
      subst (λ v. depth_in (switched g f.closed) f v ≡ suc (depth_in (switched g f.closed) f (other_end (switched g f.closed) (hanger f.parents v) v))) a.2
      (up_deeper (switched g f.closed) f.parents list count order.downward (length f.parents) a.0 few a.1 (ap (hangs f.parents) a.2 ∙ e))

  -- the trees are a forest that lists all nodes
  pub trees_are_forest : IsForest (from_roots (switched g f.closed) f) (tree_table (switched g f.closed) f (λ n. 0) (λ n. 0))
  trees_are_forest = record {
    rooted = record {
      source = λ n l t. (refl, up_none (switched g f.closed) f.parents (length f.parents) n (not-true (hangs f.parents n) (sym (top_is f n (within_parents n l)) ∙ t)));
      parent = λ n l t. above n l (sym (parent_is f n (within_parents n l)) ∙ t);
    };
    stray = λ d l c. ⊎_elim
        (λ e. inl (hung d (device_end_from d l) e))
        (λ e. inl (hung d (device_end_to d l) e))
        (forest.rooted.closed d l c);
  }
    where
      above : (n : ℕ) → n < length g.nodes → hangs f.parents n ≡ true → HasParent (from_roots (switched g f.closed) f) (tree_table (switched g f.closed) f (λ n. 0) (λ n. 0)) n
      above n l e =
          let p = forest.rooted.parent n (record { 0 = hanger f.parents n }) l (some_from (parent_in f.parents n) e) in
          record { within = p.within; closed = p.closed; ends = p.ends; listed = refl; deeper = depth_deeper n l e }

      device_end_from : (d : ℕ) → d < length g.devices → (switched g f.closed).from d < length g.nodes
      device_end_from d l = forest.sound.from d l

      device_end_to : (d : ℕ) → d < length g.devices → (switched g f.closed).to d < length g.nodes
      device_end_to d l = forest.sound.to d l

      hung : (d : ℕ) {n : ℕ} → n < length g.nodes → parent_in f.parents n ≡ Some (record { 0 = d })
          → (m : ℕ) × (m < length g.nodes) × (not (is_top f m) ≡ true) × (hanger f.parents m ≡ d)
      hung d {n} l e = (n, l, parent_is f n (within_parents n l) ∙ ap is_some e, ap number_of_device e)
