-- What is due where the weights at a node or the mark of a device change.
use Rattle.std.proofs.Common.{◌≡◌, ◌≢◌, ℕ, ◌+◌, ◌<◌, ◌≤◌, true, false, cond, refl, sym, ap, ◌∙◌, subst, ⊎_elim, arith, List, length, get_or, set, Some, is_some}
use Rattle.std.specs.Prelude.{◌==◌, ◌&&◌, sum}
use Rattle.std.proofs.lemmas.Bool.{false≢true, cases_eq, eq-eqb, ne_eqb, and_parts}
use Rattle.std.proofs.lemmas.List.{get_or-set_same, get_or-set_other, length-set}
use Rattle.std.proofs.lemmas.List.Sums.{get_or-le-sum_by}
use Rattle.outage_rules.specs.Network.{Problem}
use Rattle.outage_rules.specs.Certificate.{has_parent, upper, is_child, choice, dark_share, other_end}
use Rattle.outage_rules.specs.TightLaws.{RowsAreBounded}
use Rattle.grid_model.specs.declared.history.Mark.{Mark}
use Rattle.grid_model.specs.declared.history.Mark.TheVariants.{Nothing}
use Rattle.grid_model.specs.Parts.{Parts}
use Rattle.grid_model.specs.Places.{device_at}
use Rattle.grid_model.specs.Problem.{mark_at, problem_of}
use Rattle.radial_forest.specs.Traversed.{parent_in, number_of_device}
use Rattle.radial_forest.specs.Spreading.{switched}
use Rattle.radial_forest.proofs.LowerSide.{one_hangs}
use Rattle.subtree_costs.specs.declared.rows.Row.{Row}
use Rattle.subtree_costs.specs.declared.posed.Change.{Change}
use Rattle.subtree_costs.specs.Shares.{row_at, share_of}
use Rattle.subtree_costs.specs.Trees.{hanger, rooted_problem}
use Rattle.subtree_costs.specs.Costed.{Costed, IsPosed, IsCosted, tree_problem, rows_table}
use Rattle.subtree_costs.specs.Repairs.{AreDue, IsDue, children_live, children_dark}
use Rattle.subtree_costs.proofs.Moved.{some_moved}
use Rattle.subtree_costs.proofs.Hung.{parent_is}
use Rattle.subtree_costs.proofs.Chains.{some_from}
use Rattle.subtree_costs.proofs.Kept.{rows_small}
use Rattle.subtree_costs.proofs.Repairing.{share_small}

module _ (g : Parts) (c : Costed) (costed : IsCosted g c) (bounded : RowsAreBounded) where
  -- the weights at a node
  pub weights_due : (n d l : ℕ) → n < length g.nodes
      → AreDue (rooted_problem (problem_of g c.forest.closed c.marks (set c.dark n d) (set c.live n l)) c.forest) (rows_table g c.forest c.rows) (λ m. n == m)
      (record { live = get_or c.dark n 0; dark = get_or c.live n 0 }) (record { live = d; dark = l })
  weights_due n d l ln = record {
    live = λ m lm. at c.dark costed.posed.dark_each d m (row_at c.rows m).live (children_live (tree_problem g c) (rows_table g c.forest c.rows) m) (costed.exact.live m lm refl);
    dark = λ m lm. at c.live costed.posed.live_each l m (row_at c.rows m).dark (children_dark (tree_problem g c) (rows_table g c.forest c.rows) m) (costed.exact.dark m lm refl);
  }
    where
      at : (xs : List ℕ) → length xs ≡ length g.nodes → (x m row below : ℕ) → row ≡ get_or xs m 0 + below
          → row + cond (n == m) x 0 ≡ (get_or (set xs n x) m 0 + below) + cond (n == m) (get_or xs n 0) 0
      at xs each x m row below e =
          ⊎_elim
          (λ s. let here = get_or-set_same xs n x 0 (omega arith) in
          let same : get_or (set xs n x) m 0 ≡ x = ap (λ k. get_or (set xs n x) k 0) (sym s) ∙ here in
          let was : get_or xs m 0 ≡ get_or xs n 0 = ap (λ k. get_or xs k 0) (sym s) in
          let a = ap (λ b. cond b x 0) (eq-eqb n m s) in
          let b = ap (λ b. cond b (get_or xs n 0) 0) (eq-eqb n m s) in omega arith)
          (λ ne. let same = get_or-set_other xs n m x 0 (λ s. ne (sym s)) in
          let a = ap (λ b. cond b x 0) (ne_eqb n m ne) in
          let b = ap (λ b. cond b (get_or xs n 0) 0) (ne_eqb n m ne) in omega arith)
          (cases_eq n m)

  -- the mark of the device by which a node hangs
  module _ (d n : ℕ) (mark : Mark) (ld : d < length g.devices) (ln : n < length g.nodes) (hung : parent_in c.forest.parents n ≡ Some (record { 0 = d })) where
    abbrev marked : Problem
    marked = rooted_problem (problem_of g c.forest.closed (set c.marks d mark) c.dark c.live) c.forest

    abbrev share : Mark → Row
    share m = share_of m (device_at g d).weight (row_at c.rows n)

    hanger_is : hanger c.forest.parents n ≡ d
    hanger_is = ap number_of_device hung

    within : (k : ℕ) → k < length g.nodes → k < length c.forest.parents
    within k l = subst (λ x. k < x) (sym costed.posed.forest.parents_each) l

    hangs_here : has_parent (tree_problem g c).net (rows_table g c.forest c.rows) n ≡ true
    hangs_here = parent_is c.forest n (within n ln) ∙ ap is_some hung

    child_is : (m : ℕ) → is_child (tree_problem g c).net (rows_table g c.forest c.rows) m n ≡ (other_end (switched g c.forest.closed) d n == m)
    child_is m = ap (λ b. b && (upper (tree_problem g c).net (rows_table g c.forest c.rows) n == m)) hangs_here ∙ ap (λ e. other_end (switched g c.forest.closed) e n == m) hanger_is

    -- another node hangs by another device
    other_hanger : (k m : ℕ) → k < length g.nodes → k ≢ n → is_child (tree_problem g c).net (rows_table g c.forest c.rows) m k ≡ true → hanger c.forest.parents k ≢ d
    other_hanger k m lk ne child same =
        let hp = (and_parts (has_parent (tree_problem g c).net (rows_table g c.forest c.rows) k) (upper (tree_problem g c).net (rows_table g c.forest c.rows) k == m) child).0 in
        let by = some_from (parent_in c.forest.parents k) (sym (parent_is c.forest k (within k lk)) ∙ hp) in
        ne (one_hangs (switched g c.forest.closed) c.forest costed.posed.forest.sound costed.posed.forest.rooted k n d lk ln (by ∙ ap (λ e. Some (record { 0 = e })) same) hung)

    mark_kept : (k m : ℕ) → k < length g.nodes → k ≢ n → is_child (tree_problem g c).net (rows_table g c.forest c.rows) m k ≡ true
        → mark_at c.marks (hanger c.forest.parents k) ≡ mark_at (set c.marks d mark) (hanger c.forest.parents k)
    mark_kept k m lk ne child = sym (get_or-set_other c.marks d (hanger c.forest.parents k) mark Nothing (other_hanger k m lk ne child))

    share_was : share_of (mark_at c.marks (hanger c.forest.parents n)) (device_at g (hanger c.forest.parents n)).weight (row_at c.rows n) ≡ share (mark_at c.marks d)
    share_was = ap (λ e. share_of (mark_at c.marks e) (device_at g e).weight (row_at c.rows n)) hanger_is

    share_is : share_of (mark_at (set c.marks d mark) (hanger c.forest.parents n)) (device_at g (hanger c.forest.parents n)).weight (row_at c.rows n) ≡ share mark
    share_is =
        ap (λ e. share_of (mark_at (set c.marks d mark) e) (device_at g e).weight (row_at c.rows n)) hanger_is
        ∙ ap share (get_or-set_same c.marks d mark Nothing (subst (λ k. d < k) (sym costed.posed.marks_each) ld))

    -- is due at the node above
    pub mark_due : AreDue (rooted_problem (problem_of g c.forest.closed (set c.marks d mark) c.dark c.live) c.forest) (rows_table g c.forest c.rows) (λ m. other_end (switched g c.forest.closed) d n == m)
        (share_of (mark_at c.marks d) (device_at g d).weight (row_at c.rows n)) (share_of mark (device_at g d).weight (row_at c.rows n))
    mark_due = record {
      live = λ m lm.
          let t = rows_table g c.forest c.rows in
          let p = tree_problem g c in
          let sums = some_moved (length g.nodes) (is_child p.net t m) (choice p t) (choice marked t) n ln (λ k lk ne child. ap (λ x. (share_of x (device_at g (hanger c.forest.parents k)).weight (row_at c.rows k)).live) (mark_kept k m lk ne child)) in
          let row = costed.exact.live m lm refl in
          let old = ap (λ b. cond b (choice p t n) 0) (child_is m) ∙ ap (λ r. cond (other_end (switched g c.forest.closed) d n == m) r.live 0) share_was in
          let new = ap (λ b. cond b (choice marked t n) 0) (child_is m) ∙ ap (λ r. cond (other_end (switched g c.forest.closed) d n == m) r.live 0) share_is in
          omega arith;
      dark = λ m lm.
          let t = rows_table g c.forest c.rows in
          let p = tree_problem g c in
          let sums = some_moved (length g.nodes) (is_child p.net t m) (dark_share p t) (dark_share marked t) n ln (λ k lk ne child. ap (λ x. (share_of x (device_at g (hanger c.forest.parents k)).weight (row_at c.rows k)).dark) (mark_kept k m lk ne child)) in
          let row = costed.exact.dark m lm refl in
          let old = ap (λ b. cond b (dark_share p t n) 0) (child_is m) ∙ ap (λ r. cond (other_end (switched g c.forest.closed) d n == m) r.dark 0) share_was in
          let new = ap (λ b. cond b (dark_share marked t n) 0) (child_is m) ∙ ap (λ r. cond (other_end (switched g c.forest.closed) d n == m) r.dark 0) share_is in
          omega arith;
    }

  -- the weights at a node
  module _ (n d l : ℕ) (ln : n < length g.nodes) (dark_sum : sum (set c.dark n d) ≤ 1000000000000) (live_sum : sum (set c.live n l) ≤ 1000000000000) where
    weights_posed : IsPosed g c.forest c.marks (set c.dark n d) (set c.live n l)
    weights_posed = record {
      weighed = record {
        sound = costed.posed.sound;
        forest = costed.posed.forest;
        marks_each = costed.posed.marks_each;
        marked = costed.posed.marked;
        dark_each = length-set c.dark n d ∙ costed.posed.dark_each;
        live_each = length-set c.live n l ∙ costed.posed.live_each;
        dark_bound = dark_sum;
        live_bound = live_sum;
      };
      trees = costed.posed.trees;
    }

    was_small : (xs : List ℕ) → length xs ≡ length g.nodes → sum xs ≤ 1000000000000 → get_or xs n 0 ≤ 1000000000000
    was_small xs each bound = let a = get_or-le-sum_by (λ x. x) xs n 0 (omega arith) in omega arith

    is_small : (xs : List ℕ) (x : ℕ) → length xs ≡ length g.nodes → sum (set xs n x) ≤ 1000000000000 → x ≤ 1000000000000
    is_small xs x each bound =
        let a = was_small (set xs n x) (length-set xs n x ∙ each) bound in
        let b = get_or-set_same xs n x 0 (omega arith) in omega arith

    pub weights_are_due : (k : Costed) (change : Change) → k ≡ record c { dark = set c.dark n d; live = set c.live n l }
        → change ≡ record { before = record { live = get_or c.dark n 0; dark = get_or c.live n 0 }; after = record { live = d; dark = l } } → IsDue g k n change
    weights_are_due k change is_k is_change =
        subst (λ x. IsDue g x n change) (sym is_k)
        (subst (IsDue g (record c { dark = set c.dark n d; live = set c.live n l }) n) (sym is_change)
        (record {
          posed = weights_posed;
          rows_each = costed.rows_each;
          small = rows_small g c costed bounded;
          fitting =
              let a = was_small c.dark costed.posed.dark_each costed.posed.dark_bound in
              let b = was_small c.live costed.posed.live_each costed.posed.live_bound in
              let e = is_small c.dark d costed.posed.dark_each dark_sum in
              let f = is_small c.live l costed.posed.live_each live_sum in
              record { live_before = omega arith; dark_before = omega arith; live_after = omega arith; dark_after = omega arith };
          due = weights_due n d l ln;
          total = costed.total;
          order_each = costed.order_each;
          order = costed.order;
        }))

  -- the mark of a closed device
  module _ (d n : ℕ) (mark : Mark) (ld : d < length g.devices) (ln : n < length g.nodes) (hung : parent_in c.forest.parents n ≡ Some (record { 0 = d })) (closed : get_or c.forest.closed d false ≡ true) where
    mark_posed : IsPosed g c.forest (set c.marks d mark) c.dark c.live
    mark_posed = record {
      weighed = record {
        sound = costed.posed.sound;
        forest = costed.posed.forest;
        marks_each = length-set c.marks d mark ∙ costed.posed.marks_each;
        marked = λ e off. get_or-set_other c.marks d e mark Nothing (λ same. false≢true (sym off ∙ (ap (λ x. get_or c.forest.closed x false) same ∙ closed))) ∙ costed.posed.marked e off;
        dark_each = costed.posed.dark_each;
        live_each = costed.posed.live_each;
        dark_bound = costed.posed.dark_bound;
        live_bound = costed.posed.live_bound;
      };
      trees = costed.posed.trees;
    }

    abbrev noted : Mark → Row
    noted m = share_of m (device_at g d).weight (row_at c.rows n)

    noted_small : (m : Mark) → ((noted m).live ≤ 3000000000000) × ((noted m).dark ≤ 3000000000000)
    noted_small m = share_small m (device_at g d).weight (row_at c.rows n) (costed.posed.sound.devices d ld).most_weight (rows_small g c costed bounded n ln)

    pub mark_is_due : (k : Costed) (u : ℕ) (change : Change) → k ≡ record c { marks = set c.marks d mark } → u ≡ other_end (switched g c.forest.closed) d n
        → change.before ≡ noted (mark_at c.marks d) → change.after ≡ noted mark → IsDue g k u change
    mark_is_due k u change is_k is_u was is =
        subst (λ x. IsDue g x u change) (sym is_k)
        (record {
          posed = mark_posed;
          rows_each = costed.rows_each;
          small = rows_small g c costed bounded;
          fitting =
              let a = noted_small (mark_at c.marks d) in
              let b = noted_small mark in
              record {
                live_before = let x = a.0 in let e = ap (λ r. r.live) was in omega arith;
                dark_before = let x = a.1 in let e = ap (λ r. r.dark) was in omega arith;
                live_after = let x = b.0 in let e = ap (λ r. r.live) is in omega arith;
                dark_after = let x = b.1 in let e = ap (λ r. r.dark) is in omega arith;
              };
          due =
              subst (λ v. AreDue (tree_problem g (record c { marks = set c.marks d mark })) (rows_table g c.forest c.rows) (λ m. v == m) change.before change.after) (sym is_u)
              (subst (λ r. AreDue (tree_problem g (record c { marks = set c.marks d mark })) (rows_table g c.forest c.rows) (λ m. other_end (switched g c.forest.closed) d n == m) r change.after) (sym was)
              (subst (λ r. AreDue (tree_problem g (record c { marks = set c.marks d mark })) (rows_table g c.forest c.rows) (λ m. other_end (switched g c.forest.closed) d n == m) (noted (mark_at c.marks d)) r) (sym is)
              (mark_due d n mark ld ln hung)));
          total = costed.total;
          order_each = costed.order_each;
          order = costed.order;
        })
