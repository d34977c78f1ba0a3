-- The rows worked out anew over an order of all nodes, from the last one to the first.
use Rattle.std.proofs.Common.{◌≡◌, ◌≢◌, ℕ, zero, suc, ◌+◌, ◌<◌, ◌≤◌, Bool, true, false, cond, sym, ap, ◌∙◌, subst, ⊎_elim, arith, List, length, get_or, set, Option, Some, None}
use Rattle.std.specs.Prelude.{option_map, nat_le}
use Rattle.std.proofs.lemmas.Bool.{cases_eq}
use Rattle.outage_rules.specs.Sum.{total, total_from}
use Rattle.outage_rules.specs.Certificate.{Table, has_parent, upper, HasExactRows}
use Rattle.outage_rules.proofs.Sums.{total_from_all, total_from_none, total_from_more, total_from_same, total_le_times}
use Rattle.grid_model.specs.declared.parts.NodeId.{NodeId}
use Rattle.grid_model.specs.Places.{device_at}
use Rattle.grid_model.specs.Problem.{mark_at}
use Rattle.radial_forest.specs.Traversed.{parent_in, node_at}
use Rattle.radial_forest.specs.Spreading.{switched}
use Rattle.subtree_costs.specs.declared.above.Above.{Above}
use Rattle.subtree_costs.specs.declared.rows.Row.{Row}
use Rattle.subtree_costs.specs.declared.posed.Posed.{Posed}
use Rattle.subtree_costs.specs.Shares.{row_at, above_by, share_of}
use Rattle.subtree_costs.specs.Trees.{is_top, hanger, tree_table}
use Rattle.subtree_costs.specs.Listing.{IsOrder}
use Rattle.subtree_costs.specs.Costed.{root_part, root_cost, root_total}
use Rattle.subtree_costs.specs.Repairs.{IsReady, IsSmall, problem_at, table_at, weights_at}
use Rattle.subtree_costs.proofs.Hung.{zero_table, root_is, not_root, no_parent, has_above, upper_read, above_read, node_within, parent_is}
use Rattle.subtree_costs.proofs.Chains.{some_from}
use Rattle.subtree_costs.proofs.Kept.{dark_small, live_small}
use Rattle.subtree_costs.proofs.Placed.{by_places, as_many}
use Rattle.subtree_costs.proofs.Ordered.{places}
use Rattle.subtree_costs.proofs.Summed.{IsBehind, IsLight, AreAdded, added_none, passed_over, added_more, apart, exact}
use Rattle.subtree_costs.proofs.Repairing.{row_other, row_here, part_small}

term_le : (n : ℕ) (f : ℕ → ℕ) (k : ℕ) → k < n → f k ≤ total n f
term_le zero f k l = absurd (omega arith)
term_le (suc n) f k l =
    ⊎_elim
    (λ e. let a = ap f e in omega arith)
    (λ ne. let a = term_le n f k (omega (arith, ne)) in omega arith)
    (cases_eq k n)

-- the live and the dark costs of rows
abbrev pub lives : List Row → ℕ → ℕ
lives rows n = (row_at rows n).live

abbrev pub darks : List Row → ℕ → ℕ
darks rows n = (row_at rows n).dark

-- the trees without costs
abbrev pub blank : Posed → Table
blank q = tree_table (switched q.grid.now q.forest.now.closed) q.forest.now (λ n. 0) (λ n. 0)

-- each row is its weight and what the children from place k of the order on add, and the roots from there on come to so much
pub record AreWorked (q : Posed) (list : List NodeId) (k : ℕ) (rows : List Row) (sum : ℕ) : Type 0 where
  pub added : AreAdded (problem_at q) (blank q) (length list) (node_at list) k (lives rows) (darks rows)
  pub roots : sum ≡ total_from k (length list) (λ j. root_cost q.grid.now q.forest.now rows (node_at list j))

module _ (q : Posed) (ready : IsReady q) (list : List NodeId) (order : IsOrder (switched q.grid.now q.forest.now.closed) q.forest.now.parents list (length list)) where
  behind : IsBehind (problem_at q) (blank q) (length list) (node_at list)
  behind = record {
    placed = places (switched q.grid.now q.forest.now.closed) q.forest.now.parents list (length list) order;
    behind = λ k l hp.
        let n = node_at list k in
        let ln = subst (λ x. n < x) (sym ready.forest.parents_each) (order.within k l) in
        order.behind k (record { 0 = hanger q.forest.now.parents n }) l (some_from (parent_in q.forest.now.parents n) (sym (parent_is q.forest.now n ln) ∙ hp));
  }

  light : IsLight (problem_at q) (blank q)
  light = record {
    weights = λ n l hp. (ready.sound.devices (hanger q.forest.now.parents n) (ready.trees.parent n l hp).within).most_weight;
    few = ready.sound.few_nodes;
    dark = dark_small q.grid.now q.forest.now q.marks.now q.dark.now q.live.now ready;
    live = live_small q.grid.now q.forest.now q.marks.now q.dark.now q.live.now ready;
  }

  -- at first each row is its weight
  pub worked_none : (rows : List Row) → ((n : ℕ) → n < length q.grid.now.nodes → row_at rows n ≡ weights_at q n) → AreWorked q list (length list) rows 0
  worked_none rows are = record {
    added = added_none (problem_at q) (blank q) (length list) (node_at list) behind light (lives rows) (darks rows)
        (λ n l. ap (λ r. r.live) (are n l)) (λ n l. ap (λ r. r.dark) (are n l))
        (λ n l. (
          let a = term_le (length q.grid.now.nodes) (λ k. get_or q.dark.now k 0) n l in let b = dark_small q.grid.now q.forest.now q.marks.now q.dark.now q.live.now ready in omega arith,
          let a = term_le (length q.grid.now.nodes) (λ k. get_or q.live.now k 0) n l in let b = live_small q.grid.now q.forest.now q.marks.now q.dark.now q.live.now ready in omega arith,
        ));
    roots = sym (total_from_none (length list) (λ j. root_cost q.grid.now q.forest.now rows (node_at list j)));
  }

  module _ (rows : List Row) (k i n sum : ℕ) (l : k < length list) (is_i : i ≡ suc k) (is_n : n ≡ node_at list k) (later : AreWorked q list i rows sum) where
    before : AreWorked q list (suc k) rows sum
    before = subst (λ j. AreWorked q list j rows sum) is_i later

    pub within : n < length q.grid.now.nodes
    within = subst (λ v. v < length q.grid.now.nodes) (sym is_n) (order.within k l)

    -- a root comes to its part
    pub worked_root : ◌≡◌ {A = Option Above} None (option_map (above_by q.grid.now n) (parent_in q.forest.now.parents n)) → AreWorked q list k rows (sum + root_part q.grid.now n (row_at rows n))
    worked_root e = record {
      added = passed_over (problem_at q) (blank q) (length list) (node_at list) behind light (lives rows) (darks rows) (lives rows) (darks rows) k l before.added
          (subst (λ v. has_parent (problem_at q).net (zero_table q ready n within) v ≡ false) is_n (no_parent q ready n within e));
      roots =
          let more = total_from_more k (length list) (λ j. root_cost q.grid.now q.forest.now rows (node_at list j)) l in
          let here = ap (root_cost q.grid.now q.forest.now rows) (sym is_n) in
          let top = ap (λ b. cond b (root_part q.grid.now n (row_at rows n)) 0) (root_is q ready n within e) in
          let was = before.roots in
          omega arith;
    }

    -- another node adds to the row above
    module _ (a : Above) (e : Some a ≡ option_map (above_by q.grid.now n) (parent_in q.forest.now.parents n)) (share : Row) (each : length rows ≡ length q.grid.now.nodes)
        (is_share : share ≡ share_of (mark_at q.marks.now a.device.0) a.weight (row_at rows n)) where
      abbrev whole : Row
      whole = record { live = (row_at rows a.node.0).live + share.live; dark = (row_at rows a.node.0).dark + share.dark }

      above_is : upper (problem_at q).net (zero_table q ready n within) (node_at list k) ≡ a.node.0
      above_is = ap (upper (problem_at q).net (zero_table q ready n within)) (sym is_n) ∙ upper_read q ready n within a e

      hung : has_parent (problem_at q).net (zero_table q ready n within) (node_at list k) ≡ true
      hung = subst (λ v. has_parent (problem_at q).net (zero_table q ready n within) v ≡ true) is_n (has_above q ready n within a e)

      here : row_at (set rows a.node.0 whole) a.node.0 ≡ whole
      here = row_here rows a.node.0 whole (subst (λ v. a.node.0 < v) (sym each) (node_within q ready n within a e))

      kept : (v : ℕ) → v ≢ upper (problem_at q).net (zero_table q ready n within) (node_at list k) → row_at (set rows a.node.0 whole) v ≡ row_at rows v
      kept v ne = row_other rows a.node.0 whole v (λ s. ne (s ∙ sym above_is))

      abbrev added_row : Row
      added_row = share_of (mark_at q.marks.now (hanger q.forest.now.parents (node_at list k))) (device_at q.grid.now (hanger q.forest.now.parents (node_at list k))).weight (row_at rows (node_at list k))

      share_by : share ≡ added_row
      share_by =
          is_share
          ∙ ap (λ b. share_of (mark_at q.marks.now b.device.0) b.weight (row_at rows n)) (above_read q ready n within a e)
          ∙ ap (λ v. share_of (mark_at q.marks.now (hanger q.forest.now.parents v)) (device_at q.grid.now (hanger q.forest.now.parents v)).weight (row_at rows v)) is_n

      pub worked_more : AreWorked q list k (set rows a.node.0 whole) sum
      worked_more = record {
        added = added_more (problem_at q) (blank q) (length list) (node_at list) behind light (lives rows) (darks rows) (lives (set rows a.node.0 whole)) (darks (set rows a.node.0 whole)) k l before.added
            hung (λ v ne. ap (λ r. r.live) (kept v ne)) (λ v ne. ap (λ r. r.dark) (kept v ne))
            (ap (lives (set rows a.node.0 whole)) above_is ∙ (ap (λ r. r.live) here ∙ (ap (λ x. (row_at rows a.node.0).live + x.live) share_by ∙ ap (λ v. (row_at rows v).live + added_row.live) (sym above_is))))
            (ap (darks (set rows a.node.0 whole)) above_is ∙ (ap (λ r. r.dark) here ∙ (ap (λ x. (row_at rows a.node.0).dark + x.dark) share_by ∙ ap (λ v. (row_at rows v).dark + added_row.dark) (sym above_is))));
        roots =
            let more = total_from_more k (length list) (λ j. root_cost q.grid.now q.forest.now (set rows a.node.0 whole) (node_at list j)) l in
            let none = ap (λ v. root_cost q.grid.now q.forest.now (set rows a.node.0 whole) v) (sym is_n) ∙ ap (λ b. cond b (root_part q.grid.now n (row_at (set rows a.node.0 whole) n)) 0) (not_root q ready n within a e) in
            let same = total_from_same (suc k) (length list) (λ j. root_cost q.grid.now q.forest.now (set rows a.node.0 whole) (node_at list j)) (λ j. root_cost q.grid.now q.forest.now rows (node_at list j))
            (λ j le lj. ap (λ r. cond (is_top q.forest.now (node_at list j)) (root_part q.grid.now (node_at list j) r) 0)
            (kept (node_at list j) (apart (problem_at q) (blank q) (length list) (node_at list) behind light (lives rows) (darks rows) (lives (set rows a.node.0 whole)) (darks (set rows a.node.0 whole)) k l before.added
            hung (λ v ne. ap (λ r. r.live) (kept v ne)) (λ v ne. ap (λ r. r.dark) (kept v ne)) j (omega arith) lj))) in
            let was = before.roots in
            omega arith;
      }

  -- from the first place on the rows are exact, and all roots come to the sum
  module _ (rows : List Row) (i sum : ℕ) (is_i : i ≡ 0) (all : AreWorked q list i rows sum) where
    whole_now : AreWorked q list 0 rows sum
    whole_now = subst (λ j. AreWorked q list j rows sum) is_i all

    pub worked_exact : HasExactRows (problem_at q) (table_at q rows)
    worked_exact = exact (problem_at q) (blank q) (length list) (node_at list) behind light (lives rows) (darks rows) whole_now.added

    pub worked_total : sum ≡ root_total q.grid.now q.forest.now rows
    worked_total =
        whole_now.roots
        ∙ total_from_all (length list) (λ j. root_cost q.grid.now q.forest.now rows (node_at list j))
        ∙ by_places (length q.grid.now.nodes) (length list) (node_at list) (places (switched q.grid.now q.forest.now.closed) q.forest.now.parents list (length list) order) (root_cost q.grid.now q.forest.now rows)

  -- no row and no sum grows large
  module _ (rows : List Row) (k sum : ℕ) (le : k ≤ length list) (worked : AreWorked q list k rows sum) where
    pub worked_small : (n : ℕ) → n < length q.grid.now.nodes → IsSmall (row_at rows n)
    worked_small n l = let s = worked.added.small n l in record { live = s.0; dark = s.1 }

    pub sum_small : sum ≤ 480000000000000000
    sum_small =
        let most = total_le_times (length list) (λ j. cond (nat_le k j) (root_cost q.grid.now q.forest.now rows (node_at list j)) 0) 2400000000000 (λ j l. at (nat_le k j) (is_top q.forest.now (node_at list j)) (root_part q.grid.now (node_at list j) (row_at rows (node_at list j)))
        (let s = worked.added.small (node_at list j) (order.within j l) in part_small q (node_at list j) (row_at rows (node_at list j)) 2400000000000 s.0 s.1)) in
        let many = as_many (length q.grid.now.nodes) (length list) (node_at list) (places (switched q.grid.now q.forest.now.closed) q.forest.now.parents list (length list) order) in
        let few = ready.sound.few_nodes in
        let is = worked.roots in
        omega arith
      where
        at : (b t : Bool) (x : ℕ) → x ≤ 2400000000000 → cond b (cond t x 0) 0 ≤ 2400000000000
        at true true x l = l
        at true false x l = omega arith
        at false t x l = omega arith
