-- The steps of a repair, from a node to the node above it.
use Rattle.std.proofs.Common.{◌≡◌, ◌≢◌, ℕ, ◌+◌, ◌<◌, ◌≤◌, Bool, true, false, cond, min, refl, sym, ap, ◌∙◌, subst, ⊎_elim, arith, length, List, set, Option, Some, None}
use Rattle.std.specs.Prelude.{option_map, ◌==◌}
use Rattle.std.proofs.lemmas.Bool.{cases_Bool}
use Rattle.std.proofs.lemmas.List.{get_or-set_same, get_or-set_other}
use Rattle.outage_rules.specs.Certificate.{is_child, HasExactRows}
use Rattle.outage_rules.proofs.Sums.{total_le_times}
use Rattle.grid_model.specs.declared.history.Mark.{Mark}
use Rattle.grid_model.specs.Places.{is_source}
use Rattle.grid_model.specs.Problem.{mark_at, says_opened, says_fine}
use Rattle.radial_forest.specs.Spreading.{switched}
use Rattle.radial_forest.specs.Traversed.{parent_in}
use Rattle.subtree_costs.specs.declared.above.Above.{Above}
use Rattle.subtree_costs.specs.declared.rows.Row.{Row}
use Rattle.subtree_costs.specs.declared.posed.Posed.{Posed}
use Rattle.subtree_costs.specs.declared.posed.Change.{Change}
use Rattle.subtree_costs.specs.Shares.{no_row, row_at, above_by, share_of}
use Rattle.subtree_costs.specs.Trees.{is_top}
use Rattle.subtree_costs.specs.Costed.{root_part, root_cost, root_total}
use Rattle.subtree_costs.specs.Repairs.{IsReady, problem_at, table_at, share_at, AreDue, IsSmall, AreSmall}
use Rattle.subtree_costs.proofs.Moved.{total_moved}
use Rattle.subtree_costs.proofs.Due.{exact_at_root, due_above, row_due}
use Rattle.subtree_costs.proofs.Hung.{not_own, root_is, no_parent, above_read, has_above, upper_read}

-- a device adds its weight and the greater of the two costs at most
pub share_small : (mark : Mark) (w : ℕ) (r : Row) → w ≤ 1000000 → IsSmall r → ((share_of mark w r).live ≤ 3000000000000) × ((share_of mark w r).dark ≤ 3000000000000)
share_small mark w r l s = (live (says_opened mark) (says_fine mark) w r.live r.dark l s.live s.dark, dark (says_opened mark) w r.dark l s.dark)
  where
    live : (o k : Bool) (w x y : ℕ) → w ≤ 1000000 → x ≤ 2400000000000 → y ≤ 2400000000000 → cond o (w + y) (cond k x (min (w + y) x)) ≤ 3000000000000
    live true k w x y lw lx ly = omega arith
    live false true w x y lw lx ly = omega arith
    live false false w x y lw lx ly = omega arith

    dark : (o : Bool) (w y : ℕ) → w ≤ 1000000 → y ≤ 2400000000000 → y + cond o w 0 ≤ 3000000000000
    dark true w y lw ly = omega arith
    dark false w y lw ly = omega arith

-- where a row grows by so much, what it adds grows by no more
pub share_grows : (mark : Mark) (w : ℕ) (r s : Row) → s.live ≤ r.live + 3000000000000 → s.dark ≤ r.dark + 3000000000000
    → ((share_of mark w s).live ≤ (share_of mark w r).live + 3000000000000) × ((share_of mark w s).dark ≤ (share_of mark w r).dark + 3000000000000)
share_grows mark w r s l d = (live (says_opened mark) (says_fine mark) w r.live r.dark s.live s.dark l d, dark (says_opened mark) w r.dark s.dark d)
  where
    live : (o k : Bool) (w x y x' y' : ℕ) → x' ≤ x + 3000000000000 → y' ≤ y + 3000000000000
        → cond o (w + y') (cond k x' (min (w + y') x')) ≤ cond o (w + y) (cond k x (min (w + y) x)) + 3000000000000
    live true k w x y x' y' lx ly = omega arith
    live false true w x y x' y' lx ly = omega arith
    live false false w x y x' y' lx ly = omega arith

    dark : (o : Bool) (w y y' : ℕ) → y' ≤ y + 3000000000000 → y' + cond o w 0 ≤ (y + cond o w 0) + 3000000000000
    dark true w y y' ly = omega arith
    dark false w y y' ly = omega arith

-- a list of rows that is written at one place
module _ (rows : List Row) (n : ℕ) (r : Row) where
  pub row_other : (m : ℕ) → m ≢ n → row_at (set rows n r) m ≡ row_at rows m
  row_other m ne = get_or-set_other rows n m r no_row ne

  pub row_here : n < length rows → row_at (set rows n r) n ≡ r
  row_here l = get_or-set_same rows n r no_row l

-- what a root comes to is one of its two costs
pub part_small : (q : Posed) (n : ℕ) (r : Row) (most : ℕ) → r.live ≤ most → r.dark ≤ most → root_part q.grid.now n r ≤ most
part_small q n r most l d = at (is_source q.grid.now n) r.live r.dark l d
  where
    at : (b : Bool) (x y : ℕ) → x ≤ most → y ≤ most → cond b x y ≤ most
    at true x y lx ly = lx
    at false x y lx ly = ly

module _ (q : Posed) (ready : IsReady q) (rows : List Row) where
  -- the row of a node is written
  pub row_changed : (n : ℕ) (c : Change) (r : Row) → n < length q.grid.now.nodes → length rows ≡ length q.grid.now.nodes
      → AreDue (problem_at q) (table_at q rows) (λ m. n == m) c.before c.after
      → r.live + c.before.live ≡ (row_at rows n).live + c.after.live → r.dark + c.before.dark ≡ (row_at rows n).dark + c.after.dark
      → AreDue (problem_at q) (table_at q (set rows n r)) (λ m. is_child (problem_at q).net (table_at q (set rows n r)) m n) (share_at q n (row_at rows n)) (share_at q n r)
  row_changed n c r l each due live_is dark_is =
      let here = row_here rows n r (subst (λ k. n < k) (sym each) l) in
      row_due (problem_at q) (switched q.grid.now q.forest.now.closed) q.forest.now (λ m. (row_at rows m).live) (λ m. (row_at rows m).dark)
      (λ m. (row_at (set rows n r) m).live) (λ m. (row_at (set rows n r) m).dark) n l (not_own q ready n l)
      (λ m ne. ap (λ x. x.live) (row_other rows n r m ne)) (λ m ne. ap (λ x. x.dark) (row_other rows n r m ne))
      c.before c.after (share_at q n (row_at rows n)) (share_at q n r) due
      (ap (λ x. x.live + c.before.live) here ∙ live_is) (ap (λ x. x.dark + c.before.dark) here ∙ dark_is)
      refl refl (sym (ap (λ x. (share_at q n x).live) here)) (sym (ap (λ x. (share_at q n x).dark) here))

  -- what is due by a node is due at the node above it
  pub due_at_above : (n : ℕ) (l : n < length q.grid.now.nodes) (a : Above) → Some a ≡ option_map (above_by q.grid.now n) (parent_in q.forest.now.parents n)
      → (before after : Row) → AreDue (problem_at q) (table_at q rows) (λ m. is_child (problem_at q).net (table_at q rows) m n) (share_at q n before) (share_at q n after)
      → AreDue (problem_at q) (table_at q rows) (λ m. a.node.0 == m) (share_of (mark_at q.marks.now a.device.0) a.weight before) (share_of (mark_at q.marks.now a.device.0) a.weight after)
  due_at_above n l a e before after due =
      subst (λ b. AreDue (problem_at q) (table_at q rows) (λ m. a.node.0 == m) (share_of (mark_at q.marks.now b.device.0) b.weight before) (share_of (mark_at q.marks.now b.device.0) b.weight after))
      (sym (above_read q ready n l a e))
      (due_above (problem_at q) (switched q.grid.now q.forest.now.closed) q.forest.now (λ m. (row_at rows m).live) (λ m. (row_at rows m).dark)
      n a.node.0 (share_at q n before) (share_at q n after) (has_above q ready n l a e) (upper_read q ready n l a e) due)

  -- nothing is due by a root
  pub exact_then : (n : ℕ) (l : n < length q.grid.now.nodes) → ◌≡◌ {A = Option Above} None (option_map (above_by q.grid.now n) (parent_in q.forest.now.parents n))
      → (before after : Row) → AreDue (problem_at q) (table_at q rows) (λ m. is_child (problem_at q).net (table_at q rows) m n) before after → HasExactRows (problem_at q) (table_at q rows)
  exact_then n l e before after due =
      exact_at_root (problem_at q) (switched q.grid.now q.forest.now.closed) q.forest.now (λ m. (row_at rows m).live) (λ m. (row_at rows m).dark)
      n before after (no_parent q ready n l e) due

  -- the roots come to what they came to, but for the one whose row changed
  pub total_then : (old : List Row) (n : ℕ) (l : n < length q.grid.now.nodes) → ◌≡◌ {A = Option Above} None (option_map (above_by q.grid.now n) (parent_in q.forest.now.parents n))
      → ((m : ℕ) → m < length q.grid.now.nodes → is_top q.forest.now m ≡ true → m ≢ n → row_at rows m ≡ row_at old m)
      → root_total q.grid.now q.forest.now rows + root_part q.grid.now n (row_at old n) ≡ root_total q.grid.now q.forest.now old + root_part q.grid.now n (row_at rows n)
  total_then old n l e kept =
      let top = root_is q ready n l e in
      let sums = total_moved (length q.grid.now.nodes) (root_cost q.grid.now q.forest.now old) (root_cost q.grid.now q.forest.now rows) n l same in
      let was = ap (λ b. cond b (root_part q.grid.now n (row_at old n)) 0) top in
      let now = ap (λ b. cond b (root_part q.grid.now n (row_at rows n)) 0) top in
      omega arith
    where
      same : (m : ℕ) → m < length q.grid.now.nodes → m ≢ n → root_cost q.grid.now q.forest.now old m ≡ root_cost q.grid.now q.forest.now rows m
      same m lm ne =
          ⊎_elim
          (λ t. ap (λ r. cond (is_top q.forest.now m) (root_part q.grid.now m r) 0) (sym (kept m lm t ne)))
          (λ t. ap (λ b. cond b (root_part q.grid.now m (row_at old m)) 0) t ∙ sym (ap (λ b. cond b (root_part q.grid.now m (row_at rows m)) 0) t))
          (cases_Bool (is_top q.forest.now m))

  -- small rows of the roots fit 64 bits
  pub total_small : AreSmall q rows → root_total q.grid.now q.forest.now rows ≤ 480000000000000000
  total_small small =
      let most = total_le_times (length q.grid.now.nodes) (root_cost q.grid.now q.forest.now rows) 2400000000000
      (λ n l. at (is_top q.forest.now n) (is_source q.grid.now n) (row_at rows n).live (row_at rows n).dark (small n l).live (small n l).dark) in
      let few = ready.sound.few_nodes in
      omega arith
    where
      at : (t s : Bool) (x y : ℕ) → x ≤ 2400000000000 → y ≤ 2400000000000 → cond t (cond s x y) 0 ≤ 2400000000000
      at true true x y lx ly = omega arith
      at true false x y lx ly = omega arith
      at false s x y lx ly = omega arith
