-- The rows of a tree, added up from its last device to its first, are exact.
use Rattle.std.proofs.Common.{◌≡◌, ℕ, ◌+◌, ◌<◌, min, true, false, cond, refl, sym, ap, ◌∙◌, subst, ⊎_elim, arith}
use Rattle.std.specs.Prelude.{◌==◌, ◌&&◌, not, nat_lt}
use Rattle.std.proofs.lemmas.Bool.{cases_Bool, eq-eqb, ne_eqb, and_left, lt-ltb, false≢true}
use Rattle.outage_rules.specs.Sum.{total}
use Rattle.outage_rules.specs.Network.{Problem, IsSound}
use Rattle.outage_rules.specs.Diagnosis.{IsLeastCost, HasOnlyDarkReports}
use Rattle.outage_rules.specs.TreeOrder.{IsInTreeOrder, AreSummedRows, source_total}
use Rattle.outage_rules.specs.Certificate.{Table, has_parent, upper, is_child, choice, dark_share, bound_of, HasExactRows}
use Rattle.outage_rules.proofs.Sums.{total_same, total_zero, total_one, total_swap}
use Rattle.outage_rules.proofs.Balance.{cond_zero}
use Rattle.outage_rules.proofs.Exists.{bound_is_least}
use Rattle.outage_rules.proofs.Tree.{Entry, tree_table, to_same, entry_of, upper_is, new_has_parent, forest}

-- what one device adds to the row of a node
abbrev pub adds : Problem → (ℕ → ℕ) → ℕ → ℕ → ℕ
adds p row n d = cond (p.from d == n) (min (row (p.to d)) (p.weight d)) 0

module _ (p : Problem) (row : ℕ → ℕ) (order : IsInTreeOrder p.net) (only_dark : HasOnlyDarkReports p) where
  abbrev tree : Table
  tree = tree_table p.net row

  choice_is : (m : ℕ) (e : Entry p.net m) → choice p tree m ≡ min (row (p.to e.device)) (p.weight e.device)
  choice_is m e =
      ap (λ b. cond b (p.weight (tree.parent m) + 0) (cond (p.marked_ok (tree.parent m)) (row m) (min (p.weight (tree.parent m) + 0) (row m)))) (only_dark.unmarked (tree.parent m))
      ∙ ap (λ b. cond b (row m) (min (p.weight (tree.parent m) + 0) (row m))) (only_dark.not_fine (tree.parent m))
      ∙ ap (λ x. min (p.weight x + 0) (row m)) e.is
      ∙ ap (λ x. min (p.weight e.device + 0) (row x)) (sym e.leads)
      ∙ turned (p.weight e.device) (row (p.to e.device))
    where
      turned : (a b : ℕ) → min (a + 0) b ≡ min b a
      turned a b = omega arith

  -- what a child adds, by the devices that lead to it
  child : (n m : ℕ) → m < p.nodes → cond (is_child p.net tree n m) (choice p tree m) 0 ≡ total p.devices (λ d. cond (p.to d == m) (adds p row n d) 0)
  child n m l =
      ⊎_elim
      (λ hp. found hp (entry_of p.net order row m l hp))
      (λ hp. ap (λ b. cond b (choice p tree m) 0) (and_left (has_parent p.net tree m) (upper p.net tree m == n) hp) ∙ sym (none hp))
      (cases_Bool (has_parent p.net tree m))
    where
      none : has_parent p.net tree m ≡ false → total p.devices (λ d. cond (p.to d == m) (adds p row n d) 0) ≡ 0
      none hp =
          total_zero p.devices (λ d. cond (p.to d == m) (adds p row n d) 0)
          (λ d ld. ap (λ b. cond b (adds p row n d) 0) (ne_eqb (p.to d) m (λ e. false≢true (sym hp ∙ ap (has_parent p.net tree) (sym e) ∙ new_has_parent p.net order row d ld))))

      found : has_parent p.net tree m ≡ true → Entry p.net m → cond (is_child p.net tree n m) (choice p tree m) 0 ≡ total p.devices (λ d. cond (p.to d == m) (adds p row n d) 0)
      found hp e =
          let d = e.device in
          let one = total_one p.devices (λ k. cond (p.to k == m) (adds p row n k) 0) d e.within
          (λ k lk ne. ap (λ b. cond b (adds p row n k) 0) (ne_eqb (p.to k) m (λ x. ne (to_same p.net order k d lk e.within (x ∙ sym e.leads))))) in
          let here = ap (λ b. cond b (adds p row n d) 0) (eq-eqb (p.to d) m e.leads) in
          ap (λ b. cond (b && (upper p.net tree m == n)) (choice p tree m) 0) hp
          ∙ ap (λ x. cond (x == n) (choice p tree m) 0) (upper_is p.net order row m e)
          ∙ ap (λ x. cond (p.from d == n) x 0) (choice_is m e)
          ∙ sym here
          ∙ sym one

  children : (n : ℕ) → total p.nodes (λ m. cond (is_child p.net tree n m) (choice p tree m) 0) ≡ total p.devices (adds p row n)
  children n =
      total_same p.nodes (λ m. cond (is_child p.net tree n m) (choice p tree m) 0) (λ m. total p.devices (λ d. cond (p.to d == m) (adds p row n d) 0)) (child n)
      ∙ total_swap p.nodes p.devices (λ m d. cond (p.to d == m) (adds p row n d) 0)
      ∙ total_same p.devices (λ d. total p.nodes (λ m. cond (p.to d == m) (adds p row n d) 0)) (adds p row n) once
    where
      once : (d : ℕ) → d < p.devices → total p.nodes (λ m. cond (p.to d == m) (adds p row n d) 0) ≡ adds p row n d
      once d l =
          total_one p.nodes (λ m. cond (p.to d == m) (adds p row n d) 0) (p.to d) (order.to_within d l) (λ m lm ne. ap (λ b. cond b (adds p row n d) 0) (ne_eqb (p.to d) m (λ e. ne (sym e))))
          ∙ ap (λ b. cond b (adds p row n d) 0) (eq-eqb (p.to d) (p.to d) refl)

  -- a dark node costs nothing
  dark_children : (n : ℕ) → total p.nodes (λ m. cond (is_child p.net tree n m) (dark_share p tree m) 0) ≡ 0
  dark_children n =
      total_zero p.nodes (λ m. cond (is_child p.net tree n m) (dark_share p tree m) 0)
      (λ m l. ap (λ b. cond (is_child p.net tree n m) (0 + cond b (p.weight (tree.parent m)) 0) 0) (only_dark.unmarked (tree.parent m)) ∙ cond_zero (is_child p.net tree n m))

  pub exact : AreSummedRows p row → HasExactRows p tree
  exact summed = record {
    live = λ n l e. summed n l ∙ ap (λ x. p.dark_weight n + x) (sym (children n));
    dark = λ n l e. let a = only_dark.no_live n in let b = dark_children n in omega arith;
  }

  bound_is : bound_of p tree ≡ source_total p.net row
  bound_is =
      let listed = total_zero p.nodes (λ n. cond (nat_lt n p.nodes) 0 (p.live_weight n)) (λ n l. ap (λ b. cond b 0 (p.live_weight n)) (lt-ltb n p.nodes l)) in
      let marked = total_zero p.devices (λ d. cond (p.marked_open d && (not (nat_lt (p.from d) p.nodes) && not (nat_lt (p.to d) p.nodes))) (p.weight d) 0) (λ d l. ap (λ b. cond (b && (not (nat_lt (p.from d) p.nodes) && not (nat_lt (p.to d) p.nodes))) (p.weight d) 0) (only_dark.unmarked d)) in
      omega arith

  pub summed_is_least : IsSound p → AreSummedRows p row → IsLeastCost p (source_total p.net row)
  summed_is_least sound summed = subst (IsLeastCost p) bound_is (bound_is_least p tree sound (forest p.net order row) (exact summed))
