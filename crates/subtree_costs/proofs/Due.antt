-- A change of one term of a row changes what the node's row adds to the row of the node above it.
use Rattle.std.proofs.Common.{◌≡◌, ◌≢◌, ℕ, ◌+◌, ◌<◌, Bool, true, false, cond, sym, ap, ◌∙◌, ⊎_elim, arith}
use Rattle.std.specs.Prelude.{◌==◌, ◌&&◌}
use Rattle.std.proofs.lemmas.Bool.{cases_eq, eq-eqb, ne_eqb, and_left}
use Rattle.outage_rules.specs.Network.{Network, Problem}
use Rattle.outage_rules.specs.Certificate.{has_parent, upper, is_child, choice, dark_share, HasExactRows}
use Rattle.radial_forest.specs.Forested.{Forested}
use Rattle.subtree_costs.specs.declared.rows.Row.{Row}
use Rattle.subtree_costs.specs.Trees.{tree_table}
use Rattle.subtree_costs.specs.Repairs.{AreDue, children_live, children_dark}
use Rattle.subtree_costs.proofs.Moved.{some_moved}

module _ (p : Problem) (net : Network) (f : Forested) (live dark : ℕ → ℕ) where
  -- where nothing is due the rows are exact
  pub exact_where_none : (here : ℕ → Bool) (before after : Row) → ((n : ℕ) → here n ≡ false) → AreDue p (tree_table net f live dark) here before after → HasExactRows p (tree_table net f live dark)
  exact_where_none here before after none due = record {
    live = λ n l e. let d = due.live n l in
        let a = ap (λ b. cond b after.live 0) (none n) in
        let b = ap (λ b. cond b before.live 0) (none n) in omega arith;
    dark = λ n l e. let d = due.dark n l in
        let a = ap (λ b. cond b after.dark 0) (none n) in
        let b = ap (λ b. cond b before.dark 0) (none n) in omega arith;
  }

  -- the same at a root
  pub exact_at_root : (c : ℕ) (before after : Row) → has_parent p.net (tree_table net f live dark) c ≡ false
      → AreDue p (tree_table net f live dark) (λ n. is_child p.net (tree_table net f live dark) n c) before after → HasExactRows p (tree_table net f live dark)
  exact_at_root c before after hp due =
      exact_where_none (λ n. is_child p.net (tree_table net f live dark) n c) before after
      (λ n. and_left (has_parent p.net (tree_table net f live dark) c) (upper p.net (tree_table net f live dark) c == n) hp) due

  -- what is due by a node that hangs is due at the node above it
  pub due_above : (c u : ℕ) (before after : Row) → has_parent p.net (tree_table net f live dark) c ≡ true → upper p.net (tree_table net f live dark) c ≡ u
      → AreDue p (tree_table net f live dark) (λ n. is_child p.net (tree_table net f live dark) n c) before after → AreDue p (tree_table net f live dark) (λ n. u == n) before after
  due_above c u before after hp up due = record {
    live = λ n l. let d = due.live n l in
        let a = ap (λ b. cond b after.live 0) (is n) in
        let b = ap (λ b. cond b before.live 0) (is n) in omega arith;
    dark = λ n l. let d = due.dark n l in
        let a = ap (λ b. cond b after.dark 0) (is n) in
        let b = ap (λ b. cond b before.dark 0) (is n) in omega arith;
  }
    where
      is : (n : ℕ) → is_child p.net (tree_table net f live dark) n c ≡ (u == n)
      is n = ap (λ b. b && (upper p.net (tree_table net f live dark) c == n)) hp ∙ ap (λ v. v == n) up

  -- a change of a term of the row of c
  module _ (live' dark' : ℕ → ℕ) (c : ℕ) (l : c < p.nodes) (own : is_child p.net (tree_table net f live dark) c c ≡ false)
      (live_kept : (n : ℕ) → n ≢ c → live' n ≡ live n) (dark_kept : (n : ℕ) → n ≢ c → dark' n ≡ dark n) where
    same_choice : (k : ℕ) → k ≢ c → choice p (tree_table net f live dark) k ≡ choice p (tree_table net f live' dark') k
    same_choice k ne =
        let a = live_kept k ne in
        let b = dark_kept k ne in
        sym (ap (λ x. choice p (tree_table net f (λ n. x) dark') k) a ∙ ap (λ x. choice p (tree_table net f live (λ n. x)) k) b)

    same_share : (k : ℕ) → k ≢ c → dark_share p (tree_table net f live dark) k ≡ dark_share p (tree_table net f live' dark') k
    same_share k ne = sym (ap (λ x. dark_share p (tree_table net f live (λ n. x)) k) (dark_kept k ne))

    pub row_due : (before after x y : Row) → AreDue p (tree_table net f live dark) (λ n. c == n) before after
        → live' c + before.live ≡ live c + after.live → dark' c + before.dark ≡ dark c + after.dark
        → x.live ≡ choice p (tree_table net f live dark) c → x.dark ≡ dark_share p (tree_table net f live dark) c
        → y.live ≡ choice p (tree_table net f live' dark') c → y.dark ≡ dark_share p (tree_table net f live' dark') c
        → AreDue p (tree_table net f live' dark') (λ n. is_child p.net (tree_table net f live dark) n c) x y
    row_due before after x y due live_is dark_is x_live x_dark y_live y_dark = record { live = lives; dark = darks }
      where
        lives : (n : ℕ) → n < p.nodes → live' n + cond (is_child p.net (tree_table net f live dark) n c) y.live 0
            ≡ (p.dark_weight n + children_live p (tree_table net f live' dark') n) + cond (is_child p.net (tree_table net f live dark) n c) x.live 0
        lives n ln =
            let sums = some_moved p.nodes (is_child p.net (tree_table net f live dark) n) (choice p (tree_table net f live dark)) (choice p (tree_table net f live' dark')) c l (λ k lk ne t. same_choice k ne) in
            let d = due.live n ln in
            let xs = ap (λ v. cond (is_child p.net (tree_table net f live dark) n c) v 0) x_live in
            let ys = ap (λ v. cond (is_child p.net (tree_table net f live dark) n c) v 0) y_live in
            ⊎_elim
            (λ e.
            let a = ap (λ b. cond b after.live 0) (eq-eqb c n e) in
            let b = ap (λ b. cond b before.live 0) (eq-eqb c n e) in
            let old = ap live e in
            let new = ap live' e in
            let apart = ap (λ v. is_child p.net (tree_table net f live dark) v c) (sym e) ∙ own in
            let old_none = ap (λ b. cond b (choice p (tree_table net f live dark) c) 0) apart in
            let new_none = ap (λ b. cond b (choice p (tree_table net f live' dark') c) 0) apart in omega arith)
            (λ ne.
            let a = ap (λ b. cond b after.live 0) (ne_eqb c n ne) in
            let b = ap (λ b. cond b before.live 0) (ne_eqb c n ne) in
            let kept = live_kept n (λ e. ne (sym e)) in omega arith)
            (cases_eq c n)

        darks : (n : ℕ) → n < p.nodes → dark' n + cond (is_child p.net (tree_table net f live dark) n c) y.dark 0
            ≡ (p.live_weight n + children_dark p (tree_table net f live' dark') n) + cond (is_child p.net (tree_table net f live dark) n c) x.dark 0
        darks n ln =
            let sums = some_moved p.nodes (is_child p.net (tree_table net f live dark) n) (dark_share p (tree_table net f live dark)) (dark_share p (tree_table net f live' dark')) c l (λ k lk ne t. same_share k ne) in
            let d = due.dark n ln in
            let xs = ap (λ v. cond (is_child p.net (tree_table net f live dark) n c) v 0) x_dark in
            let ys = ap (λ v. cond (is_child p.net (tree_table net f live dark) n c) v 0) y_dark in
            ⊎_elim
            (λ e.
            let a = ap (λ b. cond b after.dark 0) (eq-eqb c n e) in
            let b = ap (λ b. cond b before.dark 0) (eq-eqb c n e) in
            let old = ap dark e in
            let new = ap dark' e in
            let apart = ap (λ v. is_child p.net (tree_table net f live dark) v c) (sym e) ∙ own in
            let old_none = ap (λ b. cond b (dark_share p (tree_table net f live dark) c) 0) apart in
            let new_none = ap (λ b. cond b (dark_share p (tree_table net f live' dark') c) 0) apart in omega arith)
            (λ ne.
            let a = ap (λ b. cond b after.dark 0) (ne_eqb c n ne) in
            let b = ap (λ b. cond b before.dark 0) (ne_eqb c n ne) in
            let kept = dark_kept n (λ e. ne (sym e)) in omega arith)
            (cases_eq c n)
