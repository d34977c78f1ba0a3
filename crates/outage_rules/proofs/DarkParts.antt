-- An exact dark row is what its part costs where its root is dark.
use Rattle.std.proofs.Common.{◌≡◌, ℕ, ◌+◌, ◌<◌, Bool, true, false, cond, refl, sym, ap, ◌∙◌, inl, inr, ⊎_elim, arith}
use Rattle.std.specs.Prelude.{◌&&◌, ◌==◌, ◌⊎◌}
use Rattle.std.proofs.lemmas.Bool.{cases_Bool, and_from, and_parts, eq-eqb, ne_eqb, eqb-true, false≢true, false_from_ne_true}
use Rattle.outage_rules.specs.Sum.{total}
use Rattle.outage_rules.specs.Network.{Problem, IsSound}
use Rattle.outage_rules.specs.Certificate.{Table, has_parent, is_child, dark_share, IsForest, HasExactRows, in_part, is_inside, part_of, dark_cost_of}
use Rattle.outage_rules.proofs.Sums.{total_same, total_zero, total_add, total_swap, total_one}
use Rattle.outage_rules.proofs.Balance.{by_parent, spread, value_split, cond_add, cond_zero, same_child, charge}
use Rattle.outage_rules.proofs.Parts.{part_table, part_sound, part_forest, part_rows, root_in}

module _ (p : Problem) (t : Table) (sound : IsSound p) (forest : IsForest p.net t) (r : ℕ) (lr : r < p.nodes) (root_listed : t.is_listed r ≡ true) (rows : HasExactRows p t) where
  pub dark_row_is : t.dark_cost r ≡ dark_cost_of p t r
  dark_row_is =
      let q = part_of p t r in
      let u = part_table p t r in
      let exact = part_rows p t sound forest r lr root_listed rows in
      let sound' = part_sound p t sound forest r lr root_listed in
      let forest' = part_forest p t sound forest r lr root_listed in
      let own = total_same p.nodes (λ n. cond (in_part p.net t r n) (t.dark_cost n) 0) (λ n. cond (in_part p.net t r n) (q.live_weight n) 0 + cond (in_part p.net t r n) (total p.nodes (λ m. cond (is_child q.net u n m) (dark_share q u m) 0)) 0)
      (λ n l. cond_same (in_part p.net t r n) (t.dark_cost n) (q.live_weight n + total p.nodes (λ m. cond (is_child q.net u n m) (dark_share q u m) 0)) (exact.dark n l) ∙ cond_add (in_part p.net t r n) (q.live_weight n) (total p.nodes (λ m. cond (is_child q.net u n m) (dark_share q u m) 0)))
      ∙ total_add p.nodes (λ n. cond (in_part p.net t r n) (q.live_weight n) 0) (λ n. cond (in_part p.net t r n) (total p.nodes (λ m. cond (is_child q.net u n m) (dark_share q u m) 0)) 0) in
      let kids = by_parent q u q.marked_open sound' forest' (dark_share q u) in
      let apart = total_same p.nodes (λ m. cond (has_parent q.net u m) (dark_share q u m) 0) (λ m. cond (has_parent q.net u m) (t.dark_cost m) 0 + cond (has_parent q.net u m) (charge q q.marked_open (t.parent m)) 0) (λ m l. cond_add (has_parent q.net u m) (t.dark_cost m) (charge q q.marked_open (t.parent m)))
      ∙ total_add p.nodes (λ m. cond (has_parent q.net u m) (t.dark_cost m) 0) (λ m. cond (has_parent q.net u m) (charge q q.marked_open (t.parent m)) 0) in
      let split = total_same p.nodes (λ n. cond (in_part p.net t r n) (t.dark_cost n) 0) (λ n. cond (n == r) (t.dark_cost n) 0 + cond (has_parent q.net u n) (t.dark_cost n) 0) (λ n l. value_split (in_part p.net t r n) (n == r) (t.dark_cost n) (t.dark_cost n) (λ e. ap (in_part p.net t r) (eqb-true n r e) ∙ root_in p t sound forest r lr root_listed) (λ e. refl))
      ∙ total_add p.nodes (λ n. cond (n == r) (t.dark_cost n) 0) (λ n. cond (has_parent q.net u n) (t.dark_cost n) 0) in
      let root = total_one p.nodes (λ n. cond (n == r) (t.dark_cost n) 0) r lr (λ n l ne. ap (λ b. cond b (t.dark_cost n) 0) (ne_eqb n r ne)) ∙ ap (λ b. cond b (t.dark_cost r) 0) (eq-eqb r r refl) in
      let reports = total_same p.nodes (λ n. cond (in_part p.net t r n) (cond (in_part p.net t r n) (p.live_weight n) 0) 0) (λ n. cond (in_part p.net t r n) (p.live_weight n) 0) (λ n l. twice (in_part p.net t r n) (p.live_weight n)) in
      let marks = total_same p.nodes (λ m. cond (has_parent q.net u m) (charge q q.marked_open (t.parent m)) 0) (λ m. total p.devices (λ d. cond (has_parent q.net u m && (t.parent m == d)) (charge q q.marked_open d) 0)) (λ m l. spread q u q.marked_open sound' forest' m l)
      ∙ total_swap p.nodes p.devices (λ m d. cond (has_parent q.net u m && (t.parent m == d)) (charge q q.marked_open d) 0)
      ∙ total_same p.devices (λ d. total p.nodes (λ m. cond (has_parent q.net u m && (t.parent m == d)) (charge q q.marked_open d) 0)) (charge q q.marked_open) (λ d l. at_device d l (cases_Bool (q.marked_open d))) in
      omega arith
    where
      cond_same : (b : Bool) (x y : ℕ) → (b ≡ true → x ≡ y) → cond b x 0 ≡ cond b y 0
      cond_same true x y h = h refl
      cond_same false x y h = refl

      twice : (b : Bool) (x : ℕ) → cond b (cond b x 0) 0 ≡ cond b x 0
      twice true x = refl
      twice false x = refl

      at_device : (d : ℕ) → d < p.devices → ((part_of p t r).marked_open d ≡ true) ⊎ ((part_of p t r).marked_open d ≡ false) → total p.nodes (λ m. cond (has_parent (part_of p t r).net (part_table p t r) m && (t.parent m == d)) (charge (part_of p t r) (part_of p t r).marked_open d) 0) ≡ charge (part_of p t r) (part_of p t r).marked_open d
      at_device d l (inr o) =
          let none : charge (part_of p t r) (part_of p t r).marked_open d ≡ 0 = ap (λ b. cond b (p.weight d) 0) o in
          total_zero p.nodes (λ m. cond (has_parent (part_of p t r).net (part_table p t r) m && (t.parent m == d)) (charge (part_of p t r) (part_of p t r).marked_open d) 0) (λ m lm. ap (λ x. cond (has_parent (part_of p t r).net (part_table p t r) m && (t.parent m == d)) x 0) none ∙ cond_zero (has_parent (part_of p t r).net (part_table p t r) m && (t.parent m == d)))
          ∙ sym none
      at_device d l (inl o) =
          let sound' = part_sound p t sound forest r lr root_listed in
          let forest' = part_forest p t sound forest r lr root_listed in
          ⊎_elim
          (λ s. let here = and_from (has_parent (part_of p t r).net (part_table p t r) s.0) (t.parent s.0 == d) s.2 (eq-eqb (t.parent s.0) d s.3) in
          total_one p.nodes (λ m. cond (has_parent (part_of p t r).net (part_table p t r) m && (t.parent m == d)) (charge (part_of p t r) (part_of p t r).marked_open d) 0) s.0 s.1
          (λ k lk ne. ap (λ b. cond b (charge (part_of p t r) (part_of p t r).marked_open d) 0) (false_from_ne_true (has_parent (part_of p t r).net (part_table p t r) k && (t.parent k == d)) (λ b. ne (same_child (part_of p t r) (part_table p t r) (λ e. false) sound' forest' k s.0 d lk s.1 b here))))
          ∙ ap (λ b. cond b (charge (part_of p t r) (part_of p t r).marked_open d) 0) here)
          (λ v. let i = and_parts (is_inside p.net t r d) (p.marked_open d) o in
          let j = and_parts (p.is_closed d) (in_part p.net t r (p.from d) && in_part p.net t r (p.to d)) i.0 in
          absurd (false≢true (sym v.0 ∙ (and_parts (in_part p.net t r (p.from d)) (in_part p.net t r (p.to d)) j.1).0)))
          (forest'.stray d l (and_parts (is_inside p.net t r d) (p.marked_open d) o).0)
