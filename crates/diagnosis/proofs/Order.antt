-- Sums over an order that has each fed node once.
use Rattle.std.proofs.Common.{◌≡◌, ℕ, ◌<◌, ◌≤◌, Bool, true, false, cond, refl, sym, ap, ◌∙◌, ⊎_elim, arith, length}
use Rattle.std.specs.Prelude.{◌==◌}
use Rattle.std.proofs.lemmas.Bool.{cases_Bool, cases_order, eq-eqb, ne_eqb}
use Rattle.outage_rules.specs.Sum.{total}
use Rattle.outage_rules.specs.Network.{Network}
use Rattle.outage_rules.proofs.Sums.{total_same, total_zero, total_one, total_swap, total_ones, total_le_times}
use Rattle.outage_rules.proofs.Balance.{cond_zero}
use Rattle.radial_forest.specs.Traversed.{Traversed, node_at, table_of, IsOrder}

module _ (g : Network) (v : Traversed) (order : IsOrder g v) where
  -- a node stands at one place
  pub same_place : (j k : ℕ) → j < length v.order → k < length v.order → node_at v.order j ≡ node_at v.order k → j ≡ k
  same_place j k lj lk e =
      ⊎_elim
      (λ s. s)
      (λ s. ⊎_elim
      (λ l. absurd (order.once j k l lk e))
      (λ l. absurd (order.once k j l lj (sym e)))
      s)
      (cases_order j k)

  -- a sum over the places is a sum over the nodes
  pub by_places : (f : ℕ → ℕ) → ((m : ℕ) → m < g.nodes → (table_of v).is_listed m ≡ false → f m ≡ 0)
      → total (length v.order) (λ j. f (node_at v.order j)) ≡ total g.nodes f
  by_places f none =
      total_same (length v.order) (λ j. f (node_at v.order j)) (λ j. total g.nodes (λ m. cond (node_at v.order j == m) (f m) 0)) (λ j l. sym (one j l))
      ∙ total_swap (length v.order) g.nodes (λ j m. cond (node_at v.order j == m) (f m) 0)
      ∙ total_same g.nodes (λ m. total (length v.order) (λ j. cond (node_at v.order j == m) (f m) 0)) f here
    where
      one : (j : ℕ) → j < length v.order → total g.nodes (λ m. cond (node_at v.order j == m) (f m) 0) ≡ f (node_at v.order j)
      one j l =
          total_one g.nodes (λ m. cond (node_at v.order j == m) (f m) 0) (node_at v.order j) (order.listed j l).0 (λ m lm ne. ap (λ b. cond b (f m) 0) (ne_eqb (node_at v.order j) m (λ e. ne (sym e))))
          ∙ ap (λ b. cond b (f (node_at v.order j)) 0) (eq-eqb (node_at v.order j) (node_at v.order j) refl)

      at_place : (k m : ℕ) → k < length v.order → node_at v.order k ≡ m → total (length v.order) (λ j. cond (node_at v.order j == m) (f m) 0) ≡ f m
      at_place k m l e =
          total_one (length v.order) (λ j. cond (node_at v.order j == m) (f m) 0) k l (λ j lj ne. ap (λ b. cond b (f m) 0) (ne_eqb (node_at v.order j) m (λ s. ne (same_place j k lj l (s ∙ sym e)))))
          ∙ ap (λ b. cond b (f m) 0) (eq-eqb (node_at v.order k) m e)

      here : (m : ℕ) → m < g.nodes → total (length v.order) (λ j. cond (node_at v.order j == m) (f m) 0) ≡ f m
      here m l =
          ⊎_elim
          (λ s. let a = order.all m l s in at_place a.0 m a.1 a.2)
          (λ s. total_zero (length v.order) (λ j. cond (node_at v.order j == m) (f m) 0) (λ j lj. ap (λ x. cond (node_at v.order j == m) x 0) (none m l s) ∙ cond_zero (node_at v.order j == m)) ∙ sym (none m l s))
          (cases_Bool ((table_of v).is_listed m))

  -- there are no more places than nodes
  pub few_places : length v.order ≤ g.nodes
  few_places =
      let each = by_places (λ m. cond ((table_of v).is_listed m) 1 0) (λ m l u. ap (λ b. cond b 1 0) u) in
      let ones = total_same (length v.order) (λ j. cond ((table_of v).is_listed (node_at v.order j)) 1 0) (λ j. 1) (λ j l. ap (λ b. cond b 1 0) (order.listed j l).1) in
      let all = total_ones (length v.order) in
      let most = total_le_times g.nodes (λ m. cond ((table_of v).is_listed m) 1 0) 1 (λ m l. at_most ((table_of v).is_listed m)) in
      omega arith
    where
      at_most : (b : Bool) → cond b 1 0 ≤ 1
      at_most true = omega arith
      at_most false = omega arith
