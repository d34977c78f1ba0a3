-- Sums over an order that has each node once.
use Rattle.std.proofs.Common.{◌≡◌, ◌≢◌, ℕ, ◌<◌, cond, refl, sym, ap, ◌∙◌, ⊎_elim}
use Rattle.std.specs.Prelude.{◌==◌}
use Rattle.std.proofs.lemmas.Bool.{cases_order, eq-eqb, ne_eqb}
use Rattle.outage_rules.specs.Sum.{total}
use Rattle.outage_rules.proofs.Sums.{total_same, total_one, total_swap, total_ones}

-- each of the first numbers is the node of one place
pub record IsPlaced (nodes count : ℕ) (node : ℕ → ℕ) : Type 0 where
  pub within : (k : ℕ) → k < count → node k < nodes
  pub once : (j k : ℕ) → j < k → k < count → node j ≢ node k
  pub all : (n : ℕ) → n < nodes → (k : ℕ) × (k < count) × (node k ≡ n)

module _ (nodes count : ℕ) (node : ℕ → ℕ) (placed : IsPlaced nodes count node) where
  -- a node stands at one place
  pub same_place : (j k : ℕ) → j < count → k < count → node j ≡ node k → j ≡ k
  same_place j k lj lk e =
      ⊎_elim
      (λ s. s)
      (λ s. ⊎_elim
      (λ l. absurd (placed.once j k l lk e))
      (λ l. absurd (placed.once k j l lj (sym e)))
      s)
      (cases_order j k)

  -- a sum over the places is a sum over the nodes
  pub by_places : (f : ℕ → ℕ) → total count (λ j. f (node j)) ≡ total nodes f
  by_places f =
      total_same count (λ j. f (node j)) (λ j. total nodes (λ m. cond (node j == m) (f m) 0)) (λ j l. sym (one j l))
      ∙ total_swap count nodes (λ j m. cond (node j == m) (f m) 0)
      ∙ total_same nodes (λ m. total count (λ j. cond (node j == m) (f m) 0)) f here
    where
      one : (j : ℕ) → j < count → total nodes (λ m. cond (node j == m) (f m) 0) ≡ f (node j)
      one j l =
          total_one nodes (λ m. cond (node j == m) (f m) 0) (node j) (placed.within j l) (λ m lm ne. ap (λ b. cond b (f m) 0) (ne_eqb (node j) m (λ e. ne (sym e))))
          ∙ ap (λ b. cond b (f (node j)) 0) (eq-eqb (node j) (node j) refl)

      at_place : (k m : ℕ) → k < count → node k ≡ m → total count (λ j. cond (node j == m) (f m) 0) ≡ f m
      at_place k m l e =
          total_one count (λ j. cond (node j == m) (f m) 0) k l (λ j lj ne. ap (λ b. cond b (f m) 0) (ne_eqb (node j) m (λ s. ne (same_place j k lj l (s ∙ sym e)))))
          ∙ ap (λ b. cond b (f m) 0) (eq-eqb (node k) m e)

      here : (m : ℕ) → m < nodes → total count (λ j. cond (node j == m) (f m) 0) ≡ f m
      here m l = let a = placed.all m l in at_place a.0 m a.1 a.2

  -- there are as many places as nodes
  pub as_many : count ≡ nodes
  as_many = sym (total_ones count) ∙ by_places (λ m. 1) ∙ total_ones nodes
