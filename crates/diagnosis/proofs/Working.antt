-- The steps that nodes take: over a list of nodes that flipped, and over all nodes that flip.
use Rattle.std.proofs.Common.{◌≡◌, ◌≢◌, ℕ, ◌+◌, ◌<◌, ◌≤◌, Bool, true, cond, refl, sym, ap, ◌∙◌, ⊎_elim, arith, add-one}
use Rattle.std.specs.Prelude.{◌==◌}
use Rattle.std.proofs.lemmas.Bool.{cases_Bool, cases_order, eq-eqb, ne_eqb, eqb-true, false≢true}
use Rattle.outage_rules.specs.Sum.{total}
use Rattle.outage_rules.proofs.Sums.{total_same, total_le, total_zero, total_one, total_swap, total_at_most_one}

pub total_more : (n : ℕ) (f : ℕ → ℕ) → total (n + 1) f ≡ total n f + f n
total_more n f = ap (λ k. total k f) (add-one n)

-- a sum over the places of numbers that pass a test, none of them twice, is at most the sum over all that pass
pub listed_total : (count bound : ℕ) (number f : ℕ → ℕ) (passes : ℕ → Bool) → ((i : ℕ) → i < count → number i < bound) → ((i : ℕ) → i < count → passes (number i) ≡ true)
    → ((i j : ℕ) → i < j → j < count → number i ≢ number j) → total count (λ i. f (number i)) ≤ total bound (λ n. cond (passes n) (f n) 0)
listed_total count bound number f passes within each once =
    let swapped = total_same count (λ i. f (number i)) (λ i. total bound (λ m. cond (number i == m) (f m) 0)) (λ i l. sym (one i l))
    ∙ total_swap count bound (λ i m. cond (number i == m) (f m) 0) in
    let less = total_le bound (λ m. total count (λ i. cond (number i == m) (f m) 0)) (λ m. cond (passes m) (f m) 0) (λ m l. at m) in
    omega arith
  where
    one : (i : ℕ) → i < count → total bound (λ m. cond (number i == m) (f m) 0) ≡ f (number i)
    one i l =
        total_one bound (λ m. cond (number i == m) (f m) 0) (number i) (within i l) (λ m lm ne. ap (λ b. cond b (f m) 0) (ne_eqb (number i) m (λ e. ne (sym e))))
        ∙ ap (λ b. cond b (f (number i)) 0) (eq-eqb (number i) (number i) refl)

    same : (m i j : ℕ) → i < count → j < count → (number i == m) ≡ true → (number j == m) ≡ true → i ≡ j
    same m i j li lj a b =
        ⊎_elim
        (λ e. e)
        (λ s. ⊎_elim
        (λ l. absurd (once i j l lj (eqb-true (number i) m a ∙ sym (eqb-true (number j) m b))))
        (λ l. absurd (once j i l li (eqb-true (number j) m b ∙ sym (eqb-true (number i) m a))))
        s)
        (cases_order i j)

    at : (m : ℕ) → total count (λ i. cond (number i == m) (f m) 0) ≤ cond (passes m) (f m) 0
    at m =
        ⊎_elim
        (λ t. let most = total_at_most_one count (λ i. number i == m) (f m) (same m) in
        let is = ap (λ b. cond b (f m) 0) t in omega arith)
        (λ n. let none = total_zero count (λ i. cond (number i == m) (f m) 0) (λ i l. ap (λ b. cond b (f m) 0) (ne_eqb (number i) m (λ e. false≢true (sym n ∙ ap passes (sym e) ∙ each i l)))) in
        omega arith)
        (cases_Bool (passes m))
