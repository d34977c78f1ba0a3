-- Rows that are added up from the last node of an order to the first: what each node adds to the row above it, and that no row grows large.
use Rattle.std.proofs.Common.{◌≡◌, ◌≢◌, ℕ, suc, ◌+◌, ◌<◌, ◌≤◌, Bool, true, false, cond, refl, sym, ap, ◌∙◌, subst, ⊎_elim, arith}
use Rattle.std.specs.Prelude.{◌==◌, ◌&&◌, nat_le}
use Rattle.std.proofs.lemmas.Bool.{cases_eq, eq-eqb, ne_eqb, eqb-true, leb-true, and_parts, and_right}
use Rattle.outage_rules.specs.Sum.{total, total_from}
use Rattle.outage_rules.proofs.Sums.{total_same, total_le, total_zero, total_add, total_swap, total_one, total_at_most_one, total_from_same, total_from_more}

-- one more place adds to the row of its upper node alone
pub row_more : (places i up : ℕ) (child : ℕ → ℕ → Bool) (base row next add added : ℕ → ℕ) → i < places
    → ((n : ℕ) → child n i ≡ (up == n))
    → ((n : ℕ) → n ≢ up → next n ≡ row n) → next up ≡ row up + added i
    → ((j : ℕ) → suc i ≤ j → j < places → added j ≡ add j)
    → (n : ℕ) → row n ≡ base n + total_from (suc i) places (λ j. cond (child n j) (add j) 0)
    → next n ≡ base n + total_from i places (λ j. cond (child n j) (added j) 0)
row_more places i up child base row next add added l is kept here same n before =
    let more = total_from_more i places (λ j. cond (child n j) (added j) 0) l in
    let rest = total_from_same (suc i) places (λ j. cond (child n j) (added j) 0) (λ j. cond (child n j) (add j) 0) (λ j le lj. ap (λ x. cond (child n j) x 0) (same j le lj)) in
    ⊎_elim
    (λ e. let now : next n ≡ row n + added i = subst (λ k. next k ≡ row k + added i) e here in
    let first = ap (λ b. cond b (added i) 0) (is n ∙ eq-eqb up n e) in omega arith)
    (λ ne. let now = kept n (λ e. ne (sym e)) in
    let first = ap (λ b. cond b (added i) 0) (is n ∙ ne_eqb up n ne) in omega arith)
    (cases_eq up n)

-- a place without an upper node adds nothing
pub row_same : (places i : ℕ) (child : ℕ → ℕ → Bool) (base row add : ℕ → ℕ) → i < places → (n : ℕ) → child n i ≡ false
    → row n ≡ base n + total_from (suc i) places (λ j. cond (child n j) (add j) 0)
    → row n ≡ base n + total_from i places (λ j. cond (child n j) (add j) 0)
row_same places i child base row add l n none before =
    let more = total_from_more i places (λ j. cond (child n j) (add j) 0) l in
    let first = ap (λ b. cond b (add i) 0) none in omega arith

pub total_from_le : (i n : ℕ) (f g : ℕ → ℕ) → ((k : ℕ) → i ≤ k → k < n → f k ≤ g k) → total_from i n f ≤ total_from i n g
total_from_le i n f g h =
    total_le n (λ k. cond (nat_le i k) (f k) 0) (λ k. cond (nat_le i k) (g k) 0) (λ k l. at (nat_le i k) k l (leb-true i k))
  where
    at : (b : Bool) (k : ℕ) → k < n → (b ≡ true → i ≤ k) → cond b (f k) 0 ≤ cond b (g k) 0
    at true k l le = h k (le refl) l
    at false k l le = omega arith

total_from_add : (i n : ℕ) (f g : ℕ → ℕ) → total_from i n (λ k. f k + g k) ≡ total_from i n f + total_from i n g
total_from_add i n f g =
    total_same n (λ k. cond (nat_le i k) (f k + g k) 0) (λ k. cond (nat_le i k) (f k) 0 + cond (nat_le i k) (g k) 0) (λ k l. at (nat_le i k) (f k) (g k))
    ∙ total_add n (λ k. cond (nat_le i k) (f k) 0) (λ k. cond (nat_le i k) (g k) 0)
  where
    at : (b : Bool) (x y : ℕ) → cond b (x + y) 0 ≡ cond b x 0 + cond b y 0
    at true x y = refl
    at false x y = refl

-- rows of nodes that each stand at one place at most
module _ (nodes places i : ℕ) (node : ℕ → ℕ) (child : ℕ → ℕ → Bool) (row : ℕ → ℕ)
    (within : (j : ℕ) → j < places → node j < nodes) (apart : (j k : ℕ) → j < places → k < places → node j ≡ node k → j ≡ k)
    (alone : (m n j : ℕ) → child m j ≡ true → child n j ≡ true → m ≡ n) where
  -- the rows at the places from i on, and the row of a node that stands at none of these
  rows_below : (f : ℕ) → f < nodes → ((j : ℕ) → i ≤ j → j < places → node j ≢ f) → total_from i places (λ j. row (node j)) + row f ≤ total nodes row
  rows_below f lf free =
      let spread = total_same places (λ j. cond (nat_le i j) (row (node j)) 0) (λ j. total nodes (λ n. cond (nat_le i j && (node j == n)) (row n) 0)) (λ j l. sym (one j l)) in
      let swapped = total_swap places nodes (λ j n. cond (nat_le i j && (node j == n)) (row n) 0) in
      let own = total_one nodes (λ n. cond (n == f) (row n) 0) f lf (λ k lk ne. ap (λ b. cond b (row k) 0) (ne_eqb k f ne)) in
      let own_is = ap (λ b. cond b (row f) 0) (eq-eqb f f refl) in
      let both = total_add nodes (λ n. total places (λ j. cond (nat_le i j && (node j == n)) (row n) 0)) (λ n. cond (n == f) (row n) 0) in
      let each = total_le nodes (λ n. total places (λ j. cond (nat_le i j && (node j == n)) (row n) 0) + cond (n == f) (row n) 0) row (λ n l. at n) in
      omega arith
    where
      and_is : (b c : Bool) (x : ℕ) → c ≡ true → cond (b && c) x 0 ≡ cond b x 0
      and_is true c x e = ap (λ v. cond v x 0) e
      and_is false c x e = refl

      one : (j : ℕ) → j < places → total nodes (λ n. cond (nat_le i j && (node j == n)) (row n) 0) ≡ cond (nat_le i j) (row (node j)) 0
      one j l =
          total_one nodes (λ n. cond (nat_le i j && (node j == n)) (row n) 0) (node j) (within j l)
          (λ k lk ne. ap (λ b. cond b (row k) 0) (and_right (nat_le i j) (node j == k) (ne_eqb (node j) k (λ e. ne (sym e)))))
          ∙ and_is (nat_le i j) (node j == node j) (row (node j)) (eq-eqb (node j) (node j) refl)

      none : (n : ℕ) → n ≡ f → total places (λ j. cond (nat_le i j && (node j == n)) (row n) 0) ≡ 0
      none n e = total_zero places (λ j. cond (nat_le i j && (node j == n)) (row n) 0) (λ j l. zero_at j l (nat_le i j) (leb-true i j))
        where
          zero_at : (j : ℕ) → j < places → (b : Bool) → (b ≡ true → i ≤ j) → cond (b && (node j == n)) (row n) 0 ≡ 0
          zero_at j l true le = ap (λ v. cond v (row n) 0) (ne_eqb (node j) n (λ s. free j (le refl) l (s ∙ e)))
          zero_at j l false le = refl

      at : (n : ℕ) → total places (λ j. cond (nat_le i j && (node j == n)) (row n) 0) + cond (n == f) (row n) 0 ≤ row n
      at n =
          ⊎_elim
          (λ e. let zero = none n e in let here = ap (λ b. cond b (row n) 0) (eq-eqb n f e) in omega arith)
          (λ ne. let most = total_at_most_one places (λ j. nat_le i j && (node j == n)) (row n)
          (λ j k lj lk tj tk. apart j k lj lk (eqb-true (node j) n (and_parts (nat_le i j) (node j == n) tj).1 ∙ sym (eqb-true (node k) n (and_parts (nat_le i k) (node k == n) tk).1))) in
          let here = ap (λ b. cond b (row n) 0) (ne_eqb n f ne) in omega arith)
          (cases_eq n f)

  -- such a row is at most all that may have been added
  pub row_at_most : (base weight : ℕ → ℕ) (f : ℕ) → f < nodes → ((j : ℕ) → i ≤ j → j < places → node j ≢ f)
      → ((n : ℕ) → n < nodes → row n ≤ base n + total_from i places (λ j. cond (child n j) (weight j + row (node j)) 0))
      → row f ≤ total nodes base + total_from i places weight
  row_at_most base weight f lf free most =
      let below = rows_below f lf free in
      let each = total_le nodes row (λ n. base n + total_from i places (λ j. cond (child n j) (weight j + row (node j)) 0)) most in
      let split = total_add nodes base (λ n. total_from i places (λ j. cond (child n j) (weight j + row (node j)) 0)) in
      let swapped = total_swap nodes places (λ n j. cond (nat_le i j) (cond (child n j) (weight j + row (node j)) 0) 0) in
      let once = total_le places (λ j. total nodes (λ n. cond (nat_le i j) (cond (child n j) (weight j + row (node j)) 0) 0)) (λ j. cond (nat_le i j) (weight j + row (node j)) 0) (λ j l. at (nat_le i j) j) in
      let apart_sums = total_from_add i places weight (λ j. row (node j)) in
      omega arith
    where
      at : (b : Bool) (j : ℕ) → total nodes (λ n. cond b (cond (child n j) (weight j + row (node j)) 0) 0) ≤ cond b (weight j + row (node j)) 0
      at true j = total_at_most_one nodes (λ n. child n j) (weight j + row (node j)) (λ m n lm ln cm cn. alone m n j cm cn)
      at false j = let z = total_zero nodes (λ n. 0) (λ n l. refl) in omega arith
