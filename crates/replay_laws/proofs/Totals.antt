-- Laws of sums over the numbers below a bound.
use Rattle.std.proofs.Common.{◌≡◌, ℕ, zero, suc, ◌+◌, ◌*◌, ◌<◌, ◌≤◌, cond, refl, sym, ap, ⊎_elim, arith}
use Rattle.std.specs.Prelude.{◌==◌, if◌then◌else◌}
use Rattle.std.proofs.lemmas.Bool.{cases_eq, eq-eqb, ne_eqb}
use Rattle.outage_rules.specs.Sum.{total}

pub total_same : (n : ℕ) (f g : ℕ → ℕ) → ((k : ℕ) → k < n → f k ≡ g k) → total n f ≡ total n g
total_same zero f g h = refl
total_same (suc n) f g h =
    let rest = total_same n f g (λ k l. h k (omega arith)) in
    let here = h n (omega arith) in omega arith

pub total_zero : (n : ℕ) (f : ℕ → ℕ) → ((k : ℕ) → k < n → f k ≡ 0) → total n f ≡ 0
total_zero zero f h = refl
total_zero (suc n) f h =
    let rest = total_zero n f (λ k l. h k (omega arith)) in
    let here = h n (omega arith) in omega arith

pub total_add : (n : ℕ) (f g : ℕ → ℕ) → total n (λ k. f k + g k) ≡ total n f + total n g
total_add zero f g = refl
total_add (suc n) f g = let rest = total_add n f g in omega arith

-- a sum of sums, in either order
pub total_swap : (n m : ℕ) (f : ℕ → ℕ → ℕ) → total n (λ i. total m (λ j. f i j)) ≡ total m (λ j. total n (λ i. f i j))
total_swap zero m f = sym (total_zero m (λ j. 0) (λ k l. refl))
total_swap (suc n) m f =
    let rest = total_swap n m f in
    let both = total_add m (λ j. total n (λ i. f i j)) (λ j. f n j) in omega arith

-- every term is at most b
pub total_le_times : (n : ℕ) (f : ℕ → ℕ) (b : ℕ) → ((k : ℕ) → k < n → f k ≤ b) → total n f ≤ n * b
total_le_times zero f b h = omega arith
total_le_times (suc n) f b h =
    let rest = total_le_times n f b (λ k l. h k (omega arith)) in
    let here = h n (omega arith) in omega arith

-- a number counted at one place is counted once at most
pub total_at_place : (n a x : ℕ) → total n (λ k. if a == k then x else 0) ≤ x
total_at_place zero a x = omega arith
total_at_place (suc n) a x =
    ⊎_elim
    (λ e. let none = total_zero n (λ k. cond (a == k) x 0) (λ k l. ap (λ b. cond b x 0) (ne_eqb a k (λ s. let e' : a ≡ n = e in omega arith))) in
    let here = ap (λ b. cond b x 0) (eq-eqb a n e) in omega arith)
    (λ ne. let rest = total_at_place n a x in
    let here = ap (λ b. cond b x 0) (ne_eqb a n ne) in omega arith)
    (cases_eq a n)
