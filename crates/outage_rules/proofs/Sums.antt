-- Laws of sums over the numbers below a bound.
use Rattle.std.proofs.Common.{◌≡◌, ◌≢◌, ℕ, zero, suc, ◌+◌, ◌*◌, ◌<◌, ◌≤◌, Bool, true, false, cond, refl, sym, ap, ◌∙◌, subst, inl, inr, ⊎_elim, arith}
use Rattle.std.specs.Prelude.{◌==◌, nat_le, ◌⊎◌}
use Rattle.std.proofs.lemmas.Bool.{cases_lt, cases_eq, cases_order, le-leb, lt-leb, leb-true, eq-eqb, ne_eqb, cases_Bool, or_cases, or_right, or_left, false≢true}
use Rattle.outage_rules.specs.Sum.{total, total_from, some_below}

pub total_same : (n : ℕ) (f g : ℕ → ℕ) → ((k : ℕ) → k < n → f k ≡ g k) → total n f ≡ total n g
total_same zero f g h = refl
total_same (suc n) f g h =
    let rest = total_same n f g (λ k l. h k (omega arith)) in
    let here = h n (omega arith) in omega arith

pub total_le : (n : ℕ) (f g : ℕ → ℕ) → ((k : ℕ) → k < n → f k ≤ g k) → total n f ≤ total n g
total_le zero f g h = omega arith
total_le (suc n) f g h =
    let rest = total_le n f g (λ k l. h k (omega arith)) in
    let here = h n (omega arith) in omega arith

pub total_zero : (n : ℕ) (f : ℕ → ℕ) → ((k : ℕ) → k < n → f k ≡ 0) → total n f ≡ 0
total_zero zero f h = refl
total_zero (suc n) f h =
    let rest = total_zero n f (λ k l. h k (omega arith)) in
    let here = h n (omega arith) in omega arith

pub total_add : (n : ℕ) (f g : ℕ → ℕ) → total n (λ k. f k + g k) ≡ total n f + total n g
total_add zero f g = refl
total_add (suc n) f g = let rest = total_add n f g in omega arith

-- a sum of sums, in either order
pub total_swap : (n m : ℕ) (f : ℕ → ℕ → ℕ) → total n (λ i. total m (λ j. f i j)) ≡ total m (λ j. total n (λ i. f i j))
total_swap zero m f = sym (total_zero m (λ j. 0) (λ k l. refl))
total_swap (suc n) m f =
    let rest = total_swap n m f in
    let both = total_add m (λ j. total n (λ i. f i j)) (λ j. f n j) in omega arith

-- only one term counts
pub total_one : (n : ℕ) (f : ℕ → ℕ) (j : ℕ) → j < n → ((k : ℕ) → k < n → k ≢ j → f k ≡ 0) → total n f ≡ f j
total_one zero f j l h = absurd (omega arith)
total_one (suc n) f j l h =
    ⊎_elim
    (λ e. let e' : n ≡ j = e in
    let rest = total_zero n f (λ k m. h k (omega arith) (omega arith)) in
    let here = ap f e' in omega arith)
    (λ ne. let ne' : n ≢ j = ne in
    let rest = total_one n f j (omega arith) (λ k m d. h k (omega arith) d) in
    let here = h n (omega arith) ne in omega arith)
    (cases_eq n j)

-- at most one term counts
pub total_at_most_one : (n : ℕ) (test : ℕ → Bool) (b : ℕ) → ((i j : ℕ) → i < n → j < n → test i ≡ true → test j ≡ true → i ≡ j) → total n (λ k. cond (test k) b 0) ≤ b
total_at_most_one zero test b h = omega arith
total_at_most_one (suc n) test b h =
    ⊎_elim
    (λ t. let none = total_zero n (λ k. cond (test k) b 0) (λ k l. not_there k l t) in
    let here = ap (λ x. cond x b 0) t in omega arith)
    (λ t. let rest = total_at_most_one n test b (λ i j l m. h i j (omega arith) (omega arith)) in
    let here = ap (λ x. cond x b 0) t in omega arith)
    (cases_Bool (test n))
  where
    not_there : (k : ℕ) → k < n → test n ≡ true → cond (test k) b 0 ≡ 0
    not_there k l t =
        ⊎_elim
        (λ u. absurd (let e = h k n (omega arith) (omega arith) u t in omega arith))
        (λ u. ap (λ x. cond x b 0) u)
        (cases_Bool (test k))

pub some_below_at : (n : ℕ) (test : ℕ → Bool) (k : ℕ) → k < n → test k ≡ true → some_below n test ≡ true
some_below_at zero test k l t = absurd (omega arith)
some_below_at (suc n) test k l t =
    ⊎_elim
    (λ e. or_right (some_below n test) (test n) (ap test e ∙ t))
    (λ ne. or_left (some_below n test) (test n) (some_below_at n test k (let ne' : n ≢ k = ne in omega arith) t))
    (cases_eq n k)

pub some_below_true : (n : ℕ) (test : ℕ → Bool) → some_below n test ≡ true → (k : ℕ) × (k < n) × (test k ≡ true)
some_below_true zero test t = absurd (false≢true t)
some_below_true (suc n) test t =
    ⊎_elim
    (λ a. let r = some_below_true n test a in (r.0, omega (arith, r.1), r.2))
    (λ a. (n, omega arith, a))
    (or_cases (some_below n test) (test n) t)

-- a sum of larger terms, one of them larger by one or more
pub total_lt : (n : ℕ) (f g : ℕ → ℕ) (j : ℕ) → j < n → ((k : ℕ) → k < n → f k ≤ g k) → f j < g j → total n f < total n g
total_lt zero f g j l h s = absurd (omega arith)
total_lt (suc n) f g j l h s =
    ⊎_elim
    (λ e. let rest = total_le n f g (λ k m. h k (omega arith)) in
    let here = subst (λ x. f x < g x) (sym e) s in omega arith)
    (λ ne. let ne' : n ≢ j = ne in
    let rest = total_lt n f g j (omega arith) (λ k m. h k (omega arith)) s in
    let here = h n (omega arith) in omega arith)
    (cases_eq n j)

pub total_ones : (n : ℕ) → total n (λ k. 1) ≡ n
total_ones zero = refl
total_ones (suc n) = let rest = total_ones n in omega arith

-- where the sums are equal, so are the terms
pub total_le_same : (n : ℕ) (f g : ℕ → ℕ) → ((k : ℕ) → k < n → f k ≤ g k) → total n f ≡ total n g → (k : ℕ) → k < n → f k ≡ g k
total_le_same n f g h e k l =
    ⊎_elim
    (λ a. let lt = total_lt n f g k l h a in absurd (omega arith))
    (λ a. let b = h k l in omega arith)
    (cases_lt (f k) (g k))

-- the terms from i on
pub total_from_all : (n : ℕ) (f : ℕ → ℕ) → total_from 0 n f ≡ total n f
total_from_all n f = total_same n (λ k. cond (nat_le 0 k) (f k) 0) f (λ k l. ap (λ b. cond b (f k) 0) (le-leb 0 k (omega arith)))

pub total_from_none : (n : ℕ) (f : ℕ → ℕ) → total_from n n f ≡ 0
total_from_none n f = total_zero n (λ k. cond (nat_le n k) (f k) 0) (λ k l. ap (λ b. cond b (f k) 0) (lt-leb n k l))

pub total_from_same : (i n : ℕ) (f g : ℕ → ℕ) → ((k : ℕ) → i ≤ k → k < n → f k ≡ g k) → total_from i n f ≡ total_from i n g
total_from_same i n f g h =
    total_same n (λ k. cond (nat_le i k) (f k) 0) (λ k. cond (nat_le i k) (g k) 0) (λ k l. at (nat_le i k) k l (leb-true i k))
  where
    at : (b : Bool) (k : ℕ) → k < n → (b ≡ true → i ≤ k) → cond b (f k) 0 ≡ cond b (g k) 0
    at true k l le = h k (le refl) l
    at false k l le = refl

pub total_from_more : (i n : ℕ) (f : ℕ → ℕ) → i < n → total_from i n f ≡ f i + total_from (suc i) n f
total_from_more i n f l =
    let parts = total_same n (λ k. cond (nat_le i k) (f k) 0) (λ k. cond (k == i) (f k) 0 + cond (nat_le (suc i) k) (f k) 0) (λ k m. split k (cases_order k i)) in
    let sums = total_add n (λ k. cond (k == i) (f k) 0) (λ k. cond (nat_le (suc i) k) (f k) 0) in
    let one = total_one n (λ k. cond (k == i) (f k) 0) i l (λ k m ne. ap (λ b. cond b (f k) 0) (ne_eqb k i ne)) in
    let here = ap (λ b. cond b (f i) 0) (eq-eqb i i refl) in
    omega arith
  where
    split : (k : ℕ) → (k ≡ i) ⊎ ((k < i) ⊎ (i < k)) → cond (nat_le i k) (f k) 0 ≡ cond (k == i) (f k) 0 + cond (nat_le (suc i) k) (f k) 0
    split k (inl e) =
        let a = ap (λ b. cond b (f k) 0) (le-leb i k (omega arith)) in
        let b = ap (λ b. cond b (f k) 0) (eq-eqb k i e) in
        let c = ap (λ b. cond b (f k) 0) (lt-leb (suc i) k (omega arith)) in omega arith
    split k (inr (inl x)) =
        let a = ap (λ b. cond b (f k) 0) (lt-leb i k x) in
        let b = ap (λ b. cond b (f k) 0) (ne_eqb k i (λ e. absurd (omega arith))) in
        let c = ap (λ b. cond b (f k) 0) (lt-leb (suc i) k (omega arith)) in omega arith
    split k (inr (inr x)) =
        let a = ap (λ b. cond b (f k) 0) (le-leb i k (omega arith)) in
        let b = ap (λ b. cond b (f k) 0) (ne_eqb k i (λ e. absurd (omega arith))) in
        let c = ap (λ b. cond b (f k) 0) (le-leb (suc i) k x) in omega arith

pub total_le_times : (n : ℕ) (f : ℕ → ℕ) (b : ℕ) → ((k : ℕ) → k < n → f k ≤ b) → total n f ≤ n * b
total_le_times zero f b h = omega arith
total_le_times (suc n) f b h =
    let rest = total_le_times n f b (λ k l. h k (omega arith)) in
    let here = h n (omega arith) in omega arith

-- a part of the sum is at most the whole
pub total_le_more : (m n : ℕ) (f : ℕ → ℕ) → m ≤ n → total m f ≤ total n f
total_le_more m zero f l = subst (λ k. total k f ≤ 0) (let e : 0 ≡ m = omega arith in e) (let z : 0 ≤ 0 = omega arith in z)
total_le_more m (suc n) f l =
    ⊎_elim
    (λ a. subst (λ k. total k f ≤ total n f + f n) (let e : suc n ≡ m = omega arith in e) (let z : total n f + f n ≤ total n f + f n = omega arith in z))
    (λ a. let rest = total_le_more m n f a in omega arith)
    (cases_lt n m)
