-- Sums of which one term changes.
use Rattle.std.proofs.Common.{◌≡◌, ◌≢◌, ℕ, zero, suc, ◌+◌, ◌<◌, Bool, true, false, cond, refl, ap, ⊎_elim, arith}
use Rattle.std.proofs.lemmas.Bool.{cases_eq}
use Rattle.outage_rules.specs.Sum.{total}
use Rattle.outage_rules.proofs.Sums.{total_same}

pub total_moved : (n : ℕ) (f f' : ℕ → ℕ) (c : ℕ) → c < n → ((k : ℕ) → k < n → k ≢ c → f k ≡ f' k) → total n f' + f c ≡ total n f + f' c
total_moved zero f f' c l h = absurd (omega arith)
total_moved (suc n) f f' c l h =
    ⊎_elim
    (λ e. let e' : n ≡ c = e in
    let rest = total_same n f f' (λ k m. h k (omega arith) (λ s. absurd (omega arith))) in
    let old = ap f e' in
    let new = ap f' e' in omega arith)
    (λ ne. let ne' : n ≢ c = ne in
    let rest = total_moved n f f' c (omega arith) (λ k m d. h k (omega arith) d) in
    let here = h n (omega arith) ne in omega arith)
    (cases_eq n c)

-- the same of a sum over those that pass a test
pub some_moved : (n : ℕ) (test : ℕ → Bool) (f f' : ℕ → ℕ) (c : ℕ) → c < n → ((k : ℕ) → k < n → k ≢ c → test k ≡ true → f k ≡ f' k)
    → total n (λ k. cond (test k) (f' k) 0) + cond (test c) (f c) 0 ≡ total n (λ k. cond (test k) (f k) 0) + cond (test c) (f' c) 0
some_moved n test f f' c l h = total_moved n (λ k. cond (test k) (f k) 0) (λ k. cond (test k) (f' k) 0) c l (λ k m d. at (test k) (f k) (f' k) (h k m d))
  where
    at : (b : Bool) (x y : ℕ) → (b ≡ true → x ≡ y) → cond b x 0 ≡ cond b y 0
    at true x y e = e refl
    at false x y e = refl
