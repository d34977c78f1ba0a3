-- The last digit of a decimal.
use Rattle.std.proofs.Common.{◌≡◌, ◌+◌, ◌/◌, ◌%◌, ◌^◌, ◌<◌, ◌≤◌, ℕ, List, [], ◌∷◌, ◌++◌, ap, sym, ◌∙◌, append_assoc, arith}
use Rattle.std.specs.Prelude.{decimal}
use Rattle.std.proofs.lemmas.Fmt.{decimal_digit, decimal_step, decimal_step_wide}

-- the only digit
pub decimal-first : (n : ℕ) (text out : List ℕ) → n < 10 → text ≡ out → text ++ (48 + n % 10) ∷ [] ≡ out ++ decimal n
decimal-first n text out h e =
    let same : n % 10 ≡ n = omega arith in
    rw (e, same, decimal_digit n h)

-- one more digit
pub decimal-next : (n : ℕ) (text out : List ℕ) → 10 ≤ n → n < 2 ^ 64 → text ≡ out ++ decimal (n / 10) → text ++ (48 + n % 10) ∷ [] ≡ out ++ decimal n
decimal-next n text out h small e =
    ap (λ z. z ++ (48 + n % 10) ∷ []) e ∙ append_assoc out (decimal (n / 10)) ((48 + n % 10) ∷ []) ∙ ap (λ z. out ++ z) (sym (decimal_step n h small))

-- one more digit of a number of up to 128 bits
pub decimal-next_wide : (n : ℕ) (text out : List ℕ) → 10 ≤ n → n < 2 ^ 128 → text ≡ out ++ decimal (n / 10) → text ++ (48 + n % 10) ∷ [] ≡ out ++ decimal n
decimal-next_wide n text out h small e =
    let range : n < 10 ^ 64 = omega arith in
    ap (λ z. z ++ (48 + n % 10) ∷ []) e ∙ append_assoc out (decimal (n / 10)) ((48 + n % 10) ∷ []) ∙ ap (λ z. out ++ z) (sym (decimal_step_wide n h range))
