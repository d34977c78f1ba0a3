-- The first number below a bound that passes a test.
use Rattle.std.proofs.Common.{◌≡◌, ℕ, zero, suc, ◌<◌, Bool, true, false, refl, sym, ap, ◌∙◌, inl, inr, ⊎_elim, arith}
use Rattle.std.specs.Prelude.{◌⊎◌, Option, Some, None}
use Rattle.std.proofs.lemmas.Bool.{cases_lt}
use Rattle.std.proofs.lemmas.Option.{same_Some}
use Rattle.outage_rules.specs.Loops.{or_here, first_below}

-- none passes
pub none_below : (n : ℕ) (test : ℕ → Bool) → ((k : ℕ) → k < n → test k ≡ false) → first_below n test ≡ None
none_below zero test h = refl
none_below (suc n) test h =
    ap (λ o. or_here o (test n) n) (none_below n test (λ k l. h k (omega arith))) ∙ ap (λ b. or_here None b n) (h n (omega arith))

-- this one passes and none before it
pub first_at : (n k : ℕ) (test : ℕ → Bool) → k < n → test k ≡ true → ((j : ℕ) → j < k → test j ≡ false) → first_below n test ≡ Some k
first_at zero k test l e h = absurd (omega arith)
first_at (suc n) k test l e h =
    ⊎_elim
    (λ less. ap (λ o. or_here o (test n) n) (first_at n k test less e h))
    (λ more. let same : n ≡ k = omega arith in
    ap (λ o. or_here o (test n) n) (none_below n test (λ j m. h j (omega arith))) ∙ ap (λ b. or_here None b n) (ap test same ∙ e) ∙ ap Some same)
    (cases_lt k n)

here_none : (o : Option ℕ) (b : Bool) (n : ℕ) → or_here o b n ≡ None → (o ≡ None) × (b ≡ false)
here_none (Some k) b n e = absurd (let x : ⊥ = cc in x)
here_none None true n e = absurd (let x : ⊥ = cc in x)
here_none None false n e = (refl, refl)

-- where there is no first one, none passes
pub fails_below : (n : ℕ) (test : ℕ → Bool) → first_below n test ≡ None → (k : ℕ) → k < n → test k ≡ false
fails_below zero test e k l = absurd (omega arith)
fails_below (suc n) test e k l =
    let both = here_none (first_below n test) (test n) n e in
    ⊎_elim
    (λ less. fails_below n test both.0 k less)
    (λ more. let same : k ≡ n = omega arith in ap test same ∙ both.1)
    (cases_lt k n)

here_some : (o : Option ℕ) (b : Bool) (n k : ℕ) → or_here o b n ≡ Some k → (o ≡ Some k) ⊎ ((o ≡ None) × (b ≡ true) × (n ≡ k))
here_some (Some j) b n k e = inl e
here_some None true n k e = inr (refl, refl, same_Some n k e)
here_some None false n k e = absurd (let x : ⊥ = cc in x)

-- the first one is below the bound and passes, and none before it does
pub first_is : (n k : ℕ) (test : ℕ → Bool) → first_below n test ≡ Some k → (k < n) × (test k ≡ true) × ((j : ℕ) → j < k → test j ≡ false)
first_is zero k test e = absurd (let x : ⊥ = cc in x)
first_is (suc n) k test e =
    ⊎_elim
    (λ old. let f = first_is n k test old in let l = f.0 in (omega arith, f.1, f.2))
    (λ new. let same = new.2 in (omega arith, ap test (sym same) ∙ new.1, λ j l. fails_below n test new.0 j (omega arith)))
    (here_some (first_below n test) (test n) n k e)
