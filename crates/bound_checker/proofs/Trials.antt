-- The first of several conditions that fails.
use Rattle.std.proofs.Common.{◌≡◌, ℕ, Bool, true, false, List, [], ◌∷◌, ◌++◌, refl, ap, ◌∙◌}
use Rattle.std.specs.Prelude.{Option, Some, None, if◌then◌else◌}
use Rattle.std.specs.Option.{option_map}
use Rattle.bound_checker.specs.declared.rules.CheckRule.{CheckRule}
use Rattle.bound_checker.specs.declared.rules.Place.{Place}
use Rattle.bound_checker.specs.declared.rules.Place.TheVariants.{Nowhere}
use Rattle.bound_checker.specs.declared.rules.Verdict.{Verdict}
use Rattle.bound_checker.specs.declared.rules.Verdict.TheVariants.{Valid, Invalid}
use Rattle.bound_checker.specs.Verdict.{Trial, or_else, first_failed}

-- a condition fails at a place that was found
pub found : (rule : CheckRule) (at : ℕ → Place) (o : Option ℕ) (k : ℕ) (rest : Verdict) → Some k ≡ o → Invalid rule (at k) ≡ or_else rule (option_map at o) rest
found rule at o k rest e = ap (λ x. or_else rule (option_map at x) rest) e

-- a condition holds at each place
pub holds : (rule : CheckRule) (at : ℕ → Place) (o : Option ℕ) (rest : Verdict) → None ≡ o → rest ≡ or_else rule (option_map at o) rest
holds rule at o rest e = ap (λ x. or_else rule (option_map at x) rest) e

else_valid : (rule : CheckRule) (place : Option Place) (rest : Verdict) → or_else rule place rest ≡ Valid → (place ≡ None) × (rest ≡ Valid)
else_valid rule None rest e = (refl, e)
else_valid rule (Some place) rest e = absurd (let x : ⊥ = cc in x)

-- the first condition and the others hold
pub both_hold : (x : Trial) (xs : List Trial) → first_failed (x ∷ xs) ≡ Valid → (x.place ≡ None) × (first_failed xs ≡ Valid)
both_hold x xs e = else_valid x.rule x.place (first_failed xs) e

-- of two lists of conditions both hold
pub parts_hold : (xs ys : List Trial) → first_failed (xs ++ ys) ≡ Valid → (first_failed xs ≡ Valid) × (first_failed ys ≡ Valid)
parts_hold [] ys e = (refl, e)
parts_hold (x ∷ xs) ys e =
    let a = else_valid x.rule x.place (first_failed (xs ++ ys)) e in
    let b = parts_hold xs ys a.1 in
    (ap (λ place. or_else x.rule place (first_failed xs)) a.0 ∙ b.0, b.1)

-- what holds before leaves the verdict to the rest
pub behind : (xs ys : List Trial) → first_failed xs ≡ Valid → first_failed (xs ++ ys) ≡ first_failed ys
behind [] ys e = refl
behind (x ∷ xs) ys e =
    let a = else_valid x.rule x.place (first_failed xs) e in
    ap (λ place. or_else x.rule place (first_failed (xs ++ ys))) a.0 ∙ behind xs ys a.1

else_invalid : (rule : CheckRule) (place : Option Place) (a b : Verdict) → ((a ≡ Valid → ⊥) → a ≡ b) → (or_else rule place a ≡ Valid → ⊥) → or_else rule place a ≡ or_else rule place b
else_invalid rule None a b same e = same e
else_invalid rule (Some place) a b same e = refl

-- what fails before is the verdict
pub before : (xs ys : List Trial) → (first_failed xs ≡ Valid → ⊥) → first_failed xs ≡ first_failed (xs ++ ys)
before [] ys e = absurd (e refl)
before (x ∷ xs) ys e = else_invalid x.rule x.place (first_failed xs) (first_failed (xs ++ ys)) (before xs ys) e

pub no_place : (at : ℕ → Place) (o : Option ℕ) → option_map at o ≡ None → o ≡ None
no_place at None e = refl
no_place at (Some k) e = absurd (let x : ⊥ = cc in x)

pub not_failed : (fails : Bool) → (if fails then Some Nowhere else None) ≡ None → fails ≡ false
not_failed false e = refl
not_failed true e = absurd (let x : ⊥ = cc in x)
