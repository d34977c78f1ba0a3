-- Following the device above an outage ends, where it lowers a number.
use Rattle.std.proofs.Common.{◌≡◌, ℕ, zero, suc, ◌+◌, ◌<◌, ◌≤◌, Bool, true, false, cond, refl, ap, ⊎_elim, arith, List, [], ◌∷◌, length, Option, Some, None}
use Rattle.std.specs.Prelude.{◌==◌, nat_lt}
use Rattle.std.specs.Option.{option_map_or}
use Rattle.std.proofs.lemmas.Bool.{cases_lt, or_cases, eqb-true, lt-ltb, le-ltb, false≢true}
use Rattle.grid_model.specs.declared.history.Outage.{Outage}
use Rattle.history_rules.specs.Crew.{above_in, top_within, is_device_of}

abbrev one_if : Bool → ℕ
one_if b = cond b 1 0

-- how many outages rank below a number
abbrev lower : (ℕ → ℕ) → ℕ → List Outage → ℕ
lower rank y [] = 0
lower rank y (o ∷ xs) = one_if (nat_lt (rank o.device.0) y) + lower rank y xs

at_most_one : (b : Bool) → one_if b ≤ 1
at_most_one true = omega arith
at_most_one false = omega arith

lower_all : (rank : ℕ → ℕ) (y : ℕ) (xs : List Outage) → lower rank y xs ≤ length xs
lower_all rank y [] = omega arith
lower_all rank y (o ∷ xs) = let here = at_most_one (nat_lt (rank o.device.0) y) in let rest = lower_all rank y xs in omega arith

one_more : (z x y : ℕ) → x ≤ y → one_if (nat_lt z x) ≤ one_if (nat_lt z y)
one_more z x y l =
    ⊎_elim
    (λ m. let a = ap one_if (lt-ltb z x m) in
    let b = ap one_if (lt-ltb z y (omega arith)) in omega arith)
    (λ m. let a = ap one_if (le-ltb z x m) in omega arith)
    (cases_lt z x)

lower_le : (rank : ℕ → ℕ) (x y : ℕ) (xs : List Outage) → x ≤ y → lower rank x xs ≤ lower rank y xs
lower_le rank x y [] l = omega arith
lower_le rank x y (o ∷ xs) l = let here = one_more (rank o.device.0) x y l in let rest = lower_le rank x y xs l in omega arith

lower_lt : (rank : ℕ → ℕ) (d y : ℕ) (xs : List Outage) → is_device_of xs d ≡ true → rank d < y → lower rank (rank d) xs < lower rank y xs
lower_lt rank d y [] e l = absurd (false≢true e)
lower_lt rank d y (o ∷ xs) e l =
    ⊎_elim
    (λ same. let is = ap rank (eqb-true o.device.0 d same) in
    let a = ap one_if (le-ltb (rank o.device.0) (rank d) (omega arith)) in
    let b = ap one_if (lt-ltb (rank o.device.0) y (omega arith)) in
    let rest = lower_le rank (rank d) y xs (omega arith) in omega arith)
    (λ later. let here = one_more (rank o.device.0) (rank d) y (omega arith) in
    let rest = lower_lt rank d y xs later l in omega arith)
    (or_cases (o.device.0 == d) (is_device_of xs d) e)

module _ (all : List Outage) (rank : ℕ → ℕ) (Holds : ℕ → Type 0) (up : (d e : ℕ) → Holds d → above_in all d ≡ Some e → Holds e × (is_device_of all e ≡ true) × (rank e < rank d)) where
  -- each step up leaves fewer outages that rank below
  falls : (d e : ℕ) → Holds d → above_in all d ≡ Some e → Holds e × (lower rank (rank e) all < lower rank (rank d) all)
  falls d e h is = let a = up d e h is in (a.0, lower_lt rank e (rank d) all a.1 a.2)

  more_steps : (k d : ℕ) (o : Option ℕ) → ((x : ℕ) → Holds x → lower rank (rank x) all ≤ k → above_in all (top_within all k x) ≡ None)
      → Holds d → lower rank (rank d) all ≤ suc k → above_in all d ≡ o → above_in all (option_map_or (top_within all k) o d) ≡ None
  more_steps k d None rest h l e = e
  more_steps k d (Some x) rest h l e = let a = falls d x h e in rest x a.0 (let b = a.1 in omega arith)

  ends_after : (k d : ℕ) → Holds d → lower rank (rank d) all ≤ k → above_in all (top_within all k d) ≡ None
  unfolding top_within
  ends_after zero d h l = last_none (above_in all d) refl
    where
      last_none : (o : Option ℕ) → above_in all d ≡ o → above_in all d ≡ None
      last_none None e = e
      last_none (Some x) e = absurd (let a = (falls d x h e).1 in omega arith)
  ends_after (suc k) d h l = more_steps k d (above_in all d) (ends_after k) h l refl

  -- so following the device above ends within the number of outages
  pub ends_within : (d : ℕ) → Holds d → above_in all (top_within all (length all) d) ≡ None
  ends_within d h = ends_after (length all) d h (lower_all rank (rank d) all)
