-- The first field that is left of a row.
use Rattle.std.proofs.Common.{◌≡◌, ◌+◌, not, true, false, Bool, ℕ, suc, zero, Option, Some, None, Bor, List, [], ◌∷◌, drop, refl, arith}
use Rattle.std.specs.Prelude.{IsTrue, option_map, is_some}
use Rattle.csv.specs.Records.{field_at}

-- the field at a place is the first that is left from there on
pub field_at-some : (fields : List (List ℕ)) (n : ℕ) (field : List ℕ) → Some field ≡ field_at fields n → drop n fields ≡ field ∷ drop (n + 1) fields
unfolding field_at
field_at-some [] n field e = cc
field_at-some (f ∷ fields) zero field e = cc
field_at-some (f ∷ fields) (suc n) field e =
    let next : suc n + 1 ≡ suc (n + 1) = omega arith in
    rw next (field_at-some fields n field e)

-- where no field is at a place, none is left from there on
pub field_at-none : (fields : List (List ℕ)) (n : ℕ) → None ≡ field_at fields n → drop n fields ≡ []
unfolding field_at
field_at-none [] zero e = refl
field_at-none [] (suc n) e = refl
field_at-none (f ∷ fields) zero e = cc
field_at-none (f ∷ fields) (suc n) e = field_at-none fields n e

-- whether a field is left
pub none-left : (none : Bool) (field : Option (Bor (List ℕ))) (fields : List (List ℕ)) (n : ℕ) → is_some field ≡ not none → option_map (λ f. f.now) field ≡ field_at fields n
    → (IsTrue none → drop n fields ≡ []) × (drop n fields ≡ [] → IsTrue none)
none-left true None fields n t e = (λ h. field_at-none fields n e, λ h. refl)
none-left true (Some field) fields n t e = cc
none-left false None fields n t e = cc
none-left false (Some field) fields n t e = (λ h. cc, λ h. let left = field_at-some fields n field.now e in cc)
