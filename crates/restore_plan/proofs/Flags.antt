-- The flags of the barred devices.
use Rattle.std.proofs.Common.{◌≡◌, ℕ, ◌<◌, Bool, true, false, List, length, map, refl, sym, ap, ◌∙◌, subst, inl, inr, ⊎_elim, arith, get_or, set, replicate, zero, suc}
use Rattle.std.specs.Prelude.{◌==◌, ◌&&◌, ◌||◌, ◌⊎◌, not}
use Rattle.std.specs.List.{list_any}
use Rattle.std.proofs.lemmas.Bool.{cases_Bool, cases_eq, ne_eqb, eqb-true, eq-eqb, or_cases, or_left, or_right, false_from_ne_true, false≢true}
use Rattle.std.proofs.lemmas.List.{get_or_default, get_or-set_same, get_or-set_other, length-replicate}
use Rattle.std.proofs.lemmas.List.Folds.{Any-from_list_any, list_any_at}
use mathlib.Core.Bool.{beq}
use Rattle.grid_model.specs.declared.parts.DeviceId.{DeviceId}
use Rattle.grid_model.specs.Parts.{Parts}
use Rattle.grid_model.specs.Places.{device_at, touches, devices_at, is_source}
use Rattle.radial_forest.proofs.Incident.{number_at, at_within, at_ends, place_of}
use Rattle.restore_plan.specs.Barred.{ends_at}

-- two tests differ where one of them passes
pub differ : (a b : Bool) → not (beq a b) ≡ ((a && not b) || (b && not a))
differ true true = refl
differ true false = refl
differ false true = refl
differ false false = refl

module _ (g : Parts) (n : ℕ) (xs : List DeviceId) (listed : map (λ d. d.0) xs ≡ devices_at g n) where
  pub all_within : (k : ℕ) (d : DeviceId) → k < length xs → (get_or xs k d).0 < length g.devices
  all_within k d l = subst (λ x. x.0 < length g.devices) (get_or_default xs k (record { 0 = 0 }) d l) (at_within g n xs listed k l)

  pub ends : (d : ℕ) → touches g d n ≡ true → ((device_at g d).from.0 ≡ n) ⊎ ((device_at g d).to.0 ≡ n)
  ends d t =
      ⊎_elim
      (λ a. inl (eqb-true (device_at g d).from.0 n a))
      (λ a. inr (eqb-true (device_at g d).to.0 n a))
      (or_cases ((device_at g d).from.0 == n) ((device_at g d).to.0 == n) t)

  listed_there : (d : ℕ) → d < length g.devices → touches g d n ≡ true → list_any (λ c. c.0 == d) xs ≡ true
  listed_there d l t =
      let p = place_of g n xs listed d l (ends d t) in
      list_any_at (λ c. c.0 == d) xs p.0 (record { 0 = 0 }) p.1 (eq-eqb (number_at xs p.0) d p.2)

  there_listed : (d : ℕ) → list_any (λ c. c.0 == d) xs ≡ true → touches g d n ≡ true
  there_listed d e =
      let a = Any-from_list_any (λ c. c.0 == d) xs e in
      let same : number_at xs a.0 ≡ d = ap (λ x. x.0) (get_or_default xs a.0 (record { 0 = 0 }) a.1 a.2) ∙ ap (λ x. x.0) a.3 ∙ eqb-true a.1.0 d a.4 in
      ⊎_elim
      (λ q. or_left ((device_at g d).from.0 == n) ((device_at g d).to.0 == n) (eq-eqb (device_at g d).from.0 n (ap (λ x. (device_at g x).from.0) (sym same) ∙ q)))
      (λ q. or_right ((device_at g d).from.0 == n) ((device_at g d).to.0 == n) (eq-eqb (device_at g d).to.0 n (ap (λ x. (device_at g x).to.0) (sym same) ∙ q)))
      (at_ends g n xs listed a.0 a.2)

  -- the devices of the list are those that end at the node
  listed_is : (d : ℕ) → d < length g.devices → list_any (λ c. c.0 == d) xs ≡ touches g d n
  listed_is d l =
      ⊎_elim
      (λ t. listed_there d l t ∙ sym t)
      (λ f. false_from_ne_true (list_any (λ c. c.0 == d) xs) (λ e. false≢true (sym f ∙ there_listed d e)) ∙ sym f)
      (cases_Bool (touches g d n))

  and_true : (b : Bool) → b ≡ (b && true)
  and_true true = refl
  and_true false = refl

  pub ends_listed : (d : ℕ) → d < length g.devices → is_source g n ≡ false → list_any (λ c. c.0 == d) xs ≡ ends_at g n d
  ends_listed d l s = listed_is d l ∙ and_true (touches g d n) ∙ ap (λ b. touches g d n && not b) (sym s)

-- one flag that is set
pub one_flagged : (n fault d : ℕ) → fault < n → get_or (set (replicate n false) fault true) d false ≡ (d == fault)
one_flagged n fault d l =
    ⊎_elim
    (λ q. ap (λ x. get_or (set (replicate n false) fault true) x false) q
    ∙ get_or-set_same (replicate n false) fault true false (let x = length-replicate n false in omega arith) ∙ sym (eq-eqb d fault q))
    (λ q. get_or-set_other (replicate n false) fault d true false q ∙ unflagged n d ∙ sym (ne_eqb d fault q))
    (cases_eq d fault)
  where
    unflagged : (n d : ℕ) → get_or (replicate n false) d false ≡ false
    unflagged zero d = refl
    unflagged (suc n) zero = refl
    unflagged (suc n) (suc d) = unflagged n d
