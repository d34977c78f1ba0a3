-- The devices at a node, as the list of them has them.
use Rattle.std.proofs.Common.{◌≡◌, ℕ, zero, suc, ◌+◌, ◌<◌, Bool, true, cond, refl, sym, ap, ◌∙◌, subst, inl, inr, ⊎_elim, arith, List, [], ◌∷◌, ◌++◌, length, get_or, map, filter, All}
use Rattle.std.specs.Prelude.{◌==◌, ◌⊎◌}
use Rattle.std.specs.List.{Contains, range_with_len}
use Rattle.std.proofs.Math.ListN.{get_or-map}
use Rattle.std.proofs.lemmas.Bool.{cases_lt, eqb-true, eq-eqb, or_cases, or_left, or_right}
use Rattle.std.proofs.lemmas.List.{length-map}
use Rattle.std.proofs.lemmas.List.Elements.{All-filter, All-from_get_or, filter_passes, Contains-append_left, Contains-append_right, filter-append}
use Rattle.std.proofs.lemmas.List.FromFn.{length-range_with_len, get_or-range_with_len, map-range_with_len_more}
use Rattle.grid_model.specs.declared.parts.DeviceId.{DeviceId}
use Rattle.grid_model.specs.Parts.{Parts}
use Rattle.grid_model.specs.Places.{device_at, touches, devices_at}

abbrev pub no_device : DeviceId
no_device = record { 0 = 0 }

-- the number at a place of a list of devices
abbrev pub number_at : List DeviceId → ℕ → ℕ
number_at xs j = (get_or xs j no_device).0

map_same : (xs : List ℕ) → map (λ x. x) xs ≡ xs
map_same [] = refl
map_same (x ∷ xs) = ap (λ ys. x ∷ ys) (map_same xs)

range_more : (n : ℕ) → range_with_len 0 (n + 1) ≡ range_with_len 0 n ++ n ∷ []
range_more n = sym (map_same (range_with_len 0 (n + 1))) ∙ map-range_with_len_more (λ x. x) 0 n n (omega arith) ∙ ap (λ xs. xs ++ n ∷ []) (map_same (range_with_len 0 n))

-- a number that passes is among those that pass
among : (p : ℕ → Bool) (n d : ℕ) → d < n → p d ≡ true → Contains (filter p (range_with_len 0 n)) d
among p zero d l e = absurd (omega arith)
among p (suc n) d l e =
    subst (λ xs. Contains xs d) (sym (ap (filter p) (ap (range_with_len 0) (let x : suc n ≡ n + 1 = omega arith in x) ∙ range_more n) ∙ filter-append p (range_with_len 0 n) (n ∷ [])))
    (⊎_elim
    (λ a. Contains-append_left (filter p (range_with_len 0 n)) (filter p (n ∷ [])) d (among p n d a e))
    (λ a. let same : d ≡ n = omega arith in
    Contains-append_right (filter p (range_with_len 0 n)) (filter p (n ∷ [])) d
    (subst (λ xs. Contains xs d) (sym (ap (λ b. cond b (n ∷ []) []) (sym (ap p same) ∙ e)))
    (subst (λ x. Contains (x ∷ []) d) same (0, omega arith, refl))))
    (cases_lt d n))

module _ (g : Parts) (n : ℕ) (xs : List DeviceId) (listed : map (λ d. d.0) xs ≡ devices_at g n) where
  pub at_is : (j : ℕ) → number_at xs j ≡ get_or (devices_at g n) j 0
  at_is j = sym (get_or-map (λ d. d.0) xs j no_device) ∙ ap (λ ys. get_or ys j 0) listed

  pub long : length xs ≡ length (devices_at g n)
  long = sym (length-map xs (λ d. d.0)) ∙ ap length listed

  pub at_within : (j : ℕ) → j < length xs → number_at xs j < length g.devices
  at_within j l =
      let below : All (λ d. d < length g.devices) (range_with_len 0 (length g.devices)) = All-from_get_or (λ d. d < length g.devices) (range_with_len 0 (length g.devices)) 0 (λ i li. let e = length-range_with_len 0 (length g.devices) in let x = get_or-range_with_len 0 (length g.devices) i 0 (omega arith) in omega arith) in
      subst (λ x. x < length g.devices) (sym (at_is j)) (All-filter (λ d. touches g d n) (λ d. d < length g.devices) (range_with_len 0 (length g.devices)) below j 0 (let e = long in omega arith))

  at_touches : (j : ℕ) → j < length xs → touches g (number_at xs j) n ≡ true
  at_touches j l =
      ap (λ d. touches g d n) (at_is j) ∙ filter_passes (λ d. touches g d n) (range_with_len 0 (length g.devices)) j 0 (let e = long in omega arith)

  pub at_ends : (j : ℕ) → j < length xs → ((device_at g (number_at xs j)).from.0 ≡ n) ⊎ ((device_at g (number_at xs j)).to.0 ≡ n)
  at_ends j l =
      ⊎_elim
      (λ b. inl (eqb-true (device_at g (number_at xs j)).from.0 n b))
      (λ b. inr (eqb-true (device_at g (number_at xs j)).to.0 n b))
      (or_cases ((device_at g (number_at xs j)).from.0 == n) ((device_at g (number_at xs j)).to.0 == n) (at_touches j l))

  -- each device with an end at the node is in the list
  pub place_of : (d : ℕ) → d < length g.devices → ((device_at g d).from.0 ≡ n) ⊎ ((device_at g d).to.0 ≡ n) → (j : ℕ) × (j < length xs) × (number_at xs j ≡ d)
  place_of d l ends =
      let here = among (λ d. touches g d n) (length g.devices) d l
      (⊎_elim
      (λ e. or_left ((device_at g d).from.0 == n) ((device_at g d).to.0 == n) (eq-eqb (device_at g d).from.0 n e))
      (λ e. or_right ((device_at g d).from.0 == n) ((device_at g d).to.0 == n) (eq-eqb (device_at g d).to.0 n e))
      ends) in
      let lj = here.1 in
      let within : here.0 < length xs = let e = long in omega arith in
      (here.0, within, at_is here.0 ∙ default (devices_at g n) here.0 d here.1 ∙ here.2)
    where
      default : (ys : List ℕ) (i x : ℕ) → i < length ys → get_or ys i 0 ≡ get_or ys i x
      default [] i x l = absurd (omega arith)
      default (y ∷ ys) zero x l = refl
      default (y ∷ ys) (suc i) x l = default ys i x (omega arith)
