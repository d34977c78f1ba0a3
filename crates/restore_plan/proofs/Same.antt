-- What depends on a test of the devices alone is the same for equal tests.
use Rattle.std.proofs.Common.{◌≡◌, ℕ, zero, suc, ◌+◌, ◌<◌, Bool, cond, List, [], ◌∷◌, ◌++◌, length, refl, sym, ap, ◌∙◌, subst, arith, get_or, map, add-one}
use Rattle.std.specs.Prelude.{◌&&◌, not, true, false}
use Rattle.std.proofs.lemmas.List.{map-append, append-nil}
use Rattle.outage_rules.specs.Loops.{or_here, first_below}
use Rattle.grid_model.specs.Parts.{Parts}
use Rattle.grid_model.specs.declared.parts.MeterId.{MeterId}
use Rattle.grid_model.specs.Places.{meter_id}
use Rattle.grid_model.specs.Groups.{places_that}
use Rattle.grid_model.proofs.Grouping.Places.{places_more}
use Rattle.restore_plan.specs.declared.moves.Move.{Move}
use Rattle.restore_plan.specs.States.{after_move, after}
use Rattle.restore_plan.specs.Restoring.{has_one_fed_end, is_ready, opening, openings, AreClosings, AreMoves}

first_same : (n : ℕ) (f g : ℕ → Bool) → ((k : ℕ) → k < n → f k ≡ g k) → first_below n f ≡ first_below n g
first_same zero f g h = refl
first_same (suc n) f g h =
    ap (λ o. or_here o (f n) n) (first_same n f g (λ k l. h k (omega arith)))
    ∙ ap (λ b. or_here (first_below n g) b n) (h n (omega arith))

places_same : (n : ℕ) (f g : ℕ → Bool) → ((k : ℕ) → k < n → f k ≡ g k) → places_that f n ≡ places_that g n
places_same zero f g h = refl
places_same (suc n) f g h =
    sym (ap (places_that f) (add-one n)) ∙ places_more f n
    ∙ ap (λ xs. xs ++ cond (f n) (n ∷ []) []) (places_same n f g (λ k l. h k (omega arith)))
    ∙ ap (λ b. places_that g n ++ cond b (n ∷ []) []) (h n (omega arith))
    ∙ sym (places_more g n) ∙ ap (places_that g) (add-one n)

module _ (g : Parts) (a b : ℕ → Bool) (same : (d : ℕ) → d < length g.devices → a d ≡ b d) where
  openings_same : (closed : List Bool) → openings g a closed ≡ openings g b closed
  openings_same closed =
      ap (map opening) (places_same (length g.devices) (λ d. a d && get_or closed d false) (λ d. b d && get_or closed d false)
      (λ d l. ap (λ t. t && get_or closed d false) (same d l)))

  ready_same : (closed : List Bool) → first_below (length g.devices) (is_ready g a closed) ≡ first_below (length g.devices) (is_ready g b closed)
  ready_same closed =
      first_same (length g.devices) (is_ready g a closed) (is_ready g b closed)
      (λ d l. ap (λ t. (not t && not (get_or closed d false)) && has_one_fed_end g closed d) (same d l))

  closings_same : (closed : List Bool) (moves : List Move) → AreClosings g a closed moves → AreClosings g b closed moves
  closings_same closed [] h = sym (ready_same closed) ∙ h
  closings_same closed (m ∷ moves) h = (sym (ready_same closed) ∙ h.0, h.1, closings_same (after_move closed m) moves h.2)

  pub moves_same : (closed : List Bool) (moves : List Move) → AreMoves g a closed moves → AreMoves g b closed moves
  moves_same closed moves h = (
    h.0,
    h.1 ∙ ap (λ xs. xs ++ h.0) (openings_same closed),
    subst (λ xs. AreClosings g b (after closed xs) h.0) (openings_same closed) (closings_same (after closed (openings g a closed)) h.0 h.2),
  )

-- one more place that passes, and one that doesn't
pub listed_more : (test : ℕ → Bool) (n : ℕ) (xs : List MeterId) → map (λ m. m.0) xs ≡ places_that test n → test n ≡ true → map (λ m. m.0) (xs ++ meter_id n ∷ []) ≡ places_that test (n + 1)
listed_more test n xs e t =
    map-append (λ m. m.0) xs (meter_id n ∷ []) ∙ ap (λ l. l ++ n ∷ []) e
    ∙ sym (places_more test n ∙ ap (λ b. places_that test n ++ cond b (n ∷ []) []) t)

pub listed_passed : (test : ℕ → Bool) (n : ℕ) → test n ≡ false → places_that test n ≡ places_that test (n + 1)
listed_passed test n t = sym (places_more test n ∙ ap (λ b. places_that test n ++ cond b (n ∷ []) []) t ∙ append-nil (places_that test n))
