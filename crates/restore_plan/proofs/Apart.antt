-- No device is moved twice.
use Rattle.std.proofs.Common.{◌≡◌, ◌≢◌, ℕ, zero, suc, ◌+◌, ◌-◌, ◌<◌, ◌≤◌, Bool, true, false, List, [], ◌∷◌, ◌++◌, length, refl, sym, ap, ◌∙◌, subst, ⊎_elim, arith, get_or}
use Rattle.std.specs.Prelude.{◌&&◌, Ok}
use Rattle.std.specs.List.{range_with_len}
use Rattle.std.proofs.Math.ListN.{get_or-map}
use Rattle.std.proofs.lemmas.Bool.{cases_lt, and_parts, false≢true}
use Rattle.std.proofs.lemmas.List.{get_or-set_same, get_or-set_other, get_or_append_left, get_or-append_right, length-append, length-map, length-set}
use Rattle.std.proofs.lemmas.List.Elements.{filter_passes}
use Rattle.outage_rules.specs.Loops.{would_loop}
use Rattle.outage_rules.proofs.FirstBelow.{first_is}
use Rattle.grid_model.specs.declared.history.Want.{Want}
use Rattle.grid_model.specs.declared.history.Want.TheVariants.{Opened}
use Rattle.grid_model.specs.Parts.{Parts}
use Rattle.grid_model.specs.Groups.{places_that}
use Rattle.switching.specs.Decision.{decision}
use Rattle.restore_plan.specs.declared.moves.Move.{Move}
use Rattle.restore_plan.specs.States.{network_at, state_of, after_move, after, move_at, change_of}
use Rattle.restore_plan.specs.Restoring.{is_ready, opening, openings, AreClosings, AreMoves}
use Rattle.restore_plan.specs.RestoringInside.{IsState}
use Rattle.restore_plan.proofs.Legal.{IsLegal, AreLegal, passed_open, states_after}
use Rattle.restore_plan.proofs.Opening.{legal_openings}
use Rattle.restore_plan.proofs.Closing.{IsReady, ready_parts}

-- the number of the device that a move is of
abbrev number : List Move → ℕ → ℕ
number moves k = (move_at moves k).device.0

-- no two moves are of one device
abbrev pub AreApart : List Move → Type 0
AreApart moves = (j k : ℕ) → j < k → k < length moves → number moves j ≢ number moves k

apart_append : (xs ys : List Move) → AreApart xs → AreApart ys → ((j k : ℕ) → j < length xs → k < length ys → number xs j ≢ number ys k) → AreApart (xs ++ ys)
apart_append xs ys a b across j k l lk =
    ⊎_elim
    (λ e. subst (λ x. x ≢ number (xs ++ ys) k) (sym (left j (omega arith))) (subst (λ x. number xs j ≢ x) (sym (left k e)) (a j k l e)))
    (λ e. ⊎_elim
    (λ f. subst (λ x. x ≢ number (xs ++ ys) k) (sym (left j f)) (subst (λ x. number xs j ≢ x) (sym (right k e)) (across j (k - length xs) f (let n = length-append xs ys in omega arith))))
    (λ f. subst (λ x. x ≢ number (xs ++ ys) k) (sym (right j f)) (subst (λ x. number ys (j - length xs) ≢ x) (sym (right k e)) (b (j - length xs) (k - length xs) (omega arith) (let n = length-append xs ys in omega arith))))
    (cases_lt j (length xs)))
    (cases_lt k (length xs))
  where
    left : (i : ℕ) → i < length xs → number (xs ++ ys) i ≡ number xs i
    left i li = ap (λ m. m.device.0) (get_or_append_left xs ys (opening 0) i li)

    right : (i : ℕ) → length xs ≤ i → number (xs ++ ys) i ≡ number ys (i - length xs)
    right i li = ap (λ m. m.device.0) (get_or-append_right xs ys (length xs) i (opening 0) refl li)

module _ (g : Parts) where
  was_closed : (closed : List Bool) (m : Move) (w : Want) → m.want ≡ w → w ≡ Opened → IsLegal g closed m → get_or closed m.device.0 false ≡ true
  was_closed closed m w e f legal =
      passed_open (get_or closed m.device.0 false) (would_loop (network_at g closed) m.device.0)
      (subst (λ x. decision x (get_or closed m.device.0 false) (would_loop (network_at g closed) m.device.0) ≡ Ok (change_of x)) (e ∙ f) legal.passes)

  other_opened : (closed : List Bool) (m : Move) (d : ℕ) → m.want ≡ Opened → IsLegal g closed m → get_or closed d false ≡ false → m.device.0 ≢ d
  other_opened closed m d e legal o q = false≢true (sym o ∙ ap (λ x. get_or closed x false) (sym q) ∙ was_closed closed m Opened e refl legal)

  -- a device that is open isn't opened
  openings_pass : (closed : List Bool) (moves : List Move) (d : ℕ) → ((k : ℕ) → (move_at moves k).want ≡ Opened) → AreLegal g closed moves → get_or closed d false ≡ false → (k : ℕ) → k < length moves → number moves k ≢ d
  openings_pass closed [] d wants a o k l = absurd (omega arith)
  openings_pass closed (m ∷ moves) d wants a o zero l = other_opened closed m d (wants 0) a.0 o
  openings_pass closed (m ∷ moves) d wants a o (suc k) l =
      let other : d ≢ m.device.0 = λ q. other_opened closed m d (wants 0) a.0 o (sym q) in
      openings_pass (after_move closed m) moves d (λ i. wants (suc i)) a.1 (get_or-set_other closed m.device.0 d (state_of m.want) false other ∙ o) k (omega arith)

  openings_apart : (closed : List Bool) (moves : List Move) → length closed ≡ length g.devices → ((k : ℕ) → (move_at moves k).want ≡ Opened) → AreLegal g closed moves → AreApart moves
  openings_apart closed [] each wants a j k l lk = absurd (omega arith)
  openings_apart closed (m ∷ moves) each wants a j zero l lk = absurd (omega arith)
  openings_apart closed (m ∷ moves) each wants a zero (suc k) l lk = λ q.
      openings_pass (after_move closed m) moves m.device.0 (λ i. wants (suc i)) a.1
      (get_or-set_same closed m.device.0 (state_of m.want) false (let x = a.0.within in omega arith) ∙ ap state_of (wants 0)) k (omega arith) (sym q)
  openings_apart closed (m ∷ moves) each wants a (suc j) (suc k) l lk =
      openings_apart (after_move closed m) moves (length-set closed m.device.0 (state_of m.want) ∙ each) (λ i. wants (suc i)) a.1 j k (omega arith) (omega arith)

  module _ (barred : ℕ → Bool) where
    ready_first : (closed : List Bool) (m : Move) (moves : List Move) → AreClosings g barred closed (m ∷ moves) → (m.device.0 < length g.devices) × IsReady g barred closed m.device.0
    ready_first closed m moves h =
        let k = first_is (length g.devices) m.device.0 (is_ready g barred closed) h.0 in
        (k.0, ready_parts g barred closed m.device.0 k.1)

    other_closed : (closed : List Bool) (m : Move) (moves : List Move) (d : ℕ) → AreClosings g barred closed (m ∷ moves) → get_or closed d false ≡ true → m.device.0 ≢ d
    other_closed closed m moves d h c q = false≢true (sym (ready_first closed m moves h).1.opened ∙ ap (λ x. get_or closed x false) q ∙ c)

    -- a device that is closed isn't closed
    closings_pass : (closed : List Bool) (moves : List Move) (d : ℕ) → AreClosings g barred closed moves → get_or closed d false ≡ true → (k : ℕ) → k < length moves → number moves k ≢ d
    closings_pass closed [] d h c k l = absurd (omega arith)
    closings_pass closed (m ∷ moves) d h c zero l = other_closed closed m moves d h c
    closings_pass closed (m ∷ moves) d h c (suc k) l =
        let other : d ≢ m.device.0 = λ q. other_closed closed m moves d h c (sym q) in
        closings_pass (after_move closed m) moves d h.2 (get_or-set_other closed m.device.0 d (state_of m.want) false other ∙ c) k (omega arith)

    closings_apart : (closed : List Bool) (moves : List Move) → length closed ≡ length g.devices → AreClosings g barred closed moves → AreApart moves
    closings_apart closed [] each h j k l lk = absurd (omega arith)
    closings_apart closed (m ∷ moves) each h j zero l lk = absurd (omega arith)
    closings_apart closed (m ∷ moves) each h zero (suc k) l lk = λ q.
        closings_pass (after_move closed m) moves m.device.0 h.2
        (get_or-set_same closed m.device.0 (state_of m.want) false (let x = (ready_first closed m moves h).0 in omega arith) ∙ ap state_of h.1) k (omega arith) (sym q)
    closings_apart closed (m ∷ moves) each h (suc j) (suc k) l lk =
        closings_apart (after_move closed m) moves (length-set closed m.device.0 (state_of m.want) ∙ each) h.2 j k (omega arith) (omega arith)

    closings_unbarred : (closed : List Bool) (moves : List Move) → AreClosings g barred closed moves → (k : ℕ) → k < length moves → barred (number moves k) ≡ false
    closings_unbarred closed [] h k l = absurd (omega arith)
    closings_unbarred closed (m ∷ moves) h zero l = (ready_first closed m moves h).1.unbarred
    closings_unbarred closed (m ∷ moves) h (suc k) l = closings_unbarred (after_move closed m) moves h.2 k (omega arith)

    module _ (closed : List Bool) where
      opening_at : (k : ℕ) → move_at (openings g barred closed) k ≡ opening (get_or (places_that (λ d. barred d && get_or closed d false) (length g.devices)) k 0)
      opening_at k = get_or-map opening (places_that (λ d. barred d && get_or closed d false) (length g.devices)) k 0

      openings_barred : (k : ℕ) → k < length (openings g barred closed) → barred (number (openings g barred closed) k) ≡ true
      openings_barred k l =
          ap (λ m. barred m.device.0) (opening_at k)
          ∙ (and_parts _ _ (filter_passes (λ d. barred d && get_or closed d false) (range_with_len 0 (length g.devices)) k 0
          (let n = length-map (places_that (λ d. barred d && get_or closed d false) (length g.devices)) opening in omega arith))).0

      pub moves_apart : (moves : List Move) → IsState g closed → AreMoves g barred closed moves → AreApart moves
      moves_apart moves state are =
          let legal = legal_openings barred closed g (length g.devices) (omega arith) in
          subst AreApart (sym are.1)
          (apart_append (openings g barred closed) are.0
          (openings_apart closed (openings g barred closed) state.each (λ k. ap (λ m. m.want) (opening_at k)) legal)
          (closings_apart (after closed (openings g barred closed)) are.0 (states_after g closed (openings g barred closed) state legal).each are.2)
          (λ j k lj lk q. false≢true (sym (closings_unbarred (after closed (openings g barred closed)) are.0 are.2 k lk) ∙ ap barred (sym q) ∙ openings_barred j lj)))
