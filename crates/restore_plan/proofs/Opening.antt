-- The openings, one after the other.
use Rattle.std.proofs.Common.{◌≡◌, ◌≢◌, ℕ, zero, suc, ◌+◌, ◌<◌, ◌≤◌, Bool, true, false, cond, List, [], ◌∷◌, ◌++◌, length, refl, sym, ap, ◌∙◌, subst, ⊎_elim, arith, get_or, set, map, add-one}
use Rattle.std.specs.Prelude.{◌&&◌}
use Rattle.std.proofs.lemmas.Bool.{cases_Bool, cases_eq, and_parts, and_from}
use Rattle.std.proofs.lemmas.List.{get_or-set_same, get_or-set_other, map-append, append-nil, length-set}
use Rattle.outage_rules.specs.Loops.{would_loop}
use Rattle.grid_model.specs.declared.history.Want.TheVariants.{Opened}
use Rattle.grid_model.specs.Parts.{Parts}
use Rattle.grid_model.specs.Groups.{places_that}
use Rattle.grid_model.proofs.Grouping.Places.{places_more}
use Rattle.radial_forest.specs.Forested.{Forested, IsForestOf}
use Rattle.switching.specs.Decision.{decision}
use Rattle.restore_plan.specs.declared.moves.Move.{Move}
use Rattle.restore_plan.specs.States.{network_at, after}
use Rattle.restore_plan.specs.Restoring.{opening, openings}
use Rattle.restore_plan.proofs.Legal.{IsLegal, AreLegal, after_append, legal_append}

-- those of the devices below a number
abbrev pub openings_to : (ℕ → Bool) → List Bool → ℕ → List Move
openings_to barred closed n = map opening (places_that (λ d. barred d && get_or closed d false) n)

module _ (barred : ℕ → Bool) (closed : List Bool) where
  more : (n : ℕ) (b : Bool) → (barred n && get_or closed n false) ≡ b → openings_to barred closed (n + 1) ≡ openings_to barred closed n ++ map opening (cond b (n ∷ []) [])
  more n b e =
      ap (map opening) (places_more (λ d. barred d && get_or closed d false) n)
      ∙ map-append opening (places_that (λ d. barred d && get_or closed d false) n) (cond (barred n && get_or closed n false) (n ∷ []) [])
      ∙ ap (λ t. openings_to barred closed n ++ map opening (cond t (n ∷ []) [])) e

  opening_more : (n : ℕ) → (barred n && get_or closed n false) ≡ true → openings_to barred closed (n + 1) ≡ openings_to barred closed n ++ opening n ∷ []
  opening_more n e = more n true e

  opening_passed : (n : ℕ) → (barred n && get_or closed n false) ≡ false → openings_to barred closed (n + 1) ≡ openings_to barred closed n
  opening_passed n e = more n false e ∙ append-nil (openings_to barred closed n)

  -- the states after one more
  opened_more : (n : ℕ) → (barred n && get_or closed n false) ≡ true → after closed (openings_to barred closed (n + 1)) ≡ set (after closed (openings_to barred closed n)) n false
  opened_more n e = ap (after closed) (opening_more n e) ∙ after_append closed (openings_to barred closed n) (opening n ∷ [])

  opened_passed : (n : ℕ) → (barred n && get_or closed n false) ≡ false → after closed (openings_to barred closed (n + 1)) ≡ after closed (openings_to barred closed n)
  opened_passed n e = ap (after closed) (opening_passed n e)

  -- how a loop over the devices goes on
  pub record IsIsolating (g : Parts) (n : ℕ) (f : Forested) (moves : List Move) : Type 0 where
    pub of_grid : IsForestOf g f.closed f
    pub states : f.closed ≡ after closed (openings_to barred closed n)
    pub moves_are : moves ≡ openings_to barred closed n

  either : (P : List Bool → Type 0) (n : ℕ) → ((barred n && get_or closed n false) ≡ true → P (set (after closed (openings_to barred closed n)) n false)) → ((barred n && get_or closed n false) ≡ false → P (after closed (openings_to barred closed n)))
      → P (after closed (openings_to barred closed (suc n)))
  either P n yes' no' =
      subst (λ k. P (after closed (openings_to barred closed k))) (add-one n)
      (⊎_elim
      (λ e. subst P (sym (opened_more n e)) (yes' e))
      (λ e. subst P (sym (opened_passed n e)) (no' e))
      (cases_Bool (barred n && get_or closed n false)))

  -- the devices from the number on are as they were
  opened_kept : (n d : ℕ) → n ≤ d → get_or (after closed (openings_to barred closed n)) d false ≡ get_or closed d false
  opened_kept zero d l = refl
  opened_kept (suc n) d l =
      let before = opened_kept n d (omega arith) in
      let other : d ≢ n = omega arith in
      either (λ c. get_or c d false ≡ get_or closed d false) n
      (λ e. get_or-set_other (after closed (openings_to barred closed n)) n d false false other ∙ before)
      (λ e. before)

  state_here : (g : Parts) (n : ℕ) (f : Forested) (moves : List Move) → IsIsolating g n f moves → get_or f.closed n false ≡ get_or closed n false
  state_here g n f moves h = ap (λ c. get_or c n false) h.states ∙ opened_kept n n (omega arith)

  pub isolating_more : (g : Parts) (n : ℕ) (f f' : Forested) (moves moves' : List Move) → IsIsolating g n f moves → barred n ≡ true → get_or f.closed n false ≡ true
      → IsForestOf g f'.closed f' → f'.closed ≡ set f.closed n false → moves' ≡ moves ++ opening n ∷ [] → IsIsolating g (n + 1) f' moves'
  isolating_more g n f f' moves moves' h b c of_grid states more' =
      let e = and_from (barred n) (get_or closed n false) b (sym (state_here g n f moves h) ∙ c) in
      record {
        of_grid = of_grid;
        states = states ∙ ap (λ s. set s n false) h.states ∙ sym (opened_more n e);
        moves_are = more' ∙ ap (λ m. m ++ opening n ∷ []) h.moves_are ∙ sym (opening_more n e);
      }

  pub isolating_passed : (g : Parts) (n : ℕ) (f : Forested) (moves : List Move) → IsIsolating g n f moves → (barred n && get_or f.closed n false) ≡ false → IsIsolating g (n + 1) f moves
  isolating_passed g n f moves h e =
      let e' = ap (λ b. barred n && b) (sym (state_here g n f moves h)) ∙ e in
      record {
        of_grid = h.of_grid;
        states = h.states ∙ sym (opened_passed n e');
        moves_are = h.moves_are ∙ sym (opening_passed n e');
      }

  opened_each : (n : ℕ) → length (after closed (openings_to barred closed n)) ≡ length closed
  opened_each zero = refl
  opened_each (suc n) =
      either (λ c. length c ≡ length closed) n
      (λ e. length-set (after closed (openings_to barred closed n)) n false ∙ opened_each n)
      (λ e. opened_each n)

  -- the barred ones below it are open
  pub opened_barred : (n d : ℕ) → n ≤ length closed → d < n → barred d ≡ true → get_or (after closed (openings_to barred closed n)) d false ≡ false
  opened_barred zero d ln l b = absurd (omega arith)
  opened_barred (suc n) d ln l b =
      either (λ c. get_or c d false ≡ false) n
      (λ e. ⊎_elim
      (λ q. ap (λ x. get_or (set (after closed (openings_to barred closed n)) n false) x false) q
      ∙ get_or-set_same (after closed (openings_to barred closed n)) n false false (let x = opened_each n in omega arith))
      (λ q. get_or-set_other (after closed (openings_to barred closed n)) n d false false q ∙ opened_barred n d (omega arith) (omega arith) b)
      (cases_eq d n))
      (λ e. ⊎_elim
      (λ q. ap (λ x. get_or (after closed (openings_to barred closed n)) x false) q ∙ opened_kept n n (omega arith)
      ∙ (sym (ap (λ t. t && get_or closed n false) (ap barred (sym q) ∙ b)) ∙ e))
      (λ q. opened_barred n d (omega arith) (omega arith) b)
      (cases_eq d n))

  module _ (g : Parts) where
    legal_opening : (n : ℕ) → n < length g.devices → (barred n && get_or closed n false) ≡ true → IsLegal g (after closed (openings_to barred closed n)) (opening n)
    legal_opening n l e = record {
      within = l;
      passes = ap (λ b. decision Opened b (would_loop (network_at g (after closed (openings_to barred closed n))) n))
          (opened_kept n n (omega arith) ∙ (and_parts (barred n) (get_or closed n false) e).1);
      feeds = λ q. absurd (let x : ⊥ = cc in x);
    }

    pub legal_openings : (n : ℕ) → n ≤ length g.devices → AreLegal g closed (openings_to barred closed n)
    legal_openings zero l = tt
    legal_openings (suc n) l =
        subst (λ k. AreLegal g closed (openings_to barred closed k)) (add-one n)
        (⊎_elim
        (λ e. subst (AreLegal g closed) (sym (opening_more n e))
        (legal_append g closed (openings_to barred closed n) (opening n ∷ []) (legal_openings n (omega arith)) (legal_opening n (omega arith) e, tt)))
        (λ e. subst (AreLegal g closed) (sym (opening_passed n e)) (legal_openings n (omega arith)))
        (cases_Bool (barred n && get_or closed n false)))
