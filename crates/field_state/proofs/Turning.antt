-- A device is in the state that an order wants.
use Rattle.std.proofs.Common.{◌≡◌, ℕ, ◌<◌, Bool, true, false, refl, sym, ap, ◌∙◌, subst, ⊎_elim, List, length, get_or-set_same, get_or-set_other}
use Rattle.std.specs.Prelude.{◌==◌, slice_index_or, slice_set, Ok, Err, if◌then◌else◌}
use Rattle.std.proofs.lemmas.Bool.{cases_eq, eqb-true, eq-eqb, ne_eqb}
use Rattle.grid_model.specs.declared.history.Want.{Want}
use Rattle.grid_model.specs.declared.history.Want.TheVariants.{Opened, Closed}
use Rattle.grid_model.specs.declared.history.Refusal.{Refusal}
use Rattle.switching.specs.declared.Change.TheVariants.{Nothing, Opens, Closes}
use Rattle.switching.specs.Decision.{decision}
use Rattle.history_rules.specs.State.{is_wanted_closed}

pub nothing_wanted : (w : Want) (closed loops : Bool) → decision w closed loops ≡ Ok Nothing → closed ≡ is_wanted_closed w
nothing_wanted Opened false loops q = refl
nothing_wanted Opened true loops q = cc
nothing_wanted Closed true loops q = refl
nothing_wanted Closed false true q = cc
nothing_wanted Closed false false q = cc

pub opens_wanted : (w : Want) (closed loops : Bool) → decision w closed loops ≡ Ok Opens → false ≡ is_wanted_closed w
opens_wanted Opened closed loops q = refl
opens_wanted Closed true loops q = cc
opens_wanted Closed false true q = cc
opens_wanted Closed false false q = cc

pub closes_wanted : (w : Want) (closed loops : Bool) → decision w closed loops ≡ Ok Closes → true ≡ is_wanted_closed w
closes_wanted Opened false loops q = cc
closes_wanted Opened true loops q = cc
closes_wanted Closed closed loops q = refl

pub refused_loops : (w : Want) (closed loops : Bool) (rule : Refusal) → decision w closed loops ≡ Err rule → (w ≡ Closed → closed ≡ false → loops ≡ false) → ⊥
refused_loops Opened false loops rule q h = cc
refused_loops Opened true loops rule q h = cc
refused_loops Closed true loops rule q h = cc
refused_loops Closed false true rule q h = let e = h refl refl in cc
refused_loops Closed false false rule q h = cc

-- a device that is in the state
pub stays_turned : (d e : ℕ) (closed : List Bool) (v : Bool) → slice_index_or closed d false ≡ v →
    slice_index_or closed e false ≡ (if d == e then v else slice_index_or closed e false)
stays_turned d e closed v q = by_test (d == e) refl where
  by_test : (b : Bool) → (d == e) ≡ b → slice_index_or closed e false ≡ (if b then v else slice_index_or closed e false)
  by_test true at = ap (λ k. slice_index_or closed k false) (sym (eqb-true d e at)) ∙ q
  by_test false at = refl

-- and one that is put into it
pub is_turned : (d e : ℕ) (closed : List Bool) (v : Bool) → d < length closed →
    slice_index_or (slice_set closed d v) e false ≡ (if d == e then v else slice_index_or closed e false)
is_turned d e closed v l =
    ⊎_elim
    (λ q. subst (λ k. slice_index_or (slice_set closed d v) k false ≡ (if d == k then v else slice_index_or closed k false)) (sym q)
    (get_or-set_same closed d v false l ∙ sym (ap (λ b. if b then v else slice_index_or closed d false) (eq-eqb d d refl))))
    (λ ne. get_or-set_other closed d e v false ne ∙ sym (ap (λ b. if b then v else slice_index_or closed e false) (ne_eqb d e (λ q. ne (sym q)))))
    (cases_eq e d)
