-- A device of the diagnosis is closed, and it has no mark where it isn't marked open.
use Rattle.std.proofs.Common.{◌≡◌, ◌<◌, ◌≤◌, ◌+◌, ◌-◌, ℕ, Bool, true, false, List, length, inl, inr, Some, None, sym, ap, ◌∙◌, subst, refl, arith}
use Rattle.std.specs.Prelude.{◌⊎◌, slice_index_or}
use Rattle.std.proofs.lemmas.Bool.{cases_lt, false≢true}
use Rattle.std.proofs.lemmas.List.{get_or_past}
use Rattle.outage_rules.specs.Network.{Problem, Cut}
use Rattle.outage_rules.specs.Diagnosis.{IsFeasible}
use Rattle.grid_model.specs.declared.history.Event.{Event}
use Rattle.grid_model.specs.declared.history.Mark.{Mark}
use Rattle.grid_model.specs.declared.history.Mark.TheVariants.{Nothing, Opened, Fine}
use Rattle.grid_model.specs.Problem.{says_opened, says_fine, mark_at, problem_of}
use Rattle.history_rules.specs.Posed.{problem_after, least_after, diagnosis_after}
use Rattle.history_rules.specs.Laws.{HistoryIsDiagnosed}
use Rattle.diagnosis.specs.Judgement.{opened_by}
use Rattle.field_state.specs.Fielded.{FieldPoses}
use Rattle.field_state.specs.Without.{IsLeastWithout}
use Rattle.outage_engine.specs.Engined.{Engined, IsEngineAfter}
use Rattle.blame_margins.specs.Blamed.{IsMargin}

unmarked : (m : Mark) → (m ≡ Opened → ⊥) → (says_fine m ≡ true → ⊥) → m ≡ Nothing
unmarked Nothing other fine = refl
unmarked Opened other fine = absurd (other refl)
unmarked Fine other fine = absurd (fine refl)

-- what is flagged is a device
flag_within : (flags : List Bool) (k : ℕ) → slice_index_or flags k false ≡ true → k < length flags
flag_within flags k is = within (cases_lt k (length flags)) where
  within : (k < length flags) ⊎ (length flags ≤ k) → k < length flags
  within (inl l) = l
  within (inr past) = absurd (false≢true (sym (get_or_past flags k false past) ∙ is))

pub blamed_known : (h : List Event) (e : Engined) → IsEngineAfter h e → (d : ℕ) → opened_by e.judged d ≡ true → d < length e.grid.devices
blamed_known h e is d blamed = subst (λ (k : ℕ). d < k) is.judged.sized.opened (flag_within e.judged.opened d blamed)

module _ (law : HistoryIsDiagnosed) (poses : FieldPoses) (h : List Event) (e : Engined) (is : IsEngineAfter h e) (d : ℕ) (blamed : opened_by e.judged d ≡ true) where
  known : d < length e.grid.devices
  known = blamed_known h e is d blamed

  posed : problem_of e.grid e.field.forest.closed e.field.marks e.field.dark e.field.live ≡ problem_after e.grid h
  posed = (poses e.grid h e.field is.field).posed

  in_cut : diagnosis_after e.grid h d ≡ true
  in_cut = ap (λ (cut : Cut). cut d) (sym is.opened) ∙ blamed

  feasible : IsFeasible (problem_of e.grid e.field.forest.closed e.field.marks e.field.dark e.field.live) (diagnosis_after e.grid h)
  feasible = subst (λ (p : Problem). IsFeasible p (diagnosis_after e.grid h)) (sym posed) (law e.grid h is.field.sound is.field.history).diagnosis.least.feasible

  pub blamed_closed : slice_index_or e.field.forest.closed d false ≡ true
  blamed_closed = feasible.closed d known in_cut

  pub blamed_unmarked : (mark_at e.field.marks d ≡ Opened → ⊥) → mark_at e.field.marks d ≡ Nothing
  blamed_unmarked other = unmarked (mark_at e.field.marks d) other (λ m. false≢true (sym (feasible.fine d known m) ∙ in_cut))

  marked : (problem_after e.grid h).marked_open d ≡ says_opened (mark_at e.field.marks d)
  marked = ap (λ (p : Problem). p.marked_open d) (sym posed)

  -- every feasible set has a device that is marked open
  pub forced : mark_at e.field.marks d ≡ Opened → IsMargin e.grid h d None
  forced is_open = marked ∙ ap says_opened is_open

  -- without a device nothing costs less
  pub covers : (c : ℕ) → IsLeastWithout (problem_after e.grid h) d c → e.field.costs.total ≤ c
  covers c without =
      let diagnosed = law e.grid h is.field.sound is.field.history in
      let least = diagnosed.least.least without.attained.0 without.attained.1 in
      let attains = without.attained.3 in
      let cost = is.cost in
      omega arith

  pub worth : (c : ℕ) → mark_at e.field.marks d ≡ Nothing → IsLeastWithout (problem_after e.grid h) d c → IsMargin e.grid h d (Some (c - e.field.costs.total))
  worth c plain without =
      let more = covers c without in
      let cost = is.cost in
      let sum : least_after e.grid h + (c - e.field.costs.total) ≡ c = omega arith in
      (marked ∙ ap says_opened plain, subst (IsLeastWithout (problem_after e.grid h) d) (sym sum) without)
