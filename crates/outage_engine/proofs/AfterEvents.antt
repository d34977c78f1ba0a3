-- What is judged of the problem that events pose is the state after them.
use Rattle.std.proofs.Common.{◌≡◌, ℕ, ap, ◌∙◌, subst, refl, List, ◌∷◌}
use Rattle.std.specs.Prelude.{⊤, Option, Some, None, Result, Ok, Err}
use Rattle.outage_rules.specs.Diagnosis.{IsLeastCost}
use Rattle.outage_rules.specs.Certificate.{IsForest, HasExactRows}
use Rattle.outage_rules.specs.Laws.{DiagnosisIsOne, OneLeastCost}
use Rattle.grid_model.specs.Parts.{Parts}
use Rattle.grid_model.specs.declared.history.Event.{Event}
use Rattle.grid_model.specs.declared.history.Refusal.{Refusal}
use Rattle.history_rules.specs.Posed.{problem_after, diagnosis_after, least_after, joined, joined_by}
use Rattle.history_rules.specs.Laws.{HistoryIsDiagnosed}
use Rattle.subtree_costs.specs.Costed.{problem_in}
use Rattle.subtree_costs.specs.Laws.{fed_rows, FedRowsAreExact, TotalIsLeast}
use Rattle.diagnosis.specs.Judgement.{Judgement, IsJudged, TellsDark, TellsDiagnosis, opened_by}
use Rattle.field_state.specs.Fielded.{Fielded, IsFieldAfter, FieldPoses, answer_by}
use Rattle.interruption_ledger.specs.Ledgered.{Ledgered}
use Rattle.outage_engine.specs.declared.Applied.{Applied}
use Rattle.outage_engine.specs.Engined as engined
use Rattle.outage_engine.specs.Engined.{IsEngineAfter, IsInRange}
use Rattle.outage_engine.specs.Recording.{IsLedgerAfter}

-- what is judged by the rows of a field after events
pub record IsJudgedAfter (g : Parts) (h : List Event) (f : Fielded) (j : Judgement) : Type 0 where
  pub field : IsFieldAfter g h f
  pub judged : IsJudged g f.costs j
  pub opened : opened_by j ≡ diagnosis_after g h
  pub dark : TellsDark (problem_after g h) j
  pub cost : f.costs.total ≡ least_after g h

-- with the ledger it is the state after them
pub engine_is : (g : Parts) (h : List Event) (f : Fielded) (j : Judgement) (l : Ledgered) → IsJudgedAfter g h f j → IsInRange h → IsLedgerAfter g h l
    → IsEngineAfter h (record { grid = g; field = f; judged = j; ledger = l })
engine_is g h f j l judged in_range ledger = record {
  field = judged.field;
  range = in_range;
  judged = judged.judged;
  opened = judged.opened;
  dark = judged.dark;
  cost = judged.cost;
  ledger_each = ledger.each;
  ledger = ledger.kept;
}

module _ (g : Parts) (h : List Event) (f : Fielded) (j : Judgement) (after : IsFieldAfter g h f)
    (poses : FieldPoses) (diagnosed : HistoryIsDiagnosed) (one_diagnosis : DiagnosisIsOne) (one_cost : OneLeastCost) (fed : FedRowsAreExact) (total : TotalIsLeast) where
  abbrev posed : problem_in g f.costs ≡ problem_after g h
  posed = (poses g h f after).posed

  opened_is : TellsDiagnosis (problem_in g f.costs) j → opened_by j ≡ diagnosis_after g h
  opened_is tells =
      let own = diagnosed g h after.sound after.history in
      let table = fed g f.costs after.costed in
      let here = subst (λ p. TellsDiagnosis p j) posed tells in
      one_diagnosis (problem_after g h) (fed_rows g f.costs) (poses g h f after).posed_well
      (subst (λ p. IsForest p.net (fed_rows g f.costs)) posed table.forest) (subst (λ p. HasExactRows p (fed_rows g f.costs)) posed table.rows)
      (opened_by j) (diagnosis_after g h) here.within own.within here.diagnosis own.diagnosis

  pub is_after : IsJudged g f.costs j → TellsDiagnosis (problem_in g f.costs) j → IsJudgedAfter g h f j
  is_after judged tells = record {
    field = after;
    judged = judged;
    opened = opened_is tells;
    dark = (subst (λ p. TellsDiagnosis p j) posed tells).dark;
    cost = one_cost (problem_after g h) f.costs.total (least_after g h)
        (subst (λ p. IsLeastCost p f.costs.total) posed (total g f.costs after.costed))
        (diagnosed g h after.sound after.history).least;
  }

-- an event that isn't refused joins the ones before it
pub joins : (h : List Event) (e : Event) (rule : Option Refusal) (answer : Result ⊤ Refusal) (x : ⊤) → answer ≡ Ok x → answer ≡ answer_by rule → joined_by h e rule ≡ e ∷ h
joins h e None answer x ok is = refl
joins h e (Some rule) answer x ok is = absurd cc

-- and one that is refused doesn't
pub stays : (h : List Event) (e : Event) (rule : Option Refusal) (answer : Result ⊤ Refusal) (r : Refusal) → answer ≡ Err r → answer ≡ answer_by rule → joined_by h e rule ≡ h
stays h e None answer r is by = absurd cc
stays h e (Some rule) answer r is by = refl

-- the costs before and after an event that isn't refused
pub costs_told : (g : Parts) (h : List Event) (e : Event) (rule : Option Refusal) (answer : Result ⊤ Refusal) (x : ⊤) (before after : ℕ) → answer ≡ Ok x → answer ≡ answer_by rule
    → before ≡ least_after g h → after ≡ least_after g (joined g h e) → ◌≡◌ {A = Result Applied Refusal} (Ok (record { cost_before = before; cost_after = after })) (engined.answer_by g h e rule)
costs_told g h e None answer x before after is by was now = ap (λ n. Ok (costs n after)) was ∙ ap (λ n. Ok (costs (least_after g h) n)) now
  where
    costs : ℕ → ℕ → Applied
    costs before after = record { cost_before = before; cost_after = after }
costs_told g h e (Some rule) answer x before after is by was now = absurd cc
