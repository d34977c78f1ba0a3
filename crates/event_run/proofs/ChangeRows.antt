-- The rows that are printed of an event are those of its entry.
use Rattle.std.proofs.Common.{◌≡◌, ◌≤◌, ◌+◌, ℕ, refl, sym, ap, ◌∙◌, subst, List, ◌∷◌, ◌++◌, Result, Ok, Err}
use Rattle.std.specs.Prelude.{Option, None, Some}
use Rattle.std.specs.Result.{result_err}
use Rattle.grid_model.specs.Parts.{Parts}
use Rattle.grid_model.specs.declared.history.Event.{Event}
use Rattle.grid_model.specs.declared.history.Refusal.{Refusal}
use Rattle.history_rules.specs.Posed.{refusal_of, joined}
use Rattle.history_rules.specs.Run.{LineRule, Unapplied, outcome_by}
use Rattle.history_rules.specs.Output.{changes, refused_row, entry}
use Rattle.outage_engine.specs.declared.Applied.{Applied}
use Rattle.outage_engine.specs.Engined.{Engined, IsEngineAfter, answer_by}
use Rattle.run_rules.specs.Files.{most_event_lines}
use Rattle.event_run.specs.Entering.{IsAnswered, PutsAnswer, IsNumbered, IsEventTaken}
use Rattle.event_run.specs.declared.taken.Taken.{Taken}

-- an event that was applied was refused by no rule
applied_freely : (g : Parts) (h : List Event) (event : Event) (rule : Option Refusal) (applied : Applied) → Ok applied ≡ answer_by g h event rule → rule ≡ None
applied_freely g h event None applied e = refl
applied_freely g h event (Some rule) applied e = cc

-- what is printed of an event that was applied
applied_printed : (g now : Parts) (h : List Event) (event : Event) (line : ℕ) (applied : Applied) (out front printed : List ℕ) (number : ℕ) → front ≡ out → number ≡ line → now ≡ g
    → Ok applied ≡ answer_by g h event (refusal_of g h event) → printed ≡ front ++ changes now number h (event ∷ h)
    → printed ≡ out ++ entry g line h (outcome_by event (refusal_of g h event))
applied_printed g now h event line applied out front printed number same_front same_number same_grid answer e =
    e
    ∙ ap (λ x. x ++ changes now number h (event ∷ h)) same_front
    ∙ ap (λ n. out ++ changes now n h (event ∷ h)) same_number
    ∙ ap (λ p. out ++ changes p line h (event ∷ h)) same_grid
    ∙ ap (λ r. out ++ entry g line h (outcome_by event r)) (sym (applied_freely g h event (refusal_of g h event) applied answer))

-- the error of an answer is the rule that refuses the event
answer_is : (g : Parts) (h : List Event) (event : Event) (r : Option Refusal) → result_err (answer_by g h event r) ≡ r
answer_is g h event None = refl
answer_is g h event (Some rule) = refl

-- and so the row of a refused line is its entry
refused_printed : (g : Parts) (h : List Event) (event : Event) (line : ℕ) (rule : Refusal) (out front printed : List ℕ) (number : ℕ) → front ≡ out → number ≡ line
    → Err rule ≡ answer_by g h event (refusal_of g h event) → printed ≡ front ++ refused_row number (Unapplied rule)
    → printed ≡ out ++ entry g line h (outcome_by event (refusal_of g h event))
refused_printed g h event line rule out front printed number same_front same_number answer e =
    e
    ∙ ap (λ x. x ++ refused_row number (Unapplied rule)) same_front
    ∙ ap (λ x. out ++ refused_row x (Unapplied rule)) same_number
    ∙ ap (λ r. out ++ entry g line h (outcome_by event r)) (ap result_err answer ∙ answer_is g h event (refusal_of g h event))

-- what is printed of an event that was answered so
answer_printed : (g : Parts) (e more : Engined) (h : List Event) (event : Event) (line : ℕ) (answer : Result Applied Refusal) (out front printed : List ℕ) (number : ℕ) → front ≡ out → number ≡ line → e.grid ≡ g
    → IsEngineAfter h e → IsAnswered e more event answer → PutsAnswer number more front printed answer → printed ≡ out ++ entry g line h (outcome_by event (refusal_of g h event))
answer_printed g e more h event line (Ok applied) out front printed number same_front same_number grid after told put =
    applied_printed g more.grid h event line applied out front printed number same_front same_number (told.stays.grid ∙ grid)
    (subst (λ (p : Parts). Ok applied ≡ answer_by p h event (refusal_of p h event)) grid (told.is h after))
    (put h event (told.last h applied after refl))
answer_printed g e more h event line (Err rule) out front printed number same_front same_number grid after told put =
    refused_printed g h event line rule out front printed number same_front same_number (subst (λ (p : Parts). Err rule ≡ answer_by p h event (refusal_of p h event)) grid (told.is h after)) put

-- a line that was counted, of which an entry is kept now
still_numbered : (old counted new : Taken) → IsNumbered old counted → new.number ≡ counted.number → new.counted ≡ counted.counted → IsNumbered old new
still_numbered old counted new is number count = record {
  number = number ∙ is.number;
  counted = count ∙ is.counted;
  few = subst (λ n. n ≤ most_event_lines) (sym count) is.few;
}

pub refused_taken : (old counted new : Taken) (rule : LineRule) → IsNumbered old counted × (counted.entries ≡ old.entries) → new.number ≡ counted.number → new.counted ≡ counted.counted
    → new.entries.bytes.items ≡ counted.entries.bytes.items ++ refused_row counted.number rule
    → IsNumbered old new × (new.entries.bytes.items ≡ old.entries.bytes.items ++ refused_row (old.number + 1) rule)
refused_taken old counted new rule is number count put = (
  still_numbered old counted new is.0 number count,
  put ∙ ap (λ k. k.bytes.items ++ refused_row counted.number rule) is.1 ∙ ap (λ n. old.entries.bytes.items ++ refused_row n rule) is.0.number,
)

pub event_taken : (old counted new : Taken) (e room more : Engined) (event : Event) (answer : Result Applied Refusal) → IsNumbered old counted × (counted.entries ≡ old.entries) → new.number ≡ counted.number → new.counted ≡ counted.counted
    → room.grid ≡ e.grid → ((h : List Event) → IsEngineAfter h e → IsEngineAfter h room) → IsAnswered room more event answer
    → PutsAnswer counted.number more counted.entries.bytes.items new.entries.bytes.items answer → IsNumbered old new × IsEventTaken e more event old new
event_taken old counted new e room more event answer is number count grid stands told put = (
  still_numbered old counted new is.0 number count,
  record {
    printed = λ h after.
        answer_printed e.grid room more h event (old.number + 1) answer old.entries.bytes.items counted.entries.bytes.items new.entries.bytes.items counted.number (ap (λ k. k.bytes.items) is.1) is.0.number grid
        (stands h after) told put;
    after = λ h after. subst (λ (p : Parts). IsEngineAfter (joined p h event) more) grid (told.after h (stands h after));
  },
)
