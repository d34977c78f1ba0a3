-- One more line that counts, and what is kept of it.
use Rattle.std.specs.Prelude.{◌≡◌, ◌≤◌, ◌+◌, ⊤, ℕ, List, ◌∷◌, ◌++◌, Result, Ok, Err}
use Rattle.grid_model.specs.declared.history.Event.{Event}
use Rattle.grid_model.specs.declared.history.Refusal.{Refusal}
use Rattle.history_rules.specs.Posed.{refusal_of, joined}
use Rattle.history_rules.specs.Run.{Unapplied, outcome_by}
use Rattle.history_rules.specs.Output.{entry, changes, refused_row}
use Rattle.outage_engine.specs.declared.Applied.{Applied}
use Rattle.outage_engine.specs.Engined.{Engined, IsEngineAfter, IsEngine, answer_by}
use Rattle.line_entries.specs.Entered.{IsLastChange}
use Rattle.run_rules.specs.Files.{most_event_lines}
use Rattle.event_run.specs.declared.taken.LineStop.{LineStop}
use Rattle.event_run.specs.declared.taken.LineStop.TheVariants as cut
use Rattle.event_run.specs.declared.taken.Taken.{Taken}

-- the engine is one over the same network, after some events
pub record StaysEngine (e more : Engined) : Type 0 where
  pub grid : more.grid ≡ e.grid
  pub engine : IsEngine more

-- the engine answered an event so: it is that after the event too, of which it has listed the changes
pub record IsAnswered (e more : Engined) (event : Event) (answer : Result Applied Refusal) : Type 0 where
  pub stays : StaysEngine e more
  pub after : (h : List Event) → IsEngineAfter h e → IsEngineAfter (joined e.grid h event) more
  pub is : (h : List Event) → IsEngineAfter h e → answer ≡ answer_by e.grid h event (refusal_of e.grid h event)
  pub last : (h : List Event) (applied : Applied) → IsEngineAfter h e → answer ≡ Ok applied → IsLastChange h event applied more

-- the bytes grow by what the last event changed, or by the rule that refused it
abbrev pub PutsAnswer : ℕ → Engined → List ℕ → List ℕ → Result Applied Refusal → Type 0
PutsAnswer line e before now (Ok applied) = (h : List Event) (event : Event) → IsLastChange h event applied e → now ≡ before ++ changes e.grid line h (event ∷ h)
PutsAnswer line e before now (Err rule) = now ≡ before ++ refused_row line (Unapplied rule)

-- one more line is numbered and counted
pub record IsNumbered (old new : Taken) : Type 0 where
  pub number : new.number ≡ old.number + 1
  pub counted : new.counted ≡ old.counted + 1
  pub few : new.counted ≤ most_event_lines

-- as many lines count as may, and nothing changed
pub record IsFull (old new : Taken) : Type 0 where
  pub full : most_event_lines ≤ old.counted
  pub same : new ≡ old

-- what comes of counting one more line
abbrev pub Counts : Taken → Taken → Result (Unit {0}) LineStop → Type 0
Counts old new (Ok tt) = IsNumbered old new × (new.entries ≡ old.entries)
Counts old new (Err cut.TooMany) = IsFull old new
Counts old new (Err cut.Memory) = ⊥

-- what comes of one more line that counts, which takes this where memory suffices
abbrev pub TakesLine : Taken → Taken → Type 0 → Result (Unit {0}) LineStop → Type 0
TakesLine old new takes (Ok tt) = IsNumbered old new × takes
TakesLine old new takes (Err cut.TooMany) = IsFull old new
TakesLine old new takes (Err cut.Memory) = ⊤

-- the event of a line is taken: its entry is kept, and the engine is that after it too
pub record IsEventTaken (e more : Engined) (event : Event) (old new : Taken) : Type 0 where
  pub printed : (h : List Event) → IsEngineAfter h e
      → new.entries.bytes.items ≡ old.entries.bytes.items ++ entry e.grid (old.number + 1) h (outcome_by event (refusal_of e.grid h event))
  pub after : (h : List Event) → IsEngineAfter h e → IsEngineAfter (joined e.grid h event) more
