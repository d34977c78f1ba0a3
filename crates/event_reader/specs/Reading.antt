-- What is read of a line.
use Rattle.std.specs.Prelude.{◌≡◌, ◌↔◌, ◌≤◌, true, Option, None, Some, Result, Ok, Err, ℕ, List, IfOk, IfSome}
use Rattle.grid_model.specs.Parts.{Parts}
use Rattle.grid_model.specs.declared.history.Event.{Event}
use Rattle.event_rules.specs.declared.read_rule.ReadRule.{ReadRule}
use Rattle.event_rules.specs.Lines.{is_skipped}
use Rattle.event_rules.specs.EventLines.{event_reading, IsEvent, IsRefused}
use Rattle.event_reader.specs.declared.refusal.ReadRefusal.{ReadRefusal}
use Rattle.event_reader.specs.Refusals.{refusal_by}

-- none exactly where the line is skipped, its event, or the first rule that it breaks; want of memory says nothing of it
pub record IsReading (g : Parts) (line : List ℕ) (read : Result (Option Event) ReadRefusal) : Type 0 where
  pub skipped : (read ≡ Ok None) ↔ (is_skipped line ≡ true)
  pub event : (event : Event) → read ≡ Ok (Some event) → event_reading g line ≡ IsEvent event
  pub bound : IfOk read (λ found. IfSome found (λ event. event.time.0 ≤ 253402300799))
  pub refused : (rule : ReadRule) → read ≡ Err (refusal_by rule) → event_reading g line ≡ IsRefused rule
