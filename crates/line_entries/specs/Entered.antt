-- What is printed of a line, by what changed with it.
use Rattle.std.specs.Prelude.{◌≡◌, ℕ, Bool, List, [], ◌∷◌, filter, flat_map, length, map, if◌then◌else◌, decimal, Ok}
use Rattle.std.specs.List.{range_with_len}
use Rattle.grid_model.specs.declared.history.Event.{Event}
use Rattle.grid_model.specs.declared.parts.DeviceId.{DeviceId}
use Rattle.bound_table.specs.Printed.{device_name}
use Rattle.event_rules.specs.Rows.{row}
use Rattle.diagnosis.specs.Judgement.{opened_by, differ, differences}
use Rattle.history_rules.specs.Posed.{least_after, diagnosis_after, refusal_of, joined}
use Rattle.history_rules.specs.Run as run
use Rattle.outage_engine.specs.declared.Applied.{Applied}
use Rattle.outage_engine.specs.Engined.{Engined, IsEngineAfter, answer_by}
use Rattle.line_entries.specs.declared.entries.LineRule.{LineRule}
use Rattle.line_entries.specs.declared.entries.LineRule.TheVariants.{Unread, Unapplied}

-- the rule by which a line is refused
abbrev pub rule_of : LineRule → run.LineRule
rule_of (Unread rule) = run.Unread rule
rule_of (Unapplied rule) = run.Unapplied rule

-- an event behind others was applied last, with this answer: the devices listed as changed are those in which the diagnoses before it
-- and after it differ, by number, and the answer has the least costs before it and after it
pub record IsLastChange (h : List Event) (event : Event) (answer : Applied) (e : Engined) : Type 0 where
  pub after : IsEngineAfter (event ∷ h) e
  pub changed : map (λ d. d.0) e.judged.changed ≡ filter (λ d. differ (diagnosis_after e.grid h d) (diagnosis_after e.grid (event ∷ h) d)) (range_with_len 0 (length e.grid.devices))
  pub cost_before : answer.cost_before ≡ least_after e.grid h
  pub cost_after : answer.cost_after ≡ least_after e.grid (event ∷ h)

-- an event that an engine applies is its last change, with the answer that it gave
abbrev pub AppliedIsLastChange : Type 0
AppliedIsLastChange = (h : List Event) (event : Event) (applied : Applied) (old new : Engined) → IsEngineAfter h old
    → Ok applied ≡ answer_by old.grid h event (refusal_of old.grid h event) → new.grid ≡ old.grid → IsEngineAfter (joined old.grid h event) new
    → map (λ d. d.0) new.judged.changed ≡ differences old.judged.opened new.judged.opened → IsLastChange h event applied new

-- a row with this word for a device that was opened before a change, or wasn't, and is no more as it was
abbrev pub device_row : Engined → List ℕ → ℕ → Bool → DeviceId → List ℕ
device_row e word line was_opened d = if differ was_opened (opened_by e.judged d.0) then row (word ∷ decimal line ∷ device_name e.grid d ∷ []) else []

-- such rows of those among devices
abbrev pub device_rows : Engined → List ℕ → ℕ → Bool → List DeviceId → List ℕ
device_rows e word line was_opened devices = flat_map (device_row e word line was_opened) devices
