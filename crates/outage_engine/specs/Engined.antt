-- The whole state after events: the field, the judgement of it, and the ledger of interruptions.
use Rattle.std.specs.Prelude.{◌≡◌, ◌<◌, ◌≤◌, ℕ, List, length, Option, Some, None, Result, Ok, Err}
use Rattle.grid_model.specs.Parts.{Parts}
use Rattle.grid_model.specs.declared.history.Event.{Event}
use Rattle.grid_model.specs.declared.history.Refusal.{Refusal}
use Rattle.history_rules.specs.State.{now}
use Rattle.history_rules.specs.StampTexts.{last_second}
use Rattle.history_rules.specs.Posed.{problem_after, least_after, diagnosis_after, joined}
use Rattle.diagnosis.specs.Judgement.{Judgement, IsJudged, TellsDark, opened_by}
use Rattle.history_rules.specs.Ledger.{is_judged_dark, interrupted_of}
use Rattle.field_state.specs.Fielded.{Fielded, IsFieldAfter}
use Rattle.interruption_ledger.specs.Ledgered.{Ledgered, interrupted_at}
use Rattle.outage_engine.specs.declared.Applied.{Applied}

pub record Engined : Type 0 where
  pub grid : Parts
  pub field : Fielded
  pub judged : Judgement
  pub ledger : Ledgered

-- the state that has these parts
abbrev pub engined : Parts → Fielded → Judgement → Ledgered → Engined
engined grid field judged ledger = record { grid = grid; field = field; judged = judged; ledger = ledger }

-- no event is later than the last second of the year 9999
pub record IsInRange (h : List Event) : Type 0 where
  pub last : now h ≤ last_second

-- the field is that of the events, and the judgement agrees with its rows: its devices are the diagnosis, which leaves the flagged nodes dark,
-- and the total of the rows is the least cost; and the ledger is that of all judgements
pub record IsEngineAfter (h : List Event) (e : Engined) : Type 0 where
  pub field : IsFieldAfter e.grid h e.field
  pub range : IsInRange h
  pub judged : IsJudged e.grid e.field.costs e.judged
  pub opened : opened_by e.judged ≡ diagnosis_after e.grid h
  pub dark : TellsDark (problem_after e.grid h) e.judged
  pub cost : e.field.costs.total ≡ least_after e.grid h
  pub ledger_each : length e.ledger.meters ≡ length e.grid.meters
  pub ledger : (m : ℕ) → m < length e.grid.meters → interrupted_at e.ledger m ≡ interrupted_of m (is_judged_dark e.grid m) h

-- the engine is that after some events
abbrev pub IsEngine : Engined → Type 0
IsEngine e = (h : List Event) × IsEngineAfter h e

-- the answer to an event after these: the rule that refuses it, or the least cost before and after it
abbrev pub answer_by : Parts → List Event → Event → Option Refusal → Result Applied Refusal
answer_by g h e None = Ok (record { cost_before = least_after g h; cost_after = least_after g (joined g h e) })
answer_by g h e (Some rule) = Err rule
