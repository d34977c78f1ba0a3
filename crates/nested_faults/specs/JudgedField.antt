-- A field with the diagnosis of it.
use Rattle.std.specs.Prelude.{◌≡◌, List, length}
use Rattle.grid_model.specs.Parts.{Parts}
use Rattle.grid_model.specs.declared.history.Event.{Event}
use Rattle.history_rules.specs.Posed.{diagnosis_after}
use Rattle.diagnosis.specs.Judgement.{Judgement, opened_by}
use Rattle.field_state.specs.Fielded.{Fielded, IsFieldAfter}

-- the field is that of some events, and the flags of the devices, one each, are the diagnosis of those events
abbrev pub IsJudgedField : Parts → Fielded → Judgement → Type 0
IsJudgedField g f j = (h : List Event) × IsFieldAfter g h f × (length j.opened ≡ length g.devices) × (opened_by j ≡ diagnosis_after g h)
