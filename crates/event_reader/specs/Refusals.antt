-- Why no event is read of a line, by the rule that the line breaks.
use Rattle.line_text.specs.declared.rows.FieldsFault.{FieldsFault}
use Rattle.line_text.specs.declared.rows.FieldsFault.TheVariants as no_fields
use Rattle.event_rules.specs.declared.read_rule.ReadRule.{ReadRule}
use Rattle.event_rules.specs.declared.read_rule.ReadRule.TheVariants as rule
use Rattle.event_reader.specs.declared.refusal.ReadRefusal.{ReadRefusal}
use Rattle.event_reader.specs.declared.refusal.ReadRefusal.TheVariants.{TooLong, BadFields, BadWord, BadTime, BadName, UnknownMeter, UnknownDevice, Memory}

-- the refusal by each rule: all but want of memory
abbrev pub refusal_by : ReadRule → ReadRefusal
refusal_by rule.TooLong = TooLong
refusal_by rule.BadFields = BadFields
refusal_by rule.BadWord = BadWord
refusal_by rule.BadTime = BadTime
refusal_by rule.BadName = BadName
refusal_by rule.UnknownMeter = UnknownMeter
refusal_by rule.UnknownDevice = UnknownDevice

-- a line without fields
abbrev pub refusal_without_fields : FieldsFault → ReadRefusal
refusal_without_fields no_fields.Bad = BadFields
refusal_without_fields no_fields.Memory = Memory
