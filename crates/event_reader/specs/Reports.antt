-- What a report is by the bytes of its texts.
use Rattle.std.specs.Prelude.{true, false, Result, Ok, Err}
use Rattle.grid_model.specs.declared.history.What.TheVariants as what
use Rattle.event_rules.specs.declared.read_rule.ReadRule.{ReadRule}
use Rattle.event_rules.specs.EventLines.{Shape, AtMeter, AtDevice, AtNone}
use Rattle.event_reader.specs.declared.reports.Report.{Report}
use Rattle.event_reader.specs.declared.reports.Report.TheVariants.{Call, Gasp, Ping, Powerup, Confirm, Restore, Order, Clock}

abbrev pub shape_view : Report → Shape
shape_view (Call meter) = AtMeter (λ m. what.Call m) meter.now
shape_view (Gasp meter) = AtMeter (λ m. what.Gasp m) meter.now
shape_view (Ping meter true) = AtMeter (λ m. what.PingUp m) meter.now
shape_view (Ping meter false) = AtMeter (λ m. what.PingDown m) meter.now
shape_view (Powerup meter) = AtMeter (λ m. what.Powerup m) meter.now
shape_view (Confirm device finding) = AtDevice (λ d. what.Confirm d finding) device.now
shape_view (Restore device) = AtDevice (λ d. what.Restore d) device.now
shape_view (Order device want) = AtDevice (λ d. what.Order d want) device.now
shape_view Clock = AtNone what.Clock

-- of a report, if there is one
abbrev pub shape_result : Result Report ReadRule → Result Shape ReadRule
shape_result (Ok report) = Ok (shape_view report)
shape_result (Err rule) = Err rule
