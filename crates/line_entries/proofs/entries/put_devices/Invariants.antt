use Rattle.std.proofs.Common.{◌≡◌, take}
use Rattle.std.specs.Io.KnownBytes.{Appends}
use Rattle.line_entries.specs.Entered.{device_rows}
use Rattle.line_entries.proofs.entries.put_devices.Given as goal

-- the rows of the first devices were written
abbrev pub invariant-loop-device : goal.invariant-loop-device
invariant-loop-device g l =
    Appends (g.K.Sink.written l.fn.out) (g.K.Sink.written l.out) (device_rows l.engine l.word l.line l.was_opened (take l.device-index l.changed))
    × (g.K.Sink.faults l.out ≡ g.K.Sink.faults l.fn.out)
