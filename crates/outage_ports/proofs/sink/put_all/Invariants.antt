use Rattle.std.proofs.Common.{◌≡◌, ◌≤◌, ◌-◌, length, take}
use Rattle.std.specs.Io.KnownBytes.{Appends}
use Rattle.outage_ports.proofs.sink.put_all.Given as goal

-- what was done is a prefix of the piece, nothing was called where it is empty, and the count stands
abbrev pub invariant-loop-done : goal.invariant-loop-done
invariant-loop-done g l =
    (l.done ≤ length l.piece)
    × Appends (g.K.Sink.written l.initial.out) (g.K.Sink.written l.out) (take l.done l.piece)
    × (l.done ≡ 0 → l.out ≡ l.initial.out)
    × (g.K.Sink.faults l.out ≡ g.K.Sink.faults l.initial.out)

abbrev pub decreases-loop-done : goal.decreases-loop-done
decreases-loop-done g l = length l.piece - l.done
