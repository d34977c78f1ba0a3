use Rattle.std.proofs.Common.{take}
use Rattle.blame_margins.proofs.MarginsListed.{AreListed}
use Rattle.blame_margins.proofs.blame.margins.Given as goal

-- the margins of the first devices are listed
abbrev pub invariant-loop-device : goal.invariant-loop-device
invariant-loop-device g l = AreListed l.fn.engine l.engine l.fn.steps l.steps (take l.device-index l.device-items) l.margins.items
