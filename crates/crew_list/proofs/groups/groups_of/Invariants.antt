use Rattle.std.proofs.Common.{take}
use Rattle.crew_list.specs.Groups.{IsGrouped}
use Rattle.crew_list.proofs.groups.groups_of.Given as goal

abbrev pub invariant-loop-place : goal.invariant-loop-place
invariant-loop-place l = IsGrouped l.outages (take l.place l.outages) l.groups.items
