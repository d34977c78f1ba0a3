use Rattle.std.proofs.Common.{◌≡◌, ◌++◌, take}
use Rattle.std.specs.Prelude.{flat_map}
use Rattle.bound_table.specs.Printed.{cut_text}
use Rattle.bound_table.proofs.write.put_cuts.Given as goal

abbrev pub invariant-loop-cut : goal.invariant-loop-cut
invariant-loop-cut l = l.text.items ≡ l.fn.text.items ++ flat_map (cut_text l.grid) (take l.cut-index l.cuts)
