use Rattle.std.proofs.Common.{◌≡◌, ◌++◌}
use Rattle.interruption_ledger.specs.Inside.{open_below}
use Rattle.interruption_ledger.proofs.push_open_lines.Given as goal

abbrev pub invariant-loop-m : goal.invariant-loop-m
invariant-loop-m l = l.lines.items ≡ l.initial.lines.items ++ open_below l.starts l.m
