use Rattle.std.proofs.Common.{◌≡◌, ◌<◌, ℕ, false, get_or}
use Rattle.radial_forest.specs.Spreading.{first_flags}
use Rattle.radial_forest.proofs.loops.keep_first.Given as goal

abbrev pub invariant-loop-d : goal.invariant-loop-d
invariant-loop-d l = (k : ℕ) → k < l.d → get_or l.kept k false ≡ first_flags l.closed l.count k
