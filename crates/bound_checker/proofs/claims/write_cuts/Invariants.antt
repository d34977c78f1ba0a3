use Rattle.std.proofs.Common.{◌≡◌, ℕ, false, take, get_or}
use Rattle.bound_checker.specs.Claimed.{cut_of}
use Rattle.bound_checker.proofs.claims.write_cuts.Given as goal

abbrev pub invariant-loop-cut : goal.invariant-loop-cut
invariant-loop-cut l = (d : ℕ) → get_or l.flags d false ≡ cut_of (take l.cut-index l.cuts) d
