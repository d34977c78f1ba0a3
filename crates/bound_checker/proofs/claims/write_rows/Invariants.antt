use Rattle.std.proofs.Common.{◌≡◌, ℕ, drop, get_or}
use Rattle.bound_checker.specs.Claimed.{no_claim, claim_at}
use Rattle.bound_checker.proofs.claims.write_rows.Given as goal

abbrev pub invariant-loop-i : goal.invariant-loop-i
invariant-loop-i l = (n : ℕ) → get_or l.claims n no_claim ≡ claim_at l.devices (drop l.i l.rows) n
