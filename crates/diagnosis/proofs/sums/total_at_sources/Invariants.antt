use Rattle.std.proofs.Common.{◌≡◌, cond, get_or}
use Rattle.outage_rules.specs.Sum.{total}
use Rattle.grid_model.specs.Places.{is_source}
use Rattle.diagnosis.proofs.sums.total_at_sources.Given as goal

abbrev pub invariant-loop-n : goal.invariant-loop-n
invariant-loop-n l = l.total ≡ total l.n (λ n. cond (is_source l.grid n) (get_or l.rows n 0) 0)
