use Rattle.std.proofs.Common.{sym, ◌∙◌}
use Rattle.bound_checker.specs.Claimed.{table_in}
use Rattle.bound_checker.proofs.Passed.{all_hang}
use Rattle.bound_checker.proofs.forest.verdict.Goals as goal

pub parent_flags-requires-clause-parents : goal.parent_flags-requires-clause-parents
parent_flags-requires-clause-parents c =
    all_hang c.args.grid.now c.args.closed.now (table_in c.args.claims.now) (sym c.first_bad_parent.ensures ∙ c.in_default-first_bad_parent.is)
