-- The place of the verdict is one of the network.
use Rattle.std.proofs.Common.{sym, subst}
use Rattle.run_rules.specs.Told.{IsVerdictOf}
use Rattle.check_run.proofs.VerdictPlaces.{placed_by}
use Rattle.check_run.proofs.verdicts.finding_on.Goals as goal

pub text_of-requires : goal.text_of-requires
text_of-requires c =
    subst (λ p. IsVerdictOf p c.in_ok-verdict.verdict) (sym c.grid.ensures)
    (placed_by c.args.engine.now c.args.bounds.now c.in_ok-verdict.verdict c.requires.engine c.in_ok-verdict.ensures)
