use Rattle.replay_laws.proofs.Told.{told_throughout}
use Rattle.replay_laws.proofs.closing.run_is_told.Goals as goal

pub returns : goal.returns
returns c = λ text g events says. told_throughout g events c.run_of_parts.ensures (λ front. c.lines_are_told.ensures text g front says)
