-- What is handed on is what was written.
use Rattle.std.proofs.Common.{ℕ, List, Option, sym, subst}
use Rattle.outage_ports.specs.Bytes.{AppendsPrefix}
use Rattle.run_rules.specs.Told.{report_after}
use Rattle.replay_run.proofs.replay.end_output.Goals as goal

pub returns-clause-part : goal.returns-clause-part
returns-clause-part g c = λ h engine.
    subst (λ (o : Option (List ℕ)). AppendsPrefix (g.K.Sink.written c.args.out.now) o (report_after c.args.ran.now.engine.grid c.args.wish c.args.ran.now.refused h)) (sym c.hand_on.ensures.same) (c.put_rest.ensures.part h engine)
