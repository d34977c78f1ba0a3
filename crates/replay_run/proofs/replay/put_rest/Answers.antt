-- The report, and the bounds behind it.
use Rattle.engine_run.proofs.Ends.{report_front, bounds_front, bounds_whole, no_bounds}
use Rattle.replay_run.proofs.replay.put_rest.Goals as goal

pub returns-in_err-put_report-clause-part : goal.returns-in_err-put_report-clause-part
returns-in_err-put_report-clause-part g c = λ h engine.
    report_front c.args.ran.now.engine.grid c.args.wish c.args.ran.now.refused h (g.K.Sink.written c.args.out.now) (g.K.Sink.written c.args.out.now) (g.K.Sink.written c.put_report.new.out) (c.put_report.ensures.part h engine)

pub returns-in_err-put_bounds_part-clause-part : goal.returns-in_err-put_bounds_part-clause-part
returns-in_err-put_bounds_part-clause-part g c = λ h engine.
    bounds_front c.args.ran.now.engine.grid c.args.wish c.args.ran.now.refused h (g.K.Sink.written c.args.out.now) (g.K.Sink.written c.put_report.new.out) (g.K.Sink.written c.put_bounds_part.new.out) c.if-wish.true (c.in_ok-put_report.ensures.whole h engine) (c.put_bounds_part.ensures.part h engine)

pub returns-in_ok-put_bounds_part-clause-whole : goal.returns-in_ok-put_bounds_part-clause-whole
returns-in_ok-put_bounds_part-clause-whole g c = λ h engine.
    bounds_whole c.args.ran.now.engine.grid c.args.wish c.args.ran.now.refused h (g.K.Sink.written c.args.out.now) (g.K.Sink.written c.put_report.new.out) (g.K.Sink.written c.put_bounds_part.new.out) c.if-wish.true (c.in_ok-put_report.ensures.whole h engine) (c.in_ok-put_bounds_part.ensures.whole h engine)

pub returns-in_ok-put_bounds_part-clause-part : goal.returns-in_ok-put_bounds_part-clause-part
returns-in_ok-put_bounds_part-clause-part g c = λ h engine.
    bounds_front c.args.ran.now.engine.grid c.args.wish c.args.ran.now.refused h (g.K.Sink.written c.args.out.now) (g.K.Sink.written c.put_report.new.out) (g.K.Sink.written c.put_bounds_part.new.out) c.if-wish.true (c.in_ok-put_report.ensures.whole h engine) (c.put_bounds_part.ensures.part h engine)

pub returns-else-wish-clause-whole : goal.returns-else-wish-clause-whole
returns-else-wish-clause-whole g c = λ h engine.
    no_bounds c.args.ran.now.engine.grid c.args.wish c.args.ran.now.refused h (g.K.Sink.written c.args.out.now) (g.K.Sink.written c.args.out.now) (g.K.Sink.written c.put_report.new.out) c.if-wish.false (c.in_ok-put_report.ensures.whole h engine)

pub returns-else-wish-clause-part : goal.returns-else-wish-clause-part
returns-else-wish-clause-part g c = λ h engine.
    report_front c.args.ran.now.engine.grid c.args.wish c.args.ran.now.refused h (g.K.Sink.written c.args.out.now) (g.K.Sink.written c.args.out.now) (g.K.Sink.written c.put_report.new.out) (c.put_report.ensures.part h engine)
