-- What becomes of the entries that are kept, by the answer to a line.
use Rattle.std.proofs.Common.{◌≡◌, refl, ap, ◌∙◌, Result, Err}
use Rattle.run_rules.proofs.FaultsTold.{no_fault, tells_as}
use Rattle.event_run.specs.declared.reading.EventsStop.TheVariants.{WriteFailed}
use Rattle.event_run.specs.declared.taken.LineStop.{LineStop}
use Rattle.event_run.specs.declared.taken.LineStop.TheVariants.{TooMany, Memory}
use Rattle.event_run.proofs.PutLines.{entered_all, entered_part}
use Rattle.event_run.proofs.Told.{ok_is_no_stop, memory_is_no_write, many_is_no_write, passed_told, stop_passed}
use Rattle.event_run.proofs.taken.Taken.put_entries.Goals as goal

answer_is : (answer : Result (Unit {0}) LineStop) (stop named : LineStop) → answer ≡ Err stop → stop ≡ named → answer ≡ Err named
answer_is answer stop named is same = is ∙ ap Err same

pub returns-in-Ok : goal.returns-in-Ok
returns-in-Ok g c = record {
  entered = entered_all (g.K.Sink.written c.args.out.now) (g.K.Sink.written c.write_entries.new.out) c.args.self.now c.write_entries.new.self c.args.answer c.write_entries.result c.in-Ok.is c.write_entries.ensures.writes;
  faults = c.write_entries.ensures.faults;
}

pub returns-in_err-write_entries-in-Err-TooMany-clause-entered : goal.returns-in_err-write_entries-in-Err-TooMany-clause-entered
returns-in_err-write_entries-in-Err-TooMany-clause-entered g c =
    entered_part (g.K.Sink.written c.args.out.now) (g.K.Sink.written c.write_entries-in-Err-TooMany.new.out) c.args.self.now c.write_entries-in-Err-TooMany.new.self c.args.answer c.in_err-write_entries-in-Err-TooMany.field-0.0 c.from_residual.result
    (answer_is c.args.answer c.in-Err-TooMany.field-0 TooMany c.in-Err-TooMany.is (rw c.in-Err-TooMany.is at c.in-Err-TooMany.field-0-is)) c.from_residual.ensures.1 c.in_err-write_entries-in-Err-TooMany.ensures.writes

pub returns-in_err-write_entries-in-Err-TooMany-clause-faults : goal.returns-in_err-write_entries-in-Err-TooMany-clause-faults
returns-in_err-write_entries-in-Err-TooMany-clause-faults g c =
    passed_told (g.K.Sink.faults c.args.out.now) (g.K.Sink.faults c.write_entries-in-Err-TooMany.new.out) c.write_entries-in-Err-TooMany.result c.from_residual.result c.in_err-write_entries-in-Err-TooMany.field-0.0 WriteFailed c.in_err-write_entries-in-Err-TooMany.was
    (stop_passed c.from_residual.result c.in_err-write_entries-in-Err-TooMany.field-0.0 c.from_residual.ensures.1) c.write_entries-in-Err-TooMany.ensures.faults

pub returns-in_ok-write_entries-in-Err-TooMany-clause-entered : goal.returns-in_ok-write_entries-in-Err-TooMany-clause-entered
returns-in_ok-write_entries-in-Err-TooMany-clause-entered g c =
    (answer_is c.args.answer c.in-Err-TooMany.field-0 TooMany c.in-Err-TooMany.is (rw c.in-Err-TooMany.is at c.in-Err-TooMany.field-0-is), c.in_ok-write_entries-in-Err-TooMany.ensures.writes.0)

pub returns-in_ok-write_entries-in-Err-TooMany-clause-faults : goal.returns-in_ok-write_entries-in-Err-TooMany-clause-faults
returns-in_ok-write_entries-in-Err-TooMany-clause-faults g c = tells_as (g.K.Sink.faults c.args.out.now) (g.K.Sink.faults c.write_entries-in-Err-TooMany.new.out) _ _ (λ e. absurd (ok_is_no_stop _ WriteFailed e)) (λ e. absurd (many_is_no_write e)) c.in_ok-write_entries-in-Err-TooMany.ensures.faults

pub returns-in-Err-Memory-clause-entered : goal.returns-in-Err-Memory-clause-entered
returns-in-Err-Memory-clause-entered g c = (answer_is c.args.answer c.in-Err-Memory.field-0 Memory c.in-Err-Memory.is (rw c.in-Err-Memory.is at c.in-Err-Memory.field-0-is), refl)

pub returns-in-Err-Memory-clause-faults : goal.returns-in-Err-Memory-clause-faults
returns-in-Err-Memory-clause-faults g c = no_fault (g.K.Sink.faults c.args.out.now) (g.K.Sink.faults c.args.out.now) _ refl (λ e. memory_is_no_write e)
