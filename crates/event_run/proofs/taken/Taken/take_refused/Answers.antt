-- What comes of a line that is refused.
use Rattle.std.proofs.Common.{refl}
use Rattle.line_entries.specs.Entered.{rule_of}
use Rattle.event_run.proofs.ChangeRows.{refused_taken}
use Rattle.event_run.proofs.TakenLines.{count_passed, memory_passed}
use Rattle.event_run.proofs.taken.Taken.take_refused.Goals as goal

pub count-requires : goal.count-requires
count-requires c = record { room = c.requires.room }

pub returns-in_err-count : goal.returns-in_err-count
returns-in_err-count c = count_passed c.args.self.now c.count.new.self _ c.in_err-count.field-0.0 c.from_residual.result c.from_residual.ensures.1 c.in_err-count.ensures

pub returns-in_err-put_refused : goal.returns-in_err-put_refused
returns-in_err-put_refused c = memory_passed c.args.self.now _ _ c.from_residual-in_err-put_refused.result c.from_residual-in_err-put_refused.ensures.1

pub returns : goal.returns
returns c = refused_taken c.args.self.now c.count.new.self _ (rule_of c.args.rule) c.in_ok-count.ensures refl refl c.in_ok-put_refused.ensures.whole
