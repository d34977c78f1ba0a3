-- What one more line leads to.
use Rattle.std.proofs.Common.{refl, sym, subst, ◌∙◌}
use Rattle.event_run.specs.declared.reading.EventsStop.TheVariants.{WriteFailed}
use Rattle.event_run.specs.Pieces.{TakesNext}
use Rattle.event_run.proofs.PutLines.{done, at_done, entered_on, next_kept, next_put}
use Rattle.event_run.proofs.Told.{ok_is_no_stop, goes_still}
use Rattle.event_run.proofs.taken.Taken.take_next.Goals as goal

pub take_read-answer-requires : goal.take_read-answer-requires
take_read-answer-requires g c = record { taken = c.requires.taken; read = c.requires.read; room = c.requires.room }

pub returns-then-at_once-clause-leads : goal.returns-then-at_once-clause-leads
returns-then-at_once-clause-leads g c = λ lines line before reading put.
    next_put lines line before (g.K.Sink.written c.args.out.now) (g.K.Sink.written c.put_entries.new.out) c.args.engine.now.grid c.args.self.now c.take_read-answer.new.self c.put_entries.new.self c.args.engine.now c.take_read-answer.new.engine
    refl c.take_read-answer.ensures.stays.grid put c.take_read-answer.result c.put_entries.result (c.take_read-answer.ensures.takes lines line put.written reading put.has) c.put_entries.ensures.entered

pub returns-then-at_once-clause-memory : goal.returns-then-at_once-clause-memory
returns-then-at_once-clause-memory g c = entered_on _ _ c.take_read-answer.new.self c.put_entries.new.self c.take_read-answer.result c.put_entries.result _ c.put_entries.ensures.entered c.take_read-answer.ensures.memory

pub returns-then-at_once-clause-goes : goal.returns-then-at_once-clause-goes
returns-then-at_once-clause-goes g c = record { engine = c.take_read-answer.ensures.stays; faults = c.put_entries.ensures.faults }

pub returns-clause-leads : goal.returns-clause-leads
returns-clause-leads g c = λ lines line before reading put.
    next_kept lines line before (g.K.Sink.written c.args.out.now) (g.K.Sink.written c.args.out.now) c.args.engine.now.grid c.args.self.now c.take_read-answer.new.self c.take_read-answer.new.self c.args.engine.now c.take_read-answer.new.engine
    refl c.take_read-answer.ensures.stays.grid put
    (subst (TakesNext lines line put.written c.args.self.now c.take_read-answer.new.self c.take_read-answer.new.engine) (done c.take_read-answer.result (sym c.is_err.ensures.value ∙ c.if-is_err.false))
    (c.take_read-answer.ensures.takes lines line put.written reading put.has))

pub returns-clause-memory : goal.returns-clause-memory
returns-clause-memory g c = at_done c.take_read-answer.result _ c.take_read-answer.ensures.memory (done c.take_read-answer.result (sym c.is_err.ensures.value ∙ c.if-is_err.false))

pub returns-clause-goes : goal.returns-clause-goes
returns-clause-goes g c = goes_still c.args.engine.now c.take_read-answer.new.engine (g.K.Sink.faults c.args.out.now) _ c.take_read-answer.ensures.stays (λ e. ok_is_no_stop _ WriteFailed e)
