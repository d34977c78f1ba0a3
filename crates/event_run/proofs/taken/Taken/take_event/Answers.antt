-- What comes of the event of a line.
use Rattle.std.proofs.Common.{◌≡◌, ◌<◌, ◌^◌, ℕ, refl, sym, ap, subst, arith}
use Rattle.grid_model.specs.Parts.{Parts}
use Rattle.history_rules.specs.Posed.{IsOfGrid}
use Rattle.outage_engine.specs.Engined.{Engined}
use Rattle.event_run.proofs.ChangeRows.{event_taken}
use Rattle.event_run.proofs.TakenLines.{count_passed, memory_passed}
use Rattle.event_run.proofs.Told.{stays_on}
use Rattle.event_run.proofs.taken.Taken.take_event.Goals as goal

some_part : (parts : ℕ) → parts ≡ 1 → 0 < parts
some_part parts one = omega arith

few_applied : (e room : Engined) → room.field ≡ e.field → e.field.applied < 2000001 → room.field.applied < 2 ^ 32
few_applied e room same few = let count = ap (λ f. f.applied) same in omega arith

pub count-requires : goal.count-requires
count-requires c = record { room = c.requires.room }

pub returns-in_err-count-clause-takes : goal.returns-in_err-count-clause-takes
returns-in_err-count-clause-takes c = count_passed c.args.self.now c.count.new.self _ c.in_err-count.field-0.0 c.from_residual.result c.from_residual.ensures.1 c.in_err-count.ensures

pub returns-in_err-count-clause-stays : goal.returns-in_err-count-clause-stays
returns-in_err-count-clause-stays c = record { grid = refl; engine = c.requires.engine }

pub returns-in_err-reserve-clause-takes : goal.returns-in_err-reserve-clause-takes
returns-in_err-reserve-clause-takes c = memory_passed c.args.self.now c.count.new.self _ c.from_residual-in_err-reserve.result c.from_residual-in_err-reserve.ensures.1

pub returns-in_err-reserve-clause-stays : goal.returns-in_err-reserve-clause-stays
returns-in_err-reserve-clause-stays c = record { grid = c.reserve.ensures.grid; engine = c.reserve.ensures.engine }

pub apply_event-answer-requires : goal.apply_event-answer-requires
apply_event-answer-requires c = record {
  name = refl;
  parts = refl;
  some = some_part c.new.result.parts c.new.ensures;
  of_grid = subst (λ (p : Parts). IsOfGrid p c.args.event.what) (sym c.reserve.ensures.grid) c.requires.of_grid;
  range = c.requires.range;
  room = few_applied c.args.engine.now c.reserve.new.self c.reserve.ensures.field c.requires.applied;
  spare = c.in_ok-reserve.ensures.room;
}

pub put_answer-requires : goal.put_answer-requires
put_answer-requires c =
    let some = c.reserve.ensures.engine in
    record { last = λ applied ok. (some.0, c.args.event, c.apply_event-answer.ensures.last some.0 applied some.1 ok) }

pub returns-in_err-put_answer-clause-takes : goal.returns-in_err-put_answer-clause-takes
returns-in_err-put_answer-clause-takes c = memory_passed c.args.self.now _ _ c.from_residual-in_err-put_answer.result c.from_residual-in_err-put_answer.ensures.1

pub returns-in_err-put_answer-clause-stays : goal.returns-in_err-put_answer-clause-stays
returns-in_err-put_answer-clause-stays c = stays_on c.args.engine.now c.reserve.new.self _ c.reserve.ensures.grid c.apply_event-answer.ensures.stays

pub returns : goal.returns
returns c = record {
  takes =
      event_taken c.args.self.now c.count.new.self _ c.args.engine.now c.reserve.new.self c.apply_event-answer.new.engine c.args.event c.apply_event-answer.result c.in_ok-count.ensures refl refl c.reserve.ensures.grid
      c.reserve.ensures.after c.apply_event-answer.ensures c.in_ok-put_answer.ensures;
  stays = stays_on c.args.engine.now c.reserve.new.self _ c.reserve.ensures.grid c.apply_event-answer.ensures.stays;
}
