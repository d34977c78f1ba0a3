-- What was read of one more line.
use Rattle.std.proofs.Common.{◌≡◌, ◌<◌, ◌+◌, ◌≤◌, ℕ, Fits, w32, refl, ap, ◌∙◌, subst, arith, Option, Some, None, Result, Ok, Err}
use Rattle.std.specs.Prelude.{IfOk, IfSome}
use Rattle.grid_model.specs.declared.history.Event.{Event}
use Rattle.event_rules.specs.declared.read_rule.ReadRule.{ReadRule}
use Rattle.event_rules.specs.declared.read_rule.ReadRule.TheVariants as rules
use Rattle.event_reader.specs.declared.refusal.ReadRefusal.{ReadRefusal}
use Rattle.event_reader.specs.declared.refusal.ReadRefusal.TheVariants as refusal
use Rattle.event_reader.specs.Refusals.{refusal_by}
use Rattle.event_run.proofs.TakenLines.{stays_engine, skipped_next, event_next, refused_next, in_any, applied_few}
use Rattle.event_run.proofs.EventsOfGrid.{event_known}
use Rattle.event_run.proofs.taken.Taken.take_read.Goals as goal

fits_more : (n : ℕ) → n < 4294967295 → Fits w32 (n + 1)
fits_more n few = omega arith

in_range : (read : Result (Option Event) ReadRefusal) (event : Event) → read ≡ Ok (Some event) → IfOk read (λ found. IfSome found (λ e. e.time.0 ≤ 253402300799)) → event.time.0 ≤ 253402300799
in_range read event is bound = subst (λ (r : Result (Option Event) ReadRefusal). IfOk r (λ found. IfSome found (λ e. e.time.0 ≤ 253402300799))) is bound

-- what is read is no want of memory, and neither is a rule
event_kept : (read : Result (Option Event) ReadRefusal) (found : Option Event) → read ≡ Ok found → read ≡ Err refusal.Memory → ⊥
event_kept read found is e = cc

said : (read : Result (Option Event) ReadRefusal) (rule : ReadRule) → read ≡ Err (refusal_by rule) → read ≡ Err refusal.Memory → ⊥
said read rules.TooLong is e = cc
said read rules.BadFields is e = cc
said read rules.BadWord is e = cc
said read rules.BadTime is e = cc
said read rules.BadName is e = cc
said read rules.UnknownMeter is e = cc
said read rules.UnknownDevice is e = cc

pub overflow_add-self : goal.overflow_add-self
overflow_add-self c = fits_more c.args.self.now.number c.requires.room

pub take_event-requires : goal.take_event-requires
take_event-requires c =
    let is = c.in-Ok-Some.is ∙ ap Ok (rw c.in-Ok-Some.is at c.in-Ok-Some.field-0-is) in record {
      engine = (stays_engine c.args.self.now c.args.engine.now c.requires.taken).engine;
      of_grid = event_known c.args.engine.now.grid c.requires.read.0 c.in-Ok-Some.event (c.requires.read.1.event c.in-Ok-Some.event is);
      range = in_range c.args.read c.in-Ok-Some.event is c.requires.read.1.bound;
      applied = applied_few c.args.self.now c.args.engine.now c.requires.taken;
      room = c.requires.room;
    }

pub take_refused-requires : goal.take_refused-requires
take_refused-requires c = record { room = c.requires.room }

pub returns-in-Ok-None : goal.returns-in-Ok-None
returns-in-Ok-None c =
    let is = c.in-Ok-None.is ∙ ap Ok (rw c.in-Ok-None.is at c.in-Ok-None.field-0-is) in record {
      takes = λ lines line written reading has. skipped_next c.run_of_parts.ensures lines line written c.args.self.now _ c.args.engine.now c.args.read reading has is refl refl refl;
      memory = event_kept c.args.read None is;
      stays = stays_engine c.args.self.now c.args.engine.now c.requires.taken;
    }

pub returns-in-Ok-Some : goal.returns-in-Ok-Some
returns-in-Ok-Some c =
    let is = c.in-Ok-Some.is ∙ ap Ok (rw c.in-Ok-Some.is at c.in-Ok-Some.field-0-is) in record {
      takes = λ lines line written reading has.
          event_next c.run_of_parts.ensures lines line written c.args.self.now c.take_event.new.self c.args.engine.now c.args.read reading has c.take_event.new.engine c.in-Ok-Some.event c.take_event.result is
          c.take_event.ensures.stays.grid c.take_event.ensures.takes;
      memory = in_any c.take_event.result _ (event_kept c.args.read (Some c.in-Ok-Some.event) is);
      stays = c.take_event.ensures.stays;
    }

pub returns-in-Some : goal.returns-in-Some
returns-in-Some c =
    let is = c.in-Err.is ∙ ap Err (c.in-Err.refusal-is ∙ c.in-Some.ensures.rule) in record {
      takes = λ lines line written reading has.
          refused_next c.run_of_parts.ensures lines line written c.args.self.now c.take_refused.new.self c.args.engine.now c.args.read reading has c.in-Some.rule c.take_refused.result is c.take_refused.ensures;
      memory = in_any c.take_refused.result _ (said c.args.read c.in-Some.rule is);
      stays = stays_engine c.args.self.now c.args.engine.now c.requires.taken;
    }

pub returns-in-None : goal.returns-in-None
returns-in-None c = record {
  takes = λ lines line written reading has. tt;
  memory = tt;
  stays = stays_engine c.args.self.now c.args.engine.now c.requires.taken;
}
