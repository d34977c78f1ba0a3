-- What an engine answers an event.
use Rattle.std.proofs.Common.{sym, ◌∙◌}
use Rattle.event_run.proofs.taken.apply_event.Goals as goal

pub returns : goal.returns
returns g c =
    let facts = c.apply.ensures in record {
      stays = record { grid = facts.grid; engine = facts.engine };
      after = facts.after;
      is = facts.answer;
      last = λ h applied before ok. c.applied_is_last_change.ensures h c.args.event applied c.args.engine.now c.apply.new.self before (sym ok ∙ facts.answer h before) facts.grid (facts.after h before) (facts.changed applied ok);
    }
