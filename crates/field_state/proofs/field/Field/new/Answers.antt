use Rattle.std.proofs.Common.{◌+◌, length, replicate, refl, ap, ◌∙◌}
use Rattle.std.specs.Prelude.{None}
use Rattle.field_state.proofs.Starting.{is_new}
use Rattle.field_state.proofs.field.Field.new.Goals as goal

pub returns-clause-after : goal.returns-clause-after
returns-clause-after c =
    is_new c.args.grid.now _
    (record {
      sound = c.in_ok-build.ensures.costed.posed.sound;
      time = refl;
      count = refl;
      costed = c.in_ok-build.ensures.costed;
      closed = c.in_ok-build.ensures.states;
      marks = c.in_ok-build.ensures.marks;
      evidence = c.in_ok-new.ensures;
      dark = c.in_ok-build.ensures.dark;
      live = c.in_ok-build.ensures.live;
      due = c.in_ok-new-2.ensures ∙ (ap (λ n. replicate (n + c.devices.result) None) c.meters.ensures.count ∙ ap (λ n. replicate (length c.args.grid.now.meters + n) None) c.devices.ensures.count);
    })
