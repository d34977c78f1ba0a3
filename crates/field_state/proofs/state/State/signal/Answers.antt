use Rattle.std.proofs.Common.{◌≤◌, ◌+◌, ◌*◌, arith, false, sym, subst}
use Rattle.history_rules.specs.Slots.{slots_after}
use Rattle.evidence.specs.Kept.{kept_of, sign_what}
use Rattle.field_state.specs.StateInside.{fielded_of}
use Rattle.field_state.specs.Acted.{IsReady, IsDone, kept_after}
use Rattle.grid_model.specs.declared.history.Event.{Event}
use Rattle.field_state.proofs.Doing.{done_by_report}
use Rattle.field_state.proofs.Reporting.{taken_by, signal_here, signal_there, signal_unnamed, signal_brings_none}
use Rattle.field_state.proofs.Spending.{repair_most}
use Rattle.field_state.specs.Repairs.{AreReaches, spent, repair_if, pulls_differ, meter_length}
use Rattle.field_state.proofs.state.State.signal.Goals as goal

pub returns-clause-done : goal.returns-clause-done
returns-clause-done g c =
    let grid = c.args.grid.now in
    let m = c.args.m in
    let t = c.args.now in
    let s = c.args.sign in
    let f = fielded_of c.self.inside in
    let e : Event = record { time = t; what = sign_what s m } in
    let ready = subst (IsReady grid t.0) (sym c.self.view_is) c.requires.ready in
    subst (λ old. IsDone grid e old c.take_pull.new.self) c.self.view_is
    (done_by_report grid e f c.take_pull.new.self ready (signal_unnamed s m) (λ k. signal_brings_none grid f.forest.closed k s m)
    (taken_by grid m.0 t.0 (slots_after m.0 e false (kept_of f.evidence m.0).slots) f c.take_pull.new.self c.signal-after.new.self
    c.signal-after.result (λ k. kept_after k e false (kept_of f.evidence k)) ready
    c.requires.meter c.signal-after.ensures.kept c.signal-after.ensures.pull c.take_pull.ensures.weighed c.take_pull.ensures.due c.take_pull.ensures.rest c.take_pull.ensures.costed c.take_pull.ensures.notes
    (signal_here s m t (kept_of f.evidence m.0)) (λ k ne. signal_there s m t k (kept_of f.evidence k) ne)))

pub returns-clause-steps : goal.returns-clause-steps
returns-clause-steps g c reach at =
    let grid = c.args.grid.now in
    let m = c.args.m.0 in
    let f = fielded_of c.self.inside in
    let new = c.take_pull.new.self in
    let end = c.take_pull.new.steps in
    let cost = repair_if (pulls_differ c.pull-before.result c.signal-after.result) (meter_length grid reach m) in
    let taken : spent grid new end ≤ spent grid f c.args.steps.now + cost = c.take_pull.ensures.steps reach (subst (λ x. AreReaches grid x.forest.closed reach) (sym c.self.view_is) at) in
    let most = repair_most (pulls_differ c.pull-before.result c.signal-after.result) (meter_length grid reach m) in
    subst (λ x. spent grid new end ≤ spent grid x c.args.steps.now + 6 * meter_length grid reach m) c.self.view_is (omega arith)
