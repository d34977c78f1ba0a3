use Rattle.std.specs.Prelude.{◌==◌}
use Rattle.std.proofs.Common.{◌≤◌, ◌+◌, ap, ◌∙◌, arith, sym, subst}
use Rattle.history_rules.specs.Slots.{slots_restored}
use Rattle.evidence.specs.Kept.{kept_of, pull_by}
use Rattle.field_state.specs.StateInside.{fielded_of}
use Rattle.field_state.specs.Acted.{IsReady, IsKeptBy, restored_if}
use Rattle.field_state.proofs.Reporting.{taken_by, restored_here, restored_there}
use Rattle.field_state.proofs.Costing.{restores_one}
use Rattle.field_state.proofs.Tallied.{kept_here}
use Rattle.field_state.specs.Repairs.{AreReaches, spent, repair_if, pulls_differ, meter_length, restored_cost, restores_cost}
use Rattle.field_state.proofs.state.State.restore_meter.Goals as goal

pub returns-clause-kept : goal.returns-clause-kept
returns-clause-kept g c =
    let grid = c.args.grid.now in
    let m = c.args.m.0 in
    let t = c.args.now.0 in
    let f = fielded_of c.self.inside in
    subst (λ old. IsKeptBy grid t (λ k. restored_if (k == m) t (kept_of old.evidence k)) old c.take_pull.new.self) c.self.view_is
    (taken_by grid m t (slots_restored t (kept_of f.evidence m).slots) f c.take_pull.new.self c.restored-after.new.self
    c.restored-after.result (λ k. restored_if (k == m) t (kept_of f.evidence k)) (subst (IsReady grid t) (sym c.self.view_is) c.requires.ready)
    c.requires.meter c.restored-after.ensures.kept c.restored-after.ensures.pull c.take_pull.ensures.weighed c.take_pull.ensures.due c.take_pull.ensures.rest c.take_pull.ensures.costed c.take_pull.ensures.notes
    (restored_here m t (kept_of f.evidence m)) (λ k ne. restored_there k m t (kept_of f.evidence k) ne))

pub returns-clause-steps : goal.returns-clause-steps
returns-clause-steps g c reach at =
    let grid = c.args.grid.now in
    let m = c.args.m.0 in
    let t = c.args.now.0 in
    let f = fielded_of c.self.inside in
    let new = c.take_pull.new.self in
    let end = c.take_pull.new.steps in
    let k = kept_of f.evidence m in
    let ready = subst (IsReady grid t) (sym c.self.view_is) c.requires.ready in
    let was = c.pull-before.ensures grid ready.tallied.evidence in
    let is = c.restored-after.ensures.pull ∙ ap (λ e. pull_by grid m (kept_of e m)) c.restored-after.ensures.kept
    ∙ ap (pull_by grid m) (kept_here f.evidence m (slots_restored t k.slots) t (omega (arith, ready.tallied.evidence.each))) in
    let cost = ap (λ x. repair_if (pulls_differ x c.restored-after.result) (meter_length grid reach m)) was
    ∙ ap (λ x. repair_if (pulls_differ (pull_by grid m k) x) (meter_length grid reach m)) is in
    let taken : spent grid new end ≤ spent grid f c.args.steps.now + restored_cost grid t reach f.evidence m =
    subst (λ y. spent grid new end ≤ spent grid f c.args.steps.now + y) cost (c.take_pull.ensures.steps reach (subst (λ x. AreReaches grid x.forest.closed reach) (sym c.self.view_is) at)) in
    let most = restores_one grid t reach m f c.requires.meter in
    subst (λ x. spent grid new end ≤ spent grid x c.args.steps.now + restores_cost grid t reach x.evidence (λ j. j == m)) c.self.view_is (omega arith)
