use Rattle.std.proofs.Common.{◌≤◌, ◌+◌, sym, subst, ap, ◌∙◌}
use Rattle.field_state.specs.Placed.{NotesChanges}
use Rattle.field_state.specs.Weighed.{IsWeighed}
use Rattle.subtree_costs.specs.Costed.{IsCosted}
use Rattle.field_state.specs.Repairs.{spent, repair_if, pulls_differ, meter_length}
use Rattle.field_state.proofs.state.State.take_pull.Goals as goal

pub returns-clause-costed : goal.returns-clause-costed
returns-clause-costed g c = subst (λ f. IsCosted c.args.grid.now f.costs) (sym c.self.view_is) c.reweigh.ensures.costed

pub returns-clause-weighed : goal.returns-clause-weighed
returns-clause-weighed g c = subst (λ f. IsWeighed c.args.grid.now f.evidence f.dark f.live) (sym c.self.view_is) c.reweigh.ensures.weighed

pub returns-clause-rest : goal.returns-clause-rest
returns-clause-rest g c =
    let r = c.reweigh.ensures.rest in
    let v = c.self.view_is in
    record {
      now = ap (λ f. f.now) v ∙ r.now;
      applied = ap (λ f. f.applied) v ∙ r.applied;
      forest = ap (λ f. f.forest) v ∙ r.forest;
      marks = ap (λ f. f.marks) v ∙ r.marks;
      evidence = ap (λ f. f.evidence) v ∙ r.evidence;
    }

pub returns-clause-notes : goal.returns-clause-notes
returns-clause-notes g c =
    let old = c.args.self.now in
    subst (λ f. NotesChanges c.args.grid.now old.costs f.costs old.places f.places) (sym c.self.view_is) c.reweigh.ensures.notes

pub returns-clause-steps : goal.returns-clause-steps
returns-clause-steps g c reach at =
    let old = c.args.self.now in
    subst (λ f. spent c.args.grid.now f c.reweigh.new.steps ≤ spent c.args.grid.now old c.args.steps.now + repair_if (pulls_differ c.args.before c.args.after) (meter_length c.args.grid.now reach c.args.m.0))
    (sym c.self.view_is) (c.reweigh.ensures.steps reach at)
