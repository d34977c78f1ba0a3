use Rattle.std.proofs.Common.{refl, sym, subst, ◌∙◌, arith}
use Rattle.field_state.proofs.Noting.{notes_none, notes_then}
use Rattle.field_state.proofs.Passing.{kept_until}
use Rattle.field_state.specs.Repairs.{AreReaches}
use Rattle.field_state.proofs.state.State.advance.Goals as goal

pub loop-t-init : goal.loop-t-init
loop-t-init g c = record {
  some = (c.requires.kept.0, kept_until c.args.grid.now c.requires.kept.0 c.args.self.now.now c.args.t.0 c.args.self.now c.requires.later c.requires.kept.1);
  kept = λ h k. kept_until c.args.grid.now h c.args.self.now.now c.args.t.0 c.args.self.now c.requires.later k;
  now = refl;
  applied = refl;
  forest = refl;
  notes = notes_none c.args.grid.now c.args.self.now.costs c.args.self.now.places;
  costs = λ reach cost k. k;
  steps = λ reach cost at k. omega arith;
}

pub returns-clause-at : goal.returns-clause-at
returns-clause-at g c h k = record {
  kept = c.take_due.ensures.kept h (c.loop-t.invariant.kept h k);
  at_rest = c.take_due.ensures.none c.loop-t-test.false;
}

pub loop-t-preserved : goal.loop-t-preserved
loop-t-preserved g c = record {
  some = (c.loop-t.invariant.some.0, c.take_due.ensures.kept c.loop-t.invariant.some.0 c.loop-t.invariant.some.1);
  kept = λ h k. c.take_due.ensures.kept h (c.loop-t.invariant.kept h k);
  now = c.take_due.ensures.same.0 ∙ c.loop-t.invariant.now;
  applied = c.take_due.ensures.same.1 ∙ c.loop-t.invariant.applied;
  forest = c.take_due.ensures.same.2 ∙ c.loop-t.invariant.forest;
  costs = λ reach cost k. c.take_due.ensures.costs reach cost (c.loop-t.invariant.costs reach cost k);
  steps = λ reach cost at k.
      let so_far = c.loop-t.invariant.steps reach cost at k in
      let one = c.take_due.ensures.steps reach cost (subst (λ f. AreReaches c.args.grid.now f.closed reach) (sym c.loop-t.invariant.forest) at) (c.loop-t.invariant.costs reach cost k) in
      omega arith;
  notes =
      notes_then c.args.grid.now c.args.self.now.costs c.loop-t.self.costs c.take_due.new.self.costs c.args.self.now.places c.loop-t.self.places c.take_due.new.self.places
      c.loop-t.invariant.notes c.take_due.ensures.notes;
}

pub returns-clause-notes : goal.returns-clause-notes
returns-clause-notes g c =
    notes_then c.args.grid.now c.args.self.now.costs c.loop-t.self.costs c.take_due.new.self.costs c.args.self.now.places c.loop-t.self.places c.take_due.new.self.places
    c.loop-t.invariant.notes c.take_due.ensures.notes

pub returns-clause-steps : goal.returns-clause-steps
returns-clause-steps g c reach cost at k =
    let so_far = c.loop-t.invariant.steps reach cost at k in
    let one = c.take_due.ensures.steps reach cost (subst (λ f. AreReaches c.args.grid.now f.closed reach) (sym c.loop-t.invariant.forest) at) (c.loop-t.invariant.costs reach cost k) in
    omega arith
