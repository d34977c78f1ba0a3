use Rattle.std.proofs.Common.{◌≤◌, ◌+◌, sym, subst, ap, ◌∙◌, refl, arith, set}
use Rattle.evidence.specs.Kept.{kept_of, keeping, pull_by}
use Rattle.history_rules.specs.Slots.{due_in}
use Rattle.field_state.specs.StateInside.{fielded_of}
use Rattle.field_state.specs.Weighed.{IsTalliedBut}
use Rattle.field_state.specs.Placed.{NotesChanges}
use Rattle.field_state.proofs.Tallied.{kept_here, tallied_after, was_weighed, due_here}
use Rattle.field_state.specs.Repairs.{AreReaches, spent, repair_if, pulls_differ, meter_length, passing_cost}
use Rattle.field_state.proofs.state.State.lapse.Goals as goal

pub take_pull-requires-clause-was : goal.take_pull-requires-clause-was
take_pull-requires-clause-was g c =
    let grid = c.args.grid.now in
    let f = fielded_of c.self.inside in
    let tallied = subst (IsTalliedBut grid c.args.t.0 c.args.m.0) (sym c.self.view_is) c.requires.tallied in
    was_weighed grid c.args.m.0 c.args.t.0 (kept_of f.evidence c.args.m.0).slots c.pull-before.result f (fielded_of (record c.self.inside { evidence = c.lapse-after.new.self })) tallied.weighed (c.pull-before.ensures grid tallied.evidence) c.lapse-after.ensures.kept refl refl

pub returns-clause-tallied : goal.returns-clause-tallied
returns-clause-tallied g c =
    let grid = c.args.grid.now in
    let m = c.args.m.0 in
    let f = fielded_of c.self.inside in
    let s = (kept_of f.evidence m).slots in
    let tallied = subst (IsTalliedBut grid c.args.t.0 m) (sym c.self.view_is) c.requires.tallied in
    let due = c.take_pull.ensures.due ∙ ap (set f.due m) (due_here grid m c.args.t.0 s f.evidence c.lapse-after.new.self c.lapse-after.result (omega (arith, tallied.evidence.each)) c.lapse-after.ensures.kept c.lapse-after.ensures.pull) in
    tallied_after grid m c.args.t.0 s f c.take_pull.new.self tallied c.requires.meter (c.take_pull.ensures.rest.evidence ∙ c.lapse-after.ensures.kept) c.take_pull.ensures.weighed due

pub returns-clause-kept : goal.returns-clause-kept
returns-clause-kept g c =
    c.take_pull.ensures.rest.evidence ∙ c.lapse-after.ensures.kept ∙ ap (λ f. keeping f.evidence c.args.m.0 (kept_of f.evidence c.args.m.0).slots c.args.t.0) c.self.view_is

pub returns-clause-due : goal.returns-clause-due
returns-clause-due g c =
    let grid = c.args.grid.now in
    let m = c.args.m.0 in
    let f = fielded_of c.self.inside in
    let s = (kept_of f.evidence m).slots in
    let tallied = subst (IsTalliedBut grid c.args.t.0 m) (sym c.self.view_is) c.requires.tallied in
    c.take_pull.ensures.due
    ∙ ap (set f.due m) (due_here grid m c.args.t.0 s f.evidence c.lapse-after.new.self c.lapse-after.result (omega (arith, tallied.evidence.each)) c.lapse-after.ensures.kept c.lapse-after.ensures.pull)
    ∙ ap (λ f. set f.due m (due_in grid m c.args.t.0 (kept_of f.evidence m).slots)) c.self.view_is

pub returns-clause-rest : goal.returns-clause-rest
returns-clause-rest g c = (
  c.take_pull.ensures.rest.now ∙ ap (λ f. f.now) c.self.view_is,
  c.take_pull.ensures.rest.applied ∙ ap (λ f. f.applied) c.self.view_is,
  c.take_pull.ensures.rest.forest ∙ ap (λ f. f.forest) c.self.view_is,
  c.take_pull.ensures.rest.marks ∙ ap (λ f. f.marks) c.self.view_is,
)

pub returns-clause-notes : goal.returns-clause-notes
returns-clause-notes g c =
    subst (λ f. NotesChanges c.args.grid.now f.costs c.take_pull.new.self.costs f.places c.take_pull.new.self.places) c.self.view_is c.take_pull.ensures.notes

pub returns-clause-steps : goal.returns-clause-steps
returns-clause-steps g c reach at =
    let grid = c.args.grid.now in
    let m = c.args.m.0 in
    let t = c.args.t.0 in
    let f = fielded_of c.self.inside in
    let k = kept_of f.evidence m in
    let new = c.take_pull.new.self in
    let tallied = subst (IsTalliedBut grid t m) (sym c.self.view_is) c.requires.tallied in
    let was = c.pull-before.ensures grid tallied.evidence in
    let is = c.lapse-after.ensures.pull ∙ ap (λ e. pull_by grid m (kept_of e m)) c.lapse-after.ensures.kept
    ∙ ap (pull_by grid m) (kept_here f.evidence m k.slots t (omega (arith, tallied.evidence.each))) in
    let cost = ap (λ x. repair_if (pulls_differ x c.lapse-after.result) (meter_length grid reach m)) was
    ∙ ap (λ x. repair_if (pulls_differ (pull_by grid m k) x) (meter_length grid reach m)) is in
    subst (λ x. spent grid new c.take_pull.new.steps ≤ spent grid x c.args.steps.now + passing_cost grid t reach x.evidence m) c.self.view_is
    (subst (λ y. spent grid new c.take_pull.new.steps ≤ spent grid f c.args.steps.now + y) cost
    (c.take_pull.ensures.steps reach (subst (λ x. AreReaches grid x.forest.closed reach) (sym c.self.view_is) at)))
