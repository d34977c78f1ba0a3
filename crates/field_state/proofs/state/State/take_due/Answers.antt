use Rattle.std.proofs.Common.{◌≡◌, ◌≤◌, true, get_or, ◌+◌, ◌<◌, None, refl, sym, ap, ◌∙◌, subst, arith, length, set, ◌-◌}
use Rattle.std.proofs.lemmas.List.{set-set}
use Rattle.due_queue.specs.Due.{IsDue, IsNothingDue}
use Rattle.history_rules.specs.Slots.{due_in}
use Rattle.evidence.specs.Kept.{kept_of}
use Rattle.field_state.specs.StateInside.{fielded_of}
use Rattle.field_state.specs.FieldKept.{IsFieldKept}
use Rattle.field_state.specs.Weighed.{IsTalliedBut, dues, has_come}
use Rattle.field_state.proofs.Tallied.{tallied_of}
use Rattle.field_state.proofs.Passing.{kept_lapsed, kept_expired, popped_but}
use Rattle.field_state.proofs.Dues.{fewer, due_later}
use Rattle.field_state.proofs.Noting.{notes_none}
use Rattle.field_state.specs.Placed.{NotesChanges}
use Rattle.field_state.proofs.Spending.{costs_same, costs_lapsed, costs_ended, dues_less, has_come_due}
use Rattle.field_state.specs.Repairs.{AreReaches, AreCosts, spent, dues_cost}
use Rattle.field_state.proofs.state.State.take_due.Goals as goal

pub returns-in_default-clause-none : goal.returns-in_default-clause-none
returns-in_default-clause-none g c e =
    subst (λ x. IsNothingDue x c.args.t.0) (sym c.in_default.ensures.after) (c.in_default.ensures.none.0 refl)

pub lapse-requires-clause-tallied : goal.lapse-requires-clause-tallied
lapse-requires-clause-tallied g c =
    let f = fielded_of c.self.inside in
    let kept = subst (IsFieldKept c.args.grid.now c.requires.kept.0 c.args.t.0) (sym c.self.view_is) c.requires.kept.1 in
    let but = popped_but c.args.grid.now c.in-Some.key c.args.t.0 f (tallied_of c.args.grid.now c.requires.kept.0 c.args.t.0 f kept) in
    subst (λ x. IsTalliedBut c.args.grid.now c.args.t.0 c.in-Some.key (record f { due = x })) (sym c.in-Some.ensures.after) but

pub returns-then-key-meters-clause-kept : goal.returns-then-key-meters-clause-kept
returns-then-key-meters-clause-kept g c h k =
    let f = fielded_of c.self.inside in
    let x = due_in c.args.grid.now c.in-Some.key c.args.t.0 (kept_of f.evidence c.in-Some.key).slots in
    let kept = subst (IsFieldKept c.args.grid.now h c.args.t.0) (sym c.self.view_is) k in
    let due = c.lapse.ensures.due ∙ ap (λ y. set y c.in-Some.key x) c.in-Some.ensures.after ∙ set-set f.due c.in-Some.key None x in
    let n : c.in-Some.key < length c.args.grid.now.meters = omega arith in
    kept_lapsed c.args.grid.now h c.args.t.0 c.in-Some.key x f c.lapse.new.self kept n c.lapse.ensures.costed c.lapse.ensures.tallied c.lapse.ensures.kept due c.lapse.ensures.rest.2 c.lapse.ensures.rest.3

pub returns-then-key-meters-clause-fewer : goal.returns-then-key-meters-clause-fewer
returns-then-key-meters-clause-fewer g c e =
    let f = fielded_of c.self.inside in
    let m = c.in-Some.key in
    let s = (kept_of f.evidence m).slots in
    let x = due_in c.args.grid.now m c.args.t.0 s in
    let due = c.lapse.ensures.due ∙ ap (λ y. set y m x) c.in-Some.ensures.after ∙ set-set f.due m None x in
    let first = c.in-Some.ensures.first in
    let less = fewer c.args.t.0 f.due m x c.in-Some.ensures.below (first.0, first.1, first.2) (due_later c.args.grid.now m c.args.t.0 s) in
    subst (λ y. dues c.args.t.0 c.lapse.new.self.due < dues c.args.t.0 y.due) c.self.view_is (subst (λ y. dues c.args.t.0 y < dues c.args.t.0 f.due) (sym due) less)

pub returns-else-key-meters-clause-kept : goal.returns-else-key-meters-clause-kept
returns-else-key-meters-clause-kept g c h k =
    let grid = c.args.grid.now in
    let f = fielded_of c.self.inside in
    let d = c.in-Some.key - c.meters-meters.result in
    let kept = subst (IsFieldKept grid h c.args.t.0) (sym c.self.view_is) k in
    let q : c.in-Some.key ≡ length grid.meters + d = omega arith in
    let first = c.in-Some.ensures.first in
    let within : d < length grid.devices = omega (arith, c.in-Some.ensures.below, kept.due_each) in
    let by = c.take_mark.ensures.marked in
    let due = by.due ∙ ap (λ y. set y (length grid.meters + d) None) c.in-Some.ensures.after ∙ ap (λ y. set (set f.due y None) (length grid.meters + d) None) q ∙ set-set f.due (length grid.meters + d) None None in
    kept_expired grid h c.args.t.0 d f c.take_mark.new.self kept within (subst (IsDue f.due c.args.t.0) q (first.0, first.1, first.2))
    (record {
      now = by.now;
      applied = by.applied;
      costed = by.costed;
      forest = by.forest;
      marks = by.marks;
      evidence = by.evidence;
      dark = by.dark;
      live = by.live;
      due = due;
      notes = by.notes;
    })

pub returns-else-key-meters-clause-fewer : goal.returns-else-key-meters-clause-fewer
returns-else-key-meters-clause-fewer g c e =
    let grid = c.args.grid.now in
    let f = fielded_of c.self.inside in
    let d = c.in-Some.key - c.meters-meters.result in
    let q : length grid.meters + d ≡ c.in-Some.key = omega arith in
    let due = c.take_mark.ensures.marked.due ∙ ap (λ y. set y (length grid.meters + d) None) c.in-Some.ensures.after ∙ ap (λ y. set (set f.due c.in-Some.key None) y None) q ∙ set-set f.due c.in-Some.key None None in
    let first = c.in-Some.ensures.first in
    let less = fewer c.args.t.0 f.due c.in-Some.key None c.in-Some.ensures.below (first.0, first.1, first.2) refl in
    subst (λ y. dues c.args.t.0 c.take_mark.new.self.due < dues c.args.t.0 y.due) c.self.view_is (subst (λ y. dues c.args.t.0 y < dues c.args.t.0 f.due) (sym due) less)

pub returns-in_default-clause-notes : goal.returns-in_default-clause-notes
returns-in_default-clause-notes g c =
    let k = c.self.inside in
    subst (λ f. NotesChanges c.args.grid.now f.costs k.costs f.places k.places.nodes) c.self.view_is (notes_none c.args.grid.now k.costs k.places.nodes)

pub returns-then-key-meters-clause-notes : goal.returns-then-key-meters-clause-notes
returns-then-key-meters-clause-notes g c =
    subst (λ f. NotesChanges c.args.grid.now f.costs c.lapse.new.self.costs f.places c.lapse.new.self.places) c.self.view_is c.lapse.ensures.notes

pub returns-else-key-meters-clause-notes : goal.returns-else-key-meters-clause-notes
returns-else-key-meters-clause-notes g c =
    subst (λ f. NotesChanges c.args.grid.now f.costs c.take_mark.new.self.costs f.places c.take_mark.new.self.places) c.self.view_is c.take_mark.ensures.marked.notes

pub returns-in_default-clause-costs : goal.returns-in_default-clause-costs
returns-in_default-clause-costs g c reach cost k =
    let f = fielded_of c.self.inside in
    let was = subst (AreCosts c.args.grid.now c.args.t.0 reach cost) (sym c.self.view_is) k in
    costs_same c.args.grid.now c.args.t.0 reach cost f (fielded_of (record c.self.inside { due = c.pop_due.new.self })) was c.in_default.ensures.after refl refl

pub returns-in_default-clause-steps : goal.returns-in_default-clause-steps
returns-in_default-clause-steps g c reach cost at k =
    let grid = c.args.grid.now in
    let f = fielded_of c.self.inside in
    let same = ap (dues_cost c.args.t.0 cost) c.in_default.ensures.after in
    subst (λ x. spent grid f c.args.steps.now + dues_cost c.args.t.0 cost c.pop_due.new.self ≤ spent grid x c.args.steps.now + dues_cost c.args.t.0 cost x.due) c.self.view_is (omega arith)

pub returns-then-key-meters-clause-costs : goal.returns-then-key-meters-clause-costs
returns-then-key-meters-clause-costs g c reach cost k =
    let grid = c.args.grid.now in
    let f = fielded_of c.self.inside in
    let m = c.in-Some.key in
    let s = (kept_of f.evidence m).slots in
    let x = due_in grid m c.args.t.0 s in
    let was = subst (AreCosts grid c.args.t.0 reach cost) (sym c.self.view_is) k in
    let due = c.lapse.ensures.due ∙ ap (λ y. set y m x) c.in-Some.ensures.after ∙ set-set f.due m None x in
    costs_lapsed grid c.args.t.0 reach cost m s x f c.lapse.new.self was (omega arith) c.in-Some.ensures.below c.lapse.ensures.kept due (due_later grid m c.args.t.0 s) c.lapse.ensures.rest.3

pub returns-then-key-meters-clause-steps : goal.returns-then-key-meters-clause-steps
returns-then-key-meters-clause-steps g c reach cost at k =
    let grid = c.args.grid.now in
    let t = c.args.t.0 in
    let f = fielded_of c.self.inside in
    let m = c.in-Some.key in
    let s = (kept_of f.evidence m).slots in
    let x = due_in grid m t s in
    let first = c.in-Some.ensures.first in
    let was = subst (AreCosts grid t reach cost) (sym c.self.view_is) k in
    let come = has_come_due t f.due m (first.0, first.1, first.2) in
    let due = c.lapse.ensures.due ∙ ap (λ y. set y m x) c.in-Some.ensures.after ∙ set-set f.due m None x in
    let less = ap (dues_cost t cost) due in
    let gone = dues_less t cost f.due m x c.in-Some.ensures.below come (due_later grid m t s) in
    let taken = c.lapse.ensures.steps reach (subst (λ y. AreReaches grid y.forest.closed reach) (sym c.self.view_is) at) in
    let most = was.meters m (omega arith) come in
    subst (λ y. spent grid c.lapse.new.self c.lapse.new.steps + dues_cost t cost c.lapse.new.self.due ≤ spent grid y c.args.steps.now + dues_cost t cost y.due) c.self.view_is (omega arith)

pub returns-else-key-meters-clause-costs : goal.returns-else-key-meters-clause-costs
returns-else-key-meters-clause-costs g c reach cost k =
    let grid = c.args.grid.now in
    let f = fielded_of c.self.inside in
    let d = c.in-Some.key - c.meters-meters.result in
    let q : c.in-Some.key ≡ length grid.meters + d = omega arith in
    let was = subst (AreCosts grid c.args.t.0 reach cost) (sym c.self.view_is) k in
    let by = c.take_mark.ensures.marked in
    let due = by.due ∙ ap (λ y. set y (length grid.meters + d) None) c.in-Some.ensures.after ∙ ap (λ y. set (set f.due y None) (length grid.meters + d) None) q ∙ set-set f.due (length grid.meters + d) None None in
    costs_ended grid c.args.t.0 reach cost d f c.take_mark.new.self was (omega (arith, c.in-Some.ensures.below)) by.evidence by.marks due

pub returns-else-key-meters-clause-steps : goal.returns-else-key-meters-clause-steps
returns-else-key-meters-clause-steps g c reach cost at k =
    let grid = c.args.grid.now in
    let t = c.args.t.0 in
    let f = fielded_of c.self.inside in
    let d = c.in-Some.key - c.meters-meters.result in
    let q : c.in-Some.key ≡ length grid.meters + d = omega arith in
    let first = c.in-Some.ensures.first in
    let kept = subst (IsFieldKept grid c.requires.kept.0 t) (sym c.self.view_is) c.requires.kept.1 in
    let within : d < length grid.devices = omega (arith, c.in-Some.ensures.below, kept.due_each) in
    let was = subst (AreCosts grid t reach cost) (sym c.self.view_is) k in
    let come = subst (λ y. has_come t (get_or f.due y None) ≡ true) q (has_come_due t f.due c.in-Some.key (first.0, first.1, first.2)) in
    let by = c.take_mark.ensures.marked in
    let due = by.due ∙ ap (λ y. set y (length grid.meters + d) None) c.in-Some.ensures.after ∙ ap (λ y. set (set f.due y None) (length grid.meters + d) None) q ∙ set-set f.due (length grid.meters + d) None None in
    let less = ap (dues_cost t cost) due in
    let gone = dues_less t cost f.due (length grid.meters + d) None (omega (arith, c.in-Some.ensures.below)) come refl in
    let taken = c.take_mark.ensures.steps reach (subst (λ y. AreReaches grid y.forest.closed reach) (sym c.self.view_is) at) in
    let most = was.devices d within come in
    subst (λ y. spent grid c.take_mark.new.self c.take_mark.new.steps + dues_cost t cost c.take_mark.new.self.due ≤ spent grid y c.args.steps.now + dues_cost t cost y.due) c.self.view_is (omega arith)
