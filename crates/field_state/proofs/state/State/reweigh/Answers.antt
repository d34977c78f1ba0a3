use Rattle.std.proofs.Common.{◌≡◌, ◌≤◌, ◌<◌, true, length, ◌-◌, ◌+◌, sym, ap, ◌∙◌, subst, arith, get_or, set}
use Rattle.evidence.specs.Kept.{kept_of, pull_by}
use Rattle.field_state.specs.StateInside.{fielded_of}
use Rattle.field_state.specs.Placed.{NotesChanges}
use Rattle.field_state.specs.Weighed.{IsWeighed, WasWeighed}
use Rattle.field_state.proofs.Noting.{notes_weights}
use Rattle.field_state.proofs.Taken.{dark_fits, live_fits, after_dark_fits, after_live_fits, taken_in, untaken, sums_are_small}
use Rattle.field_state.proofs.state.State.reweigh.Goals.{else-before-after-via-then-before-after+else-before-after-2, else-before-after-via-else-before-after}
use Rattle.field_state.proofs.Spending.{spent_more, dark_differs, live_differs}
use Rattle.field_state.specs.Repairs.{AreReaches, spent, repair_if, pulls_differ, meter_length}
use Rattle.subtree_costs.specs.Costed.{IsCosted}
use Rattle.grid_model.specs.Places.{node_of}
use Rattle.field_state.proofs.state.State.reweigh.Goals as goal

pub overflow_sub-dark : goal.overflow_sub-dark
overflow_sub-dark g c =
    let w = subst (WasWeighed c.args.grid.now c.args.m.0 c.args.before) (sym c.self.view_is) c.requires.was in
    let fits = dark_fits c.args.grid.now c.args.m.0 c.args.before (fielded_of c.self.inside) c.requires.costed.posed.sound c.requires.meter w in
    let read = ap (λ xs. get_or xs c.meter.result.node.0 0) c.dark_weights.ensures ∙ ap (λ k. get_or c.self.inside.costs.dark k.node.0 0) c.meter.ensures in
    subst (λ x. c.args.before.dark ≤ x) (sym read) fits.0

pub overflow_add-dark : goal.overflow_add-dark
overflow_add-dark g c =
    let sound = c.requires.costed.posed.sound in
    let w = subst (WasWeighed c.args.grid.now c.args.m.0 c.args.before) (sym c.self.view_is) c.requires.was in
    let fits = (dark_fits c.args.grid.now c.args.m.0 c.args.before (fielded_of c.self.inside) sound c.requires.meter w).1 in
    let read = ap (λ xs. get_or xs c.meter.result.node.0 0) c.dark_weights.ensures ∙ ap (λ k. get_or c.self.inside.costs.dark k.node.0 0) c.meter.ensures in
    let after = after_dark_fits c.args.grid.now c.args.self.now.evidence c.args.m.0 c.args.after sound c.requires.weight in
    omega arith

pub overflow_sub-live : goal.overflow_sub-live
overflow_sub-live g c =
    let w = subst (WasWeighed c.args.grid.now c.args.m.0 c.args.before) (sym c.self.view_is) c.requires.was in
    let fits = live_fits c.args.grid.now c.args.m.0 c.args.before (fielded_of c.self.inside) c.requires.costed.posed.sound c.requires.meter w in
    let read = ap (λ xs. get_or xs c.meter.result.node.0 0) c.live_weights.ensures ∙ ap (λ k. get_or c.self.inside.costs.live k.node.0 0) c.meter.ensures in
    subst (λ x. c.args.before.live ≤ x) (sym read) fits.0

pub overflow_add-live : goal.overflow_add-live
overflow_add-live g c =
    let sound = c.requires.costed.posed.sound in
    let w = subst (WasWeighed c.args.grid.now c.args.m.0 c.args.before) (sym c.self.view_is) c.requires.was in
    let fits = (live_fits c.args.grid.now c.args.m.0 c.args.before (fielded_of c.self.inside) sound c.requires.meter w).1 in
    let read = ap (λ xs. get_or xs c.meter.result.node.0 0) c.live_weights.ensures ∙ ap (λ k. get_or c.self.inside.costs.live k.node.0 0) c.meter.ensures in
    let after = after_live_fits c.args.grid.now c.args.self.now.evidence c.args.m.0 c.args.after sound c.requires.weight in
    omega arith

pub set_weights-requires-clause-dark_sum : goal.set_weights-requires-clause-dark_sum
set_weights-requires-clause-dark_sum g c =
    let m = c.args.m.0 in
    let f = fielded_of c.self.inside in
    let sound = c.requires.costed.posed.sound in
    let w = subst (WasWeighed c.args.grid.now m c.args.before) (sym c.self.view_is) c.requires.was in
    let same = subst (λ f. c.args.after ≡ pull_by c.args.grid.now m (kept_of f.evidence m)) (sym c.self.view_is) c.requires.weight in
    let weighed = taken_in c.args.grid.now m c.args.before c.args.after f sound c.requires.meter w same c.meter.result.node.0
    (get_or c.dark_weights.result.now c.meter.result.node.0 0) (get_or c.live_weights.result.now c.meter.result.node.0 0)
    (ap (λ k. k.node.0) c.meter.ensures) (ap (λ xs. get_or xs c.meter.result.node.0 0) c.dark_weights.ensures) (ap (λ xs. get_or xs c.meter.result.node.0 0) c.live_weights.ensures) in
    (sums_are_small c.args.grid.now c.self.inside.evidence _ _ sound weighed).0

pub set_weights-requires-clause-live_sum : goal.set_weights-requires-clause-live_sum
set_weights-requires-clause-live_sum g c =
    let m = c.args.m.0 in
    let f = fielded_of c.self.inside in
    let sound = c.requires.costed.posed.sound in
    let w = subst (WasWeighed c.args.grid.now m c.args.before) (sym c.self.view_is) c.requires.was in
    let same = subst (λ f. c.args.after ≡ pull_by c.args.grid.now m (kept_of f.evidence m)) (sym c.self.view_is) c.requires.weight in
    let weighed = taken_in c.args.grid.now m c.args.before c.args.after f sound c.requires.meter w same c.meter.result.node.0
    (get_or c.dark_weights.result.now c.meter.result.node.0 0) (get_or c.live_weights.result.now c.meter.result.node.0 0)
    (ap (λ k. k.node.0) c.meter.ensures) (ap (λ xs. get_or xs c.meter.result.node.0 0) c.dark_weights.ensures) (ap (λ xs. get_or xs c.meter.result.node.0 0) c.live_weights.ensures) in
    (sums_are_small c.args.grid.now c.self.inside.evidence _ _ sound weighed).1

pub returns-clause-weighed : goal.returns-clause-weighed
returns-clause-weighed g c =
    let m = c.args.m.0 in
    let f = fielded_of c.self.inside in
    let sound = c.requires.costed.posed.sound in
    let w = subst (WasWeighed c.args.grid.now m c.args.before) (sym c.self.view_is) c.requires.was in
    let same = subst (λ f. c.args.after ≡ pull_by c.args.grid.now m (kept_of f.evidence m)) (sym c.self.view_is) c.requires.weight in
    let weighed = taken_in c.args.grid.now m c.args.before c.args.after f sound c.requires.meter w same c.meter.result.node.0
    (get_or c.dark_weights.result.now c.meter.result.node.0 0) (get_or c.live_weights.result.now c.meter.result.node.0 0)
    (ap (λ k. k.node.0) c.meter.ensures) (ap (λ xs. get_or xs c.meter.result.node.0 0) c.dark_weights.ensures) (ap (λ xs. get_or xs c.meter.result.node.0 0) c.live_weights.ensures) in
    subst (λ xs. IsWeighed c.args.grid.now c.self.inside.evidence xs c.set_weights.new.self.live) (sym c.set_weights.ensures.dark)
    (subst (λ ys. IsWeighed c.args.grid.now c.self.inside.evidence (set c.self.inside.costs.dark c.meter.result.node.0 ((get_or c.dark_weights.result.now c.meter.result.node.0 0 - c.args.before.dark) + c.args.after.dark)) ys) (sym c.set_weights.ensures.live) weighed)

pub returns-then-before-after-2-clause-weighed : goal.returns-then-before-after-2-clause-weighed
returns-then-before-after-2-clause-weighed g c =
    untaken c.args.grid.now c.args.m.0 c.args.before c.args.after c.args.self.now c.requires.costed.posed.sound c.requires.meter c.requires.was c.requires.weight
    c.if-before-after.true c.if-before-after-2.true

pub returns-clause-notes : goal.returns-clause-notes
returns-clause-notes g c =
    let grid = c.args.grid.now in
    let new = c.set_weights.new.self in
    subst (λ f. NotesChanges grid f.costs new f.places c.add.new.self.nodes) c.self.view_is
    (notes_weights grid c.self.inside.costs new c.self.inside.places.nodes c.add.new.self.nodes c.meter.result.node _ _
    c.set_weights.ensures.forest c.set_weights.ensures.marks c.set_weights.ensures.dark c.set_weights.ensures.live c.add.ensures.nodes c.add.ensures.listed)

pub returns-clause-steps : goal.returns-clause-steps
returns-clause-steps g c reach at =
    let grid = c.args.grid.now in
    let f = fielded_of c.self.inside in
    let new = fielded_of (record c.self.inside { costs = c.set_weights.new.self; places = c.add.new.self }) in
    let n = c.meter.result.node in
    let costed = subst (λ x. IsCosted grid x.costs) (sym c.self.view_is) c.requires.costed in
    let reaches = subst (λ x. AreReaches grid x.forest.closed reach) (sym c.self.view_is) at in
    let node : n.0 ≡ node_of grid c.args.m.0 = ap (λ k. k.node.0) c.meter.ensures in
    let within = subst (λ k. k < length grid.nodes) (sym node) (c.requires.costed.posed.sound.meters c.args.m.0 c.requires.meter).node in
    let deep = c.chains_are_within_reach.ensures grid f.costs costed n.0 (reach n.0) within (reaches n.0 within) in
    let more = spent_more grid f new c.args.steps.now c.set_weights.new.steps (reach n.0) n c.set_weights.ensures.forest c.add.ensures.nodes deep (c.set_weights.ensures.steps (reach n.0) (reaches n.0 within)) in
    let differs : pulls_differ c.args.before c.args.after ≡ true =
    elim c.else-before-after.branch [
      | else-before-after-via-then-before-after+else-before-after-2 w ↦ live_differs c.args.before c.args.after w.if-before-after-2.false
      | else-before-after-via-else-before-after w ↦ dark_differs c.args.before c.args.after w.if-before-after.false
    ]
    in
    let cost = ap (λ b. repair_if b (meter_length grid reach c.args.m.0)) differs in
    let far = ap reach node in
    subst (λ x. spent grid new c.set_weights.new.steps ≤ spent grid x c.args.steps.now + repair_if (pulls_differ c.args.before c.args.after) (meter_length grid reach c.args.m.0)) c.self.view_is
    (omega arith)
