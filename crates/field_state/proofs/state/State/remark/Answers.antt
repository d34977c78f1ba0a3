use Rattle.std.proofs.Common.{◌≡◌, ◌≤◌, arith, ◌+◌, length, get_or, None, refl, sym, ap, ◌∙◌, subst, rules}
use Rattle.std.proofs.lemmas.List.{set-get_or}
use Rattle.grid_model.specs.Problem.{mark_at}
use Rattle.subtree_costs.specs.Costed.{IsCosted}
use Rattle.field_state.specs.StateInside.{fielded_of}
use Rattle.field_state.specs.Acted.{IsMarkedBy}
use Rattle.field_state.proofs.Noting.{marked_again, notes_mark}
use Rattle.field_state.proofs.Spending.{spent_more, marks_differ, low_within}
use Rattle.field_state.specs.Repairs.{AreReaches, spent, repair_if, marking_cost, device_length}
use Rattle.field_state.proofs.state.State.remark.Goals as goal

pub returns-then-eq-clause-marked : goal.returns-then-eq-clause-marked
returns-then-eq-clause-marked g c =
    let same : c.mark.result ≡ c.args.mark = search rules in
    marked_again c.args.grid.now c.args.d.0 c.args.mark c.args.self.now c.requires.costed
    (ap (λ f. mark_at f.marks c.args.d.0) (sym c.self.view_is) ∙ sym c.mark.ensures ∙ same)

pub returns-clause-marked : goal.returns-clause-marked
returns-clause-marked g c =
    let grid = c.args.grid.now in
    let d = c.args.d in
    let f = fielded_of c.self.inside in
    let set = c.set_mark.ensures in
    let costed = subst (λ f. IsCosted grid f.costs) (sym c.self.view_is) c.requires.costed in
    subst (λ old. IsMarkedBy grid d.0 c.args.mark (get_or old.due (length grid.meters + d.0) None) old (fielded_of (record c.self.inside { costs = c.set_mark.new.self; places = c.add.new.self })))
    c.self.view_is
    (record {
      now = refl;
      applied = refl;
      costed = set.costed;
      forest = set.forest;
      marks = set.marks;
      evidence = refl;
      dark = set.dark;
      live = set.live;
      due = sym (set-get_or f.due (length grid.meters + d.0) None);
      notes = notes_mark grid f.costs c.set_mark.new.self f.places c.add.new.self.nodes d c.lower_end-low.result c.args.mark costed
          c.lower_end-low.ensures.node c.lower_end-low.ensures.hangs set.forest set.dark set.live set.marks c.add.ensures.nodes c.add.ensures.listed;
    })

pub returns-clause-steps : goal.returns-clause-steps
returns-clause-steps g c reach at =
    let grid = c.args.grid.now in
    let d = c.args.d in
    let f = fielded_of c.self.inside in
    let new = fielded_of (record c.self.inside { costs = c.set_mark.new.self; places = c.add.new.self }) in
    let low = c.lower_end-low.result in
    let hangs = c.lower_end-low.ensures.hangs in
    let within = c.lower_end-low.ensures.node in
    let costed = subst (λ x. IsCosted grid x.costs) (sym c.self.view_is) c.requires.costed in
    let reaches = subst (λ x. AreReaches grid x.forest.closed reach) (sym c.self.view_is) at in
    let deep = c.chains_are_within_reach.ensures grid f.costs costed low.0 (reach low.0) within (reaches low.0 within) in
    let more = spent_more grid f new c.args.steps.now c.set_mark.new.steps (reach low.0) low c.set_mark.ensures.forest c.add.ensures.nodes deep
    (c.set_mark.ensures.steps low.0 (reach low.0) within hangs (reaches low.0 within)) in
    let apart : c.mark.result ≡ c.args.mark → ⊥ = search rules in
    let differs = marks_differ (mark_at f.marks d.0) c.args.mark (λ e. apart (c.mark.ensures ∙ e)) in
    let cost = ap (λ b. repair_if b (device_length grid reach d.0)) differs in
    let far = low_within grid f.costs reach d low.0 costed within hangs in
    subst (λ x. spent grid new c.set_mark.new.steps ≤ spent grid x c.args.steps.now + marking_cost grid reach x.marks d.0 c.args.mark) c.self.view_is
    (omega arith)
