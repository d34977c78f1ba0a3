-- The mark that is put is taken back, and there is one table of rows to it.
use Rattle.std.proofs.Common.{◌≡◌, ◌∙◌, sym, ap, subst}
use Rattle.std.specs.Prelude.{slice_set}
use Rattle.outage_rules.specs.Network.{Problem}
use Rattle.grid_model.specs.Problem.{mark_at}
use Rattle.grid_model.specs.declared.history.Mark.TheVariants.{Nothing}
use Rattle.subtree_costs.specs.Costed.{Costed, IsCosted, problem_in}
use Rattle.field_state.specs.Fielded.{Fielded}
use Rattle.field_state.specs.Without.{IsLeastWithout}
use Rattle.field_state.proofs.WithoutLemmas.{mark_back, costs_are_one, least_out}
use Rattle.field_state.proofs.state.State.least_without.Goals as goal

pub returns-clause-same : goal.returns-clause-same
returns-clause-same g c =
    let f = c.self.inside in
    let costed : IsCosted c.args.grid.now f.costs = subst (λ (s : Fielded). IsCosted c.args.grid.now s.costs) (sym c.self.view_is) c.requires.field.1.costed in
    let unmarked : mark_at f.costs.marks c.args.d.0 ≡ Nothing = subst (λ (s : Fielded). mark_at s.marks c.args.d.0 ≡ Nothing) (sym c.self.view_is) c.requires.unmarked in
    let same : c.set_mark-2.new.self ≡ f.costs =
    costs_are_one c.rows_are_least.ensures c.total_is_least.ensures c.one_least_cost.ensures c.args.grid.now f.costs c.set_mark-2.new.self costed c.set_mark-2.ensures.costed
    (c.set_mark-2.ensures.forest ∙ c.set_mark.ensures.forest)
    (c.set_mark-2.ensures.marks ∙ ap (λ xs. slice_set xs c.args.d.0 Nothing) c.set_mark.ensures.marks ∙ mark_back f.costs.marks c.args.d.0 unmarked)
    (c.set_mark-2.ensures.dark ∙ c.set_mark.ensures.dark)
    (c.set_mark-2.ensures.live ∙ c.set_mark.ensures.live)
    (c.set_mark-2.ensures.order ∙ c.set_mark.ensures.order) in
    ap (λ (k : Costed). record { now = f.clock.0; applied = f.applied; costs = k; evidence = f.evidence; due = f.due; places = f.places.nodes }) same ∙ c.self.view_is

pub returns-clause-least : goal.returns-clause-least
returns-clause-least g c = λ h field.
    let f = c.self.inside in
    let costed : IsCosted c.args.grid.now f.costs = subst (λ (s : Fielded). IsCosted c.args.grid.now s.costs) (sym c.self.view_is) c.requires.field.1.costed in
    let unmarked : mark_at f.costs.marks c.args.d.0 ≡ Nothing = subst (λ (s : Fielded). mark_at s.marks c.args.d.0 ≡ Nothing) (sym c.self.view_is) c.requires.unmarked in
    let posed = ap (λ (s : Fielded). problem_in c.args.grid.now s.costs) c.self.view_is ∙ (c.field_poses.ensures c.args.grid.now h c.args.self.now field).posed in
    subst (λ (p : Problem). IsLeastWithout p c.args.d.0 c.total-least.result) posed
    (least_out c.args.grid.now f.costs c.set_mark.new.self c.args.d.0 c.total-least.result costed c.requires.device unmarked
    c.set_mark.ensures.forest c.set_mark.ensures.marks c.set_mark.ensures.dark c.set_mark.ensures.live c.total-least.ensures.total
    (c.total-least.ensures.least c.args.grid.now c.set_mark.ensures.costed))
