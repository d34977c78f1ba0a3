use Rattle.std.proofs.Common.{◌≡◌, ◌+◌, ◌≤◌, ◌∷◌, refl, sym, ap, ◌∙◌, subst}
use Rattle.std.specs.Prelude.{Result, Ok}
use Rattle.grid_model.specs.declared.history.Refusal.{Refusal}
use Rattle.outage_engine.specs.declared.Applied.{Applied}
use Rattle.history_rules.specs.Posed.{refusal_of, joined, least_after}
use Rattle.field_state.specs.Fielded.{Fielded, IsFieldAfter}
use Rattle.outage_engine.specs.Engined.{Engined, engined, IsEngine, IsEngineAfter, answer_by}
use Rattle.outage_engine.specs.Work.{AreReachesAfter, event_work}
use Rattle.outage_engine.proofs.Working.{reaches_are, flips_are, event_takes}
use Rattle.outage_engine.proofs.AfterEvents.{joins, stays, costs_told}
use Rattle.outage_engine.proofs.Recorded.{flags_are}
use Rattle.outage_engine.proofs.engine.Engine.apply.Goals as goal

-- a refusal leaves the fields
pub invariant_of-self : goal.invariant_of-self
invariant_of-self g c =
    subst (λ f. IsEngine (engined c.self.inside.grid f c.self.inside.judged c.self.inside.ledger))
    (sym (c.apply.ensures.refused c.in_err-apply.field-0.0 c.in_err-apply.was)) c.self.invariant

pub returns-in_err-apply-clause-engine : goal.returns-in_err-apply-clause-engine
returns-in_err-apply-clause-engine g c = invariant_of-self g c

pub judge-requires-clause-flags : goal.judge-requires-clause-flags
judge-requires-clause-flags g c =
    let h = c.self.invariant.0 in
    let old = c.self.invariant.1 in
    flags_are c.self.inside.grid h c.self.inside.judged c.self.inside.ledger c.ledger_is_kept.ensures old.field.sound old.dark old.opened (record { each = old.ledger_each; kept = old.ledger })

pub judge-requires-clause-settled : goal.judge-requires-clause-settled
judge-requires-clause-settled g c other =
    let old = c.self.invariant.1 in
    let f = c.apply.new.self in
    let change = c.apply.ensures.places c.in_ok-apply.was (sym c.is_switching.ensures ∙ other) in
    let settled = c.changes_can_be_settled.ensures c.self.inside.grid c.self.inside.field.costs f.costs c.self.inside.judged f.places old.judged change in
    record { within = c.apply.ensures.places_within c.in_ok-apply.was; disagree = settled.0; open_ones = settled.1 }

pub returns-clause-after : goal.returns-clause-after
returns-clause-after g c h given =
    let grid = c.self.inside.grid in
    let e = c.args.event in
    let new = engined grid c.apply.new.self c.judge.new.judged c.judge.new.ledger in
    let old = subst (IsEngineAfter h) (sym c.self.view_is) given in
    let all = joins h e (refusal_of grid h e) c.apply.result c.in_ok-apply.field-0 c.in_ok-apply.was (c.apply.ensures.answer h old.field) in
    let field = subst (λ events. IsFieldAfter grid events c.apply.new.self) all (c.apply.ensures.after h old.field) in
    subst (λ x. IsEngineAfter (joined x.grid h e) new) c.self.view_is
    (subst (λ events. IsEngineAfter events new) (sym all) (c.judge.ensures.after h e refl field (record { each = old.ledger_each; kept = old.ledger })))

pub returns-clause-engine : goal.returns-clause-engine
returns-clause-engine g c =
    let h = c.self.invariant.0 in
    (joined c.args.self.now.grid h c.args.event, returns-clause-after g c h (subst (IsEngineAfter h) c.self.view_is c.self.invariant.1))

pub invariant_of-self-2 : goal.invariant_of-self-2
invariant_of-self-2 g c = returns-clause-engine g c

pub returns-in_err-apply-clause-after : goal.returns-in_err-apply-clause-after
returns-in_err-apply-clause-after g c h given =
    let grid = c.self.inside.grid in
    let e = c.args.event in
    let old = subst (IsEngineAfter h) (sym c.self.view_is) given in
    let same = ap with_field (c.apply.ensures.refused c.in_err-apply.field-0.0 c.in_err-apply.was) ∙ c.self.view_is in
    let none = stays h e (refusal_of grid h e) c.apply.result c.in_err-apply.field-0.0 c.in_err-apply.was (c.apply.ensures.answer h old.field) in
    subst (λ events. IsEngineAfter events (with_field c.apply.new.self)) (sym (subst (λ x. joined x.grid h e ≡ h) c.self.view_is none))
    (subst (IsEngineAfter h) (sym same) given)
  where
    with_field : Fielded → Engined
    with_field f = engined c.self.inside.grid f c.self.inside.judged c.self.inside.ledger

pub returns-clause-answer : goal.returns-clause-answer
returns-clause-answer g c h given =
    let grid = c.self.inside.grid in
    let e = c.args.event in
    let old = subst (IsEngineAfter h) (sym c.self.view_is) given in
    let after = returns-clause-after g c h given in
    subst (λ x. ◌≡◌ {A = Result Applied Refusal} (Ok (record { cost_before = c.least_cost-cost_before.result; cost_after = c.least_cost.result })) (answer_by x.grid h e (refusal_of x.grid h e))) c.self.view_is
    (costs_told grid h e (refusal_of grid h e) c.apply.result c.in_ok-apply.field-0 _ _ c.in_ok-apply.was (c.apply.ensures.answer h old.field)
    (c.least_cost-cost_before.ensures ∙ old.cost)
    (c.least_cost.ensures ∙ after.cost ∙ ap (λ x. least_after grid (joined x.grid h e)) (sym c.self.view_is)))

pub returns-clause-steps : goal.returns-clause-steps
returns-clause-steps g c h reach given reaches other =
    let grid = c.self.inside.grid in
    let e = c.args.event in
    let j = c.self.inside.judged in
    let f = c.apply.new.self in
    let now = c.judge.new.judged in
    let old = subst (IsEngineAfter h) (sym c.self.view_is) given in
    let there = subst (λ x. AreReachesAfter x.grid h reach) (sym c.self.view_is) reaches in
    let all = joins h e (refusal_of grid h e) c.apply.result c.in_ok-apply.field-0 c.in_ok-apply.was (c.apply.ensures.answer h old.field) in
    let field = subst (λ events. IsFieldAfter grid events f) all (c.apply.ensures.after h old.field) in
    let next = c.judge.ensures.after h e refl field (record { each = old.ledger_each; kept = old.ledger }) in
    subst (λ x. c.judge.new.steps ≤ c.args.steps.now + event_work x.grid h e reach) c.self.view_is
    (event_takes grid h e reach c.self.inside.field.costs.forest f j now c.args.steps.now c.apply.new.steps c.judge.new.steps
    (c.apply.ensures.places c.in_ok-apply.was other).forest
    (c.apply.ensures.steps h old.field c.in_ok-apply.was other reach (reaches_are grid h c.self.inside.field reach old.field there))
    (c.judge.ensures.steps (c.is_switching.ensures ∙ other))
    (flips_are grid h (e ∷ h) j now old.dark old.opened next.dark next.opened))
