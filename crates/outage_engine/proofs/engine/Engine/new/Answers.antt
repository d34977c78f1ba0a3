use Rattle.std.proofs.Common.{[], subst, arith}
use Rattle.subtree_costs.specs.Costed.{problem_in}
use Rattle.diagnosis.specs.Judgement.{IsJudged, TellsDiagnosis}
use Rattle.outage_engine.proofs.AfterEvents.{is_after, engine_is}
use Rattle.outage_engine.proofs.Recorded.{first_ledger_is}
use Rattle.outage_engine.proofs.engine.Engine.new.Goals as goal

pub returns-clause-after : goal.returns-clause-after
returns-clause-after c =
    let g = c.args.grid in
    let f = c.in_ok-field.field in
    let j = c.in_ok-judged.judged in
    let l = c.in_ok-ledger.ledger in
    let judged = is_after g [] f j c.in_ok-field.ensures.after c.field_poses.ensures c.history_is_diagnosed.ensures c.diagnosis_is_one.ensures c.one_least_cost.ensures
    c.fed_rows_are_exact.ensures c.total_is_least.ensures (subst (λ k. IsJudged g k j) c.costs.ensures c.in_ok-judged.ensures.judged)
    (subst (λ k. TellsDiagnosis (problem_in g k) j) c.costs.ensures c.in_ok-judged.ensures.diagnosis) in
    engine_is g [] f j l judged (record { last = omega arith }) (first_ledger_is g j l judged.field.sound judged.dark judged.opened c.in_ok-ledger.ensures)

pub invariant_of-result : goal.invariant_of-result
invariant_of-result c = ([], returns-clause-after c)
