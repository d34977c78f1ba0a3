use Rattle.std.proofs.Common.{◌∷◌, ◌≤◌, sym, subst}
use Rattle.history_rules.specs.StampTexts.{last_second}
use Rattle.outage_engine.specs.Recording.{IsRecorded}
use Rattle.outage_engine.proofs.AfterEvents.{is_after, engine_is}
use Rattle.outage_engine.proofs.Recorded.{next_ledger_is}
use Rattle.outage_engine.proofs.engine.judge.Goals as goal

pub returns-clause-after : goal.returns-clause-after
returns-clause-after g c h e at field old =
    let grid = c.args.grid.now in
    let f = c.args.field.now in
    let j = c.judge_field.new.judged in
    let l = c.record_flipped.new.ledger in
    let judged = is_after grid (e ∷ h) f j field c.field_poses.ensures c.history_is_diagnosed.ensures c.diagnosis_is_one.ensures c.one_least_cost.ensures
    c.fed_rows_are_exact.ensures c.total_is_least.ensures c.judge_field.ensures.judged c.judge_field.ensures.diagnosis in
    let recorded = subst (λ t. IsRecorded grid j t c.args.ledger.now l) (sym at) c.record_flipped.ensures in
    engine_is grid (e ∷ h) f j l judged (record { last = subst (λ t. t.0 ≤ last_second) (sym at) c.requires.range })
    (next_ledger_is grid h e j c.args.ledger.now l c.ledger_is_kept.ensures field.sound judged.dark judged.opened old recorded)
