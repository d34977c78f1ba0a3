use Rattle.std.proofs.Common.{◌<◌, true, false, sym, ap, ◌∙◌, subst, arith, length}
use Rattle.std.proofs.lemmas.Bool.{false≢true}
use Rattle.interruption_ledger.specs.Ledgered.{interrupted_at, with_meter}
use Rattle.outage_engine.specs.Recording.{is_meter_dark}
use Rattle.outage_engine.proofs.Telling.{differ_by, recorded_by, untold_some, told_spare}
use Rattle.outage_engine.proofs.recording.record_meter.Goals as goal

pub went_live-requires-clause-room : goal.went_live-requires-clause-room
went_live-requires-clause-room c =
    let g = c.args.grid.now in
    let j = c.args.judged.now in
    let some = untold_some g j c.args.ledger.now c.args.m.0 c.requires.meter
    (differ_by _ _ true false (sym c.is_dark-was_dark.ensures ∙ c.if-was_dark.true) (sym c.is_dark-is_dark.ensures ∙ c.if-not-is_dark.true)) in
    let room = c.requires.room in omega arith

pub returns-then-not-was_dark-clause-spare : goal.returns-then-not-was_dark-clause-spare
returns-then-not-was_dark-clause-spare c =
    let g = c.args.grid.now in
    let j = c.args.judged.now in
    let t = c.args.at in
    let m = c.args.m.0 in
    let old = c.args.ledger.now in
    let within : m < length old.meters = subst (λ n. m < n) (sym c.requires.each) c.requires.meter in
    let spare = c.went_dark.ensures.spare in
    told_spare g j t m old c.went_dark.new.self within
    (c.went_dark.ensures.meters ∙ ap (with_meter old m) (sym (recorded_by m t (is_meter_dark g j m) true false (interrupted_at old m) (sym c.is_dark-is_dark.ensures ∙ c.if-is_dark.true) (sym c.is_dark-was_dark.ensures ∙ c.if-not-was_dark.true))))
    c.requires.meter (omega arith) (λ _. omega arith)

pub returns-then-not-is_dark-clause-spare : goal.returns-then-not-is_dark-clause-spare
returns-then-not-is_dark-clause-spare c =
    let g = c.args.grid.now in
    let j = c.args.judged.now in
    let t = c.args.at in
    let m = c.args.m.0 in
    let old = c.args.ledger.now in
    let within : m < length old.meters = subst (λ n. m < n) (sym c.requires.each) c.requires.meter in
    told_spare g j t m old c.went_live.new.self within
    (c.went_live.ensures.meters ∙ ap (with_meter old m) (sym (recorded_by m t (is_meter_dark g j m) false true (interrupted_at old m) (sym c.is_dark-is_dark.ensures ∙ c.if-not-is_dark.true) (sym c.is_dark-was_dark.ensures ∙ c.if-was_dark.true))))
    c.requires.meter c.went_live.ensures.spare
    (λ f. absurd (false≢true (sym f ∙ differ_by _ _ true false (sym c.is_dark-was_dark.ensures ∙ c.if-was_dark.true) (sym c.is_dark-is_dark.ensures ∙ c.if-not-is_dark.true))))
