use Rattle.std.proofs.Common.{◌<◌, length, sym, ap, ◌∙◌, subst, arith}
use Rattle.std.specs.Prelude.{IfSome}
use Rattle.nested_faults.specs.LastCuts.{noted_at}
use Rattle.nested_faults.specs.Tallies.{tally_at, members}
use Rattle.nested_faults.proofs.Tallying.{one_counted, counted_in, passed_by, room_for_one}
use Rattle.nested_faults.proofs.tally.count_meter.Goals as goal

pub with-requires-clause-meters : goal.with-requires-clause-meters
with-requires-clause-meters c =
    let within = subst (λ o. IfSome o (λ d. d.0 < length c.args.tallies.now)) c.in-Some.is (c.requires.within c.meter-meter.result.node.0) in
    let room = room_for_one c.args.grid.now c.requires.sound c.args.evidence.now c.args.last.now c.in-Some.d.0 c.args.m.0 (tally_at c.args.tallies.now c.in-Some.d.0) c.requires.meter (c.requires.before c.in-Some.d.0 within) in
    let a = room.0 in omega arith

pub with-requires-clause-customers : goal.with-requires-clause-customers
with-requires-clause-customers c =
    let within = subst (λ o. IfSome o (λ d. d.0 < length c.args.tallies.now)) c.in-Some.is (c.requires.within c.meter-meter.result.node.0) in
    let room = room_for_one c.args.grid.now c.requires.sound c.args.evidence.now c.args.last.now c.in-Some.d.0 c.args.m.0 (tally_at c.args.tallies.now c.in-Some.d.0) c.requires.meter (c.requires.before c.in-Some.d.0 within) in
    let a = room.1 in let b = ap (λ x. x.customers) c.meter-meter.ensures in omega arith

pub returns-in-Some-clause-counted : goal.returns-in-Some-clause-counted
returns-in-Some-clause-counted c =
    let within = subst (λ o. IfSome o (λ d. d.0 < length c.args.tallies.now)) c.in-Some.is (c.requires.within c.meter-meter.result.node.0) in
    let told = c.requires.before c.in-Some.d.0 within in
    counted_in c.args.grid.now c.args.evidence.now c.args.last.now c.args.m.0 c.args.tallies.now c.in-Some.d c.with.result c.requires.before
    (sym c.in-Some.is ∙ ap (λ x. noted_at c.args.last.now x.node.0) c.meter-meter.ensures) within
    (one_counted c.args.grid.now c.args.evidence.now (members c.args.grid.now c.args.last.now c.in-Some.d.0 c.args.m.0) c.args.m.0 (tally_at c.args.tallies.now c.in-Some.d.0) c.with.result
    c.meter-meter.result c.since.result c.came_back.result told c.meter-meter.ensures (c.since.ensures c.args.grid.now c.requires.evidence) (c.came_back.ensures c.args.grid.now c.requires.evidence)
    c.with.ensures.meters c.with.ensures.customers c.with.ensures.since c.with.ensures.nested)

pub returns-in_default-clause-counted : goal.returns-in_default-clause-counted
returns-in_default-clause-counted c =
    passed_by c.args.grid.now c.args.evidence.now c.args.last.now c.args.m.0 c.args.tallies.now c.requires.before (sym c.in_default.is ∙ ap (λ x. noted_at c.args.last.now x.node.0) c.meter-meter.ensures)
