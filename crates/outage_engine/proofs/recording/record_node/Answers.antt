use Rattle.std.proofs.Common.{◌≡◌, ◌<◌, ◌+◌, sym, ◌∙◌, subst, arith, length}
use Rattle.std.specs.Prelude.{◌==◌, ◌||◌}
use Rattle.grid_model.specs.Places.{node_of}
use Rattle.field_state.proofs.Standing.{number_at, is_met, at_within, all_met}
use Rattle.outage_engine.specs.Recording.{IsTold}
use Rattle.outage_engine.proofs.Telling.{some_more, told_same, told_then, told_meter}
use Rattle.outage_engine.proofs.recording.record_node.Goals as goal

pub record_meter-requires-clause-meter : goal.record_meter-requires-clause-meter
record_meter-requires-clause-meter c =
    at_within c.args.grid.now c.args.n.0 c.meters_at-m-items.result.now c.meters_at-m-items.ensures c.loop-m.m-index c.loop-m-test.true

pub loop-m-preserved : goal.loop-m-preserved
loop-m-preserved c =
    let g = c.args.grid.now in
    let j = c.args.judged.now in
    let t = c.args.at in
    let ms = c.meters_at-m-items.result.now in
    let i = c.loop-m.m-index in
    let m = number_at ms i in
    let old = c.args.ledger.now in
    let mid = c.loop-m.ledger in
    let new = c.record_meter.new.ledger in
    let within : m < length mid.meters = subst (λ n. m < n) (sym (c.loop-m.invariant.each ∙ c.requires.each)) (at_within g c.args.n.0 ms c.meters_at-m-items.ensures i c.loop-m-test.true) in
    told_same g j t (λ k. is_met ms i k || (k == m)) (is_met ms (i + 1)) old new (λ k _. sym (some_more i (λ x. k == number_at ms x)))
    (told_then g j t (is_met ms i) (λ k. k == m) old mid new c.loop-m.invariant
    (told_meter g j t m mid new within c.record_meter.ensures.meters c.record_meter.ensures.spare))

pub returns : goal.returns
returns c =
    let g = c.args.grid.now in
    let ms = c.meters_at-m-items.result.now in
    let whole : c.loop-m.m-index ≡ length ms = omega arith in
    told_same g c.args.judged.now c.args.at (is_met ms (length ms)) (λ m. node_of g m == c.args.n.0) c.args.ledger.now c.loop-m.ledger
    (all_met g c.args.n.0 ms c.meters_at-m-items.ensures)
    (subst (λ i. IsTold g c.args.judged.now c.args.at (is_met ms i) c.args.ledger.now c.loop-m.ledger) whole c.loop-m.invariant)
