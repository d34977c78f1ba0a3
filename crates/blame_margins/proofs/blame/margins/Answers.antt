-- Each device of the list is one of the diagnosis.
use Rattle.std.proofs.Common.{◌≡◌, ◌∙◌, ◌+◌, ◌++◌, ◌∷◌, [], true, List, take, sym, ap, subst}
use Rattle.std.specs.Prelude.{map, slice_index_or}
use Rattle.grid_model.specs.declared.parts.DeviceId.{DeviceId}
use Rattle.diagnosis.specs.Judgement.{opened_by, flagged}
use Rattle.outage_engine.specs.Engined.{Engined}
use Rattle.blame_margins.specs.declared.blame.Margin.{Margin}
use Rattle.blame_margins.proofs.MarginsListed.{AreListed, one_more, work_within, further, flagged_at}
use Rattle.blame_margins.proofs.blame.margins.Goals as goal

pub margin_of-requires : goal.margin_of-requires
margin_of-requires g c =
    let items = c.deref-device-items.result.now in
    let is : map (λ (d : DeviceId). d.0) items ≡ flagged c.args.engine.now.judged.opened = ap (map (λ (d : DeviceId). d.0)) c.deref-device-items.ensures.value ∙ c.in_ok-devices.ensures ∙ ap (λ j. flagged j.opened) c.judged.ensures in
    record {
      blamed = subst (λ (e : Engined). opened_by e.judged (slice_index_or items c.loop-device.device-index (record { 0 = 0 })).0 ≡ true) (sym c.loop-device.invariant.same)
          (flagged_at c.args.engine.now.judged.opened items c.loop-device.device-index (record { 0 = 0 }) is c.loop-device-test.true);
    }

-- its margin is one more of the list
pub loop-device-preserved : goal.loop-device-preserved
loop-device-preserved g c =
    let e = c.args.engine.now in
    let items = c.deref-device-items.result.now in
    let i = c.loop-device.device-index in
    let d = slice_index_or items i (record { 0 = 0 }) in
    let is : map (λ (d : DeviceId). d.0) items ≡ flagged e.judged.opened = ap (map (λ (d : DeviceId). d.0)) c.deref-device-items.ensures.value ∙ c.in_ok-devices.ensures ∙ ap (λ j. flagged j.opened) c.judged.ensures in
    let more = one_more e c.loop-device.engine c.margin_of.new.engine c.args.steps.now c.loop-device.steps c.margin_of.new.steps (take i items) c.loop-device.margins.items d c.margin_of.result c.loop-device.invariant
    c.margin_of.ensures.same c.margin_of.ensures.device (flagged_at e.judged.opened items i (record { 0 = 0 }) is c.loop-device-test.true) c.margin_of.ensures.margin c.margin_of.ensures.steps in
    subst (λ (ms : List Margin). AreListed e c.margin_of.new.engine c.args.steps.now c.margin_of.new.steps (take (i + 1) items) ms) (sym c.in_ok-push.ensures.items)
    (subst (λ (ds : List DeviceId). AreListed e c.margin_of.new.engine c.args.steps.now c.margin_of.new.steps ds (c.loop-device.margins.items ++ c.margin_of.result ∷ [])) (sym (further items i (record { 0 = 0 }) c.loop-device-test.true)) more)

pub returns-in_err-push-clause-steps : goal.returns-in_err-push-clause-steps
returns-in_err-push-clause-steps g c =
    let e = c.args.engine.now in
    let items = c.deref-device-items.result.now in
    let i = c.loop-device.device-index in
    let d = slice_index_or items i (record { 0 = 0 }) in
    let is : map (λ (d : DeviceId). d.0) items ≡ flagged e.judged.opened = ap (map (λ (d : DeviceId). d.0)) c.deref-device-items.ensures.value ∙ c.in_ok-devices.ensures ∙ ap (λ j. flagged j.opened) c.judged.ensures in
    let more = one_more e c.loop-device.engine c.margin_of.new.engine c.args.steps.now c.loop-device.steps c.margin_of.new.steps (take i items) c.loop-device.margins.items d c.margin_of.result c.loop-device.invariant
    c.margin_of.ensures.same c.margin_of.ensures.device (flagged_at e.judged.opened items i (record { 0 = 0 }) is c.loop-device-test.true) c.margin_of.ensures.margin c.margin_of.ensures.steps in
    work_within e c.margin_of.new.engine c.args.steps.now c.margin_of.new.steps (i + 1) items (c.loop-device.margins.items ++ c.margin_of.result ∷ []) (flagged e.judged.opened)
    (subst (λ (ds : List DeviceId). AreListed e c.margin_of.new.engine c.args.steps.now c.margin_of.new.steps ds (c.loop-device.margins.items ++ c.margin_of.result ∷ [])) (sym (further items i (record { 0 = 0 }) c.loop-device-test.true)) more) is
