-- The rows of one device more.
use Rattle.std.proofs.Common.{refl, sym, ap, ◌∙◌, ◌+◌, take, drop}
use Rattle.std.specs.Prelude.{flat_map}
use Rattle.std.proofs.lemmas.List.{take_all}
use Rattle.line_entries.specs.Entered.{device_row}
use Rattle.line_entries.proofs.ChangeRows.{rows_more, rows_split}
use Rattle.line_entries.proofs.Puts.{appends_both, appends_same, put_behind, put_stops, put_same, put_done}
use Rattle.line_entries.proofs.entries.put_devices.Goals as goal

pub loop-device-preserved : goal.loop-device-preserved
loop-device-preserved g c =
    let row_of = device_row c.args.engine.now c.args.word.now c.args.line c.args.was_opened in
    let changed = c.changed-changed.result.now in
    let done = c.loop-device.invariant in (
      appends_same _ _ _ _ (sym (rows_more row_of changed c.loop-device.device-index _ _ c.loop-device-test.true refl))
          (appends_both _ _ _ (flat_map row_of (take c.loop-device.device-index changed)) _ done.0 c.in_ok-put_device.ensures.whole),
      c.in_ok-put_device.ensures.cause.kept ∙ done.1,
    )

pub returns-in_err-put_device : goal.returns-in_err-put_device
returns-in_err-put_device g c =
    let row_of = device_row c.args.engine.now c.args.word.now c.args.line c.args.was_opened in
    let changed = c.changed-changed.result.now in
    let done = c.loop-device.invariant in
    put_same _ _ _ _ _ _ _ (ap (flat_map row_of) (c.changed-changed.ensures.changed ∙ ap (λ j. j.changed) c.judged.ensures))
    (put_same _ _ _ _ _ _ _ (rows_split row_of changed c.loop-device.device-index _ _ c.loop-device-test.true refl)
    (put_behind _ _ _ _ _ _ (flat_map row_of (take c.loop-device.device-index changed)) _ _ done.0 done.1
    (put_stops _ _ _ _ _ (flat_map row_of (drop (c.loop-device.device-index + 1) changed)) _ _ c.from_residual.ensures.0 c.in_err-put_device.ensures)))

pub returns : goal.returns
returns g c =
    let row_of = device_row c.args.engine.now c.args.word.now c.args.line c.args.was_opened in
    let changed = c.changed-changed.result.now in
    let done = c.loop-device.invariant in
    let all = take_all c.loop-device.device-index changed c.loop-device-test.false in
    put_done _ _ _ _ _ _
    (appends_same _ _ _ _ (ap (flat_map row_of) (all ∙ c.changed-changed.ensures.changed ∙ ap (λ j. j.changed) c.judged.ensures)) done.0)
    done.1
