-- What is listed, part by part.
use Rattle.std.proofs.Common.{◌++◌, ap, true, false}
use Rattle.std.specs.Prelude.{codes}
use Rattle.history_rules.specs.Output.{cost_row}
use Rattle.line_entries.specs.Entered.{device_rows}
use Rattle.line_entries.proofs.Puts.{put_behind, put_stops, put_same}
use Rattle.line_entries.proofs.entries.put_listed.Goals as goal

pub returns-in_err-put_devices : goal.returns-in_err-put_devices
returns-in_err-put_devices g c =
    let e = c.args.engine.now in
    let line = c.args.line in
    let changed = e.judged.changed in
    let rest = device_rows e (codes "enters") line false changed ++ cost_row line c.args.applied.cost_before c.args.applied.cost_after in
    put_same _ _ _ _ _ _ _ (ap (λ w. device_rows e w line true changed ++ rest) c.text_of.ensures)
    (put_stops _ _ _ _ (device_rows e c.text_of.result.now line true changed) rest _ _ c.from_residual.ensures.0 c.in_err-put_devices.ensures)

pub returns-in_err-put_devices-2 : goal.returns-in_err-put_devices-2
returns-in_err-put_devices-2 g c =
    let e = c.args.engine.now in
    let line = c.args.line in
    let changed = e.judged.changed in
    let cost = cost_row line c.args.applied.cost_before c.args.applied.cost_after in
    let leave = put_same _ _ _ _ _ _ (device_rows e (codes "leaves") line true changed) (ap (λ w. device_rows e w line true changed) c.text_of.ensures) c.in_ok-put_devices.ensures in
    put_behind _ _ _ _ _ _ (device_rows e (codes "leaves") line true changed) (device_rows e (codes "enters") line false changed ++ cost) _ leave.whole leave.cause.kept
    (put_same _ _ _ _ _ _ _ (ap (λ w. device_rows e w line false changed ++ cost) c.text_of-2.ensures)
    (put_stops _ _ _ _ (device_rows e c.text_of-2.result.now line false changed) cost _ _ c.from_residual-in_err-put_devices-2.ensures.0 c.in_err-put_devices-2.ensures))

pub returns : goal.returns
returns g c =
    let e = c.args.engine.now in
    let line = c.args.line in
    let changed = e.judged.changed in
    let cost = cost_row line c.args.applied.cost_before c.args.applied.cost_after in
    let leave = put_same _ _ _ _ _ _ (device_rows e (codes "leaves") line true changed) (ap (λ w. device_rows e w line true changed) c.text_of.ensures) c.in_ok-put_devices.ensures in
    let enter = put_same _ _ _ _ _ _ (device_rows e (codes "enters") line false changed) (ap (λ w. device_rows e w line false changed) c.text_of-2.ensures) c.in_ok-put_devices-2.ensures in
    put_behind _ _ _ _ _ _ (device_rows e (codes "leaves") line true changed) (device_rows e (codes "enters") line false changed ++ cost) _ leave.whole leave.cause.kept
    (put_behind _ _ _ _ _ _ (device_rows e (codes "enters") line false changed) cost _ enter.whole enter.cause.kept c.put_cost.ensures)
