-- What is listed is what the events change.
use Rattle.std.proofs.lemmas.Result.{on_ok_weaker}
use Rattle.line_entries.proofs.ChangeRows.{last_each, last_known, changes_listed}
use Rattle.line_entries.proofs.Puts.{appends_same, puts_same}
use Rattle.line_entries.proofs.entries.put_changes.Goals as goal

pub put_listed-requires-clause-each : goal.put_listed-requires-clause-each
put_listed-requires-clause-each g c = let last = c.requires.last in last_each last.0 last.1 c.args.applied c.args.engine.now last.2

pub put_listed-requires-clause-known : goal.put_listed-requires-clause-known
put_listed-requires-clause-known g c = let last = c.requires.last in last_known last.0 last.1 c.args.applied c.args.engine.now last.2

pub returns : goal.returns
returns g c =
    let told = c.fault_of.ensures.puts _ _ _ _ _ c.put_listed.ensures in record {
      whole = on_ok_weaker c.fault_of.result (λ all h event last. appends_same _ _ _ _ (changes_listed h event c.args.applied c.args.engine.now c.args.line last) all) told.whole;
      part = λ h event last. (puts_same _ _ _ _ _ _ _ (changes_listed h event c.args.applied c.args.engine.now c.args.line last) told).part;
      later = told.later;
      failed = told.failed;
      only_failed = told.only_failed;
      only_write = c.fault_of.ensures.only_write;
    }
