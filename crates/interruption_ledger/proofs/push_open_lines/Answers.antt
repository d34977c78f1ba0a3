use Rattle.std.proofs.Common.{Some, None, sym, ap, ◌∙◌}
use Rattle.std.proofs.lemmas.List.{append-nil}
use Rattle.interruption_ledger.proofs.Open.{pushed}
use Rattle.interruption_ledger.proofs.push_open_lines.Goals as goal
use Rattle.interruption_ledger.proofs.push_open_lines.Goals.{in-Some+in_ok-push, in_default}

pub loop-m-preserved : goal.loop-m-preserved
loop-m-preserved c =
    elim c.match-start.branch [
      | in-Some+in_ok-push w ↦ pushed c.args.starts.now c.loop-m.m c.args.lines.now.items c.loop-m.lines.items c.match-start.lines.items (Some w.in-Some.start) c.loop-m.invariant w.in-Some.is (ap (λ v. v.items) w.lines-is ∙ w.in_ok-push.ensures.items)
      | in_default w ↦ pushed c.args.starts.now c.loop-m.m c.args.lines.now.items c.loop-m.lines.items c.match-start.lines.items None c.loop-m.invariant w.in_default.is (ap (λ v. v.items) w.lines-is ∙ sym (append-nil c.loop-m.lines.items))
    ]
