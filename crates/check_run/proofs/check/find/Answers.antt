-- What is found, and why nothing is.
use Rattle.std.proofs.Common.{rules, ◌∙◌, ℕ, List, Option, None, Some, ap, arith}
use Rattle.std.specs.Prelude.{Err}
use Rattle.std.proofs.lemmas.Result.{IfOk-weaker, IfErr-weaker}
use Rattle.command_words.specs.Forms.{Check}
use Rattle.command_words.specs.Seen.{places_view}
use Rattle.run_rules.specs.Run.{run_of}
use Rattle.run_rules.specs.Ends.{IsEnd}
use Rattle.run_rules.specs.declared.status.Status.TheVariants.{ReadFault}
use Rattle.run_rules.proofs.FaultsTold.{left_by, tells_last}
use Rattle.check_run.proofs.CheckEnds.{no_wish, run_done, stopped_end, silent_report, report_end, did_find}
use Rattle.check_run.proofs.check.find.Goals as goal

pub returns-in_err-ran-clause-stopped : goal.returns-in_err-ran-clause-stopped
returns-in_err-ran-clause-stopped g c =
    let files = g.S.Shelf.files c.args.shelf.now in
    let before = g.S.Shelf.left c.args.shelf.now in
    let left = g.S.Shelf.left c.run_engine.new.shelf in
    let places = places_view c.args.places in
    let told : (out : Option (List ℕ)) → IsEnd (run_of files before left out out (Some (Check places c.args.report.now))) c.in_err-ran.field-0.0 =
    λ out. stopped_end files before left None None out places no_wish c.args.report.now c.in_err-ran.field-0.0 (c.in_err-ran.ensures.stopped no_wish) (run_done c.in_err-ran.field-0.0 c.in_err-ran.ensures.kind)
    (λ e. let rose = c.run_engine.ensures.out.rose (c.in_err-ran.was ∙ ap Err e) in absurd (omega arith)) in
    search rules

pub returns-clause-found : goal.returns-clause-found
returns-clause-found g c =
    IfOk-weaker c.judge_report.result _ _
    (λ found judged. did_find (places_view c.args.places) c.args.report.now c.in_ok-ran.ran.engine c.in_ok-ran.ran.refused
    (g.S.Shelf.left c.run_engine.new.shelf) _ _ (g.S.Shelf.files c.args.shelf.now) (g.S.Shelf.files c.run_engine.new.shelf) (g.S.Shelf.left c.judge_report.new.shelf) found.verdict found.text.items
    c.run_engine.ensures.files c.in_ok-ran.ensures.ran judged)
    c.judge_report.ensures.judged

pub returns-clause-stopped : goal.returns-clause-stopped
returns-clause-stopped g c =
    IfErr-weaker c.judge_report.result _ _
    (λ status stop. λ out. report_end (places_view c.args.places) c.args.report.now c.in_ok-ran.ran.engine c.in_ok-ran.ran.refused
    (g.S.Shelf.left c.run_engine.new.shelf) _ _ (g.S.Shelf.files c.args.shelf.now) (g.S.Shelf.files c.run_engine.new.shelf) (g.S.Shelf.left c.args.shelf.now) (g.S.Shelf.left c.judge_report.new.shelf) out status
    c.run_engine.ensures.files c.in_ok-ran.ensures.ran stop)
    c.judge_report.ensures.stopped

pub returns-clause-silent : goal.returns-clause-silent
returns-clause-silent g c =
    IfErr-weaker c.judge_report.result _ _
    (λ status stop. silent_report (g.S.Shelf.files c.run_engine.new.shelf) (g.S.Shelf.left c.run_engine.new.shelf) (g.S.Shelf.left c.judge_report.new.shelf) c.args.report.now c.in_ok-ran.ran.engine.grid status stop)
    c.judge_report.ensures.stopped

pub returns-clause-shelf : goal.returns-clause-shelf
returns-clause-shelf g c =
    tells_last _ _ _ _ (left_by c.run_engine.result c.in_ok-ran.ran ReadFault _ _ c.in_ok-ran.was c.run_engine.ensures.shelf) c.judge_report.ensures.shelf
