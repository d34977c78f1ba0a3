-- A run that ends so does what its status says.
use Rattle.std.proofs.Common.{◌≡◌, ℕ, Some, refl, sym, ap, ◌∙◌, subst}
use Rattle.std.specs.Prelude.{map, string_bytes, Option, Err}
use Rattle.command_words.specs.Forms.{Command, Replay, Check, Trial, command_of}
use Rattle.command_words.specs.Seen.{places_view, command_view}
use Rattle.command_words.specs.declared.words.Command as words
use Rattle.run_rules.specs.Run.{run_of, IsSilent}
use Rattle.run_rules.specs.Ends.{IsEnd}
use Rattle.run_rules.specs.Trial.{EndsTrial, CompletesTrial}
use Rattle.run_rules.specs.declared.status.Status.TheVariants.{ReadFault}
use Rattle.run_rules.proofs.FaultsTold.{no_fault}
use Rattle.outage_cli.proofs.Owed.{end_complete, end_due, trial_completes}
use Rattle.outage_cli.proofs.Clauses.{usage_end, unread_end, none_asked, other_asked, one_trial}
use Rattle.outage_cli.proofs.OwnRun.{own_confirmed}
use Rattle.outage_cli.proofs.main_call.outage_main.Goals as goal

pub returns-in-Ok-Replay : goal.returns-in-Ok-Replay
returns-in-Ok-Replay g c =
    let files = g.S.Shelf.files c.args.shelf.now in
    let left_before = g.S.Shelf.left c.args.shelf.now in
    let left = g.S.Shelf.left c.run_replay.new.shelf in
    let before = g.K.Sink.written c.args.out.now in
    let now = g.K.Sink.written c.run_replay.new.out in
    let status = c.run_replay.result in
    let command = command_of (map string_bytes c.args.words.now) in
    let is : command ≡ Some (Replay (places_view c.in-Ok-Replay.places) c.in-Ok-Replay.wish) = c.in-Ok-Replay.ensures.command ∙ ap (λ (x : words.Command). Some (command_view x)) c.in-Ok-Replay.field-0-is in
    let end : IsEnd (run_of files left_before left before now command) status =
    subst (λ (k : Option Command). IsEnd (run_of files left_before left before now k) status) (sym is) c.run_replay.ensures.ended in
    record {
      ends = end;
      idle = λ silent. c.run_replay.ensures.idle (subst (λ (k : Option Command). IsSilent k status) is silent);
      untouched = λ none. absurd (none_asked command _ is none);
      shelf = c.run_replay.ensures.shelf;
      out = c.run_replay.ensures.out;
      complete = λ reads writes. end_complete files left_before left before now command status end (λ e. reads (c.run_replay.ensures.shelf.rose e)) (λ e. writes (c.run_replay.ensures.out.rose e));
      due = λ reads. end_due files left_before left before now command status end (λ e. reads (c.run_replay.ensures.shelf.rose e));
      own_report = λ reads writes.
          own_confirmed files left_before left before now command status c.replay_is_valid.ensures end
          (end_complete files left_before left before now command status end (λ e. reads (c.run_replay.ensures.shelf.rose e)) (λ e. writes (c.run_replay.ensures.out.rose e)));
      trial_reads = λ n e. absurd (let same = other_asked command _ _ is e in cc);
      trial_complete = λ writes n e. absurd (let same = other_asked command _ _ is e in cc);
      rules = c.lines_follow_rules.ensures;
      printed = c.diagnosis_is_printed.ensures;
    }

pub returns-in-Ok-Check : goal.returns-in-Ok-Check
returns-in-Ok-Check g c =
    let files = g.S.Shelf.files c.args.shelf.now in
    let left_before = g.S.Shelf.left c.args.shelf.now in
    let left = g.S.Shelf.left c.run_check.new.shelf in
    let before = g.K.Sink.written c.args.out.now in
    let now = g.K.Sink.written c.run_check.new.out in
    let status = c.run_check.result in
    let command = command_of (map string_bytes c.args.words.now) in
    let is : command ≡ Some (Check (places_view c.in-Ok-Check.places) c.in-Ok-Check.report.now) = c.in-Ok-Check.ensures.command ∙ ap (λ (x : words.Command). Some (command_view x)) c.in-Ok-Check.field-0-is in
    let end : IsEnd (run_of files left_before left before now command) status =
    subst (λ (k : Option Command). IsEnd (run_of files left_before left before now k) status) (sym is) c.run_check.ensures.ended in
    record {
      ends = end;
      idle = λ silent. c.run_check.ensures.idle (subst (λ (k : Option Command). IsSilent k status) is silent);
      untouched = λ none. absurd (none_asked command _ is none);
      shelf = c.run_check.ensures.shelf;
      out = c.run_check.ensures.out;
      complete = λ reads writes. end_complete files left_before left before now command status end (λ e. reads (c.run_check.ensures.shelf.rose e)) (λ e. writes (c.run_check.ensures.out.rose e));
      due = λ reads. end_due files left_before left before now command status end (λ e. reads (c.run_check.ensures.shelf.rose e));
      own_report = λ reads writes.
          own_confirmed files left_before left before now command status c.replay_is_valid.ensures end
          (end_complete files left_before left before now command status end (λ e. reads (c.run_check.ensures.shelf.rose e)) (λ e. writes (c.run_check.ensures.out.rose e)));
      trial_reads = λ n e. absurd (let same = other_asked command _ _ is e in cc);
      trial_complete = λ writes n e. absurd (let same = other_asked command _ _ is e in cc);
      rules = c.lines_follow_rules.ensures;
      printed = c.diagnosis_is_printed.ensures;
    }

pub returns-in-Ok-Trial : goal.returns-in-Ok-Trial
returns-in-Ok-Trial g c =
    let files = g.S.Shelf.files c.args.shelf.now in
    let left = g.S.Shelf.left c.args.shelf.now in
    let before = g.K.Sink.written c.args.out.now in
    let now = g.K.Sink.written c.run_trial.new.out in
    let status = c.run_trial.result in
    let feeders = c.in-Ok-Trial.feeders in
    let command = command_of (map string_bytes c.args.words.now) in
    let is : command ≡ Some (Trial feeders) = c.in-Ok-Trial.ensures.command ∙ ap (λ (x : words.Command). Some (command_view x)) c.in-Ok-Trial.field-0-is in
    let end : IsEnd (run_of files left left before now command) status =
    subst (λ (k : Option Command). IsEnd (run_of files left left before now k) status) (sym is) c.run_trial.ensures.ended in
    let unread : status ≡ ReadFault → ⊥ = λ e. subst (EndsTrial before now feeders) e c.run_trial.ensures.ended in
    record {
      ends = end;
      idle = λ silent. c.run_trial.ensures.idle (subst (λ (k : Option Command). IsSilent k status) is silent);
      untouched = λ none. absurd (none_asked command _ is none);
      shelf = no_fault _ _ (status ≡ ReadFault) refl unread;
      out = c.run_trial.ensures.out;
      complete = λ reads writes. end_complete files left left before now command status end unread (λ e. writes (c.run_trial.ensures.out.rose e));
      due = λ reads. end_due files left left before now command status end unread;
      own_report = λ reads writes.
          own_confirmed files left left before now command status c.replay_is_valid.ensures end
          (end_complete files left left before now command status end unread (λ e. writes (c.run_trial.ensures.out.rose e)));
      trial_reads = λ n e. refl;
      trial_complete = λ writes n e.
          subst (λ (k : ℕ). CompletesTrial k status) (one_trial (other_asked command _ _ is e)) (trial_completes before now feeders status c.run_trial.ensures.ended (λ e. writes (c.run_trial.ensures.out.rose e)));
      rules = c.lines_follow_rules.ensures;
      printed = c.diagnosis_is_printed.ensures;
    }

-- words of no form
pub returns-in-Err-Usage-clause-ends : goal.returns-in-Err-Usage-clause-ends
returns-in-Err-Usage-clause-ends g c =
    usage_end (g.S.Shelf.files c.args.shelf.now) (g.S.Shelf.left c.args.shelf.now) (g.K.Sink.written c.args.out.now) (command_of (map string_bytes c.args.words.now)) (c.in-Err-Usage.ensures.usage (ap Err c.in-Err-Usage.field-0-is))

-- memory ran out as the words were read
pub returns-in-Err-Memory-clause-ends : goal.returns-in-Err-Memory-clause-ends
returns-in-Err-Memory-clause-ends g c =
    unread_end (g.S.Shelf.files c.args.shelf.now) (g.S.Shelf.left c.args.shelf.now) (g.K.Sink.written c.args.out.now) (command_of (map string_bytes c.args.words.now))
