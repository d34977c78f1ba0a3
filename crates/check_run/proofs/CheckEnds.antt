-- What holds where a check ends.
use Rattle.std.proofs.Common.{◌≡◌, ℕ, List, [], Option, None, Some, inl, inr, refl, sym, subst, ◌∙◌}
use Rattle.std.specs.Io.KnownBytes.{Appends}
use Rattle.history_rules.specs.Run.{history_of}
use Rattle.bound_table.specs.Table.{Table}
use Rattle.bound_checker.specs.declared.rules.Verdict.{Verdict}
use Rattle.bound_checker.specs.declared.rules.Verdict.TheVariants as verdict
use Rattle.outage_engine.specs.Engined.{Engined}
use Rattle.outage_ports.specs.Bytes.{Files, AppendsPrefix}
use Rattle.command_words.specs.Forms.{Places, Replay, Check}
use Rattle.run_rules.specs.Reading.{StopsUnread, IsFileStop}
use Rattle.run_rules.specs.Files.{most_report, SaysBounds}
use Rattle.run_rules.specs.Told.{last_problem, verdict_on, verdict_text}
use Rattle.std.specs.Prelude.{◌⊎◌, false}
use Rattle.grid_model.specs.Parts.{Parts}
use Rattle.run_rules.specs.Run.{run_of, CanReplay, CanCheck, FailsNetwork, FailsEvents, FailsReport, LeavesReplay, StopsWithin, WritesNothing, IsSilentCheck, status_of}
use Rattle.run_rules.specs.Ends.{IsEnd}
use Rattle.replay_laws.specs.ClosingLaws.{BoundsAreShown}
use Rattle.engine_run.specs.Ended.{Runs, DidRun, IsRunStop}
use Rattle.check_run.specs.Reported.{IsReportStop, IsVerdictOn, Judges, DidJudge, DidFind, Says}
use Rattle.run_rules.specs.declared.status.Status.{Status}
use Rattle.run_rules.specs.declared.status.Status.TheVariants.{Done, Invalid, Usage, ReadFault, WriteFault, NetworkRefused, ReportRefused, Limit, Memory}
use Rattle.command_words.specs.declared.words.Wish.{Wish}
use Rattle.run_rules.specs.declared.status.Which.TheVariants.{NetworkBytes, EventLines, EventBytes, ReportBytes}

-- nothing that a check asks for
pub no_wish : Wish
no_wish = record { with_bounds = false; period = record { from = record { 0 = 0 }; until = None }; at_once = false }

-- a run that stops isn't done
pub run_done : (status : Status) → IsRunStop status → status ≡ Done → ⊥
run_done status stop is = subst IsRunStop is stop

-- a verdict is no failure
verdict_used : (v : Verdict) → status_of v ≡ Usage → ⊥
verdict_used verdict.Valid is = cc
verdict_used (verdict.Invalid rule place) is = cc

verdict_read : (v : Verdict) → status_of v ≡ ReadFault → ⊥
verdict_read verdict.Valid is = cc
verdict_read (verdict.Invalid rule place) is = cc

verdict_silent : (v : Verdict) → IsSilentCheck (status_of v) → ⊥
verdict_silent verdict.Valid silent = silent
verdict_silent (verdict.Invalid rule place) silent = silent

-- after a stop before the report nothing was written
pub silent_run : (status : Status) → IsRunStop status → (status ≡ WriteFault → ⊥) → IsSilentCheck status
silent_run Done stop write = stop
silent_run (Invalid rule) stop write = stop
silent_run Usage stop write = tt
silent_run ReadFault stop write = tt
silent_run WriteFault stop write = write refl
silent_run (NetworkRefused line rule) stop write = tt
silent_run (ReportRefused line rule) stop write = tt
silent_run (Limit which) stop write = tt
silent_run Memory stop write = tt

-- and after one at the report
pub silent_report : (files : Option Files) (before left : Option (List ℕ)) (name : List ℕ) (g : Parts) (status : Status) → IsReportStop files before left name g status → IsSilentCheck status
silent_report files before left name g Done stop = stop
silent_report files before left name g (Invalid rule) stop = stop
silent_report files before left name g Usage stop = tt
silent_report files before left name g ReadFault stop = tt
silent_report files before left name g WriteFault stop = stop
silent_report files before left name g (NetworkRefused line rule) stop = tt
silent_report files before left name g (ReportRefused line rule) stop = tt
silent_report files before left name g (Limit which) stop = tt
silent_report files before left name g Memory stop = tt

-- where the report was not read whole, there are no bounds
pub file_stop : (files : Option Files) (before left : Option (List ℕ)) (name : List ℕ) (g : Parts) (status : Status) → IsFileStop files before left name most_report ReportBytes status → IsReportStop files before left name g status
file_stop files before left name g Done stop = stop
file_stop files before left name g (Invalid rule) stop = stop
file_stop files before left name g Usage stop = stop
file_stop files before left name g ReadFault stop = stop
file_stop files before left name g WriteFault stop = stop
file_stop files before left name g (NetworkRefused line rule) stop = absurd stop
file_stop files before left name g (ReportRefused line rule) stop = absurd stop
file_stop files before left name g (Limit NetworkBytes) stop = let other = stop.0 in absurd cc
file_stop files before left name g (Limit EventLines) stop = let other = stop.0 in absurd cc
file_stop files before left name g (Limit EventBytes) stop = let other = stop.0 in absurd cc
file_stop files before left name g (Limit ReportBytes) stop = stop.1
file_stop files before left name g Memory stop = tt

-- the reads of a replay are those of a check
fails_check : (files : Files) (left_before left before now out : Option (List ℕ)) (places : Places) (wish : Wish) (report : List ℕ)
    → LeavesReplay files (run_of (Some files) left_before left before now (Some (Replay places wish))) places
    → FailsNetwork files (run_of (Some files) left_before left out out (Some (Check places report))) places
    ⊎ (FailsEvents files (run_of (Some files) left_before left out out (Some (Check places report))) places
    ⊎ FailsReport files (run_of (Some files) left_before left out out (Some (Check places report))) places report)
fails_check files left_before left before now out places wish report (inl network) = inl network.0
fails_check files left_before left before now out places wish report (inr events) =
    inr (inl (record { parts = events.parts; network = events.network; fails = events_fail events.parts events.stops }))
  where
    events_fail : (g : Parts) → ((left ≡ Some []) × WritesNothing (run_of (Some files) left_before left before now (Some (Replay places wish)))) ⊎ StopsWithin files (run_of (Some files) left_before left before now (Some (Replay places wish))) places g
        → StopsUnread (Some files) (Some []) left places.events
    events_fail g (inl idle) = inl idle.0
    events_fail g (inr stop) = inr (stop.front, stop.fails)

-- where its replay stops before the end of the events, so does the check, and nothing was written
pub stopped_end : (files : Option Files) (left_before left before now out : Option (List ℕ)) (places : Places) (wish : Wish) (report : List ℕ) (status : Status) →
    IsEnd (run_of files left_before left before now (Some (Replay places wish))) status → (status ≡ Done → ⊥) → (status ≡ WriteFault → ⊥) →
    IsEnd (run_of files left_before left out out (Some (Check places report))) status
stopped_end None left_before left before now out places wish report status end done write = end
stopped_end (Some files) left_before left before now out places wish report Done end done write = absurd (done refl)
stopped_end (Some files) left_before left before now out places wish report (Invalid rule) end done write = absurd end
stopped_end (Some files) left_before left before now out places wish report Usage end done write = absurd end
stopped_end (Some files) left_before left before now out places wish report ReadFault end done write =
    (refl, fails_check files left_before left before now out places wish report end)
stopped_end (Some files) left_before left before now out places wish report WriteFault end done write = absurd (write refl)
stopped_end (Some files) left_before left before now out places wish report (NetworkRefused line rule) end done write = (end.0, refl)
stopped_end (Some files) left_before left before now out places wish report (ReportRefused line rule) end done write = absurd end
stopped_end (Some files) left_before left before now out places wish report (Limit NetworkBytes) end done write = (end.0, refl)
stopped_end (Some files) left_before left before now out places wish report (Limit EventLines) end done write = (end.0, refl)
stopped_end (Some files) left_before left before now out places wish report (Limit EventBytes) end done write = (end.0, refl)
stopped_end (Some files) left_before left before now out places wish report (Limit ReportBytes) end done write = absurd end.0
stopped_end (Some files) left_before left before now out places wish report Memory end done write = refl

module _ (places : Places) (report : List ℕ) (e : Engined) (refused : ℕ) (read from mid : Option (List ℕ)) where
  -- the files of its replay
  abbrev can_replay : (files : Files) → Runs files places read from mid e refused → CanReplay files places
  can_replay files ran = record { parts = e.grid; events = ran.events.bytes; network = ran.network; event_file = ran.events.events }

  -- where no bounds were read, nothing was written
  report_stops : (files : Option Files) (left_before left out : Option (List ℕ)) (status : Status) → DidRun files places read from mid e refused → IsReportStop files read left report e.grid status →
      IsEnd (run_of files left_before left out out (Some (Check places report))) status
  report_stops None left_before left out status ran stop = λ is. subst (IsReportStop None read left report e.grid) is stop
  report_stops (Some files) left_before left out Done ran stop = absurd stop
  report_stops (Some files) left_before left out (Invalid rule) ran stop = absurd stop
  report_stops (Some files) left_before left out Usage ran stop = absurd stop
  report_stops (Some files) left_before left out ReadFault ran stop =
      (refl, inr (inr (record { can = can_replay files ran; fails = subst (λ (b : Option (List ℕ)). StopsUnread (Some files) b left report) ran.events.read stop })))
  report_stops (Some files) left_before left out WriteFault ran stop = absurd stop
  report_stops (Some files) left_before left out (NetworkRefused line rule) ran stop = absurd stop
  report_stops (Some files) left_before left out (ReportRefused line rule) ran stop = (record { can = can_replay files ran; refused = stop }, refl)
  report_stops (Some files) left_before left out (Limit NetworkBytes) ran stop = absurd stop
  report_stops (Some files) left_before left out (Limit EventLines) ran stop = absurd stop
  report_stops (Some files) left_before left out (Limit EventBytes) ran stop = absurd stop
  report_stops (Some files) left_before left out (Limit ReportBytes) ran stop = ((can_replay files ran, stop), refl)
  report_stops (Some files) left_before left out Memory ran stop = refl

  pub report_end : (files same : Option Files) (left_before left out : Option (List ℕ)) (status : Status) → same ≡ files → DidRun files places read from mid e refused → IsReportStop same read left report e.grid status →
      IsEnd (run_of files left_before left out out (Some (Check places report))) status
  report_end files same left_before left out status are ran stop =
      report_stops files left_before left out status ran (subst (λ (f : Option Files). IsReportStop f read left report e.grid status) are stop)

  -- the files of the check, where its report is judged
  abbrev can_check : (files : Files) → Runs files places read from mid e refused → (bounds : Table) (v : Verdict) (text : List ℕ) → SaysBounds files report e.grid bounds → Judges e bounds v text → CanCheck files places report v
  unfolding verdict_on last_problem IsVerdictOn
  can_check files ran bounds v text says judges = record {
    parts = e.grid;
    events = ran.events.bytes;
    bounds = bounds;
    network = ran.network;
    event_file = ran.events.events;
    report_file = says;
    verdict_is = sym (judges.is (history_of e.grid ran.events.bytes) ran.events.engine);
  }

  finds : (files : Option Files) (left : Option (List ℕ)) (v : Verdict) (text : List ℕ) → DidRun files places read from mid e refused → DidJudge files left report e v text → DidFind files left places report v text
  unfolding can_check
  finds None left v text ran judged = tt
  finds (Some files) left v text ran judged = record {
    can = can_check files ran judged.bounds v text judged.says.0 judged.judges;
    read = judged.says.1;
    told = judged.judges.told;
  }

  pub did_find : (files same : Option Files) (left : Option (List ℕ)) (v : Verdict) (text : List ℕ) → same ≡ files → DidRun files places read from mid e refused → DidJudge same left report e v text → DidFind files left places report v text
  did_find files same left v text are ran judged = finds files left v text ran (subst (λ (f : Option Files). DidJudge f left report e v text) are judged)

-- what was found is said
module _ (places : Places) (report : List ℕ) (left_before left before now : Option (List ℕ)) where
  verdict_ends : BoundsAreShown → (files : Files) (v : Verdict) (can : CanCheck files places report v) → left ≡ Some [] → Appends before now (verdict_text can.parts v) → IsEnd (run_of (Some files) left_before left before now (Some (Check places report))) (status_of v)
  verdict_ends law files verdict.Valid can read all = record {
    check = record { can = can; read = read; written = all };
    certified = (law can.network.bytes can.parts can.events can.network.grid).certifies can.bounds can.verdict_is;
  }
  verdict_ends law files (verdict.Invalid rule place) can read all = (place, record { can = can; read = read; written = all })

  said_ends : BoundsAreShown → (files : Option Files) (v : Verdict) (text : List ℕ) → DidFind files left places report v text → Appends before now text → IsEnd (run_of files left_before left before now (Some (Check places report))) (status_of v)
  said_ends law None v text found all = verdict_used v
  said_ends law (Some files) v text found all = verdict_ends law files v found.can found.read (subst (λ (t : List ℕ). Appends before now t) found.told all)

  part_ends : (files : Option Files) (v : Verdict) (text : List ℕ) → DidFind files left places report v text → AppendsPrefix before now text → IsEnd (run_of files left_before left before now (Some (Check places report))) WriteFault
  part_ends None v text found part = λ e. cc
  part_ends (Some files) v text found part = record { verdict = v; can = found.can; written = subst (λ (t : List ℕ). AppendsPrefix before now t) found.told part }

  pub said_end : BoundsAreShown → (files : Option Files) (v : Verdict) (text : List ℕ) (status : Status) → DidFind files left places report v text → Says before now v text status → IsEnd (run_of files left_before left before now (Some (Check places report))) status
  said_end law files v text status found (inl said) =
      subst (λ (s : Status). IsEnd (run_of files left_before left before now (Some (Check places report))) s) (sym said.0) (said_ends law files v text found said.1)
  said_end law files v text status found (inr part) =
      subst (λ (s : Status). IsEnd (run_of files left_before left before now (Some (Check places report))) s) (sym part.0) (part_ends files v text found part.1)

-- it is no failed read
pub said_read : (before now : Option (List ℕ)) (v : Verdict) (text : List ℕ) (status : Status) → Says before now v text status → status ≡ ReadFault → ⊥
said_read before now v text status (inl said) is = verdict_read v (sym said.0 ∙ is)
said_read before now v text status (inr part) is = let failed = part.0 in cc

-- and something was written
pub said_loud : (before now : Option (List ℕ)) (v : Verdict) (text : List ℕ) (status : Status) → Says before now v text status → IsSilentCheck status → ⊥
said_loud before now v text status (inl said) silent = verdict_silent v (subst IsSilentCheck said.0 silent)
said_loud before now v text status (inr part) silent = subst IsSilentCheck part.0 silent
