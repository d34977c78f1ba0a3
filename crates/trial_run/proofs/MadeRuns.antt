-- Runs over texts in memory: they stop for want of memory alone.
use Rattle.std.proofs.Common.{◌≡◌, ◌≤◌, ℕ, ◌*◌, List, length, take, Option, Some, inl, inr, Ok, OnOk, refl, ap, subst, arith}
use Rattle.std.specs.Prelude.{not, if◌then◌else◌, Result, Err, IsErrOf}
use Rattle.std.specs.Io.KnownBytes.{Appends}
use Rattle.std.proofs.lemmas.Bool.{le-leb}
use Rattle.std.proofs.lemmas.List.Filters.{length-filter_both}
use Rattle.grid_model.specs.Parts.{Parts}
use Rattle.grid_model.specs.declared.history.Event.{Event}
use Rattle.event_rules.specs.Lines.{lines, is_skipped}
use Rattle.history_rules.specs.Run.{counted, ended_lines, lines_within, history_of}
use Rattle.history_rules.specs.Report.{summary_text}
use Rattle.grid_maker.specs.NetworkText.{network_text}
use Rattle.grid_maker.specs.EventText.{event_text}
use Rattle.outage_engine.specs.Engined.{Engined, IsEngineAfter}
use Rattle.outage_ports.specs.Bytes.{Files, AppendsPrefix}
use Rattle.run_rules.specs.Faults.{TellsFaults}
use Rattle.run_rules.specs.Files.{most_events, most_event_lines}
use Rattle.run_rules.specs.Trial.{trial_text, Tries, TriesPart, EndsTrial, IsSilentTrial}
use Rattle.line_entries.specs.declared.fault.PutFault.{PutFault}
use Rattle.line_entries.specs.declared.fault.PutFault.TheVariants as put
use Rattle.run_rules.specs.declared.status.Status.{Status}
use Rattle.run_rules.specs.declared.status.Status.TheVariants.{Done, Invalid, Usage, ReadFault, WriteFault, NetworkRefused, ReportRefused, Limit, Memory}
use Rattle.event_run.specs.Reading.{Stops}
use Rattle.event_run.specs.declared.reading.EventsStop.{EventsStop}
use Rattle.event_run.specs.declared.reading.EventsStop.TheVariants as ends
use Rattle.engine_run.specs.Ended.{IsTextStop, status_of_stop, status_of_put}
use Rattle.trial_run.specs.Made.{RanOver}

-- a shelf of one text, under each name
abbrev pub text_files : List ℕ → Files
text_files text name = Some text

-- what is there is one text
one_text : (a b : List ℕ) → Some a ≡ Some b → a ≡ b
one_text a b e = cc

-- what counts no faults doesn't fail
pub never_fails : (failed : Type 0) → TellsFaults 0 0 failed → failed → ⊥
never_fails failed tells f = let rose = tells.rose f in absurd (omega arith)

-- no more lines count than there are
pub counted_within : (ls : List (List ℕ)) → length (counted ls) ≤ length ls
counted_within ls =
    let both = length-filter_both (λ line. not (is_skipped line)) (λ line. not (not (is_skipped line))) (λ line. refl) ls in omega arith

-- a storm has fewer lines than may count
pub few_lines : (events : List ℕ) (n : ℕ) → events ≡ event_text n → length (lines (event_text n)) ≡ 10_000 * n → n ≤ 100 → length (counted (lines events)) ≤ most_event_lines
few_lines events n storm has few =
    let within = counted_within (lines events) in
    let same = ap (λ xs. length (lines xs)) storm in omega arith

module _ (network events : List ℕ) (fits : length events ≤ most_events) (few : length (counted (lines events)) ≤ most_event_lines) where
  whole_lines : lines_within most_events events ≡ lines events
  whole_lines = ap (λ b. if b then lines events else ended_lines (take most_events events)) (le-leb (length events) most_events fits)

  -- a run over the events meets no limit, and no fault
  pub made_stop : {X : Type 0} (name : List ℕ) (start left before now : Option (List ℕ)) (g : Parts) (r : Result X EventsStop) (s : EventsStop) → r ≡ Err s
      → TellsFaults 0 0 (IsErrOf r ends.ReadFailed) → TellsFaults 0 0 (IsErrOf r ends.WriteFailed)
      → Stops (Some (text_files events)) name start left before now g s → IsTextStop network (status_of_stop s)
  made_stop name start left before now g r ends.ReadFailed is reads writes stops = absurd (never_fails (IsErrOf r ends.ReadFailed) reads is)
  made_stop name start left before now g r ends.WriteFailed is reads writes stops = absurd (never_fails (IsErrOf r ends.WriteFailed) writes is)
  made_stop name start left before now g r ends.TooManyLines is reads writes stops =
      let same = ap (λ xs. length (counted (lines_within most_events xs))) (one_text events stops.0 stops.1.are) in
      let whole = ap (λ ls. length (counted ls)) whole_lines in
      let many = stops.1.many in absurd (omega arith)
  made_stop name start left before now g r ends.TooManyBytes is reads writes stops =
      let same = ap length (one_text events stops.0 stops.1.are) in
      let more = stops.1.more in absurd (omega arith)
  made_stop name start left before now g r ends.Memory is reads writes stops = tt

module _ (n : ℕ) (e : Engined) (refused : ℕ) (ran : RanOver (network_text n) (event_text n) e refused) (before now : Option (List ℕ)) where
  -- what is due to be written is the summary of the run
  summary_is : summary_text e.grid refused (history_of e.grid (event_text n)) ≡ trial_text e.grid n
  unfolding trial_text
  summary_is = ap (λ k. summary_text e.grid k (history_of e.grid (event_text n))) ran.refusals

  trial_done : ((h : List Event) → IsEngineAfter h e → Appends before now (summary_text e.grid refused h)) → Tries before now n
  trial_done all = record {
    parts = e.grid;
    network = ran.grid;
    written = subst (Appends before now) summary_is (all (history_of e.grid (event_text n)) ran.engine);
  }

  trial_part : ((h : List Event) → IsEngineAfter h e → AppendsPrefix before now (summary_text e.grid refused h)) → TriesPart before now n
  trial_part part = record {
    parts = e.grid;
    network = ran.grid;
    written = subst (AppendsPrefix before now) summary_is (part (history_of e.grid (event_text n)) ran.engine);
  }

  -- a trial ends as its last write does
  pub trial_ended : (r : Result (Unit {0}) PutFault) → OnOk r ((h : List Event) → IsEngineAfter h e → Appends before now (summary_text e.grid refused h)) →
      ((h : List Event) → IsEngineAfter h e → AppendsPrefix before now (summary_text e.grid refused h)) → EndsTrial before now n (status_of_put r)
  trial_ended (Ok done) all part = trial_done all
  trial_ended (Err put.Write) all part = trial_part part
  trial_ended (Err put.Memory) all part = inr (trial_part part)

-- where there are no texts' engine, nothing is tried
pub stop_ended : (n : ℕ) (out : Option (List ℕ)) (status : Status) → IsTextStop (network_text n) status → EndsTrial out out n status
stop_ended n out Done stop = absurd stop
stop_ended n out (Invalid rule) stop = stop
stop_ended n out Usage stop = stop
stop_ended n out ReadFault stop = stop
stop_ended n out WriteFault stop = absurd stop
stop_ended n out (NetworkRefused line rule) stop = stop
stop_ended n out (ReportRefused line rule) stop = stop
stop_ended n out (Limit which) stop = stop
stop_ended n out Memory stop = inl refl

-- and no write fails
pub stop_unwritten : (text : List ℕ) (status : Status) → IsTextStop text status → status ≡ WriteFault → ⊥
stop_unwritten text status stop is = subst (IsTextStop text) is stop

-- something was written, or tried to
pub put_loud : (r : Result (Unit {0}) PutFault) → IsSilentTrial (status_of_put r) → ⊥
put_loud (Ok done) silent = silent
put_loud (Err put.Write) silent = silent
put_loud (Err put.Memory) silent = silent
