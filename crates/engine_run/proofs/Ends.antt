-- What holds where a run ends.
use Rattle.std.proofs.Common.{◌≡◌, ◌≤◌, ℕ, ◌+◌, true, false, List, [], ◌++◌, length, take, Option, None, Some, inl, inr, refl, sym, ap, ◌∙◌, subst, arith, Ok, OnOk}
use Rattle.std.specs.Prelude.{nat_le, if◌then◌else◌, Result, Err, IsErrOf}
use Rattle.std.specs.Io.KnownBytes.{Appends}
use Rattle.std.proofs.Math.Seq.{take-append-add}
use Rattle.std.proofs.lemmas.Bool.{and_from, le-leb}
use Rattle.std.proofs.lemmas.List.{append_assoc, append-nil, length-append, take-append-le}
use Rattle.grid_model.specs.Parts.{Parts}
use Rattle.grid_model.specs.declared.history.Event.{Event}
use Rattle.event_rules.specs.Lines.{lines}
use Rattle.grid_reader.specs.Text.{grid_text, IsGrid}
use Rattle.history_rules.specs.Posed.{problem_after}
use Rattle.bound_table.specs.Printed.{bounds_text}
use Rattle.bound_table.specs.Tight.{tight_bounds}
use Rattle.history_rules.specs.Run.{ended_lines, counted, before_counted, lines_within, history_of}
use Rattle.history_rules.specs.Output.{entries, replay_text}
use Rattle.history_rules.specs.Report.{report_text, refused_in}
use Rattle.history_rules.specs.Laws.{LinesOfLimit}
use Rattle.outage_engine.specs.Engined.{Engined, IsEngineAfter}
use Rattle.outage_ports.specs.Bytes.{Files, AppendsPrefix}
use Rattle.command_words.specs.Forms.{Places, Replay}
use Rattle.run_rules.specs.Reading.{IsWhole, IsFileStop}
use Rattle.line_entries.specs.declared.fault.PutFault.{PutFault}
use Rattle.line_entries.specs.declared.fault.PutFault.TheVariants as put
use Rattle.run_rules.specs.Files.{most_network, most_events, most_event_lines}
use Rattle.run_rules.specs.Told.{last_problem, bounds_part, report_after, output, is_within_limits, entries_taken, text_due}
use Rattle.run_rules.specs.Run.{run_of, CanReplay, CanBegin, IsSilentReplay}
use Rattle.run_rules.specs.Closing.{IsToldThroughout, ShowsBounds}
use Rattle.run_rules.specs.Ends.{IsEnd}
use Rattle.event_run.specs.Reading.{ReadsAll, DidReadAll, Stops}
use Rattle.event_run.specs.declared.reading.EventsStop.{EventsStop}
use Rattle.event_run.specs.declared.reading.EventsStop.TheVariants as ends
use Rattle.run_rules.specs.Faults.{TellsFaults}
use Rattle.run_rules.proofs.FaultsTold.{tells_as}
use Rattle.engine_run.specs.Ended.{Runs, DidRun, DidSayNetwork, IsTextStop, IsNetworkStop, IsRunStop, status_of_stop, status_of_put}
use Rattle.run_rules.specs.declared.status.Status.{Status}
use Rattle.run_rules.specs.declared.status.Status.TheVariants.{Done, Invalid, Usage, ReadFault, WriteFault, NetworkRefused, ReportRefused, Limit, Memory}
use Rattle.run_rules.specs.declared.status.Which.TheVariants.{NetworkBytes, EventLines, EventBytes, ReportBytes}
use Rattle.command_words.specs.declared.words.Wish.{Wish}

-- two texts, one behind the other
appends_both : (before mid now : Option (List ℕ)) (front rest : List ℕ) → Appends before mid front → Appends mid now rest → Appends before now (front ++ rest)
appends_both None mid now front rest p q = tt
appends_both (Some x) None now front rest p q = absurd p
appends_both (Some x) (Some y) None front rest p q = absurd q
appends_both (Some x) (Some y) (Some z) front rest p q = q ∙ ap (λ l. l ++ rest) p ∙ append_assoc x front rest

-- a front part of a text is one of a longer text
prefix_of_front : (before now : Option (List ℕ)) (front rest : List ℕ) → AppendsPrefix before now front → AppendsPrefix before now (front ++ rest)
prefix_of_front before now front rest part =
    let longer = length-append front rest in
    let l = part.1 in (
      part.0,
      omega arith,
      subst (Appends before now) (sym (take-append-le part.0 front rest l)) part.2,
    )

-- so is its front with a front part of the rest
prefix_of_both : (before mid now : Option (List ℕ)) (front rest : List ℕ) → Appends before mid front → AppendsPrefix mid now rest → AppendsPrefix before now (front ++ rest)
prefix_of_both before mid now front rest all part =
    let longer = length-append front rest in
    let l = part.1 in (
      length front + part.0,
      omega arith,
      subst (Appends before now) (sym (take-append-add front rest part.0)) (appends_both before mid now front (take part.0 rest) all part.2),
    )

-- what stands behind the entries of a text
abbrev rest_of : Parts → List ℕ → Wish → List ℕ
rest_of g bytes wish = report_text g wish.period (refused_in g [] (lines bytes)) (history_of g bytes) ++ bounds_part g bytes wish.with_bounds

-- a front part of the entries is one of all that is due
due_prefix : (g : Parts) (bytes : List ℕ) (wish : Wish) (before now : Option (List ℕ)) → AppendsPrefix before now (entries_taken g bytes) → AppendsPrefix before now (text_due g bytes wish)
unfolding text_due
due_prefix g bytes wish before now part =
    prefix_of_front before now (entries_taken g bytes) (if is_within_limits bytes then rest_of g bytes wish else []) part

-- where no network was read, nothing was written
pub network_end : (files : Option Files) (left_before left out : Option (List ℕ)) (places : Places) (wish : Wish) (status : Status) →
    IsNetworkStop files left_before left places.net status → IsEnd (run_of files left_before left out out (Some (Replay places wish))) status
network_end None left_before left out places wish status stop = λ e. subst (IsNetworkStop None left_before left places.net) e stop
network_end (Some files) left_before left out places wish Done stop = absurd stop
network_end (Some files) left_before left out places wish (Invalid rule) stop = absurd stop
network_end (Some files) left_before left out places wish Usage stop = absurd stop
network_end (Some files) left_before left out places wish ReadFault stop = inl (stop, refl)
network_end (Some files) left_before left out places wish WriteFault stop = absurd stop
network_end (Some files) left_before left out places wish (NetworkRefused line rule) stop = (stop, refl)
network_end (Some files) left_before left out places wish (ReportRefused line rule) stop = absurd stop
network_end (Some files) left_before left out places wish (Limit NetworkBytes) stop = (stop, refl)
network_end (Some files) left_before left out places wish (Limit EventLines) stop = absurd stop
network_end (Some files) left_before left out places wish (Limit EventBytes) stop = absurd stop
network_end (Some files) left_before left out places wish (Limit ReportBytes) stop = absurd stop
network_end (Some files) left_before left out places wish Memory stop = inl refl

-- where the file was not read whole, there is no network
pub file_stop : (files : Option Files) (before left : Option (List ℕ)) (name : List ℕ) (status : Status) → IsFileStop files before left name most_network NetworkBytes status → IsNetworkStop files before left name status
file_stop files before left name Done stop = stop
file_stop files before left name (Invalid rule) stop = stop
file_stop files before left name Usage stop = stop
file_stop files before left name ReadFault stop = stop
file_stop files before left name WriteFault stop = stop
file_stop files before left name (NetworkRefused line rule) stop = absurd stop
file_stop files before left name (ReportRefused line rule) stop = absurd stop
file_stop files before left name (Limit NetworkBytes) stop = stop.1
file_stop files before left name (Limit EventLines) stop = let other = stop.0 in absurd cc
file_stop files before left name (Limit EventBytes) stop = let other = stop.0 in absurd cc
file_stop files before left name (Limit ReportBytes) stop = let other = stop.0 in absurd cc
file_stop files before left name Memory stop = tt

-- and where its text says none
pub text_stop : (files : Option Files) (before left : Option (List ℕ)) (name text : List ℕ) (status : Status) → IsWhole files left name most_network text → IsTextStop text status → IsNetworkStop files before left name status
text_stop files before left name text Done whole stop = absurd stop
text_stop files before left name text (Invalid rule) whole stop = absurd stop
text_stop files before left name text Usage whole stop = absurd stop
text_stop files before left name text ReadFault whole stop = absurd stop
text_stop files before left name text WriteFault whole stop = absurd stop
text_stop None before left name text (NetworkRefused line rule) whole stop = tt
text_stop (Some files) before left name text (NetworkRefused line rule) whole stop = record { bytes = text; file = whole.0; refused = stop }
text_stop files before left name text (ReportRefused line rule) whole stop = absurd stop
text_stop files before left name text (Limit which) whole stop = absurd stop
text_stop files before left name text Memory whole stop = tt

-- and where it says one
pub text_network : (files : Option Files) (left : Option (List ℕ)) (name text : List ℕ) (g : Parts) → IsWhole files left name most_network text → grid_text text ≡ IsGrid g → DidSayNetwork files left name g
text_network None left name text g whole says = tt
text_network (Some files) left name text g whole says = (record { bytes = text; file = whole.0; grid = says }, whole.1)

-- a text's stop is no failed read
pub text_read : (text : List ℕ) (status : Status) → IsTextStop text status → status ≡ ReadFault → ⊥
text_read text status stop is = subst (IsTextStop text) is stop

pub network_kind : (files : Option Files) (left_before left : Option (List ℕ)) (name : List ℕ) (status : Status) → IsNetworkStop files left_before left name status → IsRunStop status
network_kind files left_before left name Done stop = stop
network_kind files left_before left name (Invalid rule) stop = stop
network_kind files left_before left name Usage stop = stop
network_kind files left_before left name ReadFault stop = tt
network_kind files left_before left name WriteFault stop = tt
network_kind files left_before left name (NetworkRefused line rule) stop = tt
network_kind files left_before left name (ReportRefused line rule) stop = stop
network_kind files left_before left name (Limit NetworkBytes) stop = tt
network_kind files left_before left name (Limit EventLines) stop = tt
network_kind files left_before left name (Limit EventBytes) stop = tt
network_kind files left_before left name (Limit ReportBytes) stop = stop
network_kind files left_before left name Memory stop = tt

-- reading a network writes nothing
pub no_write : (files : Option Files) (left_before left : Option (List ℕ)) (name : List ℕ) (status : Status) → IsNetworkStop files left_before left name status → status ≡ WriteFault → ⊥
no_write files left_before left name status stop is = subst (IsNetworkStop files left_before left name) is stop

-- the statuses of a stop among the events
pub stop_kind : (s : EventsStop) → IsRunStop (status_of_stop s)
stop_kind ends.ReadFailed = tt
stop_kind ends.WriteFailed = tt
stop_kind ends.TooManyLines = tt
stop_kind ends.TooManyBytes = tt
stop_kind ends.Memory = tt

-- after none of them it is said that nothing was written
pub never_silent : (s : EventsStop) → IsSilentReplay (status_of_stop s) → ⊥
never_silent ends.ReadFailed silent = silent
never_silent ends.WriteFailed silent = silent
never_silent ends.TooManyLines silent = silent
never_silent ends.TooManyBytes silent = silent
never_silent ends.Memory silent = silent

read_of : (s : EventsStop) → status_of_stop s ≡ ReadFault → s ≡ ends.ReadFailed
read_of ends.ReadFailed e = refl
read_of ends.WriteFailed e = cc
read_of ends.TooManyLines e = cc
read_of ends.TooManyBytes e = cc
read_of ends.Memory e = cc

write_of : (s : EventsStop) → status_of_stop s ≡ WriteFault → s ≡ ends.WriteFailed
write_of ends.ReadFailed e = cc
write_of ends.WriteFailed e = refl
write_of ends.TooManyLines e = cc
write_of ends.TooManyBytes e = cc
write_of ends.Memory e = cc

-- a failure among the events is told by its status
module _ {X Y : Type 0} (r : Result X EventsStop) (q : Result Y Status) (s : EventsStop) (status : Status) (stopped : r ≡ Err s) (ended : q ≡ Err status) (is : status ≡ status_of_stop s) (a b : ℕ) where
  pub read_told : TellsFaults a b (IsErrOf r ends.ReadFailed) → TellsFaults a b (IsErrOf q ReadFault)
  read_told tells =
      tells_as a b (IsErrOf r ends.ReadFailed) (IsErrOf q ReadFault)
      (λ e. let same : s ≡ ends.ReadFailed = cc in let told = ap status_of_stop same in cc)
      (λ e. let same : status_of_stop s ≡ ReadFault = cc in let named = read_of s same in cc) tells

  pub write_told : TellsFaults a b (IsErrOf r ends.WriteFailed) → TellsFaults a b (IsErrOf q WriteFault)
  write_told tells =
      tells_as a b (IsErrOf r ends.WriteFailed) (IsErrOf q WriteFault)
      (λ e. let same : s ≡ ends.WriteFailed = cc in let told = ap status_of_stop same in cc)
      (λ e. let same : status_of_stop s ≡ WriteFault = cc in let named = write_of s same in cc) tells

-- what a last write tells
put_written : (r : Result (Unit {0}) PutFault) → status_of_put r ≡ WriteFault → IsErrOf r put.Write
put_written (Ok done) e = absurd cc
put_written (Err put.Write) e = refl
put_written (Err put.Memory) e = absurd cc

pub put_told : (r : Result (Unit {0}) PutFault) (status : Status) (a b : ℕ) → status ≡ status_of_put r → TellsFaults a b (IsErrOf r put.Write) → TellsFaults a b (status ≡ WriteFault)
put_told r status a b is tells =
    tells_as a b (IsErrOf r put.Write) (status ≡ WriteFault) (λ e. is ∙ ap status_of_put e) (λ e. put_written r (sym is ∙ e)) tells

-- it reads nothing
pub put_read : (r : Result (Unit {0}) PutFault) → status_of_put r ≡ ReadFault → ⊥
put_read (Ok done) e = cc
put_read (Err put.Write) e = cc
put_read (Err put.Memory) e = cc

-- and it isn't said that nothing was written
pub put_loud : (r : Result (Unit {0}) PutFault) → IsSilentReplay (status_of_put r) → ⊥
put_loud (Ok done) silent = silent
put_loud (Err put.Write) silent = silent
put_loud (Err put.Memory) silent = silent

-- memory may run out before anything is written
pub idle_end : (files : Option Files) (left_before left out : Option (List ℕ)) (places : Places) (wish : Wish) → IsEnd (run_of files left_before left out out (Some (Replay places wish))) Memory
idle_end None left_before left out places wish = λ e. cc
idle_end (Some files) left_before left out places wish = inl refl

-- a run among the events isn't called usage
never_usage : (s : EventsStop) → status_of_stop s ≡ Usage → ⊥
never_usage ends.ReadFailed e = cc
never_usage ends.WriteFailed e = cc
never_usage ends.TooManyLines e = cc
never_usage ends.TooManyBytes e = cc
never_usage ends.Memory e = cc

module _ (files same : Option Files) (are : same ≡ files) (left before now : Option (List ℕ)) (places : Places) (g : Parts) (read : Option (List ℕ)) (says : DidSayNetwork files read places.net g) where
  pub did_run : (e : Engined) (refused : ℕ) → e.grid ≡ g → DidReadAll same places.events left before now g e refused → DidRun files places left before now e refused
  did_run e refused grid all = told files same are says grid all
    where
      told : (files same : Option Files) → same ≡ files → DidSayNetwork files read places.net g → e.grid ≡ g → DidReadAll same places.events left before now g e refused → DidRun files places left before now e refused
      told None same are says grid all = tt
      told (Some files) same are says grid all = record {
        network = (subst (λ (p : Parts). DidSayNetwork (Some files) read places.net p) (sym grid) says).0;
        events = subst (λ (p : Parts). ReadsAll files places.events left before now p e refused) (sym grid) (subst (λ (f : Option Files). DidReadAll f places.events left before now g e refused) are all);
      }

  -- whatever stopped it
  pub stop_ended : (left_before : Option (List ℕ)) (wish : Wish) (s : EventsStop) → Stops same places.events read left before now g s →
      IsEnd (run_of files left_before left before now (Some (Replay places wish))) (status_of_stop s)
  stop_ended left_before wish s stops = told files says s (subst (λ (f : Option Files). Stops f places.events read left before now g s) are stops)
    where
      told : (files : Option Files) → DidSayNetwork files read places.net g → (s : EventsStop) → Stops files places.events read left before now g s →
          IsEnd (run_of files left_before left before now (Some (Replay places wish))) (status_of_stop s)
      told None says s stops = never_usage s
      told (Some files) says ends.ReadFailed (inl idle) = inr (record { parts = g; network = says.0; stops = inl (idle.0 ∙ says.1, idle.1) })
      told (Some files) says ends.ReadFailed (inr stop) =
          inr (record { parts = g; network = says.0; stops = inr (record { front = stop.front; fails = stop.fails; written = stop.written }) })
      told (Some files) says ends.WriteFailed part = record {
        can = record { parts = g; bytes = part.0; network = says.0; are = part.1 };
        written = due_prefix g part.0 wish before now part.2;
      }
      told (Some files) says ends.TooManyLines meets = (
        record { parts = g; bytes = meets.0; network = says.0; many = meets.1 },
        record { can = record { parts = g; bytes = meets.0; network = says.0; are = meets.1.are }; written = meets.2 },
      )
      told (Some files) says ends.TooManyBytes meets = (
        record { parts = g; bytes = meets.0; network = says.0; long = meets.1 },
        record { can = record { parts = g; bytes = meets.0; network = says.0; are = meets.1.are }; written = meets.2 },
      )
      told (Some files) says ends.Memory part = inr (record {
        can = record { parts = g; bytes = part.0; network = says.0; are = part.1 };
        written = due_prefix g part.0 wish before now part.2;
      })

-- events within their limits are all taken
module _ (law : LinesOfLimit) (bytes : List ℕ) (fits : length bytes ≤ most_events) (few : length (counted (lines bytes)) ≤ most_event_lines) where
  whole_lines : lines_within most_events bytes ≡ lines bytes
  whole_lines = ap (λ b. if b then lines bytes else ended_lines (take most_events bytes)) (le-leb (length bytes) most_events fits)

  few_within : nat_le (length (counted (lines_within most_events bytes))) most_event_lines ≡ true
  few_within = ap (λ ls. nat_le (length (counted ls)) most_event_lines) whole_lines ∙ le-leb (length (counted (lines bytes))) most_event_lines few

  within : is_within_limits bytes ≡ true
  within = and_from (nat_le (length bytes) most_events) (nat_le (length (counted (lines_within most_events bytes))) most_event_lines) (le-leb (length bytes) most_events fits) few_within

  all_taken : (g : Parts) → entries_taken g bytes ≡ entries g 1 [] (lines bytes)
  unfolding entries_taken
  all_taken g = ap (λ ls. entries g 1 [] (before_counted most_event_lines ls)) whole_lines ∙ ap (entries g 1 []) (law.all most_event_lines (lines bytes) few)

  -- so all that is due is the entries, and what stands behind them
  all_due : (g : Parts) (wish : Wish) → text_due g bytes wish ≡ entries g 1 [] (lines bytes) ++ rest_of g bytes wish
  unfolding text_due
  all_due g wish =
      ap (λ xs. xs ++ (if is_within_limits bytes then rest_of g bytes wish else [])) (all_taken g)
      ∙ ap (λ b. entries g 1 [] (lines bytes) ++ (if b then rest_of g bytes wish else [])) within

-- the output is the entries, and what stands behind them
whole_output : (g : Parts) (bytes : List ℕ) (wish : Wish) → output g bytes wish ≡ entries g 1 [] (lines bytes) ++ rest_of g bytes wish
unfolding output replay_text
whole_output g bytes wish = append_assoc (entries g 1 [] (lines bytes)) (report_text g wish.period (refused_in g [] (lines bytes)) (history_of g bytes)) (bounds_part g bytes wish.with_bounds)

last_is : (g : Parts) (bytes : List ℕ) (wish : Wish) (refused : ℕ) → refused ≡ refused_in g [] (lines bytes) → report_after g wish refused (history_of g bytes) ≡ rest_of g bytes wish
unfolding last_problem report_after
last_is g bytes wish refused is = ap (λ n. report_text g wish.period n (history_of g bytes) ++ bounds_part g bytes wish.with_bounds) is

-- the report is written, and where they are wished the bounds behind it
module _ (g : Parts) (wish : Wish) (refused : ℕ) (h : List Event) (before mid now : Option (List ℕ)) where
  pub report_front : AppendsPrefix before now (report_text g wish.period refused h) → AppendsPrefix before now (report_after g wish refused h)
  unfolding report_after
  report_front part =
      prefix_of_front before now (report_text g wish.period refused h) (if wish.with_bounds then bounds_text g (tight_bounds (problem_after g h)) else []) part

  with_bounds_is : wish.with_bounds ≡ true → report_after g wish refused h ≡ report_text g wish.period refused h ++ bounds_text g (tight_bounds (problem_after g h))
  unfolding report_after
  with_bounds_is is = ap (λ b. report_text g wish.period refused h ++ (if b then bounds_text g (tight_bounds (problem_after g h)) else [])) is

  pub bounds_front : wish.with_bounds ≡ true → Appends before mid (report_text g wish.period refused h) → AppendsPrefix mid now (bounds_text g (tight_bounds (problem_after g h))) →
      AppendsPrefix before now (report_after g wish refused h)
  bounds_front is all part =
      subst (AppendsPrefix before now) (sym (with_bounds_is is)) (prefix_of_both before mid now (report_text g wish.period refused h) (bounds_text g (tight_bounds (problem_after g h))) all part)

  pub bounds_whole : wish.with_bounds ≡ true → Appends before mid (report_text g wish.period refused h) → Appends mid now (bounds_text g (tight_bounds (problem_after g h))) →
      Appends before now (report_after g wish refused h)
  bounds_whole is all more =
      subst (Appends before now) (sym (with_bounds_is is)) (appends_both before mid now (report_text g wish.period refused h) (bounds_text g (tight_bounds (problem_after g h))) all more)

  pub no_bounds : wish.with_bounds ≡ false → Appends before now (report_text g wish.period refused h) → Appends before now (report_after g wish refused h)
  unfolding report_after
  no_bounds is all =
      subst (Appends before now)
      (sym (ap (λ b. report_text g wish.period refused h ++ (if b then bounds_text g (tight_bounds (problem_after g h)) else [])) is ∙ append-nil (report_text g wish.period refused h))) all

-- where the files are told, a run over all events can be a replay
abbrev can_of : (files : Files) (left before mid : Option (List ℕ)) (places : Places) (e : Engined) (refused : ℕ) → Runs files places left before mid e refused → CanReplay files places
can_of files left before mid places e refused ran = record { parts = e.grid; events = ran.events.bytes; network = ran.network; event_file = ran.events.events }

abbrev begin_of : (files : Files) (left before mid : Option (List ℕ)) (places : Places) (e : Engined) (refused : ℕ) → Runs files places left before mid e refused → CanBegin files places
begin_of files left before mid places e refused ran = record { parts = e.grid; bytes = ran.events.bytes; network = ran.network; are = ran.events.events.file.are }

module _ (law : LinesOfLimit) (files : Files) (left before mid now : Option (List ℕ)) (places : Places) (wish : Wish) (e : Engined) (refused : ℕ) (ran : Runs files places left before mid e refused) where
  -- a write of it may fail, or memory may run out
  ran_part : AppendsPrefix mid now (report_after e.grid wish refused (history_of e.grid ran.events.bytes)) → AppendsPrefix before now (text_due e.grid ran.events.bytes wish)
  ran_part part =
      let has = ran.events.events in
      subst (AppendsPrefix before now) (sym (all_due law ran.events.bytes has.file.fits has.few e.grid wish))
      (prefix_of_both before mid now (entries e.grid 1 [] (lines ran.events.bytes)) (rest_of e.grid ran.events.bytes wish) ran.events.written (subst (AppendsPrefix mid now) (last_is e.grid ran.events.bytes wish refused ran.events.refusals) part))

  -- or it is written
  ran_done : Appends mid now (report_after e.grid wish refused (history_of e.grid ran.events.bytes)) → Appends before now (output e.grid ran.events.bytes wish)
  ran_done all =
      subst (Appends before now) (sym (whole_output e.grid ran.events.bytes wish))
      (appends_both before mid now (entries e.grid 1 [] (lines ran.events.bytes)) (rest_of e.grid ran.events.bytes wish) ran.events.written (subst (Appends mid now) (last_is e.grid ran.events.bytes wish refused ran.events.refusals) all))

module _ (law : LinesOfLimit) (left_before left before mid now : Option (List ℕ)) (places : Places) (wish : Wish) (e : Engined) (refused : ℕ) where
  module _ (part : (h : List Event) → IsEngineAfter h e → AppendsPrefix mid now (report_after e.grid wish refused h)) where
    due_part : (files : Files) (ran : Runs files places left before mid e refused) → AppendsPrefix before now (text_due e.grid ran.events.bytes wish)
    due_part files ran = ran_part law files left before mid now places wish e refused ran (part (history_of e.grid ran.events.bytes) ran.events.engine)

    pub replay_part : (files : Option Files) → DidRun files places left before mid e refused → IsEnd (run_of files left_before left before now (Some (Replay places wish))) WriteFault
    replay_part None ran = λ e. cc
    replay_part (Some files) ran = record { can = begin_of files left before mid places e refused ran; written = due_part files ran }

    pub replay_memory : (files : Option Files) → DidRun files places left before mid e refused → IsEnd (run_of files left_before left before now (Some (Replay places wish))) Memory
    replay_memory None ran = λ e. cc
    replay_memory (Some files) ran = inr (record { can = begin_of files left before mid places e refused ran; written = due_part files ran })

  module _ (all : (h : List Event) → IsEngineAfter h e → Appends mid now (report_after e.grid wish refused h)) where
    done_all : (files : Files) (ran : Runs files places left before mid e refused) → Appends before now (output e.grid ran.events.bytes wish)
    done_all files ran = ran_done law files left before mid now places wish e refused ran (all (history_of e.grid ran.events.bytes) ran.events.engine)

    pub replay_done : (files : Option Files) → ((text : List ℕ) (g : Parts) (events : List ℕ) → grid_text text ≡ IsGrid g → IsToldThroughout g events) →
        ((text : List ℕ) (g : Parts) (events : List ℕ) → grid_text text ≡ IsGrid g → ShowsBounds g events) →
        DidRun files places left before mid e refused → IsEnd (run_of files left_before left before now (Some (Replay places wish))) Done
    replay_done None told shown ran = λ e. cc
    replay_done (Some files) told shown ran = record {
      can = can_of files left before mid places e refused ran;
      read = ran.events.read;
      written = done_all files ran;
      told = told ran.network.bytes e.grid ran.events.bytes ran.network.grid;
      shown = shown ran.network.bytes e.grid ran.events.bytes ran.network.grid;
    }

-- a replay ends as its last write does
pub replay_ended : LinesOfLimit → (left_before left before mid now : Option (List ℕ)) (places : Places) (wish : Wish) (e : Engined) (refused : ℕ) (files : Option Files) (r : Result (Unit {0}) PutFault) →
    ((text : List ℕ) (g : Parts) (events : List ℕ) → grid_text text ≡ IsGrid g → IsToldThroughout g events) →
    ((text : List ℕ) (g : Parts) (events : List ℕ) → grid_text text ≡ IsGrid g → ShowsBounds g events) →
    OnOk r ((h : List Event) → IsEngineAfter h e → Appends mid now (report_after e.grid wish refused h)) →
    ((h : List Event) → IsEngineAfter h e → AppendsPrefix mid now (report_after e.grid wish refused h)) →
    DidRun files places left before mid e refused → IsEnd (run_of files left_before left before now (Some (Replay places wish))) (status_of_put r)
replay_ended law left_before left before mid now places wish e refused files (Ok done) told shown all part ran =
    replay_done law left_before left before mid now places wish e refused all files told shown ran
replay_ended law left_before left before mid now places wish e refused files (Err put.Write) told shown all part ran =
    replay_part law left_before left before mid now places wish e refused part files ran
replay_ended law left_before left before mid now places wish e refused files (Err put.Memory) told shown all part ran =
    replay_memory law left_before left before mid now places wish e refused part files ran
