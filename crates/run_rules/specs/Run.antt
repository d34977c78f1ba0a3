-- What a run did to the files and to the output.
use Rattle.std.specs.Prelude.{◌≡◌, ◌⊎◌, ⊤, ℕ, List, [], Option, None, Some}
use Rattle.std.specs.Io.KnownBytes.{Appends}
use Rattle.outage_rules.specs.Certificate.{IsCertified}
use Rattle.grid_model.specs.Parts.{Parts}
use Rattle.history_rules.specs.Run.{ended_lines}
use Rattle.history_rules.specs.Output.{entries}
use Rattle.grid_reader.specs.declared.fault.GridRule.{GridRule}
use Rattle.bound_table.specs.Table.{Table}
use Rattle.bound_table.specs.declared.bounds.BoundRule.{BoundRule}
use Rattle.bound_checker.specs.Claimed.{cut_of}
use Rattle.bound_checker.specs.declared.rules.Verdict.{Verdict}
use Rattle.bound_checker.specs.declared.rules.Verdict.TheVariants as verdict
use Rattle.outage_ports.specs.Bytes.{Files, AppendsPrefix}
use Rattle.command_words.specs.Forms.{Places, Command, Replay, Check, Trial}
use Rattle.run_rules.specs.Reading.{FailsAt, StopsUnread}
use Rattle.run_rules.specs.Files.{most_network, most_report, IsTooLong, SaysNetwork, RefusesNetworkAt, HasEvents, HasTooManyLines, HasTooManyBytes, SaysBounds, RefusesReportAt}
use Rattle.run_rules.specs.Trial.{MakesRefused, CompletesTrial, IsSilentTrial}
use Rattle.run_rules.specs.Told.{last_problem, output, entries_taken, text_due, verdict_on, verdict_text}
use Rattle.run_rules.specs.Closing.{IsToldThroughout, ShowsBounds}
use Rattle.run_rules.specs.declared.status.Status.{Status}
use Rattle.run_rules.specs.declared.status.Status.TheVariants.{Done, Invalid, Usage, WriteFault, Memory, Limit, NetworkRefused, ReportRefused}
use Rattle.run_rules.specs.declared.status.Which.{Which}
use Rattle.run_rules.specs.declared.status.Which.TheVariants.{NetworkBytes, EventLines, EventBytes, ReportBytes}
use Rattle.command_words.specs.declared.words.Wish.{Wish}

-- what a run was given, and what it left: the files, what was left to read before and after it, what was written before and after it, and the command of its words
pub record Run : Type 0 where
  pub files : Option Files
  pub left_before : Option (List ℕ)
  pub left : Option (List ℕ)
  pub before : Option (List ℕ)
  pub now : Option (List ℕ)
  pub command : Option Command

abbrev pub run_of : Option Files → Option (List ℕ) → Option (List ℕ) → Option (List ℕ) → Option (List ℕ) → Option Command → Run
run_of files left_before left before now command = record {
  files = files;
  left_before = left_before;
  left = left;
  before = before;
  now = now;
  command = command;
}

-- the statuses of a replay after which nothing was written
abbrev pub IsSilentReplay : Status → Type 0
IsSilentReplay Usage = ⊤
IsSilentReplay (NetworkRefused line rule) = ⊤
IsSilentReplay (Limit NetworkBytes) = ⊤
IsSilentReplay status = ⊥

-- and those of a check
abbrev pub IsSilentCheck : Status → Type 0
IsSilentCheck Done = ⊥
IsSilentCheck (Invalid rule) = ⊥
IsSilentCheck WriteFault = ⊥
IsSilentCheck status = ⊤

abbrev pub IsSilent : Option Command → Status → Type 0
IsSilent None status = ⊤
IsSilent (Some (Replay places wish)) status = IsSilentReplay status
IsSilent (Some (Check places report)) status = IsSilentCheck status
IsSilent (Some (Trial n)) status = IsSilentTrial status

-- the files of a replay: a network, and events within their limit
pub record CanReplay (files : Files) (places : Places) : Type 0 where
  pub parts : Parts
  pub events : List ℕ
  pub network : SaysNetwork files places.net parts
  pub event_file : HasEvents files places.events events

-- the files of a check: those of a replay, and a report with bounds, of which the local check says this
pub record CanCheck (files : Files) (places : Places) (report : List ℕ) (verdict : Verdict) : Type 0 where
  pub parts : Parts
  pub events : List ℕ
  pub bounds : Table
  pub network : SaysNetwork files places.net parts
  pub event_file : HasEvents files places.events events
  pub report_file : SaysBounds files report parts bounds
  pub verdict_is : verdict_on parts events bounds ≡ verdict

-- a replay is done: all files were read to their end, and exactly the defined text was written; after each front of the events its rows tell the diagnosis and the least cost, and its bounds show that nothing feasible costs less
pub record Replays (files : Files) (run : Run) (places : Places) (wish : Wish) : Type 0 where
  pub can : CanReplay files places
  pub read : run.left ≡ Some []
  pub written : Appends run.before run.now (output can.parts can.events wish)
  pub told : IsToldThroughout can.parts can.events
  pub shown : ShowsBounds can.parts can.events

-- a check found this: all files were read to their end, and exactly the verdict was written
pub record Checks (files : Files) (run : Run) (places : Places) (report : List ℕ) (verdict : Verdict) : Type 0 where
  pub can : CanCheck files places report verdict
  pub read : run.left ≡ Some []
  pub written : Appends run.before run.now (verdict_text can.parts verdict)

-- a check is done: the bounds are valid, so the report's cuts are feasible and cost what it says, and no feasible set costs less
pub record ChecksValid (files : Files) (run : Run) (places : Places) (report : List ℕ) : Type 0 where
  pub check : Checks files run places report verdict.Valid
  pub certified : IsCertified (last_problem check.can.parts check.can.events) (cut_of check.can.bounds.cuts) check.can.bounds.cost

-- the network is fine, and the events are there
pub record CanBegin (files : Files) (places : Places) : Type 0 where
  pub parts : Parts
  pub bytes : List ℕ
  pub network : SaysNetwork files places.net parts
  pub are : files places.events ≡ Some bytes

-- a write failed, or memory ran out: a front part of the text that is due was written
pub record ReplaysPart (files : Files) (run : Run) (places : Places) (wish : Wish) : Type 0 where
  pub can : CanBegin files places
  pub written : AppendsPrefix run.before run.now (text_due can.parts can.bytes wish)

pub record ChecksPart (files : Files) (run : Run) (places : Places) (report : List ℕ) : Type 0 where
  pub verdict : Verdict
  pub can : CanCheck files places report verdict
  pub written : AppendsPrefix run.before run.now (verdict_text can.parts verdict)

-- nothing was written
abbrev pub WritesNothing : Run → Type 0
WritesNothing run = run.now ≡ run.before

-- the network was not read: its start failed, or a read of it did
abbrev pub FailsNetwork : Files → Run → Places → Type 0
FailsNetwork files run places = StopsUnread (Some files) run.left_before run.left places.net

-- the network was read to its end, and the events were not
pub record FailsEvents (files : Files) (run : Run) (places : Places) : Type 0 where
  pub parts : Parts
  pub network : SaysNetwork files places.net parts
  pub fails : StopsUnread (Some files) (Some []) run.left places.events

-- the network and the events were read to their end, and the report was not
pub record FailsReport (files : Files) (run : Run) (places : Places) (report : List ℕ) : Type 0 where
  pub can : CanReplay files places
  pub fails : StopsUnread (Some files) (Some []) run.left report

-- a read of the events failed at this place: exactly the entries of the lines that had ended before it were written
pub record StopsWithin (files : Files) (run : Run) (places : Places) (g : Parts) : Type 0 where
  pub front : List ℕ
  pub fails : FailsAt files places.events run.left front
  pub written : Appends run.before run.now (entries g 1 [] (ended_lines front))

-- the network was read to its end, and then the start of the events failed, and nothing was written; or a read of them failed
pub record StopsReplay (files : Files) (run : Run) (places : Places) : Type 0 where
  pub parts : Parts
  pub network : SaysNetwork files places.net parts
  pub stops : ((run.left ≡ Some []) × WritesNothing run) ⊎ StopsWithin files run places parts

-- a read of a replay failed: where it was one of the network, nothing was written
abbrev pub LeavesReplay : Files → Run → Places → Type 0
LeavesReplay files run places = (FailsNetwork files run places × WritesNothing run) ⊎ StopsReplay files run places

-- a read of a check failed: nothing was written
abbrev pub LeavesCheck : Files → Run → Places → List ℕ → Type 0
LeavesCheck files run places report =
    WritesNothing run × (FailsNetwork files run places ⊎ (FailsEvents files run places ⊎ FailsReport files run places report))

-- the network is fine, and a limit of its events is met
pub record MeetsLines (files : Files) (places : Places) : Type 0 where
  pub parts : Parts
  pub bytes : List ℕ
  pub network : SaysNetwork files places.net parts
  pub many : HasTooManyLines files places.events bytes

pub record MeetsBytes (files : Files) (places : Places) : Type 0 where
  pub parts : Parts
  pub bytes : List ℕ
  pub network : SaysNetwork files places.net parts
  pub long : HasTooManyBytes files places.events bytes

-- a limit of the network or of the events is met: the files stand in the order in which they are read
abbrev pub IsOverFiles : Files → Places → Which → Type 0
IsOverFiles files places NetworkBytes = IsTooLong files places.net most_network
IsOverFiles files places EventLines = MeetsLines files places
IsOverFiles files places EventBytes = MeetsBytes files places
IsOverFiles files places ReportBytes = ⊥

-- a limit of a check's files is met: the report is read last
abbrev pub IsOverReport : Files → Places → List ℕ → Which → Type 0
IsOverReport files places report ReportBytes = CanReplay files places × IsTooLong files report most_report
IsOverReport files places report which = IsOverFiles files places which

-- the files of a replay are fine, and the report is refused at this line by this rule
pub record RefusesReportOf (files : Files) (places : Places) (report : List ℕ) (line : ℕ) (rule : BoundRule) : Type 0 where
  pub can : CanReplay files places
  pub refused : RefusesReportAt files report can.parts line rule

-- a replay that meets a limit of its events wrote the entries of the lines that it takes
pub record IsCutShort (files : Files) (run : Run) (places : Places) : Type 0 where
  pub can : CanBegin files places
  pub written : Appends run.before run.now (entries_taken can.parts can.bytes)

-- what a limit leaves written: nothing, where the network is too long
abbrev pub Cuts : Files → Run → Places → Which → Type 0
Cuts files run places NetworkBytes = WritesNothing run
Cuts files run places which = IsCutShort files run places

-- the network is refused at this line by this rule
abbrev pub RefusesNetwork : Files → Command → ℕ → GridRule → Type 0
RefusesNetwork files (Replay places wish) line rule = RefusesNetworkAt files places.net line rule
RefusesNetwork files (Check places report) line rule = RefusesNetworkAt files places.net line rule
RefusesNetwork files (Trial n) line rule = MakesRefused n line rule

-- a report is refused at this line by this rule
abbrev pub RefusesReport : Files → Command → ℕ → BoundRule → Type 0
RefusesReport files (Check places report) line rule = RefusesReportOf files places report line rule
RefusesReport files command line rule = ⊥

-- which limit is met
abbrev pub IsOver : Files → Command → Which → Type 0
IsOver files (Replay places wish) which = IsOverFiles files places which
IsOver files (Check places report) which = IsOverReport files places report which
IsOver files (Trial n) which = ⊥

-- where no read failed, a limit that is met and a text that is refused are answered so, unless memory ran out, or a write failed before the limit
pub record AnswersCauses (files : Files) (command : Command) (status : Status) : Type 0 where
  pub over : (which : Which) → IsOver files command which → (status ≡ Limit which) ⊎ ((status ≡ Memory) ⊎ (status ≡ WriteFault))
  pub network : (line : ℕ) (rule : GridRule) → RefusesNetwork files command line rule → (status ≡ NetworkRefused line rule) ⊎ (status ≡ Memory)
  pub report : (line : ℕ) (rule : BoundRule) → RefusesReport files command line rule → (status ≡ ReportRefused line rule) ⊎ (status ≡ Memory)

abbrev pub IsDue : Option Files → Option Command → Status → Type 0
IsDue None command status = ⊤
IsDue (Some files) None status = ⊤
IsDue (Some files) (Some command) status = AnswersCauses files command status

abbrev pub status_of : Verdict → Status
status_of verdict.Valid = Done
status_of (verdict.Invalid rule place) = Invalid rule

-- where the files are fine and nothing failed, the command is done, or memory ran out
abbrev pub Completes : Files → Command → Status → Type 0
Completes files (Replay places wish) status = CanReplay files places → (status ≡ Done) ⊎ (status ≡ Memory)
Completes files (Check places report) status = (verdict : Verdict) → CanCheck files places report verdict → (status ≡ status_of verdict) ⊎ (status ≡ Memory)
Completes files (Trial n) status = CompletesTrial n status

abbrev pub IsComplete : Option Files → Option Command → Status → Type 0
IsComplete None command status = ⊤
IsComplete (Some files) None status = ⊤
IsComplete (Some files) (Some command) status = Completes files command status
