-- How a run ends: what each status says of the files, of what was read and of what was written.
use Rattle.std.specs.Prelude.{◌≡◌, ◌⊎◌, ℕ, List, Option, None, Some}
use Rattle.bound_checker.specs.declared.rules.Place.{Place}
use Rattle.bound_checker.specs.declared.rules.Verdict.TheVariants as verdict
use Rattle.outage_ports.specs.Bytes.{Files}
use Rattle.outage_ports.specs.Causes.{Rose}
use Rattle.command_words.specs.Forms.{Places, Command, Replay, Check, Trial}
use Rattle.command_words.specs.declared.words.Wish.{Wish}
use Rattle.run_rules.specs.Files.{RefusesNetworkAt}
use Rattle.run_rules.specs.Trial.{EndsTrial}
use Rattle.run_rules.specs.Run.{Run, Replays, ReplaysPart, Checks, ChecksValid, ChecksPart, LeavesReplay, LeavesCheck, WritesNothing, IsOverFiles, IsOverReport, RefusesReportOf, Cuts}
use Rattle.run_rules.specs.declared.status.Status.{Status}
use Rattle.run_rules.specs.declared.status.Status.TheVariants.{Done, Invalid, Usage, ReadFault, WriteFault, NetworkRefused, ReportRefused, Limit, Memory}

-- no call on the object failed
abbrev pub NoneFailed : ℕ → ℕ → Type 0
NoneFailed before now = Rose before now → ⊥

-- a replay that ends with this status
abbrev pub EndsReplay : Files → Run → Places → Wish → Status → Type 0
EndsReplay files run places wish Done = Replays files run places wish
EndsReplay files run places wish ReadFault = LeavesReplay files run places
EndsReplay files run places wish WriteFault = ReplaysPart files run places wish
EndsReplay files run places wish (NetworkRefused line rule) = RefusesNetworkAt files places.net line rule × WritesNothing run
EndsReplay files run places wish (Limit which) = IsOverFiles files places which × Cuts files run places which
EndsReplay files run places wish Memory = WritesNothing run ⊎ ReplaysPart files run places wish
EndsReplay files run places wish status = ⊥

-- a check that ends with this status
abbrev pub EndsCheck : Files → Run → Places → List ℕ → Status → Type 0
EndsCheck files run places report Done = ChecksValid files run places report
EndsCheck files run places report (Invalid rule) = (place : Place) × Checks files run places report (verdict.Invalid rule place)
EndsCheck files run places report ReadFault = LeavesCheck files run places report
EndsCheck files run places report WriteFault = ChecksPart files run places report
EndsCheck files run places report (NetworkRefused line rule) = RefusesNetworkAt files places.net line rule × WritesNothing run
EndsCheck files run places report (ReportRefused line rule) = RefusesReportOf files places report line rule × WritesNothing run
EndsCheck files run places report (Limit which) = IsOverReport files places report which × WritesNothing run
EndsCheck files run places report Memory = WritesNothing run
EndsCheck files run places report status = ⊥

-- words of no form, which do nothing; memory may run out as they are read
pub record EndsUnread (run : Run) (status : Status) : Type 0 where
  pub untouched : WritesNothing run
  pub left : run.left ≡ run.left_before
  pub unread : (status ≡ Usage) ⊎ (status ≡ Memory)

-- a run of these words over these files: where the files aren't told, it is said that words of a form are no usage
abbrev pub EndsAs : Option Command → Option Files → Run → Status → Type 0
EndsAs None files run status = EndsUnread run status
EndsAs (Some (Replay places wish)) (Some files) run status = EndsReplay files run places wish status
EndsAs (Some (Replay places wish)) None run status = status ≡ Usage → ⊥
EndsAs (Some (Check places report)) (Some files) run status = EndsCheck files run places report status
EndsAs (Some (Check places report)) None run status = status ≡ Usage → ⊥
EndsAs (Some (Trial n)) files run status = EndsTrial run.before run.now n status

-- how a run ends
abbrev pub IsEnd : Run → Status → Type 0
IsEnd run status = EndsAs run.command run.files run status
