-- What becomes of a replay's report where it is checked by the same network and events.
use Rattle.std.specs.Prelude.{◌≡◌, ◌⊎◌, ⊤, ℕ, true, List, [], ◌∷◌, Option, None, Some, codes}
use Rattle.std.specs.Io.KnownBytes.{Appends}
use Rattle.event_rules.specs.Rows.{row}
use Rattle.outage_ports.specs.Bytes.{Files}
use Rattle.command_words.specs.Forms.{Places, Command, Replay, Check, Trial}
use Rattle.command_words.specs.declared.words.Wish.{Wish}
use Rattle.run_rules.specs.Files.{most_report, IsWithin}
use Rattle.run_rules.specs.Told.{output}
use Rattle.run_rules.specs.Run.{CanReplay}
use Rattle.run_rules.specs.declared.status.Status.{Status}
use Rattle.run_rules.specs.declared.status.Status.TheVariants.{Done, Memory}

-- the report has exactly the bytes that a replay of the same files writes with its bounds, for some period
pub record HasOwnReport (files : Files) (places : Places) (report : List ℕ) : Type 0 where
  pub can : CanReplay files places
  pub wish : Wish
  pub bounds : wish.with_bounds ≡ true
  pub report_file : IsWithin files report most_report (output can.parts can.events wish)

-- the run was done, and wrote that the bounds are valid
pub record SaysValid (before now : Option (List ℕ)) (status : Status) : Type 0 where
  pub done : status ≡ Done
  pub written : Appends before now (row (codes "valid" ∷ []))

-- the check of such a report says so, or memory ran out
abbrev pub Confirms : Files → Option (List ℕ) → Option (List ℕ) → Command → Status → Type 0
Confirms files before now (Replay places wish) status = ⊤
Confirms files before now (Trial n) status = ⊤
Confirms files before now (Check places report) status = HasOwnReport files places report → SaysValid before now status ⊎ (status ≡ Memory)

abbrev pub IsOwnConfirmed : Option Files → Option (List ℕ) → Option (List ℕ) → Option Command → Status → Type 0
IsOwnConfirmed None before now command status = ⊤
IsOwnConfirmed (Some files) before now None status = ⊤
IsOwnConfirmed (Some files) before now (Some command) status = Confirms files before now command status
