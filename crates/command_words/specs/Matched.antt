-- What is read of the matches of a command.
use Rattle.std.specs.Prelude.{◌≡◌, Bool, true, false, List, Option, Some, None, if◌then◌else◌, option_and_then, codes}
use Rattle.std.specs.Str.{bytes_eq}
use Rattle.clap.specs.Walk.{Row, Text, first_of, one_of}
use Rattle.command_words.specs.Forms.{Command, Places, Check, replay_by, trial_over, follow_on, wish_by}
use Rattle.command_words.specs.Given.{second_in}

abbrev pub places_by : Option Text → Option Text → Option Places
places_by (Some net) (Some events) = Some (record { net = net; events = events })
places_by _ _ = None

-- whether a flag is set, where its text says it
abbrev pub flag_by : Option Text → Option Bool
flag_by None = Some false
flag_by (Some text) = if bytes_eq text (codes "true") then Some true else (if bytes_eq text (codes "false") then Some false else None)

abbrev pub flag_in : List Row → Option Bool
flag_in rows = flag_by (one_of (codes "bounds") rows)

unfoldable pub replay_in : List Row → Option Command
replay_in rows =
    replay_by (places_by (first_of (codes "net") rows) (first_of (codes "events") rows))
    (wish_by (flag_in rows) (second_in (first_of (codes "from") rows)) (second_in (first_of (codes "to") rows)))

abbrev pub check_with : Option Places → Option Text → Option Command
check_with (Some places) (Some report) = Some (Check places report)
check_with _ _ = None

unfoldable pub check_in : List Row → Option Command
check_in rows =
    check_with (places_by (first_of (codes "net") rows) (first_of (codes "events") rows)) (first_of (codes "report") rows)

unfoldable pub trial_in : List Row → Option Command
trial_in rows = option_and_then trial_over (first_of (codes "n") rows)

unfoldable pub follow_in : List Row → Option Command
follow_in rows = option_and_then follow_on (first_of (codes "net") rows)

-- what reads a command from rows
abbrev pub Read : Type 0
Read = List Row → Option Command

-- what reads each command
pub record Reads : Type 0 where
  pub replay : Read
  pub check : Read
  pub trial : Read
  pub follow : Read

-- how the program reads them
abbrev pub own_reads : Reads
own_reads = record { replay = replay_in; check = check_in; trial = trial_in; follow = follow_in }

-- what is read of a subcommand, by its name and its rows
abbrev pub command_by_name : Reads → Option (Text × List Row) → Option Command
command_by_name reads None = None
command_by_name reads (Some p) =
    if bytes_eq p.0 (codes "replay") then reads.replay p.1
    else (if bytes_eq p.0 (codes "check") then reads.check p.1 else (if bytes_eq p.0 (codes "trial") then reads.trial p.1 else reads.follow p.1))

-- the text of the flag says whether it is set
abbrev pub IsKnown : Option (Text × List Row) → Type 0
IsKnown None = Unit {0}
IsKnown (Some p) = bytes_eq p.0 (codes "replay") ≡ true → (b : Bool) × (flag_in p.1 ≡ Some b)
