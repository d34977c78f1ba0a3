-- How far a run over the events of a file has come.
use Rattle.std.specs.Prelude.{◌≡◌, ◌≤◌, ◌<◌, ◌+◌, ⊤, ℕ, List, [], length, Option, None, Some, Result, Ok, Err}
use Rattle.grid_model.specs.Parts.{Parts}
use Rattle.event_rules.specs.Lines.{lines}
use Rattle.outage_engine.specs.Engined.{Engined}
use Rattle.outage_ports.specs.Bytes.{Files}
use Rattle.run_rules.specs.Reading.{Took}
use Rattle.run_rules.specs.Faults.{TellsFaults}
use Rattle.run_rules.specs.Files.{most_events}
use Rattle.event_run.specs.Pieces.{HasRead, HasWritten}
use Rattle.event_run.specs.Reading.{Stops}
use Rattle.event_run.specs.declared.run.Run.{Run}
use Rattle.event_run.specs.declared.reading.EventsStop.{EventsStop}
use Rattle.event_run.specs.declared.reading.Progress.{Progress}
use Rattle.event_run.specs.declared.reading.Progress.TheVariants.{More, Ended}

-- these bytes of the file were taken from the shelf, and the entries of the lines that ended in them written; so many bytes may still be taken
pub record Reached (files shelf : Option Files) (name : List ℕ) (left before now : Option (List ℕ)) (g : Parts) (run : Run) (e : Engined) (room : ℕ) : Type 0 where
  pub same : shelf ≡ files
  pub bytes : List ℕ
  pub took : Took files left name bytes
  pub read : HasRead bytes before now g run e
  pub size : length bytes + room ≡ most_events

abbrev pub HasReachedSome : Option Files → Option (List ℕ) → Option (List ℕ) → Run → Engined → ℕ → Type 0
HasReachedSome shelf left now run e room =
    (files : Option Files) × (name : List ℕ) × (before : Option (List ℕ)) × (g : Parts) × Reached files shelf name left before now g run e room

-- however a read ends: the shelf has the same files, and its faults are told
pub record ReadsOn (shelf more : Option Files) (before now : ℕ) (failed : Type 0) : Type 0 where
  pub files : more ≡ shelf
  pub faults : TellsFaults before now failed

-- these are all bytes of the file, and none is left
abbrev pub IsAllOf : Option Files → Option (List ℕ) → List ℕ → List ℕ → Type 0
IsAllOf None left name bytes = ⊤
IsAllOf (Some files) left name bytes = (files name ≡ Some bytes) × (left ≡ Some [])

-- all lines of the file were taken, and their entries written
pub record Finished (files : Option Files) (name : List ℕ) (left before now : Option (List ℕ)) (g : Parts) (run : Run) (e : Engined) : Type 0 where
  pub bytes : List ℕ
  pub all : IsAllOf files left name bytes
  pub fits : length bytes ≤ most_events
  pub lines : HasWritten (lines bytes) before now g run.taken e

-- what one more read leads to, whatever was left before the file was started
abbrev pub Leads : Option Files → Option Files → List ℕ → Option (List ℕ) → Option (List ℕ) → Option (List ℕ) → Parts → Run → Engined → Result Progress EventsStop → Type 0
Leads files shelf name left before now g run e (Ok (More room)) = Reached files shelf name left before now g run e room
Leads files shelf name left before now g run e (Ok Ended) = Finished files name left before now g run e
Leads files shelf name left before now g run e (Err stop) = (start : Option (List ℕ)) → Stops files name start left before now g stop

-- fewer bytes may still be taken
abbrev pub IsLess : ℕ → Progress → Type 0
IsLess room (More left) = left < room
IsLess room Ended = ⊤
