-- What the run over the network and the events says of their files.
use Rattle.std.specs.Prelude.{◌≡◌, ⊤, ℕ, List, [], Option, None, Some, Result, Ok, Err}
use Rattle.grid_model.specs.Parts.{Parts}
use Rattle.outage_engine.specs.Engined.{Engined}
use Rattle.outage_ports.specs.Bytes.{Files}
use Rattle.command_words.specs.Forms.{Places}
use Rattle.grid_reader.specs.Text.{grid_text, IsRefusedAt}
use Rattle.line_entries.specs.declared.fault.PutFault.{PutFault}
use Rattle.line_entries.specs.declared.fault.PutFault.TheVariants as put
use Rattle.run_rules.specs.Reading.{WhereTold, StopsUnread}
use Rattle.run_rules.specs.Files.{most_network, IsTooLong, SaysNetwork, RefusesNetworkAt}
use Rattle.event_run.specs.Reading.{ReadsAll}
use Rattle.event_run.specs.declared.reading.EventsStop.{EventsStop}
use Rattle.event_run.specs.declared.reading.EventsStop.TheVariants.{ReadFailed, WriteFailed, TooManyLines, TooManyBytes}
use Rattle.event_run.specs.declared.reading.EventsStop.TheVariants as ends
use Rattle.run_rules.specs.declared.status.Status.{Status}
use Rattle.run_rules.specs.declared.status.Status.TheVariants.{Done, ReadFault, WriteFault, NetworkRefused, Limit, Memory}
use Rattle.run_rules.specs.declared.status.Which.TheVariants.{NetworkBytes, EventLines, EventBytes}

-- the network was read, and then all events, whose entries were written
pub record Runs (files : Files) (places : Places) (left before now : Option (List ℕ)) (e : Engined) (refused : ℕ) : Type 0 where
  pub network : SaysNetwork files places.net e.grid
  pub events : ReadsAll files places.events left before now e.grid e refused

abbrev pub DidRun : Option Files → Places → Option (List ℕ) → Option (List ℕ) → Option (List ℕ) → Engined → ℕ → Type 0
DidRun None places left before now e refused = ⊤
DidRun (Some files) places left before now e refused = Runs files places left before now e refused

-- the file says this network, and was read to its end
abbrev pub DidSayNetwork : Option Files → Option (List ℕ) → List ℕ → Parts → Type 0
DidSayNetwork files left name g = WhereTold files (λ told. SaysNetwork told name g × (left ≡ Some []))

-- why no network was read, by what was left to read before and after
abbrev pub IsNetworkStop : Option Files → Option (List ℕ) → Option (List ℕ) → List ℕ → Status → Type 0
IsNetworkStop files before left name ReadFault = StopsUnread files before left name
IsNetworkStop files before left name (Limit NetworkBytes) = WhereTold files (λ told. IsTooLong told name most_network)
IsNetworkStop files before left name (NetworkRefused line rule) = WhereTold files (λ told. RefusesNetworkAt told name line rule)
IsNetworkStop files before left name Memory = ⊤
IsNetworkStop files before left name status = ⊥

-- why a text gives no engine: it says no network, or memory ran out
abbrev pub IsTextStop : List ℕ → Status → Type 0
IsTextStop text (NetworkRefused line rule) = grid_text text ≡ IsRefusedAt line rule
IsTextStop text Memory = ⊤
IsTextStop text status = ⊥

-- the status of a run that ends with its last write
abbrev pub status_of_put : Result (Unit {0}) PutFault → Status
status_of_put (Ok done) = Done
status_of_put (Err put.Write) = WriteFault
status_of_put (Err put.Memory) = Memory

-- the status of a run that stops before the end of the events
abbrev pub status_of_stop : EventsStop → Status
status_of_stop ReadFailed = ReadFault
status_of_stop WriteFailed = WriteFault
status_of_stop TooManyLines = Limit EventLines
status_of_stop TooManyBytes = Limit EventBytes
status_of_stop ends.Memory = Memory

-- the statuses with which a run over the network and the events may stop
abbrev pub IsRunStop : Status → Type 0
IsRunStop ReadFault = ⊤
IsRunStop WriteFault = ⊤
IsRunStop (NetworkRefused line rule) = ⊤
IsRunStop (Limit NetworkBytes) = ⊤
IsRunStop (Limit EventLines) = ⊤
IsRunStop (Limit EventBytes) = ⊤
IsRunStop Memory = ⊤
IsRunStop status = ⊥
