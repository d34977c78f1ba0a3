-- How far the events were read, and what was written of them.
use Rattle.std.specs.Prelude.{◌≡◌, ◌⊎◌, ⊤, ℕ, List, [], Option, None, Some}
use Rattle.std.specs.Io.KnownBytes.{Appends}
use Rattle.grid_model.specs.Parts.{Parts}
use Rattle.event_rules.specs.Lines.{lines}
use Rattle.history_rules.specs.Run.{ended_lines, history_of}
use Rattle.history_rules.specs.Output.{entries}
use Rattle.history_rules.specs.Report.{refused_in}
use Rattle.outage_engine.specs.Engined.{Engined, IsEngineAfter}
use Rattle.outage_ports.specs.Bytes.{Files, AppendsPrefix}
use Rattle.run_rules.specs.Reading.{FailsAt}
use Rattle.run_rules.specs.Files.{HasEvents, HasTooManyLines, HasTooManyBytes}
use Rattle.run_rules.specs.Told.{entries_taken}
use Rattle.event_run.specs.declared.reading.EventsStop.{EventsStop}
use Rattle.event_run.specs.declared.reading.EventsStop.TheVariants.{ReadFailed, WriteFailed, TooManyLines, TooManyBytes, Memory}

-- the events were read to their end: the engine is that after all of them, so many lines were refused, and the entries of all lines were written
pub record ReadsAll (files : Files) (name : List ℕ) (left before now : Option (List ℕ)) (g : Parts) (e : Engined) (refused : ℕ) : Type 0 where
  pub bytes : List ℕ
  pub events : HasEvents files name bytes
  pub read : left ≡ Some []
  pub engine : IsEngineAfter (history_of g bytes) e
  pub refusals : refused ≡ refused_in g [] (lines bytes)
  pub written : Appends before now (entries g 1 [] (lines bytes))

abbrev pub DidReadAll : Option Files → List ℕ → Option (List ℕ) → Option (List ℕ) → Option (List ℕ) → Parts → Engined → ℕ → Type 0
DidReadAll None name left before now g engine refused = ⊤
DidReadAll (Some files) name left before now g engine refused = ReadsAll files name left before now g engine refused

-- a read failed at a place of the file, and the entries of the lines that ended before it were written
pub record StopsAt (files : Files) (name : List ℕ) (left before now : Option (List ℕ)) (g : Parts) : Type 0 where
  pub front : List ℕ
  pub fails : FailsAt files name left front
  pub written : Appends before now (entries g 1 [] (ended_lines front))

-- the file could not be started: nothing was written, and what was left of another one is left; or a read of it failed
abbrev pub DidStop : Option Files → List ℕ → Option (List ℕ) → Option (List ℕ) → Option (List ℕ) → Option (List ℕ) → Parts → Type 0
DidStop None name start left before now g = ⊤
DidStop (Some files) name start left before now g = ((left ≡ start) × (now ≡ before)) ⊎ StopsAt files name left before now g

-- there is a line too many, and the entries of the lines before it were written
abbrev pub DidMeetLines : Option Files → List ℕ → Option (List ℕ) → Option (List ℕ) → Parts → Type 0
DidMeetLines None name before now g = ⊤
DidMeetLines (Some files) name before now g = (bytes : List ℕ) × HasTooManyLines files name bytes × Appends before now (entries_taken g bytes)

-- there are too many bytes, and the entries of the lines that ended among the first were written
abbrev pub DidMeetBytes : Option Files → List ℕ → Option (List ℕ) → Option (List ℕ) → Parts → Type 0
DidMeetBytes None name before now g = ⊤
DidMeetBytes (Some files) name before now g = (bytes : List ℕ) × HasTooManyBytes files name bytes × Appends before now (entries_taken g bytes)

-- a front part of the entries was written
abbrev pub DidWritePart : Option Files → List ℕ → Option (List ℕ) → Option (List ℕ) → Parts → Type 0
DidWritePart None name before now g = ⊤
DidWritePart (Some files) name before now g = (bytes : List ℕ) × (files name ≡ Some bytes) × AppendsPrefix before now (entries_taken g bytes)

-- what a stop before the end of the events says of the file, and of what was written: by what was left before it was started, and by what is left
abbrev pub Stops : Option Files → List ℕ → Option (List ℕ) → Option (List ℕ) → Option (List ℕ) → Option (List ℕ) → Parts → EventsStop → Type 0
Stops files name start left before now g ReadFailed = DidStop files name start left before now g
Stops files name start left before now g WriteFailed = DidWritePart files name before now g
Stops files name start left before now g TooManyLines = DidMeetLines files name before now g
Stops files name start left before now g TooManyBytes = DidMeetBytes files name before now g
Stops files name start left before now g Memory = DidWritePart files name before now g
