-- What a run has taken of an event text.
use Rattle.std.specs.Prelude.{◌≡◌, ◌≤◌, ⊤, ℕ, false, List, [], ◌∷◌, ◌++◌, length, Option, Result, Ok, Err}
use Rattle.std.specs.Io.KnownBytes.{Appends}
use Rattle.grid_model.specs.Parts.{Parts}
use Rattle.event_rules.specs.Lines.{is_skipped}
use Rattle.history_rules.specs.Run.{counted, history_in}
use Rattle.history_rules.specs.Output.{entries}
use Rattle.line_text.specs.Cutting.{IsAtPart, ended_from, part_from}
use Rattle.outage_engine.specs.Engined.{Engined, IsEngineAfter}
use Rattle.outage_ports.specs.Bytes.{AppendsPrefix}
use Rattle.run_rules.specs.Faults.{TellsFaults}
use Rattle.run_rules.specs.Files.{most_event_lines}
use Rattle.event_run.specs.Entering.{StaysEngine}
use Rattle.event_run.specs.declared.reading.EventsStop.{EventsStop}
use Rattle.event_run.specs.declared.reading.EventsStop.TheVariants.{ReadFailed, WriteFailed, TooManyLines, TooManyBytes, Memory}
use Rattle.event_run.specs.declared.taken.LineStop.{LineStop}
use Rattle.event_run.specs.declared.taken.LineStop.TheVariants as cut
use Rattle.event_run.specs.declared.taken.Taken.{Taken}
use Rattle.event_run.specs.declared.run.Run.{Run}

-- these lines were taken: the engine is that after their events, and what was written and what is kept are their entries
pub record HasTaken (lines : List (List ℕ)) (written : List ℕ) (taken : Taken) (e : Engined) : Type 0 where
  pub numbers : taken.number ≡ length lines
  pub counts : taken.counted ≡ length (counted lines)
  pub few : length (counted lines) ≤ most_event_lines
  pub engine : IsEngineAfter (history_in e.grid [] lines) e
  pub printed : written ++ taken.entries.bytes.items ≡ entries e.grid 1 [] lines

abbrev pub HasTakenSome : Taken → Engined → Type 0
HasTakenSome taken e = (lines : List (List ℕ)) × (written : List ℕ) × HasTaken lines written taken e

-- these lines were taken, and their entries written: none is kept back
pub record HasWritten (lines : List (List ℕ)) (before now : Option (List ℕ)) (g : Parts) (taken : Taken) (e : Engined) : Type 0 where
  pub has : HasTaken lines (entries g 1 [] lines) taken e
  pub written : Appends before now (entries g 1 [] lines)
  pub grid : e.grid ≡ g

abbrev pub HasWrittenSome : Option (List ℕ) → Taken → Engined → Type 0
HasWrittenSome now taken e = (lines : List (List ℕ)) × (before : Option (List ℕ)) × (g : Parts) × HasWritten lines before now g taken e

-- these lines were taken, and of their entries a front is written and the rest kept
pub record HasPut (lines : List (List ℕ)) (before now : Option (List ℕ)) (taken : Taken) (e : Engined) : Type 0 where
  pub written : List ℕ
  pub has : HasTaken lines written taken e
  pub out : Appends before now written

-- these bytes were taken, and the entries of the lines that end in them written; the part behind them is at hand
pub record HasRead (bytes : List ℕ) (before now : Option (List ℕ)) (g : Parts) (run : Run) (e : Engined) : Type 0 where
  pub lines : HasWritten (ended_from [] bytes) before now g run.taken e
  pub part : IsAtPart run.cutter (part_from [] bytes)

abbrev pub HasReadSome : Option (List ℕ) → Run → Engined → Type 0
HasReadSome now run e = (bytes : List ℕ) × (before : Option (List ℕ)) × (g : Parts) × HasRead bytes before now g run e

-- as many lines count as may, and the next line counts too
pub record IsOneTooMany (before : Taken) (line : List ℕ) : Type 0 where
  pub full : most_event_lines ≤ before.counted
  pub counts : is_skipped line ≡ false

-- what comes of one more line, behind these
abbrev pub TakesNext : List (List ℕ) → List ℕ → List ℕ → Taken → Taken → Engined → Result (Unit {0}) LineStop → Type 0
TakesNext lines line written old new e (Ok tt) = HasTaken (lines ++ line ∷ []) written new e
TakesNext lines line written old new e (Err cut.TooMany) = IsOneTooMany old line × (new ≡ old)
TakesNext lines line written old new e (Err cut.Memory) = ⊤

-- however a call ends that takes lines: the engine stays one, and the faults of the sink are told
pub record GoesOn (e more : Engined) (before now : ℕ) (failed : Type 0) : Type 0 where
  pub engine : StaysEngine e more
  pub faults : TellsFaults before now failed

-- among these lines is one too many, and the entries of those before it were written
pub record MeetsOne (all : List (List ℕ)) (before now : Option (List ℕ)) (g : Parts) : Type 0 where
  pub first : List (List ℕ)
  pub line : List ℕ
  pub rest : List (List ℕ)
  pub are : all ≡ first ++ line ∷ rest
  pub full : length (counted first) ≡ most_event_lines
  pub counts : is_skipped line ≡ false
  pub written : Appends before now (entries g 1 [] first)

-- of the entries of some first lines a front part was written
pub record WritesPart (all : List (List ℕ)) (before now : Option (List ℕ)) (g : Parts) : Type 0 where
  pub first : List (List ℕ)
  pub rest : List (List ℕ)
  pub are : all ≡ first ++ rest
  pub few : length (counted first) ≤ most_event_lines
  pub written : AppendsPrefix before now (entries g 1 [] first)

-- where a run stops among these lines
abbrev pub StopsAmong : List (List ℕ) → Option (List ℕ) → Option (List ℕ) → Parts → EventsStop → Type 0
StopsAmong all before now g WriteFailed = WritesPart all before now g
StopsAmong all before now g TooManyLines = MeetsOne all before now g
StopsAmong all before now g Memory = WritesPart all before now g
StopsAmong all before now g ReadFailed = ⊥
StopsAmong all before now g TooManyBytes = ⊥

-- the run is the same but that no entry is kept
pub record IsEmptied (taken new : Taken) : Type 0 where
  pub number : new.number ≡ taken.number
  pub counted : new.counted ≡ taken.counted
  pub entries : new.entries.bytes.items ≡ []

-- the entries that are kept are written, or a front part of them is
abbrev pub Writes : Option (List ℕ) → Option (List ℕ) → Taken → Taken → Result (Unit {0}) EventsStop → Type 0
Writes before now taken new (Ok tt) = Appends before now taken.entries.bytes.items × IsEmptied taken new
Writes before now taken new (Err WriteFailed) = AppendsPrefix before now taken.entries.bytes.items
Writes before now taken new (Err TooManyLines) = ⊥
Writes before now taken new (Err Memory) = ⊥
Writes before now taken new (Err ReadFailed) = ⊥
Writes before now taken new (Err TooManyBytes) = ⊥

-- what becomes of the entries that are kept, after a line was taken with this answer
abbrev pub Enters : Option (List ℕ) → Option (List ℕ) → Taken → Taken → Result (Unit {0}) LineStop → Result (Unit {0}) EventsStop → Type 0
Enters before now taken new answer (Ok tt) = (answer ≡ Ok tt) × Appends before now taken.entries.bytes.items × IsEmptied taken new
Enters before now taken new answer (Err WriteFailed) = (answer ≡ Err cut.Memory → ⊥) × AppendsPrefix before now taken.entries.bytes.items
Enters before now taken new answer (Err TooManyLines) = (answer ≡ Err cut.TooMany) × Appends before now taken.entries.bytes.items
Enters before now taken new answer (Err Memory) = (answer ≡ Err cut.Memory) × (now ≡ before)
Enters before now taken new answer (Err ReadFailed) = ⊥
Enters before now taken new answer (Err TooManyBytes) = ⊥

-- what one more line leads to: all of these were taken, or the run stops among them
abbrev pub LeadsNext : List (List ℕ) → Option (List ℕ) → Option (List ℕ) → Parts → Taken → Engined → Result (Unit {0}) EventsStop → Type 0
LeadsNext all before now g taken e (Ok tt) = HasPut all before now taken e
LeadsNext all before now g taken e (Err stop) = StopsAmong all before now g stop

-- what lines lead to: all were taken and their entries written, or the run stops among them
abbrev pub LeadsAmong : List (List ℕ) → Option (List ℕ) → Option (List ℕ) → Parts → Taken → Engined → Result (Unit {0}) EventsStop → Type 0
LeadsAmong all before now g taken e (Ok tt) = HasWritten all before now g taken e
LeadsAmong all before now g taken e (Err stop) = StopsAmong all before now g stop

-- and so do the lines that end in more bytes
abbrev pub LeadsTo : List ℕ → Option (List ℕ) → Option (List ℕ) → Parts → Run → Engined → Result (Unit {0}) EventsStop → Type 0
LeadsTo bytes before now g run e (Ok tt) = HasRead bytes before now g run e
LeadsTo bytes before now g run e (Err stop) = StopsAmong (ended_from [] bytes) before now g stop
