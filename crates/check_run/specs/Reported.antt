-- What reading the bounds of a report says of its file, and what is found on them.
use Rattle.std.specs.Prelude.{◌≡◌, ◌⊎◌, ⊤, ℕ, List, [], length, Option, Some}
use Rattle.std.specs.Io.KnownBytes.{Appends}
use Rattle.grid_model.specs.Parts.{Parts}
use Rattle.grid_model.specs.declared.history.Event.{Event}
use Rattle.history_rules.specs.Posed.{problem_after}
use Rattle.bound_table.specs.Table.{Table}
use Rattle.bound_checker.specs.Claimed.{table_of, cut_of}
use Rattle.bound_checker.specs.Verdict.{verdict_of}
use Rattle.bound_checker.specs.declared.rules.Verdict.{Verdict}
use Rattle.outage_engine.specs.Engined.{Engined, IsEngineAfter}
use Rattle.outage_ports.specs.Bytes.{Files, AppendsPrefix}
use Rattle.command_words.specs.Forms.{Places}
use Rattle.run_rules.specs.Reading.{WhereTold, StopsUnread}
use Rattle.run_rules.specs.Files.{most_report, IsTooLong, SaysBounds, RefusesReportAt}
use Rattle.run_rules.specs.Told.{verdict_text}
use Rattle.run_rules.specs.Run.{CanCheck, status_of}
use Rattle.run_rules.specs.declared.status.Status.{Status}
use Rattle.run_rules.specs.declared.status.Status.TheVariants.{ReadFault, WriteFault, ReportRefused, Limit, Memory}
use Rattle.run_rules.specs.declared.status.Which.TheVariants.{ReportBytes}

-- the report was read to its end, and has these bounds
abbrev pub DidSayBounds : Option Files → Option (List ℕ) → List ℕ → Parts → Table → Type 0
DidSayBounds files left name g bounds = WhereTold files (λ told. SaysBounds told name g bounds × (left ≡ Some []))

-- why no bounds were read, by what was left to read before and after
abbrev pub IsReportStop : Option Files → Option (List ℕ) → Option (List ℕ) → List ℕ → Parts → Status → Type 0
IsReportStop files before left name g ReadFault = StopsUnread files before left name
IsReportStop files before left name g (Limit ReportBytes) = WhereTold files (λ told. IsTooLong told name most_report)
IsReportStop files before left name g (ReportRefused line rule) = WhereTold files (λ told. RefusesReportAt told name g line rule)
IsReportStop files before left name g Memory = ⊤
IsReportStop files before left name g status = ⊥

-- the verdict of the local check on bounds, after all events of an engine
unfoldable pub IsVerdictOn : Engined → Table → Verdict → Type 0
IsVerdictOn e bounds v = (h : List Event) → IsEngineAfter h e → v ≡ verdict_of (problem_after e.grid h) (table_of (length e.grid.devices) bounds.rows) (cut_of bounds.cuts) bounds.cost

-- it is the verdict, and this is its text
pub record Judges (e : Engined) (bounds : Table) (v : Verdict) (text : List ℕ) : Type 0 where
  pub is : IsVerdictOn e bounds v
  pub told : text ≡ verdict_text e.grid v

-- the report was read to its end, and its bounds were judged
pub record DidJudge (files : Option Files) (left : Option (List ℕ)) (name : List ℕ) (e : Engined) (v : Verdict) (text : List ℕ) : Type 0 where
  pub bounds : Table
  pub says : DidSayBounds files left name e.grid bounds
  pub judges : Judges e bounds v text

-- a check came to this verdict, with all files read to their end, and this is its text
pub record Finds (files : Files) (left : Option (List ℕ)) (places : Places) (report : List ℕ) (v : Verdict) (text : List ℕ) : Type 0 where
  pub can : CanCheck files places report v
  pub read : left ≡ Some []
  pub told : text ≡ verdict_text can.parts v

abbrev pub DidFind : Option Files → Option (List ℕ) → Places → List ℕ → Verdict → List ℕ → Type 0
DidFind files left places report v text = WhereTold files (λ told. Finds told left places report v text)

-- the text of a verdict was written, or a write failed after a front part of it
abbrev pub Says : Option (List ℕ) → Option (List ℕ) → Verdict → List ℕ → Status → Type 0
Says before now v text status = ((status ≡ status_of v) × Appends before now text) ⊎ ((status ≡ WriteFault) × AppendsPrefix before now text)
