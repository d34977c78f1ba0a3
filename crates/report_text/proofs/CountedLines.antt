-- The lines of the ledger can be counted.
use Rattle.std.proofs.Common.{ℕ, ◌≤◌, List, arith}
use Rattle.std.specs.Prelude.{All, IfSome, Option, Some, None}
use Rattle.std.proofs.lemmas.List.Elements.{All-weaker}
use Rattle.grid_model.specs.Parts.{Parts}
use Rattle.grid_model.specs.declared.history.Line.{Line}
use Rattle.grid_model.specs.declared.history.Stamp.{Stamp}
use Rattle.history_rules.specs.Indices.{end_or}
use Rattle.history_rules.specs.Ledger.{IsLineBy}
use Rattle.history_rules.specs.StampTexts.{last_second}
use Rattle.indices_1366.specs.Countable.{CanBeCounted}

-- an end by now, where an open line ends now
ends_by : (start now : ℕ) (end : Option Stamp) → start ≤ now → IfSome end (λ t. (start ≤ t.0) × (t.0 ≤ now)) → (start ≤ end_or now end) × (end_or now end ≤ now)
ends_by start now None by ended = (by, omega arith)
ends_by start now (Some t) by ended = ended

can_be_counted : (g : Parts) (now : ℕ) (l : Line) → now ≤ last_second → IsLineBy g now l → CanBeCounted g now l
can_be_counted g now l past line =
    let ends = ends_by l.start.0 now l.end line.start line.end in
    record { meter = line.meter; order = ends.0; end = let by : end_or now l.end ≤ now = ends.1 in omega arith }

pub lines_can_be_counted : (g : Parts) (now : ℕ) (lines : List Line) → now ≤ last_second → All (IsLineBy g now) lines → All (CanBeCounted g now) lines
lines_can_be_counted g now lines past all = All-weaker (IsLineBy g now) (CanBeCounted g now) (λ l. can_be_counted g now l past) lines all
