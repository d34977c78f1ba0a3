-- What one more read leads to, from where the run had come.
use Rattle.std.proofs.Common.{◌≡◌, ℕ, ◌+◌, ◌-◌, ◌<◌, ◌≤◌, min, ◌∙◌, subst, arith, List, [], ◌++◌, length, take, Option}
use Rattle.std.proofs.lemmas.List.{length-append, length-take}
use Rattle.grid_model.specs.Parts.{Parts}
use Rattle.event_rules.specs.Lines.{lines}
use Rattle.line_text.specs.Cutting.{ended_from}
use Rattle.line_text.specs.Laws.{LinesFromParts}
use Rattle.history_rules.specs.Laws.{LinesOfLimit, RunOfParts}
use Rattle.outage_engine.specs.Engined.{Engined}
use Rattle.outage_ports.specs.Bytes.{Files, Takes}
use Rattle.run_rules.specs.Files.{most_events}
use Rattle.event_run.specs.Reading.{DidMeetBytes, Stops}
use Rattle.event_run.specs.declared.run.Run.{Run}
use Rattle.event_run.specs.declared.reading.EventsStop.{EventsStop}
use Rattle.event_run.specs.Pieces.{HasRead, HasWritten, StopsAmong}
use Rattle.event_run.specs.Reached.{Reached, Finished}
use Rattle.event_run.proofs.PieceLines.{ended_few}
use Rattle.event_run.proofs.EventsRead.{took_more, took_all, lines_of_all, piece_lines, bytes_met, stops_of}

module _ {files shelf : Option Files} {name : List ℕ} {left before now : Option (List ℕ)} {p : Parts} {run : Run} {e : Engined} {room : ℕ} (reached : Reached files shelf name left before now p run e room) where
  -- no more lines were taken than bytes
  number_room : run.taken.number + room ≤ most_events
  number_room =
      let few = ended_few [] reached.bytes in
      let numbers = reached.read.lines.has.numbers in
      let size = reached.size in
      omega arith

  pub number_fits : run.taken.number ≤ 1073741824
  number_fits = let all = number_room in omega arith

  pub piece_fits : (into : List ℕ) (n m : ℕ) → m ≡ min n room → run.taken.number + length (take m into) ≤ 1073741824
  piece_fits into n m least =
      let all = number_room in
      let taken = length-take m into in
      omega arith

  module _ (new later : Option (List ℕ)) (into : List ℕ) (n : ℕ) (takes : Takes left new n into) where
    -- nothing was left: the run stops among the lines of the whole text, or all is done
    pub end_stops : RunOfParts → LinesOfLimit → (stop : EventsStop) → n ≡ 0 → StopsAmong (lines reached.bytes) before later p stop → (start : Option (List ℕ)) → Stops files name start new before later p stop
    end_stops law limit stop none stops start =
        let size = reached.size in
        stops_of law limit files name start new (lines reached.bytes) before later p stop (lines_of_all files new name reached.bytes (took_all files left new name reached.bytes into n reached.took takes none) (omega arith)) stops

    pub end_finished : (ran : Run) (more : Engined) → n ≡ 0 → HasWritten (lines reached.bytes) before later p ran.taken more → Finished files name new before later p ran more
    end_finished ran more none written =
        let size = reached.size in record {
          bytes = reached.bytes;
          all = took_all files left new name reached.bytes into n reached.took takes none;
          fits = omega arith;
          lines = written;
        }

    -- the run stops among the lines that end in the piece
    pub piece_stops : LinesFromParts → RunOfParts → LinesOfLimit → (m : ℕ) (stop : EventsStop) → m ≡ min n room → StopsAmong (ended_from [] (reached.bytes ++ take m into)) before later p stop
        → (start : Option (List ℕ)) → Stops files name start new before later p stop
    piece_stops parts law limit m stop least stops start =
        stops_of law limit files name start new (ended_from [] (reached.bytes ++ take m into)) before later p stop
        (piece_lines parts files new name reached.bytes into n m room (took_more files left new name reached.bytes into n reached.took takes) (omega arith) (omega arith) reached.size) stops

    -- there are too many bytes
    pub piece_over : LinesFromParts → LinesOfLimit → (m : ℕ) (ran : Run) (more : Engined) → m ≡ min n room → room < n → n ≤ length into → HasRead (reached.bytes ++ take m into) before later p ran more → DidMeetBytes files name before later p
    piece_over parts limit m ran more least over bound has =
        let same : m ≡ room = omega arith in
        let read = subst (λ k. HasRead (reached.bytes ++ take k into) before later p ran more) same has in
        bytes_met parts limit files new name reached.bytes into n room before later p (took_more files left new name reached.bytes into n reached.took takes) reached.size over bound read.lines.has.few read.lines.written

    -- or more is to be read
    pub piece_reached : (same : Option Files) (m : ℕ) (ran : Run) (more : Engined) → same ≡ shelf → m ≡ min n room → n ≤ room → n ≤ length into → HasRead (reached.bytes ++ take m into) before later p ran more
        → Reached files same name new before later p ran more (room - n)
    piece_reached same m ran more is least fits bound has =
        let all : m ≡ n = omega arith in
        let size = reached.size in
        let taken = length-take n into in
        let whole = length-append reached.bytes (take n into) in record {
          same = is ∙ reached.same;
          bytes = reached.bytes ++ take n into;
          took = took_more files left new name reached.bytes into n reached.took takes;
          read = subst (λ k. HasRead (reached.bytes ++ take k into) before later p ran more) all has;
          size = omega arith;
        }
