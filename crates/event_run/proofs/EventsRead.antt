-- What was read of the events, and what was written of them.
use Rattle.std.proofs.Common.{◌≡◌, ℕ, ◌+◌, ◌<◌, ◌≤◌, refl, sym, ap, ◌∙◌, subst, arith, inl, inr, List, [], ◌∷◌, ◌++◌, length, take, drop, append_assoc, append-nil, Option, Some, None, Result, Ok, Err}
use Rattle.std.specs.Io.KnownBytes.{Appends}
use Rattle.std.proofs.lemmas.List.{length-append, length-take, take_at, take-append-drop, take-take}
use Rattle.grid_model.specs.Parts.{Parts}
use Rattle.event_rules.specs.Lines.{lines}
use Rattle.line_text.specs.Cutting.{IsAtPart, ended_from, part_from, last_line}
use Rattle.line_text.specs.Laws.{LinesFromParts}
use Rattle.history_rules.specs.Run.{ended_lines, counted, before_counted, lines_within, history_in}
use Rattle.history_rules.specs.Output.{entries}
use Rattle.history_rules.specs.Report.{refused_in}
use Rattle.history_rules.specs.Laws.{LinesOfLimit, RunOfParts}
use Rattle.outage_engine.specs.Engined.{Engined, IsEngineAfter}
use Rattle.outage_ports.specs.Bytes.{Files, Starts, Takes, AppendsPrefix}
use Rattle.run_rules.specs.Reading.{Took}
use Rattle.run_rules.specs.Files.{most_events, most_event_lines}
use Rattle.run_rules.specs.Told.{entries_taken}
use Rattle.event_run.specs.Reading.{DidReadAll, DidStop, DidMeetLines, DidMeetBytes, DidWritePart, Stops}
use Rattle.event_run.specs.declared.taken.Taken.{Taken}
use Rattle.event_run.specs.declared.run.Run.{Run}
use Rattle.event_run.specs.declared.reading.EventsStop.{EventsStop}
use Rattle.event_run.specs.declared.reading.EventsStop.TheVariants as ends
use Rattle.event_run.specs.Pieces.{HasRead, HasWritten, StopsAmong, MeetsOne, WritesPart, LeadsAmong, LeadsTo}
use Rattle.event_run.specs.Reached.{Reached, IsAllOf, Finished}
use Rattle.event_run.proofs.Written.{appends_same, prefix_of_more}
use Rattle.event_run.proofs.PutLines.{put_of, none_put}
use Rattle.event_run.proofs.PieceLines.{ended_append, lines_are}
use Rattle.event_run.proofs.EndedLines.{ended_are, within_all, within_first, within_front, taken_front, one_more}

-- these bytes stand at the front of the file
abbrev pub TookFront : Option Files → List ℕ → List ℕ → Type 0
TookFront None name front = Unit {0}
TookFront (Some files) name front = (rest : List ℕ) × (files name ≡ Some (front ++ rest))

-- these lines are the first that a run may take
abbrev pub HasLines : Option Files → List ℕ → List (List ℕ) → Type 0
HasLines None name all = Unit {0}
HasLines (Some files) name all = (file : List ℕ) × (files name ≡ Some file) × ((more : List (List ℕ)) × (lines_within most_events file ≡ all ++ more))

-- what was taken of a file
pub took_none : (files : Option Files) (left : Option (List ℕ)) (name : List ℕ) → Starts files left name → Took files left name []
took_none None left name h = tt
took_none (Some files) None name h = (let some = h.1 in cc)
took_none (Some files) (Some rest) name h = sym h.0

pub took_front : (files : Option Files) (left : Option (List ℕ)) (name bytes : List ℕ) → Took files left name bytes → TookFront files name bytes
took_front None left name bytes h = tt
took_front (Some files) None name bytes h = absurd h
took_front (Some files) (Some rest) name bytes h = (rest, h)

pub took_more : (files : Option Files) (left new : Option (List ℕ)) (name bytes into : List ℕ) (n : ℕ) → Took files left name bytes → Takes left new n into → Took files new name (bytes ++ take n into)
took_more None left new name bytes into n h k = tt
took_more (Some files) None new name bytes into n h k = absurd h
took_more (Some files) (Some rest) None name bytes into n h k = absurd k
took_more (Some files) (Some rest) (Some behind) name bytes into n h k =
    h ∙ ap (λ z. Some (bytes ++ z)) k.0 ∙ ap (λ z. Some z) (sym (append_assoc bytes (take n into) behind))

-- and fewer of the bytes
pub front_fewer : (files : Option Files) (name bytes into : List ℕ) (n m : ℕ) → m ≤ n → TookFront files name (bytes ++ take n into) → TookFront files name (bytes ++ take m into)
front_fewer None name bytes into n m l h = tt
front_fewer (Some files) name bytes into n m l h = (
  drop m (take n into) ++ h.0,
  h.1 ∙ ap (λ z. Some ((bytes ++ z) ++ h.0)) (sym (take-append-drop m (take n into)) ∙ ap (λ z. z ++ drop m (take n into)) (take-take m n into l))
      ∙ ap (λ z. Some z) (regroup bytes (take m into) (drop m (take n into)) h.0),
)
  where
    regroup : (a b c d : List ℕ) → (a ++ (b ++ c)) ++ d ≡ (a ++ b) ++ (c ++ d)
    regroup a b c d = simp append_assoc

-- the end of the file
pub took_all : (files : Option Files) (left new : Option (List ℕ)) (name bytes into : List ℕ) (n : ℕ) → Took files left name bytes → Takes left new n into → n ≡ 0 → IsAllOf files new name bytes
took_all None left new name bytes into n h k none = tt
took_all (Some files) None new name bytes into n h k none = absurd h
took_all (Some files) (Some rest) None name bytes into n h k none = absurd k
took_all (Some files) (Some rest) (Some behind) name bytes into n h k none =
    let empty : rest ≡ [] = k.1.0 none in
    let left : behind ≡ [] = sym (ap (λ m. take m into ++ behind) none) ∙ sym k.0 ∙ empty in
    (h ∙ ap (λ z. Some (bytes ++ z)) empty ∙ ap (λ z. Some z) (append-nil bytes), ap (λ z. Some z) left)

pub lines_of_front : LinesFromParts → (files : Option Files) (name front : List ℕ) → TookFront files name front → length front ≤ most_events → HasLines files name (ended_from [] front)
lines_of_front law None name front h l = tt
lines_of_front law (Some files) name front h l = (front ++ h.0, h.1, within_front law front h.0 l)

pub lines_of_all : (files : Option Files) (left : Option (List ℕ)) (name bytes : List ℕ) → IsAllOf files left name bytes → length bytes ≤ most_events → HasLines files name (lines bytes)
lines_of_all None left name bytes h l = tt
lines_of_all (Some files) left name bytes h l = (bytes, h.0, ([], within_all bytes l ∙ sym (append-nil (lines bytes))))

-- lines that were taken, and more
entries_more : RunOfParts → (g : Parts) (file : List ℕ) (first more : List (List ℕ)) → length (counted first) ≤ most_event_lines → lines_within most_events file ≡ first ++ more
    → (rest : List ℕ) × (entries_taken g file ≡ entries g 1 [] first ++ rest)
unfolding entries_taken
entries_more law g file first more few are =
    let front = taken_front file first more few are in
    (entries g (1 + length first) (history_in g [] first) front.0, ap (entries g 1 []) front.1 ∙ law.entries g 1 [] first front.0)

-- a front part of the entries was written
part_written : RunOfParts → (files : Option Files) (name : List ℕ) (all : List (List ℕ)) (before now : Option (List ℕ)) (g : Parts)
    → HasLines files name all → WritesPart all before now g → DidWritePart files name before now g
part_written law None name all before now g has part = tt
part_written law (Some files) name all before now g has part =
    let file = has.0 in
    let due = entries_more law g file part.first (part.rest ++ has.2.0) part.few (has.2.1 ∙ ap (λ z. z ++ has.2.0) part.are ∙ append_assoc part.first part.rest has.2.0) in (
      file,
      has.1,
      subst (AppendsPrefix before now) (sym due.1) (prefix_of_more before now (entries g 1 [] part.first) due.0 part.written),
    )

-- a line too many was met
lines_met : LinesOfLimit → (files : Option Files) (name : List ℕ) (all : List (List ℕ)) (before now : Option (List ℕ)) (g : Parts)
    → HasLines files name all → MeetsOne all before now g → DidMeetLines files name before now g
unfolding entries_taken
lines_met law None name all before now g has met = tt
lines_met law (Some files) name all before now g has met =
    let file = has.0 in
    let more = met.rest ++ has.2.0 in
    let are : lines_within most_events file ≡ met.first ++ met.line ∷ more =
    has.2.1 ∙ ap (λ z. z ++ has.2.0) met.are ∙ append_assoc met.first (met.line ∷ met.rest) has.2.0 in
    let due : entries_taken g file ≡ entries g 1 [] met.first =
    ap (entries g 1 []) (ap (before_counted most_event_lines) are ∙ law.some most_event_lines met.first more met.line met.full met.counts) in (
      file,
      record { are = has.1; many = subst (λ ls. most_event_lines < length (counted ls)) (sym are) (one_more met.first more met.line met.full met.counts) },
      appends_same before now (entries g 1 [] met.first) (entries_taken g file) (sym due) met.written,
    )

-- where a run stops among lines that stand at the front of the file's
pub stops_of : RunOfParts → LinesOfLimit → (files : Option Files) (name : List ℕ) (start left : Option (List ℕ)) (all : List (List ℕ)) (before now : Option (List ℕ)) (g : Parts) (stop : EventsStop)
    → HasLines files name all → StopsAmong all before now g stop → Stops files name start left before now g stop
stops_of law limit files name start left all before now g ends.WriteFailed has part = part_written law files name all before now g has part
stops_of law limit files name start left all before now g ends.Memory has part = part_written law files name all before now g has part
stops_of law limit files name start left all before now g ends.TooManyLines has met = lines_met limit files name all before now g has met
stops_of law limit files name start left all before now g ends.ReadFailed has none = absurd none
stops_of law limit files name start left all before now g ends.TooManyBytes has none = absurd none

-- as many bytes as may were taken, and there are more
pub bytes_met : LinesFromParts → LinesOfLimit → (files : Option Files) (left : Option (List ℕ)) (name bytes into : List ℕ) (n room : ℕ) (before now : Option (List ℕ)) (g : Parts)
    → Took files left name (bytes ++ take n into) → length bytes + room ≡ most_events → room < n → n ≤ length into
    → length (counted (ended_from [] (bytes ++ take room into))) ≤ most_event_lines → Appends before now (entries g 1 [] (ended_from [] (bytes ++ take room into)))
    → DidMeetBytes files name before now g
unfolding entries_taken
bytes_met law limit None left name bytes into n room before now g took size more most few h = tt
bytes_met law limit (Some files) None name bytes into n room before now g took size more most few h = absurd took
bytes_met law limit (Some files) (Some rest) name bytes into n room before now g took size more most few h =
    let file = (bytes ++ take n into) ++ rest in
    let front = front_fewer (Some files) name bytes into n room (omega arith) (rest, took) in
    let size_one = length-append (bytes ++ take n into) rest in
    let size_two = length-append bytes (take n into) in
    let size_three = length-take n into in
    let size_four = length-append bytes (take room into) in
    let size_five = length-take room into in
    let long : most_events < length file = omega arith in
    let same : file ≡ (bytes ++ take room into) ++ front.0 = (let whole = sym took ∙ front.1 in cc) in
    let cut : take most_events file ≡ bytes ++ take room into =
    ap (take most_events) same ∙ take_at (bytes ++ take room into) front.0 most_events (omega arith) in
    let are : lines_within most_events file ≡ ended_from [] (bytes ++ take room into) =
    within_first file long ∙ ap ended_lines cut ∙ ended_are law (bytes ++ take room into) in
    let due : entries_taken g file ≡ entries g 1 [] (ended_from [] (bytes ++ take room into)) =
    ap (entries g 1 []) (ap (before_counted most_event_lines) are ∙ limit.all most_event_lines (ended_from [] (bytes ++ take room into)) few) in (
      file,
      record { are = took; few = subst (λ ls. length (counted ls) ≤ most_event_lines) (sym are) few; more = long },
      appends_same before now (entries g 1 [] (ended_from [] (bytes ++ take room into))) (entries_taken g file) (sym due) h,
    )

-- a read failed, which leaves the bytes left as they were
pub read_stopped : LinesFromParts → (files : Option Files) (name bytes : List ℕ) (start left same before now : Option (List ℕ)) (g : Parts) → Took files left name bytes → same ≡ left
    → Appends before now (entries g 1 [] (ended_from [] bytes)) → DidStop files name start same before now g
read_stopped law None name bytes start left same before now g took is h = tt
read_stopped law (Some files) name bytes start None same before now g took is h = absurd took
read_stopped law (Some files) name bytes start (Some rest) same before now g took is h = inr (record {
  front = bytes;
  fails = record { rest = rest; file = took; is_left = is };
  written = appends_same before now (entries g 1 [] (ended_from [] bytes)) (entries g 1 [] (ended_lines bytes)) (ap (entries g 1 []) (sym (ended_are law bytes))) h;
})

-- the start failed
pub start_stopped : (files : Option Files) (name : List ℕ) (start left before : Option (List ℕ)) (g : Parts) → left ≡ start → DidStop files name start left before before g
start_stopped None name start left before g same = tt
start_stopped (Some files) name start left before g same = inl (same, refl)

-- all was read and written
pub all_read : (files : Option Files) (left : Option (List ℕ)) (name : List ℕ) (before now : Option (List ℕ)) (g : Parts) (run : Run) (e : Engined) (refused : ℕ)
    → (end : Finished files name left before now g run e) → refused ≡ refused_in e.grid [] (lines end.bytes) → DidReadAll files name left before now g e refused
all_read None left name before now g run e refused end is = tt
all_read (Some files) left name before now g run e refused end is = record {
  bytes = end.bytes;
  events = record { file = record { are = end.all.0; fits = end.fits }; few = end.lines.has.few };
  read = end.all.1;
  engine = subst (λ p. IsEngineAfter (history_in p [] (lines end.bytes)) e) end.lines.grid end.lines.has.engine;
  refusals = is ∙ ap (λ p. refused_in p [] (lines end.bytes)) end.lines.grid;
  written = end.lines.written;
}

-- before the first byte
pub reached_none : (files shelf : Option Files) (name : List ℕ) (left now : Option (List ℕ)) (run : Run) (e : Engined) → Took files left name [] → shelf ≡ files → HasRead [] now now e.grid run e → Reached files shelf name left now now e.grid run e most_events
reached_none files shelf name left now run e took same read = record { same = same; bytes = []; took = took; read = read; size = refl }

-- a piece that was taken, of which no more bytes than may be
pub piece_lines : LinesFromParts → (files : Option Files) (left : Option (List ℕ)) (name bytes into : List ℕ) (n m room : ℕ) → Took files left name (bytes ++ take n into) → m ≤ n → m ≤ room → length bytes + room ≡ most_events
    → HasLines files name (ended_from [] (bytes ++ take m into))
piece_lines law files left name bytes into n m room took fewer fits size =
    let size_one = length-append bytes (take m into) in
    let size_two = length-take m into in
    lines_of_front law files name (bytes ++ take m into) (front_fewer files name bytes into n m fewer (took_front files left name (bytes ++ take n into) took)) (omega arith)

-- what lines and what bytes lead to, where all were taken and where the run stops
pub lines_done : (all : List (List ℕ)) (before now : Option (List ℕ)) (g : Parts) (taken : Taken) (e : Engined) (r : Result (Unit {0}) EventsStop) → LeadsAmong all before now g taken e r → r ≡ Ok tt → HasWritten all before now g taken e
lines_done all before now g taken e r leads is = subst (LeadsAmong all before now g taken e) is leads

pub lines_stop : (all : List (List ℕ)) (before now : Option (List ℕ)) (g : Parts) (taken : Taken) (e : Engined) (r : Result (Unit {0}) EventsStop) (stop : EventsStop) → LeadsAmong all before now g taken e r → r ≡ Err stop
    → StopsAmong all before now g stop
lines_stop all before now g taken e r stop leads is = subst (LeadsAmong all before now g taken e) is leads

pub bytes_done : (bytes : List ℕ) (before now : Option (List ℕ)) (g : Parts) (run : Run) (e : Engined) (r : Result (Unit {0}) EventsStop) → LeadsTo bytes before now g run e r → r ≡ Ok tt → HasRead bytes before now g run e
bytes_done bytes before now g run e r leads is = subst (LeadsTo bytes before now g run e) is leads

pub bytes_stop : (bytes : List ℕ) (before now : Option (List ℕ)) (g : Parts) (run : Run) (e : Engined) (r : Result (Unit {0}) EventsStop) (stop : EventsStop) → LeadsTo bytes before now g run e r → r ≡ Err stop
    → StopsAmong (ended_from [] bytes) before now g stop
bytes_stop bytes before now g run e r stop leads is = subst (LeadsTo bytes before now g run e) is leads

-- the lines that end in a piece lead on
pub piece_leads : (bytes piece : List ℕ) (before now : Option (List ℕ)) (g : Parts) (run : Run) (e : Engined) (r : Result (Unit {0}) EventsStop) → IsAtPart run.cutter (part_from [] (bytes ++ piece))
    → LeadsAmong (ended_from [] bytes ++ ended_from (part_from [] bytes) piece) before now g run.taken e r → LeadsTo (bytes ++ piece) before now g run e r
piece_leads bytes piece before now g run e (Ok tt) part leads = record {
  lines = subst (λ ls. HasWritten ls before now g run.taken e) (sym (ended_append [] bytes piece)) leads;
  part = part;
}
piece_leads bytes piece before now g run e (Err stop) part leads = subst (λ ls. StopsAmong ls before now g stop) (sym (ended_append [] bytes piece)) leads

-- the lines of the whole text
pub end_leads : LinesFromParts → (bytes : List ℕ) (before now : Option (List ℕ)) (g : Parts) (taken : Taken) (e : Engined) (r : Result (Unit {0}) EventsStop)
    → LeadsAmong (ended_from [] bytes ++ last_line (part_from [] bytes)) before now g taken e r → LeadsAmong (lines bytes) before now g taken e r
end_leads law bytes before now g taken e r leads = subst (λ ls. LeadsAmong ls before now g taken e r) (sym (lines_are law bytes)) leads

-- memory ran out before any of more lines was taken
pub none_taken : (all more : List (List ℕ)) (before now : Option (List ℕ)) (g : Parts) (taken : Taken) (e : Engined) → HasWritten all before now g taken e → WritesPart (all ++ more) before now g
none_taken all more before now g taken e has = none_put all more (all ++ more) before now g taken e refl has.grid (put_of all before now g taken e has)
