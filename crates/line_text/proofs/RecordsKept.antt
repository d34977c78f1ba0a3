-- `csv` reads what a block keeps of its lines: a record for each line with fields.
use Rattle.std.proofs.Common.{◌≡◌, true, false, Bool, ℕ, List, [], ◌∷◌, ◌++◌, Option, Some, None, Bor, refl, ap, sym, ◌∙◌, append_assoc, inl, inr}
use Rattle.csv.specs.Machine.{next_record}
use Rattle.csv.specs.Reading.{default_config, strip_bom, source_of, pending_of, took_first, names_headers, reader_config, reader_headers, reader_state, reader_trim, ReadRecord, ReadsNext}
use Rattle.csv.specs.declared.reader.Trim.TheVariants as trim
use Rattle.csv.specs.declared.parser.State.{State}
use Rattle.csv.specs.declared.parser.State.TheVariants as state
use Rattle.csv.specs.declared.reader.Reader.{Reader}
use Rattle.event_rules.specs.Fields.{between_commas, has_no_fields}
use Rattle.line_text.specs.LineSorts.{sort_of, IsOfSort}
use Rattle.line_text.specs.Blocks.{kept_as, kept_text}
use Rattle.line_text.specs.BlockReading.{IsBefore}
use Rattle.line_text.specs.declared.sorts.LineSort.{LineSort}
use Rattle.line_text.specs.declared.sorts.LineSort.TheVariants.{Skipped, TooLong, NoFields, Row}
use Rattle.line_text.proofs.RecordParts.{record_of_line, ends_at_lf, strips_nothing, strips_nothing_before}
use Rattle.line_text.proofs.LinesKept.{of_its_sort}

-- what is kept of a row stands before what is kept of the rest
kept_row : (sort : LineSort) (line rest : List ℕ) → sort ≡ Row → kept_as sort line ++ rest ≡ line ++ 10 ∷ rest
kept_row Skipped line rest e = cc
kept_row TooLong line rest e = cc
kept_row NoFields line rest e = cc
kept_row Row line rest e = append_assoc line (10 ∷ []) rest

row_has_fields : (sort : LineSort) (line : List ℕ) → IsOfSort sort line → sort ≡ Row → has_no_fields line ≡ false
row_has_fields Skipped line h e = cc
row_has_fields TooLong line h e = cc
row_has_fields NoFields line h e = cc
row_has_fields Row line h e = h.has_fields

-- no byte order mark stands before it
marks_none : (sort : LineSort) (line rest : List ℕ) → IsOfSort sort line → strip_bom rest ≡ rest → strip_bom (kept_as sort line ++ rest) ≡ kept_as sort line ++ rest
marks_none Skipped line rest h e = e
marks_none TooLong line rest h e = e
marks_none NoFields line rest h e = e
marks_none Row line rest h e = rw (append_assoc line (10 ∷ []) rest) (strips_nothing_before line rest h.has_fields)

pub kept_whole : (held : List (List ℕ)) → strip_bom (kept_text held) ≡ kept_text held
unfolding kept_text
kept_whole [] = strips_nothing [] refl
kept_whole (line ∷ held) = marks_none (sort_of line) line (kept_text held) (of_its_sort line) (kept_whole held)

-- before its first record a reader stands before the whole text
pub before_first : (reader : Reader (Bor (List ℕ))) (source : Bor (List ℕ)) (held : List (List ℕ)) → source.now ≡ kept_text held
    → reader_config reader ≡ default_config → reader_trim reader ≡ trim.None → names_headers reader ≡ false → reader_headers reader ≡ None
    → reader_state reader ≡ state.StartRecord → source_of (λ (s : Bor (List ℕ)). Some s.now) reader ≡ Some (strip_bom source.now) → IsBefore reader (kept_text held)
before_first reader source held e config trim named headers state left = record {
  config = config;
  trim = trim;
  ready = inr (inr (named, headers));
  state = state;
  left = left ∙ ap (λ z. Some (strip_bom z)) e ∙ ap Some (kept_whole held);
}

-- the next record before what is kept of a row
record IsRowRead (line rest : List ℕ) (behind : Option (List ℕ)) (row : List (List ℕ)) (after : State) : Type 0 where
  fields : row ≡ between_commas line
  state : after ≡ state.StartRecord
  rest_left : behind ≡ Some rest

row_next : (line rest : List ℕ) (behind : Option (List ℕ)) (row : List (List ℕ)) (after : State) → has_no_fields line ≡ false
    → ReadsNext default_config state.StartRecord (Some (line ++ 10 ∷ rest)) behind true row after → IsRowRead line rest behind row after
row_next line rest None row after h n = absurd n
row_next line rest (Some behind) row after h n =
    let is = rw (record_of_line line (10 ∷ rest) rest (ends_at_lf rest) h) at n in
    record { fields = is.1; state = is.2; rest_left = ap Some is.3 }

-- behind the byte order mark, what is left is what the buffer and the text below still have
left_of : (reader : Reader (Bor (List ℕ))) → reader.bom_checked ≡ true
    → source_of (λ (s : Bor (List ℕ)). Some s.now) reader ≡ pending_of (Some reader.rdr.now) reader
left_of reader e = rw e refl

row_is : (old new : Reader (Bor (List ℕ))) (line : List ℕ) (rest : List (List ℕ)) (row : List (List ℕ)) → sort_of line ≡ Row → IsBefore old (kept_text (line ∷ rest))
    → ReadRecord (λ (s : Bor (List ℕ)). Some s.now) old new true row → IsRowRead line (kept_text rest) (pending_of (Some new.rdr.now) new) row (reader_state new)
unfolding kept_text
row_is old new line rest row e h read =
    let bare = row_has_fields (sort_of line) line (of_its_sort line) e in
    let text = h.left ∙ ap Some (kept_row (sort_of line) line (kept_text rest) e) in
    row_next line (kept_text rest) _ row _ bare (rw (h.config, h.state, text) at read.0)

-- a row is read as its record
pub row_read : (old new : Reader (Bor (List ℕ))) (line : List ℕ) (rest : List (List ℕ)) (row : List (List ℕ)) → sort_of line ≡ Row → IsBefore old (kept_text (line ∷ rest))
    → ReadRecord (λ (s : Bor (List ℕ)). Some s.now) old new true row → row ≡ between_commas line
row_read old new line rest row e h read = (row_is old new line rest row e h read).fields

pub row_left : (old new : Reader (Bor (List ℕ))) (line : List ℕ) (rest : List (List ℕ)) (row : List (List ℕ)) → sort_of line ≡ Row → IsBefore old (kept_text (line ∷ rest))
    → ReadRecord (λ (s : Bor (List ℕ)). Some s.now) old new true row → took_first new ≡ true → IsBefore new (kept_text rest)
row_left old new line rest row e h read first =
    let is = row_is old new line rest row e h read in
    record {
      config = read.2 ∙ h.config;
      trim = read.3 ∙ h.trim;
      ready = inl first;
      state = is.state;
      left = left_of new read.1 ∙ is.rest_left;
    }

-- a line of which nothing is kept leaves the reader before the rest
pub none_kept : (sort : LineSort) (reader : Reader (Bor (List ℕ))) (line : List ℕ) (rest : List (List ℕ)) → sort ≡ sort_of line → (sort ≡ Row → ⊥)
    → IsBefore reader (kept_text (line ∷ rest)) → IsBefore reader (kept_text rest)
unfolding kept_text
none_kept Skipped reader line rest e n h = rw (← e) at h
none_kept TooLong reader line rest e n h = rw (← e) at h
none_kept NoFields reader line rest e n h = rw (← e) at h
none_kept Row reader line rest e n h = absurd (n refl)
