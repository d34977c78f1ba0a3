-- `csv` reads a line without barred bytes as what stands between its commas, at the end of a text and before an LF.
use Rattle.std.proofs.Common.{◌≡◌, ◌==◌, ◌&&◌, ◌||◌, true, false, ℕ, List, [], ◌∷◌, ◌++◌, Some, refl, ap, sym, ◌∙◌, append_assoc, inl, inr}
use Rattle.std.specs.Prelude.{option_map}
use Rattle.std.specs.List.{list_any}
use Rattle.std.proofs.lemmas.Bool.{and_parts, or_parts, cases_Bool, eqb-true, false≢true}
use Rattle.std.proofs.lemmas.List.{append-nil}
use Rattle.csv.specs.Machine.{Read, next_record, step}
use Rattle.csv.specs.Reading.{default_config, is_bom, strip_bom}
use Rattle.csv.specs.declared.parser.State.TheVariants as state
use Rattle.csv.specs.declared.parser.Action.TheVariants as action
use Rattle.event_rules.specs.Fields.{parts_from, between_commas, is_barred, begins_with_mark, has_no_fields}

-- a byte that may stand in a line with fields
record IsOpen (b : ℕ) : Type 0 where
  quote : (b == 34) ≡ false
  cr : (b == 13) ≡ false
  lf : (b == 10) ≡ false

open_byte : (b : ℕ) → is_barred b ≡ false → IsOpen b
open_byte b h =
    let outer = or_parts (b == 34) ((b == 13) || (b == 10)) h in
    let inner = or_parts (b == 13) (b == 10) outer.1 in
    record { quote = outer.0; cr = inner.0; lf = inner.1 }

-- a byte that is no comma joins the field at hand
joins_in_field : (b : ℕ) → IsOpen b → (b == 44) ≡ false → step default_config state.InField b ≡ (state.InField, action.Copy)
joins_in_field b h other = rw (other, h.cr, h.lf) refl

joins_start_field : (b : ℕ) → IsOpen b → (b == 44) ≡ false → step default_config state.StartField b ≡ (state.InField, action.Copy)
joins_start_field b h other = rw (other, h.quote, h.cr, h.lf) refl

-- a comma ends it
ends_in_field : (b : ℕ) → (b == 44) ≡ true → step default_config state.InField b ≡ (state.StartField, action.EndField)
ends_in_field b comma = rw comma refl

ends_start_field : (b : ℕ) → IsOpen b → (b == 44) ≡ true → step default_config state.StartField b ≡ (state.StartField, action.EndField)
ends_start_field b h comma = rw (comma, h.quote) refl

-- the first byte of a line goes as at the start of a field
first_byte : (b : ℕ) → IsOpen b → step default_config state.StartRecord b ≡ step default_config state.StartField b
first_byte b h = rw (h.cr, h.lf) refl

-- what stands behind a line ends its record, and leaves the rest
pub record EndsRecord (behind rest : List ℕ) : Type 0 where
  in_field : (fields : List (List ℕ)) (field : List ℕ) → next_record default_config state.InField fields field behind ≡ Some (fields ++ field ∷ [], state.StartRecord, rest)
  start_field : (fields : List (List ℕ)) (field : List ℕ) → next_record default_config state.StartField fields field behind ≡ Some (fields ++ field ∷ [], state.StartRecord, rest)

-- so does the end of the text, and an LF
pub ends_with_text : EndsRecord [] []
unfolding next_record
ends_with_text = record { in_field = λ fields field. refl; start_field = λ fields field. refl }

pub ends_at_lf : (rest : List ℕ) → EndsRecord (10 ∷ rest) rest
unfolding next_record
ends_at_lf rest = record { in_field = λ fields field. refl; start_field = λ fields field. refl }

-- a rest of a line, read within a field and at the start of one
reads_on : (behind rest : List ℕ) → EndsRecord behind rest → (fields : List (List ℕ)) (field line : List ℕ) → list_any is_barred line ≡ false
    → (next_record default_config state.InField fields field (line ++ behind) ≡ Some (fields ++ parts_from field line, state.StartRecord, rest))
    × (next_record default_config state.StartField fields field (line ++ behind) ≡ Some (fields ++ parts_from field line, state.StartRecord, rest))
unfolding next_record parts_from
reads_on behind rest e fields field [] h = (e.in_field fields field, e.start_field fields field)
reads_on behind rest e fields field (b ∷ line) h =
    let parts = or_parts (is_barred b) (list_any is_barred line) h in
    let byte = open_byte b parts.0 in
    elim (cases_Bool (b == 44)) [
      | inl comma ↦
          let next = (reads_on behind rest e (fields ++ field ∷ []) [] line parts.1).1 in
          let joined = ap (λ z. Some (z, state.StartRecord, rest)) (append_assoc fields (field ∷ []) (parts_from [] line)) in
          (rw (ends_in_field b comma, comma) (next ∙ joined), rw (ends_start_field b byte comma, comma) (next ∙ joined))
      | inr other ↦
          let next = (reads_on behind rest e fields (field ++ b ∷ []) line parts.1).0 in
          (rw (joins_in_field b byte other, other) next, rw (joins_start_field b byte other, other) next)
    ]

-- a line that has fields is one record, whose fields are what stands between its commas
pub record_of_line : (line behind rest : List ℕ) → EndsRecord behind rest → has_no_fields line ≡ false
    → next_record default_config state.StartRecord [] [] (line ++ behind) ≡ Some (between_commas line, state.StartRecord, rest)
unfolding next_record
record_of_line [] behind rest e h = cc
record_of_line (b ∷ line) behind rest e h =
    let marked = or_parts (begins_with_mark (b ∷ line)) (list_any is_barred (b ∷ line)) h in
    let parts = or_parts (is_barred b) (list_any is_barred line) marked.1 in
    rw (first_byte b (open_byte b parts.0)) ((reads_on behind rest e [] [] (b ∷ line) marked.1).1)

mark_is : (a b c : ℕ) (rest : List ℕ) → is_bom a b c ≡ true → begins_with_mark (a ∷ b ∷ c ∷ rest) ≡ true
mark_is a b c rest h =
    let outer = and_parts ((a == 0xEF) && (b == 0xBB)) (c == 0xBF) h in
    let inner = and_parts (a == 0xEF) (b == 0xBB) outer.0 in
    rw (eqb-true a 0xEF inner.0, eqb-true b 0xBB inner.1, eqb-true c 0xBF outer.1) refl

-- a line that begins with no byte order mark is read whole
pub strips_nothing : (line : List ℕ) → begins_with_mark line ≡ false → strip_bom line ≡ line
unfolding strip_bom
strips_nothing [] h = refl
strips_nothing (a ∷ []) h = refl
strips_nothing (a ∷ b ∷ []) h = refl
strips_nothing (a ∷ b ∷ c ∷ rest) h =
    elim (cases_Bool (is_bom a b c)) [
      | inl mark ↦ absurd (false≢true (sym h ∙ mark_is a b c rest mark))
      | inr other ↦ rw other refl
    ]

-- so is one that stands before an LF
strips_before : (line rest : List ℕ) → begins_with_mark line ≡ false → strip_bom (line ++ 10 ∷ rest) ≡ line ++ 10 ∷ rest
unfolding strip_bom
strips_before [] [] h = refl
strips_before [] (x ∷ []) h = refl
strips_before [] (x ∷ y ∷ rest) h = refl
strips_before (a ∷ []) [] h = refl
strips_before (a ∷ []) (x ∷ rest) h = elim (cases_Bool (a == 0xEF)) [ inl mark ↦ rw mark refl | inr other ↦ rw other refl ]
strips_before (a ∷ b ∷ []) rest h = elim (cases_Bool ((a == 0xEF) && (b == 0xBB))) [ inl mark ↦ rw mark refl | inr other ↦ rw other refl ]
strips_before (a ∷ b ∷ c ∷ line) rest h =
    elim (cases_Bool (is_bom a b c)) [
      | inl mark ↦ absurd (false≢true (sym h ∙ mark_is a b c line mark))
      | inr other ↦ rw other refl
    ]

unmarked : (line : List ℕ) → has_no_fields line ≡ false → begins_with_mark line ≡ false
unmarked [] h = refl
unmarked (b ∷ line) h = (or_parts (begins_with_mark (b ∷ line)) (list_any is_barred (b ∷ line)) h).0

pub strips_nothing_before : (line rest : List ℕ) → has_no_fields line ≡ false → strip_bom (line ++ 10 ∷ rest) ≡ line ++ 10 ∷ rest
strips_nothing_before line rest h = strips_before line rest (unmarked line h)

-- the record that was read has the fields of the line
pub fields_from : (line : List ℕ) (fields : List (List ℕ)) → Some fields ≡ option_map (λ (read : Read). read.0) (next_record default_config state.StartRecord [] [] (strip_bom line)) → has_no_fields line ≡ false → fields ≡ between_commas line
fields_from line fields e h =
    let whole = ap (next_record default_config state.StartRecord [] []) (strips_nothing line (unmarked line h) ∙ sym (append-nil line)) in
    let same : Some fields ≡ Some (between_commas line) =
    e ∙ ap (option_map (λ (read : Read). read.0)) (whole ∙ record_of_line line [] [] ends_with_text h) in
    cc
