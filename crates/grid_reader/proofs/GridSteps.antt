-- A network text, line by line.
use Rattle.std.proofs.Common.{◌≡◌, ℕ, ◌+◌, true, false, cond, List, [], ◌∷◌, ◌++◌, Result, Ok, Err, Option, Some, None, refl, sym, ap, ◌∙◌}
use Rattle.std.specs.Prelude.{OnOk, IfErr}
use Rattle.event_rules.specs.Lines.{lines, is_skipped}
use Rattle.line_text.specs.LineSorts.{IsTold}
use Rattle.line_text.specs.BlockReading.{AreLeft, row_fields}
use Rattle.line_text.specs.declared.sorts.LineSort.{LineSort}
use Rattle.line_text.specs.declared.sorts.LineSort.TheVariants as told
use Rattle.line_text.specs.declared.block_reader.BlockReader.{BlockReader}
use Rattle.grid_reader.specs.declared.row.Row.{Row}
use Rattle.grid_reader.specs.declared.draft.Draft.{Draft}
use Rattle.grid_reader.specs.declared.fault.GridRule.{GridRule}
use Rattle.grid_reader.specs.declared.fault.GridFault.TheVariants.{Refused}
use Rattle.grid_reader.specs.declared.fault.RowFault.{RowFault}
use Rattle.grid_reader.specs.declared.fault.RowFault.TheVariants.{Breaks, Memory}
use Rattle.grid_reader.specs.RowFaults.{IfBroken, fault_at}
use Rattle.grid_reader.specs.Rows.{IsRow, row_of}
use Rattle.grid_reader.specs.Rows as row_breaks
use Rattle.grid_reader.specs.Network.{broken_after}
use Rattle.grid_reader.specs.Text.{Reading, Rows, Stopped, device_lines_with, unless_broken, with_row, with_line, with_lines, grid_of_reading, grid_text, IsRefusedAt}
use Rattle.grid_reader.specs.Draft.{IsDraftOf}
use Rattle.grid_reader.specs.Reader.{IsReadInto, IsDraftOfText, Continues}

-- a line with a row
line_of_row : (rows : List Row) (device_lines : List ℕ) (number : ℕ) (line : List ℕ) (row : Row) → is_skipped line ≡ false → row_of line ≡ IsRow row
    → with_line (Rows rows device_lines number) line ≡ unless_broken rows device_lines number row (broken_after rows row)
line_of_row rows device_lines number line row said e =
    ap (λ b. cond b (Rows rows device_lines (number + 1)) (with_row rows device_lines number (row_of line))) said
    ∙ ap (with_row rows device_lines number) e

taken_row : (draft : Draft) (rows : List Row) (device_lines : List ℕ) (number : ℕ) (row : Row) (rule : Option GridRule) → rule ≡ None
    → IsDraftOf (row ∷ rows) (device_lines_with device_lines number row) draft → IsReadInto draft number (unless_broken rows device_lines number row rule)
taken_row draft rows device_lines number row None e held = (refl, held)
taken_row draft rows device_lines number row (Some rule) e held = cc

-- a row that is kept is read into the draft
pub row_taken : {T E : Type 0} (r : Result T E) (draft : Draft) (rows : List Row) (device_lines : List ℕ) (number : ℕ) (line : List ℕ) (row : Row) → is_skipped line ≡ false → row_of line ≡ IsRow row
    → OnOk r (broken_after rows row ≡ None) → OnOk r (IsDraftOf (row ∷ rows) (device_lines_with device_lines number row) draft)
    → OnOk r (IsReadInto draft number (with_line (Rows rows device_lines number) line))
row_taken (Ok x) draft rows device_lines number line row said e kept held =
    rw (line_of_row rows device_lines number line row said e) (taken_row draft rows device_lines number row (broken_after rows row) kept held)
row_taken (Err x) draft rows device_lines number line row said e kept held = tt

-- a row that breaks a rule stops the reading
pub row_refused : (r : Result (Unit {0}) RowFault) (rows : List Row) (device_lines : List ℕ) (number : ℕ) (line : List ℕ) (row : Row) → is_skipped line ≡ false → row_of line ≡ IsRow row
    → IfErr r (λ fault. IfBroken fault (λ rule. broken_after rows row ≡ Some rule))
    → IfErr r (λ fault. IfBroken fault (λ rule. with_line (Rows rows device_lines number) line ≡ Stopped number rule))
row_refused (Ok x) rows device_lines number line row said e broken = tt
row_refused (Err (Breaks rule)) rows device_lines number line row said e broken =
    line_of_row rows device_lines number line row said e ∙ ap (unless_broken rows device_lines number row) broken
row_refused (Err Memory) rows device_lines number line row said e broken = tt

-- so does a row that breaks one by itself
pub row_broken : (rows : List Row) (device_lines : List ℕ) (number : ℕ) (line : List ℕ) (rule : GridRule) → is_skipped line ≡ false → row_of line ≡ row_breaks.Breaks rule
    → with_line (Rows rows device_lines number) line ≡ Stopped number rule
row_broken rows device_lines number line rule said e =
    ap (λ b. cond b (Rows rows device_lines (number + 1)) (with_row rows device_lines number (row_of line))) said
    ∙ ap (with_row rows device_lines number) e

-- a line that is skipped leaves the draft as it is
pub skipped_taken : (draft : Draft) (rows : List Row) (device_lines : List ℕ) (number : ℕ) (line : List ℕ) → is_skipped line ≡ true → IsDraftOf rows device_lines draft
    → IsReadInto draft number (with_line (Rows rows device_lines number) line)
skipped_taken draft rows device_lines number line e h = rw e (refl, h)

-- whether a line is skipped, by what is told of it
pub told_said : (sort : LineSort) (fields : List (List ℕ)) (line : List ℕ) → (sort ≡ told.Skipped → ⊥) → IsTold sort fields line → is_skipped line ≡ false
told_said told.Skipped fields line n h = absurd (n refl)
told_said told.TooLong fields line n h = let long = h.of_sort in long.not_skipped
told_said told.NoFields fields line n h = let bare = h.of_sort in bare.not_skipped
told_said told.Row fields line n h = let row = h.of_sort in row.not_skipped

pub told_skipped : (sort : LineSort) (fields : List (List ℕ)) (line : List ℕ) → sort ≡ told.Skipped → IsTold sort fields line → is_skipped line ≡ true
told_skipped told.Skipped fields line e h = h.of_sort
told_skipped told.TooLong fields line e h = cc
told_skipped told.NoFields fields line e h = cc
told_skipped told.Row fields line e h = cc

-- a refused line stays the answer
stopped_stays : (at : ℕ) (rule : GridRule) (ls : List (List ℕ)) → with_lines (Stopped at rule) ls ≡ Stopped at rule
unfolding with_lines
stopped_stays at rule [] = refl
stopped_stays at rule (line ∷ ls) = stopped_stays at rule ls

stopped_text : (text line : List ℕ) (behind : List (List ℕ)) (number : ℕ) (draft : Draft) (rule : GridRule) → (k : Continues text (line ∷ behind) number draft)
    → with_line (Rows k.rows k.device_lines number) line ≡ Stopped number rule → grid_text text ≡ IsRefusedAt number rule
unfolding grid_text with_lines
stopped_text text line behind number draft rule k stops =
    ap grid_of_reading (sym k.reading ∙ ap (λ r. with_lines r behind) stops ∙ stopped_stays number rule behind)

-- a line that is refused is the first one
pub line_refused : (text line : List ℕ) (behind : List (List ℕ)) (number : ℕ) (draft : Draft) (fault : RowFault) (at : ℕ) (rule : GridRule) → Continues text (line ∷ behind) number draft
    → ((rows : List Row) (device_lines : List ℕ) → IsDraftOf rows device_lines draft → IfBroken fault (λ broken. with_line (Rows rows device_lines number) line ≡ Stopped number broken))
    → fault_at fault number ≡ Refused at rule → grid_text text ≡ IsRefusedAt at rule
line_refused text line behind number draft (Breaks broken) at rule k stops e =
    let same : IsRefusedAt number broken ≡ IsRefusedAt at rule = cc in
    stopped_text text line behind number draft broken k (stops k.rows k.device_lines k.held) ∙ same
line_refused text line behind number draft Memory at rule k stops e = cc

rows_then : (draft : Draft) (number : ℕ) (r : Reading) → IsReadInto draft number r
    → (rows : List Row) × (device_lines : List ℕ) × (r ≡ Rows rows device_lines (number + 1)) × IsDraftOf rows device_lines draft
rows_then draft number (Rows rows device_lines next) h = (rows, device_lines, ap (Rows rows device_lines) h.0, h.1)
rows_then draft number (Stopped at rule) h = absurd h

-- after a line that is taken the others go on
pub line_taken : (text line : List ℕ) (behind : List (List ℕ)) (number : ℕ) (old new : Draft) → Continues text (line ∷ behind) number old
    → ((rows : List Row) (device_lines : List ℕ) → IsDraftOf rows device_lines old → IsReadInto new number (with_line (Rows rows device_lines number) line))
    → Continues text behind (number + 1) new
unfolding with_lines
line_taken text line behind number old new k read =
    let then = rows_then new number (with_line (Rows k.rows k.device_lines number) line) (read k.rows k.device_lines k.held) in
    record { rows = then.0; device_lines = then.1; held = then.3; reading = ap (λ r. with_lines r behind) (sym then.2) ∙ k.reading }

-- before the first line, and where nothing is left
pub none_taken : (text : List ℕ) (draft : Draft) → IsDraftOf [] [] draft → Continues text (lines text) 1 draft
none_taken text draft held = record { rows = []; device_lines = []; held = held; reading = refl }

pub all_taken : (text rest : List ℕ) (number : ℕ) (draft : Draft) → Continues text (lines rest) number draft → rest ≡ [] → IsDraftOfText text draft
unfolding with_lines lines
all_taken text rest number draft k e = record {
  rows = k.rows;
  device_lines = k.device_lines;
  next = number;
  held = k.held;
  reading = sym k.reading ∙ ap (λ left. with_lines (Rows k.rows k.device_lines number) (lines left)) e;
}

-- the lines of a block, and then those behind them
pub of_block : (text : List ℕ) (left held behind : List (List ℕ)) (number : ℕ) (draft : Draft) → left ≡ held ++ behind → Continues text left number draft
    → Continues text (held ++ behind) number draft
of_block text left held behind number draft e k = rw (← e) k

-- what a block's reader has taken into the draft: of every text, the lines that it had at first
pub record HasTaken (before now : BlockReader) (first next : ℕ) (old new : Draft) (text : List ℕ) (behind : List (List ℕ)) : Type 0 where
  pub left : List (List ℕ)
  pub are_left : AreLeft now left
  pub continues : Continues text (left ++ behind) next new

abbrev pub TakesLines : BlockReader → BlockReader → ℕ → ℕ → Draft → Draft → Type 0
TakesLines before now first next old new =
    (text : List ℕ) (held behind : List (List ℕ)) → AreLeft before held → Continues text (held ++ behind) first old → HasTaken before now first next old new text behind

pub takes_none : (reader : BlockReader) (first : ℕ) (draft : Draft) → TakesLines reader reader first first draft draft
takes_none reader first draft = λ text held behind are k. record { left = held; are_left = are; continues = k }

-- what is told of the next line
abbrev pub TellsNext : BlockReader → BlockReader → LineSort → Type 0
TellsNext now after sort = (line : List ℕ) (rest : List (List ℕ)) → AreLeft now (line ∷ rest) → IsTold sort (row_fields after) line × AreLeft after rest

pub takes_line : (before now after : BlockReader) (first number : ℕ) (old draft new : Draft) (sort : LineSort) → TakesLines before now first number old draft → (AreLeft now [] → ⊥) → TellsNext now after sort
    → ((line : List ℕ) (rows : List Row) (device_lines : List ℕ) → IsTold sort (row_fields after) line → IsDraftOf rows device_lines draft → IsReadInto new number (with_line (Rows rows device_lines number) line))
    → TakesLines before after first (number + 1) old new
takes_line before now after first number old draft new sort so_far some tells read = λ text held behind are k. go text behind (so_far text held behind are k)
  where
    goes : (text : List ℕ) (behind left : List (List ℕ)) → AreLeft now left → Continues text (left ++ behind) number draft → HasTaken before after first (number + 1) old new text behind
    goes text behind [] are k = absurd (some are)
    goes text behind (line ∷ rest) are k =
        let next = tells line rest are in
        record {
          left = rest;
          are_left = next.1;
          continues = line_taken text line (rest ++ behind) number draft new k (λ rows device_lines h. read line rows device_lines next.0 h);
        }

    go : (text : List ℕ) (behind : List (List ℕ)) → HasTaken before now first number old draft text behind → HasTaken before after first (number + 1) old new text behind
    go text behind h = goes text behind h.left h.are_left h.continues

-- a line that is refused is the first one of the text
pub block_refused : (before now after : BlockReader) (first number : ℕ) (old draft : Draft) (sort : LineSort) (fault : RowFault) → TakesLines before now first number old draft → (AreLeft now [] → ⊥) → TellsNext now after sort
    → ((line : List ℕ) (rows : List Row) (device_lines : List ℕ) → IsTold sort (row_fields after) line → IsDraftOf rows device_lines draft
    → IfBroken fault (λ rule. with_line (Rows rows device_lines number) line ≡ Stopped number rule))
    → (text : List ℕ) (held behind : List (List ℕ)) → AreLeft before held → Continues text (held ++ behind) first old
    → (at : ℕ) (rule : GridRule) → fault_at fault number ≡ Refused at rule → grid_text text ≡ IsRefusedAt at rule
block_refused before now after first number old draft sort fault so_far some tells stops text held behind are k at rule e = go (so_far text held behind are k)
  where
    goes : (left : List (List ℕ)) → AreLeft now left → Continues text (left ++ behind) number draft → grid_text text ≡ IsRefusedAt at rule
    goes [] left continues = absurd (some left)
    goes (line ∷ rest) left continues =
        let next = tells line rest left in
        line_refused text line (rest ++ behind) number draft fault at rule continues (λ rows device_lines h. stops line rows device_lines next.0 h) e

    go : HasTaken before now first number old draft text behind → grid_text text ≡ IsRefusedAt at rule
    go h = goes h.left h.are_left h.continues

-- at the end of the block the text goes on behind it
pub block_taken : (before now : BlockReader) (first next : ℕ) (old new : Draft) → TakesLines before now first next old new → ((line : List ℕ) (rest : List (List ℕ)) → AreLeft now (line ∷ rest) → ⊥)
    → (text : List ℕ) (held behind : List (List ℕ)) → AreLeft before held → Continues text (held ++ behind) first old → Continues text behind next new
block_taken before now first next old new so_far none text held behind are k = go (so_far text held behind are k)
  where
    goes : (left : List (List ℕ)) → AreLeft now left → Continues text (left ++ behind) next new → Continues text behind next new
    goes [] left continues = continues
    goes (line ∷ rest) left continues = absurd (none line rest left)

    go : HasTaken before now first next old new text behind → Continues text behind next new
    go h = goes h.left h.are_left h.continues
