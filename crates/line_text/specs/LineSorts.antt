-- What a line is for a reader of fields.
use Rattle.std.specs.Prelude.{◌≡◌, ◌<◌, ◌≤◌, ℕ, true, false, List, length, nat_lt, if◌then◌else◌}
use Rattle.event_rules.specs.Lines.{is_skipped, most_line}
use Rattle.event_rules.specs.Fields.{between_commas, has_no_fields}
use Rattle.line_text.specs.declared.sorts.LineSort.{LineSort}
use Rattle.line_text.specs.declared.sorts.LineSort.TheVariants.{Skipped, TooLong, NoFields, Row}

-- a line is tried in this order
unfoldable pub sort_of : List ℕ → LineSort
sort_of line =
    if is_skipped line then Skipped
    else (if nat_lt most_line (length line) then TooLong
    else (if has_no_fields line then NoFields else Row))

-- the same said of the line
pub record IsTooLong (line : List ℕ) : Type 0 where
  pub not_skipped : is_skipped line ≡ false
  pub long : most_line < length line

pub record IsBare (line : List ℕ) : Type 0 where
  pub not_skipped : is_skipped line ≡ false
  pub short : length line ≤ most_line
  pub bare : has_no_fields line ≡ true

pub record IsRow (line : List ℕ) : Type 0 where
  pub not_skipped : is_skipped line ≡ false
  pub short : length line ≤ most_line
  pub has_fields : has_no_fields line ≡ false

abbrev pub IsOfSort : LineSort → List ℕ → Type 0
IsOfSort Skipped line = is_skipped line ≡ true
IsOfSort TooLong line = IsTooLong line
IsOfSort NoFields line = IsBare line
IsOfSort Row line = IsRow line

-- what is told of a line: its sort, and where it is a row the fields between its commas
pub record IsTold (sort : LineSort) (fields : List (List ℕ)) (line : List ℕ) : Type 0 where
  pub of_sort : IsOfSort sort line
  pub between : sort ≡ Row → fields ≡ between_commas line
