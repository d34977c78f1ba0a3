-- The row of a line, step by step.
use Rattle.std.proofs.Common.{◌≡◌, ◌≢◌, ℕ, ◌<◌, ◌≤◌, Bool, true, false, cond, ◌&&◌, not, nat_le, List, length, Option, None, Ok, Err, refl, ap, sym, ◌∙◌}
use Rattle.std.proofs.lemmas.Bool.{le-leb, lt-leb}
use Rattle.event_rules.specs.Fields.{between_commas, has_no_fields}
use Rattle.line_text.specs.LineSorts.{IsTold}
use Rattle.line_text.specs.declared.sorts.LineSort.{LineSort}
use Rattle.line_text.specs.declared.sorts.LineSort.TheVariants as told
use Rattle.grid_reader.specs.declared.row.Row.{Row}
use Rattle.grid_reader.specs.declared.fault.GridRule.{GridRule}
use Rattle.grid_reader.specs.declared.fault.GridRule.TheVariants.{BadRow}
use Rattle.grid_reader.specs.Shapes.{Shape, shape_of, shape_of_fields}
use Rattle.grid_reader.specs.Rows.{RowReading, IsRow, Breaks, row_of, row_of_shape}
use Rattle.grid_reader.specs.RowResult.{as_result}

long_is_shapeless : (short bare : Bool) (shape : Option Shape) → short ≡ false → row_of_shape (cond (short && not bare) shape None) ≡ Breaks BadRow
long_is_shapeless true bare shape e = cc
long_is_shapeless false bare shape e = refl

bare_is_shapeless : (short bare : Bool) (shape : Option Shape) → bare ≡ true → row_of_shape (cond (short && not bare) shape None) ≡ Breaks BadRow
bare_is_shapeless true true shape e = refl
bare_is_shapeless true false shape e = cc
bare_is_shapeless false bare shape e = refl

shaped : (short bare : Bool) (shape : Option Shape) → short ≡ true → bare ≡ false → cond (short && not bare) shape None ≡ shape
shaped true true shape s b = cc
shaped true false shape s b = refl
shaped false bare shape s b = cc

-- a line that is too long
long_line : (line : List ℕ) → 512 < length line → row_of line ≡ Breaks BadRow
unfolding row_of shape_of
long_line line l = long_is_shapeless (nat_le (length line) 512) (has_no_fields line) (shape_of_fields (between_commas line)) (lt-leb (length line) 512 l)

-- a line without fields
bare_line : (line : List ℕ) → has_no_fields line ≡ true → row_of line ≡ Breaks BadRow
unfolding row_of shape_of
bare_line line e = bare_is_shapeless (nat_le (length line) 512) (has_no_fields line) (shape_of_fields (between_commas line)) e

-- any other line is of the shape of its fields
line_of_shape : (line : List ℕ) → length line ≤ 512 → has_no_fields line ≡ false → row_of line ≡ row_of_shape (shape_of_fields (between_commas line))
unfolding row_of shape_of
line_of_shape line l e = ap row_of_shape (shaped (nat_le (length line) 512) (has_no_fields line) (shape_of_fields (between_commas line)) (le-leb (length line) 512 l) e)

-- what a result says of the reading
pub row_read : (reading : RowReading) (row : Row) → Ok row ≡ as_result reading → reading ≡ IsRow row
row_read (IsRow other) row e = cc
row_read (Breaks rule) row e = cc

pub rule_broken : (reading : RowReading) (rule : GridRule) → Err rule ≡ as_result reading → reading ≡ Breaks rule
rule_broken (IsRow row) rule e = cc
rule_broken (Breaks other) rule e = cc

-- a line that isn't skipped, by what is told of it
pub row_told : (line : List ℕ) (fields : List (List ℕ)) → IsTold told.Row fields line → row_of line ≡ row_of_shape (shape_of_fields fields)
row_told line fields h =
    let row = h.of_sort in
    line_of_shape line row.short row.has_fields ∙ ap (λ fields. row_of_shape (shape_of_fields fields)) (sym (h.between refl))

pub no_row_told : (sort : LineSort) (line : List ℕ) (fields : List (List ℕ)) → (sort ≡ told.Row → ⊥) → sort ≢ told.Skipped → IsTold sort fields line → Err BadRow ≡ as_result (row_of line)
no_row_told told.Skipped line fields n s h = absurd (s refl)
no_row_told told.TooLong line fields n s h = let long = h.of_sort in ap as_result (sym (long_line line long.long))
no_row_told told.NoFields line fields n s h = let bare = h.of_sort in ap as_result (sym (bare_line line bare.bare))
no_row_told told.Row line fields n s h = absurd (n refl)
