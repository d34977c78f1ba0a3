-- Laws of lines, decimals and times.
use Rattle.std.specs.Prelude.{◌≡◌, ℕ, ◌^◌, ◌<◌, ◌≤◌, ◌==◌, false, List, ◌++◌, Some, decimal}
use Rattle.std.specs.List.{list_any}
use Rattle.event_rules.specs.Lines.{lines}
use Rattle.event_rules.specs.Decimals.{decimal_within}
use Rattle.event_rules.specs.Stamps.{stamp_of}
use Rattle.line_text.specs.Cutting.{lines_from}

-- a text is cut byte by byte into its lines, also from the middle of a line on
abbrev pub LinesFromParts : Type 0
LinesFromParts = (part rest : List ℕ) → list_any (λ b. b == 10) part ≡ false → lines_from part rest ≡ lines (part ++ rest)

-- a number is read as it was printed
abbrev pub DecimalIsRead : Type 0
DecimalIsRead = (n most : ℕ) → n ≤ most → most < 2 ^ 64 → decimal_within 0 most (decimal n) ≡ Some n

-- a text that is read as a number is what is printed of it, so that each number has one spelling
abbrev pub DecimalHasOneSpelling : Type 0
DecimalHasOneSpelling = (text : List ℕ) (n most : ℕ) → most < 2 ^ 64 → decimal_within 0 most text ≡ Some n → text ≡ decimal n

-- two texts that are read as the same second are equal, so that each second has one spelling
abbrev pub StampHasOneSpelling : Type 0
StampHasOneSpelling = (text other : List ℕ) (at : ℕ) → stamp_of text ≡ Some at → stamp_of other ≡ Some at → text ≡ other
