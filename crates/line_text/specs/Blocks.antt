-- A block of lines.
use Rattle.std.specs.Prelude.{◌≡◌, ◌≤◌, ◌+◌, ℕ, List, [], ◌∷◌, ◌++◌, length, map}
use Rattle.event_rules.specs.Lines.{lines}
use Rattle.line_text.specs.LineSorts.{sort_of}
use Rattle.line_text.specs.declared.sorts.LineSort.{LineSort}
use Rattle.line_text.specs.declared.sorts.LineSort.TheVariants.{Skipped, TooLong, NoFields, Row}

-- what a block keeps of its lines: what each is, and the text of those with fields
pub record Kept : Type 0 where
  pub sorts : List LineSort
  pub text : List ℕ

-- a line with fields is kept with an LF behind it, and of the others no byte is
abbrev pub kept_as : LineSort → List ℕ → List ℕ
kept_as Skipped line = []
kept_as TooLong line = []
kept_as NoFields line = []
kept_as Row line = line ++ 10 ∷ []

unfoldable pub kept_text : List (List ℕ) → List ℕ
kept_text [] = []
kept_text (line ∷ rest) = kept_as (sort_of line) line ++ kept_text rest

-- a block holds these lines, in their order
pub record HoldsLines (block : Kept) (held : List (List ℕ)) : Type 0 where
  pub sorts : block.sorts ≡ map sort_of held
  pub text : block.text ≡ kept_text held

-- a block holds the first lines of a text, up to what stands behind them
pub record HoldsFirst (block : Kept) (text behind : List ℕ) : Type 0 where
  pub held : List (List ℕ)
  pub holds : HoldsLines block held
  pub first : lines text ≡ held ++ lines behind
  pub few : length held + length behind ≤ length text
