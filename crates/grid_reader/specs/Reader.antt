-- What is read of a network text.
use Rattle.std.specs.Prelude.{◌≡◌, ℕ, ◌+◌, List, []}
use Rattle.event_rules.specs.Lines.{lines}
use Rattle.grid_reader.specs.declared.row.Row.{Row}
use Rattle.grid_reader.specs.declared.draft.Draft.{Draft}
use Rattle.grid_reader.specs.Text.{Reading, Rows, Stopped, with_lines}
use Rattle.grid_reader.specs.Draft.{IsDraftOf}

-- the line of this number was taken into the draft
abbrev pub IsReadInto : Draft → ℕ → Reading → Type 0
IsReadInto draft line (Rows rows device_lines next) = (next ≡ line + 1) × IsDraftOf rows device_lines draft
IsReadInto draft line (Stopped at rule) = ⊥

-- the draft holds the whole text
pub record IsDraftOfText (text : List ℕ) (draft : Draft) : Type 0 where
  pub rows : List Row
  pub device_lines : List ℕ
  pub next : ℕ
  pub held : IsDraftOf rows device_lines draft
  pub reading : with_lines (Rows [] [] 1) (lines text) ≡ Rows rows device_lines next

-- the draft holds the lines before this number, and the text goes on with those that are left
pub record Continues (text : List ℕ) (left : List (List ℕ)) (number : ℕ) (draft : Draft) : Type 0 where
  pub rows : List Row
  pub device_lines : List ℕ
  pub held : IsDraftOf rows device_lines draft
  pub reading : with_lines (Rows rows device_lines number) left ≡ with_lines (Rows [] [] 1) (lines text)
