-- Laws of what a network text says.
use Rattle.std.specs.Prelude.{◌≡◌, ℕ, List}
use Rattle.grid_model.specs.Parts.{Parts}
use Rattle.grid_model.specs.Sound.{IsSoundParts}
use Rattle.grid_reader.specs.Text.{IsGrid, grid_text}

-- a network that a text says is sound: its names are distinct, its numbers within their ranges, and it is radial
abbrev pub TextIsSound : Type 0
TextIsSound = (text : List ℕ) (g : Parts) → grid_text text ≡ IsGrid g → IsSoundParts g
