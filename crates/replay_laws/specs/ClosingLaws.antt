-- What holds of each network that a text says: what a reader of the output knows, and what its bounds show.
use Rattle.std.specs.Prelude.{◌≡◌, ℕ, List}
use Rattle.grid_model.specs.Parts.{Parts}
use Rattle.grid_model.specs.Sound.{IsSoundParts}
use Rattle.grid_reader.specs.Text.{IsGrid, grid_text}
use Rattle.run_rules.specs.Closing.{ShowsCost, IsToldAfter, IsToldThroughout, ShowsBounds}

-- the printed cost is the least cost
abbrev pub CostIsPrinted : Type 0
CostIsPrinted = (g : Parts) → IsSoundParts g → ShowsCost g

-- after any lines of events the printed rows tell the diagnosis and the least cost
abbrev pub LinesAreTold : Type 0
LinesAreTold = (text : List ℕ) (g : Parts) (front : List (List ℕ)) → grid_text text ≡ IsGrid g → IsToldAfter g front

-- so they do after each front of the lines of an event text
abbrev pub RunIsTold : Type 0
RunIsTold = (text : List ℕ) (g : Parts) (events : List ℕ) → grid_text text ≡ IsGrid g → IsToldThroughout g events

-- the bounds show that no feasible set costs less
abbrev pub BoundsAreShown : Type 0
BoundsAreShown = (text : List ℕ) (g : Parts) (events : List ℕ) → grid_text text ≡ IsGrid g → ShowsBounds g events
