-- The row of five texts that are in order.
use Rattle.std.proofs.Common.{◌≡◌, true, ℕ, List, [], ◌∷◌, Option, Some, refl}
use Rattle.grid_model.specs.Parts.{Parts}
use Rattle.grid_model.specs.Name.{is_name}
use Rattle.event_rules.specs.Decimals.{decimal_within}
use Rattle.bound_table.specs.Sound.{most_cost, most_depth}
use Rattle.bound_table.specs.BoundLines.{is_parent, node_of, parent_of, row_of, row_with}
use Rattle.bound_table.specs.Parents.{parent_named}

pub row_of-read : (g : Parts) (node parent depth live dark : List ℕ) (name : Option (List ℕ)) (d l k : ℕ) → is_name node ≡ true → is_parent parent ≡ true → parent_of g parent ≡ parent_named g name → decimal_within 0 most_depth depth ≡ Some d → decimal_within 0 most_cost live ≡ Some l → decimal_within 0 most_cost dark ≡ Some k → row_with (node_of g node) (parent_named g name) d l k ≡ row_of g (node ∷ parent ∷ depth ∷ live ∷ dark ∷ [])
row_of-read g node parent depth live dark name d l k hn hp p hd hl hk = rw (hn, hp, hd, hl, hk, p) refl
