-- What a contract sees of a traversal that is kept in flat vectors.
use Rattle.std.specs.Prelude.{◌≡◌, ◌≤◌, length, take}
use Rattle.radial_forest.specs.declared.traversal.Traversal.TheInside.{Inside}
use Rattle.radial_forest.specs.Traversed.{Traversed}

-- the reached nodes of the order, and the lists by number
abbrev pub traversed_of : Inside → Traversed
traversed_of t = record {
  order = take t.reached t.order.items;
  parents = t.parents.items;
  depths = t.depths.items;
}

-- all vectors have one entry a node, and the reached nodes stand in the first places of the order
pub record IsWholeInside (t : Inside) : Type 0 where
  pub order : length t.order.items ≡ length t.depths.items
  pub parents : length t.parents.items ≡ length t.depths.items
  pub reached : t.reached ≤ length t.order.items
