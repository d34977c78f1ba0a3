-- What a contract sees of a forest that is kept in flat vectors.
use Rattle.std.specs.Prelude.{◌≡◌, length}
use Rattle.radial_forest.specs.declared.forest.Forest.TheInside.{Inside}
use Rattle.radial_forest.specs.Forested.{Forested}

-- the flags, the parents of the traversal and the roots, by number
abbrev pub forested_of : Inside → Forested
forested_of f = record {
  closed = f.closed.items;
  parents = f.traversal.parents;
  roots = f.roots.items;
}

-- the traversal is of as many nodes as have a root
pub record HasRoomInside (f : Inside) : Type 0 where
  pub parents : length f.traversal.parents ≡ length f.roots.items
  pub depths : length f.traversal.depths ≡ length f.roots.items
