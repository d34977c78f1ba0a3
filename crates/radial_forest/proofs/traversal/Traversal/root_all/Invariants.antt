use Rattle.std.proofs.Common.{◌≡◌, ◌<◌, ℕ, true}
use Rattle.radial_forest.specs.Spreading.{switched, is_reached, IsSettled}
use Rattle.radial_forest.proofs.traversal.Traversal.root_all.Given as goal

abbrev pub invariant-loop-n : goal.invariant-loop-n
invariant-loop-n l = record {
  settled : IsSettled (switched l.grid l.closed) l.self;
  all : (n : ℕ) → n < l.n → is_reached l.self n ≡ true;
}
