-- What a contract sees of the costs that are kept in flat vectors.
use Rattle.subtree_costs.specs.declared.costs.CostForest.TheInside.{Inside}
use Rattle.subtree_costs.specs.Costed.{Costed}

abbrev pub costed_of : Inside → Costed
costed_of c = record {
  forest = c.forest;
  marks = c.marks.items;
  dark = c.dark.items;
  live = c.live.items;
  rows = c.rows;
  total = c.total;
  order = c.order.items;
}
