-- An order of all nodes has one place for each of them.
use Rattle.std.proofs.Common.{◌≡◌, ℕ, sym, ◌∙◌, subst, List, length, Option}
use Rattle.outage_rules.specs.Network.{Network}
use Rattle.grid_model.specs.declared.parts.NodeId.{NodeId}
use Rattle.grid_model.specs.declared.parts.DeviceId.{DeviceId}
use Rattle.radial_forest.specs.Traversed.{node_at}
use Rattle.subtree_costs.specs.Listing.{IsOrder}
use Rattle.subtree_costs.proofs.Placed.{IsPlaced, as_many}

module _ (net : Network) (parents : List (Option DeviceId)) (list : List NodeId) (count : ℕ) (order : IsOrder net parents list count) where
  pub places : IsPlaced net.nodes count (node_at list)
  places = record { within = order.within; once = order.once; all = order.all }

  -- so it fills a list with room for all nodes
  pub order_whole : length list ≡ net.nodes → IsOrder net parents list (length list)
  order_whole each = subst (IsOrder net parents list) (as_many net.nodes count (node_at list) places ∙ sym each) order
