use Rattle.std.proofs.Common.{◌≡◌, ◌<◌, length}
use Rattle.grid_model.specs.Network.{network_of}
use Rattle.bound_checker.specs.Chains.{is_cut_off}
use Rattle.bound_checker.specs.Claimed.{table_in, cut_in}
use Rattle.bound_checker.proofs.chains.find.Given as goal

abbrev pub invariant-up : goal.invariant-up
invariant-up l = record {
  within : l.at < length l.grid.nodes;
  same : is_cut_off (network_of l.grid) (table_in l.claims) (cut_in l.cuts) l.n ≡ is_cut_off (network_of l.grid) (table_in l.claims) (cut_in l.cuts) l.at;
}

abbrev pub decreases-up : goal.decreases-up
decreases-up l = (table_in l.claims).depth l.at
