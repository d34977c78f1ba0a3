use Rattle.std.proofs.Common.{◌≡◌, ◌≤◌, ◌*◌, ◌^◌, cond, get_or}
use Rattle.outage_rules.specs.Sum.{total}
use Rattle.outage_rules.specs.Certificate.{lit}
use Rattle.grid_model.specs.Network.{network_of}
use Rattle.bound_checker.specs.Chains.{AreRight}
use Rattle.bound_checker.specs.Claimed.{table_in, cut_in}
use Rattle.bound_checker.proofs.costs.contradicted.Given as goal

abbrev pub invariant-loop-n : goal.invariant-loop-n
invariant-loop-n l = record {
  value : l.sum ≡ total l.n (λ n. cond (lit (network_of l.grid) (table_in l.claims) (cut_in l.cuts) n) (get_or l.dark n 0) (get_or l.live n 0));
  small : l.sum ≤ l.n * 2 ^ 64;
  right : AreRight (network_of l.grid) (table_in l.claims) (cut_in l.cuts) l.known;
}
