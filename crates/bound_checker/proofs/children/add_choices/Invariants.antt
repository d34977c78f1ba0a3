use Rattle.std.proofs.Common.{◌≡◌, ◌<◌, ◌≤◌, ◌*◌, ◌^◌, ℕ, [], length, cond, get_or}
use Rattle.outage_rules.specs.Sum.{total}
use Rattle.outage_rules.specs.Certificate.{is_child, choice}
use Rattle.grid_model.specs.Network.{network_of}
use Rattle.grid_model.specs.Problem.{problem_of}
use Rattle.bound_checker.specs.Claimed.{table_in}
use Rattle.bound_checker.proofs.children.add_choices.Given as goal

abbrev pub invariant-loop-m : goal.invariant-loop-m
invariant-loop-m l = record {
  sums : (n : ℕ) → n < length l.grid.nodes → get_or l.sums n 0 ≡ total l.m (λ m. cond (is_child (network_of l.grid) (table_in l.claims) n m) (choice (problem_of l.grid [] l.marks [] []) (table_in l.claims) m) 0);
  small : (n : ℕ) → n < length l.grid.nodes → get_or l.sums n 0 ≤ l.m * 2 ^ 65;
}
