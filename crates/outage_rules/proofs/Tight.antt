-- The computed table passes the local check, and its rows are at most what all reports and marked devices weigh.
use Rattle.std.proofs.Common.{◌≡◌, ℕ, zero, suc, ◌+◌, ◌<◌, ◌≤◌, Bool, true, false, cond, refl, sym, ◌∙◌, arith}
use Rattle.std.specs.Prelude.{◌&&◌}
use Rattle.std.proofs.lemmas.Bool.{false≢true}
use Rattle.outage_rules.specs.Network.{Network, Problem, IsSound, IsRadial, nothing, live_within, is_live}
use Rattle.outage_rules.specs.Diagnosis.{cost, IsFeasible}
use Rattle.outage_rules.specs.Certificate.{Table, IsForest, HasExactRows, PassesCheck, in_part, is_inside, part_of, dark_cost_of}
use Rattle.outage_rules.specs.Reference.{least_below, distance, table_of, reference_cut, greedy, least_cost}
use Rattle.outage_rules.specs.TightLaws.{whole_weight}
use Rattle.outage_rules.proofs.Sums.{total_le}
use Rattle.outage_rules.proofs.Checked.{cost_is_by_table}
use Rattle.outage_rules.proofs.Cautious.{below_from_exact, cost_is_bound}
use Rattle.outage_rules.proofs.Exists.{greedy_opens}
use Rattle.outage_rules.proofs.Computed.{exact_table, computed}
use Rattle.outage_rules.proofs.Least.{least_is_least}
use Rattle.outage_rules.proofs.Parts
use Rattle.outage_rules.proofs.DarkParts.{dark_row_is}

pub tight_passes : (p : Problem) → IsSound p → IsRadial p.net → PassesCheck p (table_of p) (reference_cut p) (least_cost p)
unfolding least_cost
tight_passes p sound radial =
    let exact = exact_table p sound radial in
    record {
      feasible = (computed p sound radial).least.feasible;
      forest = exact.0;
      rows = below_from_exact p (table_of p) exact.1;
      cut_cost = sym (cost_is_by_table p (table_of p) (reference_cut p) sound exact.0);
      total_cost = cost_is_bound p (table_of p) sound exact.0 exact.1 (greedy p (table_of p)) (greedy_opens p (table_of p) sound exact.0);
    }

-- the devices that are marked open are a feasible cut
marks_feasible : (p : Problem) → IsSound p → IsFeasible p p.marked_open
marks_feasible p sound = record {
  closed = λ d l o. (sound.marks d l o).0;
  opened = λ d l o. o;
  fine = λ d l k. unmarked (p.marked_open d) (p.marked_ok d) (λ o. (sound.marks d l o).1) k;
}
  where
    unmarked : (o k : Bool) → (o ≡ true → k ≡ false) → k ≡ true → o ≡ false
    unmarked true k h e = absurd (false≢true (sym (h refl) ∙ e))
    unmarked false k h e = refl

one_of : (b : Bool) (x y : ℕ) → cond b x y ≤ x + y
one_of true x y = omega arith
one_of false x y = omega arith

cond_less : (a b : Bool) (x : ℕ) → (a ≡ true → b ≡ true) → cond a x 0 ≤ cond b x 0
cond_less true true x h = omega arith
cond_less true false x h = absurd (false≢true (h refl))
cond_less false b x h = omega arith

some_of : (b : Bool) (x : ℕ) → cond b x 0 ≤ x
some_of true x = omega arith
some_of false x = omega arith

-- they cost at most all reports and marked devices
marks_cost : (p : Problem) → cost p p.marked_open ≤ whole_weight p
marks_cost p =
    let nodes = total_le p.nodes (λ n. cond (is_live p.net p.marked_open n) (p.dark_weight n) (p.live_weight n)) (λ n. p.dark_weight n + p.live_weight n) (λ n l. one_of (is_live p.net p.marked_open n) (p.dark_weight n) (p.live_weight n)) in
    omega arith

pub least_bounded : (p : Problem) → IsSound p → IsRadial p.net → least_cost p ≤ whole_weight p
least_bounded p sound radial =
    let a = (least_is_least p sound radial).least p.marked_open (marks_feasible p sound) in
    let b = marks_cost p in omega arith

-- a part has no more reports and marked devices than the whole
part_weight : (p : Problem) (t : Table) (r : ℕ) → whole_weight (part_of p t r) ≤ whole_weight p
part_weight p t r =
    let devices = total_le p.devices (λ d. cond (is_inside p.net t r d && p.marked_open d) (p.weight d) 0) (λ d. cond (p.marked_open d) (p.weight d) 0) (λ d l. marked (is_inside p.net t r d) (p.marked_open d) (p.weight d)) in
    let nodes = total_le p.nodes (λ n. cond (in_part p.net t r n) (p.dark_weight n) 0 + cond (in_part p.net t r n) (p.live_weight n) 0) (λ n. p.dark_weight n + p.live_weight n)
    (λ n l. let a = some_of (in_part p.net t r n) (p.dark_weight n) in let b = some_of (in_part p.net t r n) (p.live_weight n) in omega arith) in
    omega arith
  where
    marked : (a b : Bool) (x : ℕ) → cond (a && b) x 0 ≤ cond b x 0
    marked true b x = omega arith
    marked false b x = omega arith

-- what a dark part costs is part of it
dark_part : (p : Problem) (t : Table) (r : ℕ) → dark_cost_of p t r ≤ whole_weight (part_of p t r)
dark_part p t r =
    let nodes = total_le p.nodes (λ n. cond (in_part p.net t r n) (p.live_weight n) 0) (λ n. cond (in_part p.net t r n) (p.dark_weight n) 0 + cond (in_part p.net t r n) (p.live_weight n) 0) (λ n l. omega arith) in
    omega arith

pub rows_bounded : (p : Problem) (t : Table) → IsSound p → IsForest p.net t → HasExactRows p t → (n : ℕ) → n < p.nodes → t.is_listed n ≡ true → (t.live_cost n ≤ whole_weight p) × (t.dark_cost n ≤ whole_weight p)
rows_bounded p t sound forest rows n l in_table =
    let q = part_of p t n in
    let all = part_weight p t n in
    let live = (Parts.row_is_least p t sound forest n l in_table rows).least q.marked_open (marks_feasible q (Parts.part_sound p t sound forest n l in_table)) in
    let most = marks_cost q in
    let dark = dark_row_is p t sound forest n l in_table rows in
    let part = dark_part p t n in
    (omega arith, omega arith)

below_bound : (b : ℕ) (test : ℕ → Bool) → least_below b test ≤ b
below_bound zero test = omega arith
below_bound (suc b) test = at (test 0) (below_bound b (λ k. test (suc k)))
  where
    at : (c : Bool) → least_below b (λ k. test (suc k)) ≤ b → cond c 0 (suc (least_below b (λ k. test (suc k)))) ≤ suc b
    at true h = omega arith
    at false h = omega arith

pub distance_bounded : (g : Network) (n : ℕ) → distance g n ≤ g.nodes
distance_bounded g n = below_bound g.nodes (λ k. live_within g nothing k n)
