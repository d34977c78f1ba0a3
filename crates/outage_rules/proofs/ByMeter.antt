-- The cost by meters is the cost by nodes.
use Rattle.std.proofs.Common.{◌≡◌, ℕ, ◌<◌, Bool, true, false, cond, refl, sym, ap, ◌∙◌}
use Rattle.std.specs.Prelude.{◌==◌}
use Rattle.std.proofs.lemmas.Bool.{eq-eqb, ne_eqb}
use Rattle.outage_rules.specs.Sum.{total}
use Rattle.outage_rules.specs.Network.{Problem, Cut, is_live}
use Rattle.outage_rules.specs.Meters.{Reports, at_node, contradicted}
use Rattle.outage_rules.proofs.Sums.{total_same, total_swap, total_one}

pub by_node : (p : Problem) (r : Reports) (cut : Cut) → ((m : ℕ) → m < r.meters → r.node m < p.nodes)
    → total p.nodes (λ n. cond (is_live p.net cut n) (at_node r r.dark n) (at_node r r.live n)) ≡ contradicted p r cut
by_node p r cut within =
    total_same p.nodes (λ n. cond (is_live p.net cut n) (at_node r r.dark n) (at_node r r.live n)) (λ n. total r.meters (λ m. cond (r.node m == n) (cond (is_live p.net cut n) (r.dark m) (r.live m)) 0)) (λ n l. inside (is_live p.net cut n) n)
    ∙ total_swap p.nodes r.meters (λ n m. cond (r.node m == n) (cond (is_live p.net cut n) (r.dark m) (r.live m)) 0)
    ∙ total_same r.meters (λ m. total p.nodes (λ n. cond (r.node m == n) (cond (is_live p.net cut n) (r.dark m) (r.live m)) 0)) (λ m. cond (is_live p.net cut (r.node m)) (r.dark m) (r.live m)) (λ m l.
    total_one p.nodes (λ n. cond (r.node m == n) (cond (is_live p.net cut n) (r.dark m) (r.live m)) 0) (r.node m) (within m l) (λ n ln ne. ap (λ b. cond b (cond (is_live p.net cut n) (r.dark m) (r.live m)) 0) (ne_eqb (r.node m) n (λ e. ne (sym e))))
    ∙ ap (λ b. cond b (cond (is_live p.net cut (r.node m)) (r.dark m) (r.live m)) 0) (eq-eqb (r.node m) (r.node m) refl))
  where
    inside : (b : Bool) (n : ℕ) → cond b (at_node r r.dark n) (at_node r r.live n) ≡ total r.meters (λ m. cond (r.node m == n) (cond b (r.dark m) (r.live m)) 0)
    inside true n = refl
    inside false n = refl
