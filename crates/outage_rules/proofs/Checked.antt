-- A table that passes the local check shows that its cut is a least one.
use Rattle.std.proofs.Common.{◌≡◌, ℕ, ◌+◌, ◌<◌, ◌≤◌, Bool, true, false, cond, refl, sym, ap, ◌∙◌, subst}
use Rattle.outage_rules.specs.Sum.{total}
use Rattle.outage_rules.specs.Network.{Problem, Cut, IsSound, is_live}
use Rattle.outage_rules.specs.Diagnosis.{cost, IsLowerBound}
use Rattle.outage_rules.specs.Certificate.{Table, lit, cost_by_table, bound_of, IsForest, IsBelowChildren, PassesCheck, IsCertified}
use Rattle.outage_rules.proofs.Sums.{total_same}
use Rattle.outage_rules.proofs.Live.{live_test, live_from_test}
use Rattle.outage_rules.proofs.Forest.{lit_from_live}
use Rattle.outage_rules.proofs.Rooted.{live_from_lit}
use Rattle.outage_rules.proofs.Certified.{bounded}

same_tests : (a b : Bool) → (a ≡ true → b ≡ true) → (b ≡ true → a ≡ true) → a ≡ b
same_tests true b f g = sym (f refl)
same_tests false true f g = g refl
same_tests false false f g = refl

pub live_is_lit : (p : Problem) (t : Table) (cut : Cut) → IsSound p → IsForest p.net t → (n : ℕ) → n < p.nodes → is_live p.net cut n ≡ lit p.net t cut n
live_is_lit p t cut sound forest n l =
    same_tests (is_live p.net cut n) (lit p.net t cut n)
    (λ e. lit_from_live p.net t cut sound.net forest n (live_from_test p.net cut n e))
    (λ e. live_test p.net cut sound.net n l (live_from_lit p.net t cut sound.net forest.rooted n l e))

pub cost_is_by_table : (p : Problem) (t : Table) (cut : Cut) → IsSound p → IsForest p.net t → cost p cut ≡ cost_by_table p t cut
cost_is_by_table p t cut sound forest =
    ap (λ x. total p.devices (λ d. cond (cut d) (p.weight d) 0) + x)
    (total_same p.nodes (λ n. cond (is_live p.net cut n) (p.dark_weight n) (p.live_weight n)) (λ n. cond (lit p.net t cut n) (p.dark_weight n) (p.live_weight n))
    (λ n l. ap (λ b. cond b (p.dark_weight n) (p.live_weight n)) (live_is_lit p t cut sound forest n l)))

pub lower_bound : (p : Problem) (t : Table) → IsSound p → IsForest p.net t → IsBelowChildren p t → IsLowerBound p (bound_of p t)
lower_bound p t sound forest rows cut feasible =
    subst (λ x. bound_of p t ≤ x) (sym (cost_is_by_table p t cut sound forest)) (bounded p t cut sound forest rows feasible)

pub certified : (p : Problem) (t : Table) (cut : Cut) (c : ℕ) → IsSound p → PassesCheck p t cut c → IsCertified p cut c
certified p t cut c sound check = record {
  feasible = check.feasible;
  cost = cost_is_by_table p t cut sound check.forest ∙ check.cut_cost;
  least = subst (IsLowerBound p) (sym check.total_cost) (lower_bound p t sound check.forest check.rows);
}
