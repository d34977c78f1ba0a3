-- The least cost is one number.
use Rattle.std.proofs.Common.{◌≡◌, ℕ, ◌≤◌, Bool, true, false, cond, refl, sym, ◌∙◌, subst, arith}
use Rattle.std.proofs.lemmas.Bool.{false≢true}
use Rattle.outage_rules.specs.Network.{Problem, nothing, IsSound, IsRadial, is_live}
use Rattle.outage_rules.specs.Diagnosis.{cost, IsLeastCost, HasOnlyDarkReports}
use Rattle.outage_rules.specs.Reference.{reference_cut, least_cost}
use Rattle.outage_rules.proofs.Sums.{total_zero}
use Rattle.outage_rules.proofs.Computed.{computed}

-- each is at most the cost of the cut that attains the other
pub one_least : (p : Problem) (a b : ℕ) → IsLeastCost p a → IsLeastCost p b → a ≡ b
one_least p a b u v =
    let x : a ≤ b = subst (λ c. a ≤ c) v.attained.2 (u.least v.attained.0 v.attained.1) in
    let y : b ≤ a = subst (λ c. b ≤ c) u.attained.2 (v.least u.attained.0 u.attained.1) in
    omega arith

pub least_is_least : (p : Problem) → IsSound p → IsRadial p.net → IsLeastCost p (least_cost p)
unfolding least_cost
least_is_least p sound radial =
    let least = (computed p sound radial).least in
    record { attained = (reference_cut p, least.feasible, refl); least = least.least }

-- the empty cut costs nothing where nothing is reported
pub nothing_costs : (p : Problem) → HasOnlyDarkReports p → ((n : ℕ) → p.dark_weight n ≡ 0) → IsLeastCost p 0
nothing_costs p only_dark none = record {
  attained = (
    nothing,
    record {
      closed = λ d l e. absurd (false≢true e);
      opened = λ d l e. absurd (false≢true (sym (only_dark.unmarked d) ∙ e));
      fine = λ d l e. refl;
    },
    costs,
  );
  least = λ cut feasible. omega arith;
}
  where
    either : (b : Bool) (x y : ℕ) → x ≡ 0 → y ≡ 0 → cond b x y ≡ 0
    either true x y e f = e
    either false x y e f = f

    costs : cost p nothing ≡ 0
    costs =
        let devices = total_zero p.devices (λ d. 0) (λ d l. refl) in
        let reports = total_zero p.nodes (λ n. cond (is_live p.net nothing n) (p.dark_weight n) (p.live_weight n)) (λ n l. either (is_live p.net nothing n) (p.dark_weight n) (p.live_weight n) (none n) (only_dark.no_live n)) in
        omega arith
