-- A table whose rows are within bounds bounds the cost of every feasible cut.
use Rattle.std.proofs.Common.{◌≡◌, ℕ, ◌+◌, ◌<◌, ◌≤◌, min, Bool, true, false, cond, refl, sym, ap, ◌∙◌, ⊎_elim, arith}
use Rattle.std.specs.Prelude.{◌&&◌, not, ◌==◌}
use Rattle.std.proofs.lemmas.Bool.{cases_Bool, and_parts, false≢true, eqb-true, not-true}
use Rattle.outage_rules.specs.Sum.{total}
use Rattle.outage_rules.specs.Network.{Problem, Cut, IsSound}
use Rattle.outage_rules.specs.Diagnosis.{IsFeasible}
use Rattle.outage_rules.specs.Certificate.{Table, has_parent, upper, lit, choice, dark_share, is_child, cost_by_table, bound_of, IsForest, IsBelowChildren}
use Rattle.outage_rules.proofs.Sums.{total_le, total_le_same, total_zero, total_at_most_one}
use Rattle.outage_rules.proofs.Balance.{charge, pull, value, share, is_apart, allowed, accounted, lit_child, same_child, not_parent, balance}

pub cond_le : (b : Bool) (x y : ℕ) → (b ≡ true → x ≤ y) → cond b x 0 ≤ cond b y 0
cond_le true x y h = h refl
cond_le false x y h = omega arith

choice_le : (c o k : Bool) (w x y : ℕ) → (o ≡ true → c ≡ true) → (k ≡ true → c ≡ false) → cond o (w + x) (cond k y (min (w + x) y)) ≤ cond c w 0 + cond (not c) y x
choice_le true true k w x y ho hk = omega arith
choice_le true false true w x y ho hk = absurd (false≢true (sym (hk refl)))
choice_le true false false w x y ho hk = omega arith
choice_le false true k w x y ho hk = absurd (false≢true (ho refl))
choice_le false false true w x y ho hk = omega arith
choice_le false false false w x y ho hk = omega arith

dark_le : (c o : Bool) (w x : ℕ) → (o ≡ true → c ≡ true) → x + cond o w 0 ≤ cond c w 0 + x
dark_le true true w x h = omega arith
dark_le true false w x h = omega arith
dark_le false true w x h = absurd (false≢true (h refl))
dark_le false false w x h = omega arith

module _ (p : Problem) (t : Table) (cut : Cut) (sound : IsSound p) (forest : IsForest p.net t) (rows : IsBelowChildren p t) (feasible : IsFeasible p cut) where
  -- what a child adds, by the node above
  pub child_live : (n m : ℕ) → m < p.nodes → is_child p.net t n m ≡ true → lit p.net t cut n ≡ true → choice p t m ≤ share p t cut m
  child_live n m l ch on =
      let parts = and_parts (has_parent p.net t m) (upper p.net t m == n) ch in
      let h = forest.parent m l parts.0 in
      let d = t.parent m in
      let is : lit p.net t cut m ≡ not (cut d) = lit_child p t cut sound forest m l parts.0 ∙ ap (λ b. b && not (cut d)) (ap (λ x. lit p.net t cut x) (eqb-true (upper p.net t m) n parts.1) ∙ on) in
      let le = choice_le (cut d) (p.marked_open d) (p.marked_ok d) (p.weight d) (t.dark_cost m) (t.live_cost m) (feasible.opened d h.within) (feasible.fine d h.within) in
      let same = ap (λ b. cond b (t.live_cost m) (t.dark_cost m)) is in
      omega arith

  pub child_dark : (n m : ℕ) → m < p.nodes → is_child p.net t n m ≡ true → lit p.net t cut n ≡ false → dark_share p t m ≤ share p t cut m
  child_dark n m l ch off =
      let parts = and_parts (has_parent p.net t m) (upper p.net t m == n) ch in
      let h = forest.parent m l parts.0 in
      let d = t.parent m in
      let is : lit p.net t cut m ≡ false = lit_child p t cut sound forest m l parts.0 ∙ ap (λ b. b && not (cut d)) (ap (λ x. lit p.net t cut x) (eqb-true (upper p.net t m) n parts.1) ∙ off) in
      let le = dark_le (cut d) (p.marked_open d) (p.weight d) (t.dark_cost m) (feasible.opened d h.within) in
      let same = ap (λ b. cond b (t.live_cost m) (t.dark_cost m)) is in
      omega arith

  -- a row is at most the node's reports and its children's share
  pub local : (n : ℕ) → n < p.nodes → t.is_listed n ≡ true → value p t cut n ≤ pull p t cut n + total p.nodes (λ m. cond (is_child p.net t n m) (share p t cut m) 0)
  local n l in_table =
      ⊎_elim
      (λ on. let row = rows.live n l in_table in
      let kids = total_le p.nodes (λ m. cond (is_child p.net t n m) (choice p t m) 0) (λ m. cond (is_child p.net t n m) (share p t cut m) 0) (λ m lm. cond_le (is_child p.net t n m) (choice p t m) (share p t cut m) (λ ch. child_live n m lm ch on)) in
      let v = ap (λ b. cond b (t.live_cost n) (t.dark_cost n)) on in
      let u = ap (λ b. cond b (p.dark_weight n) (p.live_weight n)) on in
      omega arith)
      (λ off. let row = rows.dark n l in_table in
      let kids = total_le p.nodes (λ m. cond (is_child p.net t n m) (dark_share p t m) 0) (λ m. cond (is_child p.net t n m) (share p t cut m) 0) (λ m lm. cond_le (is_child p.net t n m) (dark_share p t m) (share p t cut m) (λ ch. child_dark n m lm ch off)) in
      let v = ap (λ b. cond b (t.live_cost n) (t.dark_cost n)) off in
      let u = ap (λ b. cond b (p.dark_weight n) (p.live_weight n)) off in
      omega arith)
      (cases_Bool (lit p.net t cut n))

  -- a device is accounted for once at most
  pub at_device : (d : ℕ) → d < p.devices → total p.nodes (λ m. cond (has_parent p.net t m && (t.parent m == d)) (charge p cut d) 0) + cond (is_apart p t d) (p.weight d) 0 ≤ charge p cut d
  at_device d l =
      ⊎_elim
      (λ a. let o = and_parts (p.marked_open d) (not (t.is_listed (p.from d)) && not (t.is_listed (p.to d))) a in
      let u = and_parts (not (t.is_listed (p.from d))) (not (t.is_listed (p.to d))) o.1 in
      let none = total_zero p.nodes (λ m. cond (has_parent p.net t m && (t.parent m == d)) (charge p cut d) 0) (λ m lm. ap (λ b. cond b (charge p cut d) 0) (not_parent p t cut sound forest m d lm (not-true (t.is_listed (p.from d)) u.0) (not-true (t.is_listed (p.to d)) u.1))) in
      let w = ap (λ b. cond b (p.weight d) 0) a in
      let c = ap (λ b. cond b (p.weight d) 0) (feasible.opened d l o.0) in
      omega arith)
      (λ a. let one = total_at_most_one p.nodes (λ m. has_parent p.net t m && (t.parent m == d)) (charge p cut d) (λ i j li lj ti tj. same_child p t cut sound forest i j d li lj ti tj) in
      let w = ap (λ b. cond b (p.weight d) 0) a in
      omega arith)
      (cases_Bool (is_apart p t d))

  each_node : (n : ℕ) → n < p.nodes → cond (t.is_listed n) (value p t cut n) 0 ≤ cond (t.is_listed n) (allowed p t cut n) 0
  each_node n l = cond_le (t.is_listed n) (value p t cut n) (allowed p t cut n) (λ e. local n l e)

  pub bounded : bound_of p t ≤ cost_by_table p t cut
  bounded =
      let nodes = total_le p.nodes (λ n. cond (t.is_listed n) (value p t cut n) 0) (λ n. cond (t.is_listed n) (allowed p t cut n) 0) each_node in
      let devices = total_le p.devices (accounted p t cut) (charge p cut) at_device in
      let sums = balance p t cut sound forest in
      omega arith

  -- where the bound is met, each node has all that it may have, and each device is accounted for
  pub tight_nodes : cost_by_table p t cut ≡ bound_of p t → (n : ℕ) → n < p.nodes → cond (t.is_listed n) (value p t cut n) 0 ≡ cond (t.is_listed n) (allowed p t cut n) 0
  tight_nodes e =
      let devices = total_le p.devices (accounted p t cut) (charge p cut) at_device in
      let nodes = total_le p.nodes (λ n. cond (t.is_listed n) (value p t cut n) 0) (λ n. cond (t.is_listed n) (allowed p t cut n) 0) each_node in
      let sums = balance p t cut sound forest in
      total_le_same p.nodes (λ n. cond (t.is_listed n) (value p t cut n) 0) (λ n. cond (t.is_listed n) (allowed p t cut n) 0) each_node (omega arith)

  pub tight_devices : cost_by_table p t cut ≡ bound_of p t → (d : ℕ) → d < p.devices → accounted p t cut d ≡ charge p cut d
  tight_devices e =
      let devices = total_le p.devices (accounted p t cut) (charge p cut) at_device in
      let nodes = total_le p.nodes (λ n. cond (t.is_listed n) (value p t cut n) 0) (λ n. cond (t.is_listed n) (allowed p t cut n) 0) each_node in
      let sums = balance p t cut sound forest in
      total_le_same p.devices (accounted p t cut) (charge p cut) at_device (omega arith)
