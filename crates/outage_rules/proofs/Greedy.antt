-- A cut that opens where that costs less, by exact rows, meets the bound.
use Rattle.std.proofs.Common.{◌≡◌, ℕ, ◌+◌, ◌<◌, ◌≤◌, min, Bool, true, false, cond, refl, sym, ap, ◌∙◌, ⊎_elim, arith}
use Rattle.std.specs.Prelude.{◌||◌, ◌&&◌, not, ◌==◌, nat_lt}
use Rattle.std.proofs.lemmas.Bool.{cases_Bool, and_from, and_parts, and_left, and_right, or_left, false≢true, eq-eqb, eqb-true, not_from_false, not_from_true, false_from_ne_true, ltb-true, ltb-false}
use Rattle.outage_rules.specs.Network.{Problem, Cut, IsSound}
use Rattle.outage_rules.specs.Diagnosis.{IsFeasible}
use Rattle.outage_rules.specs.Certificate.{Table, has_parent, upper, lit, choice, dark_share, is_child, is_cheaper_open, cost_by_table, bound_of, IsForest, HasExactRows, OpensWhereCheaper}
use Rattle.outage_rules.proofs.Sums.{total_same, total_zero, total_one}
use Rattle.outage_rules.proofs.Balance.{charge, value, share, is_apart, allowed, accounted, lit_child, not_parent, same_child, balance, cond_zero, and_true}

cond_same : (b : Bool) (x y : ℕ) → (b ≡ true → x ≡ y) → cond b x 0 ≡ cond b y 0
cond_same true x y h = h refl
cond_same false x y h = refl

-- the choice at a child of a live node
choice_is : (c o k lt : Bool) (w x y : ℕ) → c ≡ (o || (not k && lt)) → (o ≡ true → k ≡ false) → (lt ≡ true → w + x < y) → (lt ≡ false → y ≤ w + x) → cond o (w + x) (cond k y (min (w + x) y)) ≡ cond c w 0 + cond (not c) y x
choice_is c true k lt w x y e h f g = let a = ap (λ b. cond b w 0 + cond (not b) y x) e in omega arith
choice_is c false true lt w x y e h f g = let a = ap (λ b. cond b w 0 + cond (not b) y x) e in omega arith
choice_is c false false true w x y e h f g = let a = ap (λ b. cond b w 0 + cond (not b) y x) e in let l = f refl in omega arith
choice_is c false false false w x y e h f g = let a = ap (λ b. cond b w 0 + cond (not b) y x) e in let l = g refl in omega arith

module _ (p : Problem) (t : Table) (cut : Cut) (sound : IsSound p) (forest : IsForest p.net t) (opens : OpensWhereCheaper p t cut) where
  pub feasible : IsFeasible p cut
  feasible = record {
    closed = λ d l c. ⊎_elim (λ e. e) (λ e. absurd (false≢true (sym (opens.open_ones d l e) ∙ c))) (cases_Bool (p.is_closed d));
    opened = λ d l o. ⊎_elim
        (λ s. sym (ap cut s.3) ∙ opens.below s.0 s.1 s.2 ∙ or_left (p.marked_open (t.parent s.0)) _ (ap p.marked_open s.3 ∙ o))
        (λ u. opens.apart d l (sound.marks d l o).0 u.0 u.1 ∙ o)
        (forest.stray d l (sound.marks d l o).0);
    fine = λ d l k. ⊎_elim
        (λ e. ⊎_elim
        (λ s. sym (ap cut s.3) ∙ opens.below s.0 s.1 s.2 ∙ kept (p.marked_open (t.parent s.0)) (p.marked_ok (t.parent s.0)) (lit p.net t cut (upper p.net t s.0)) _ (ap p.marked_open s.3 ∙ unmarked d l k) (ap p.marked_ok s.3 ∙ k))
        (λ u. opens.apart d l e u.0 u.1 ∙ unmarked d l k)
        (forest.stray d l e))
        (λ e. opens.open_ones d l e)
        (cases_Bool (p.is_closed d));
  }
    where
      unmarked : (d : ℕ) → d < p.devices → p.marked_ok d ≡ true → p.marked_open d ≡ false
      unmarked d l k = false_from_ne_true (p.marked_open d) (λ o. false≢true (sym (sound.marks d l o).1 ∙ k))

      kept : (o k on x : Bool) → o ≡ false → k ≡ true → (o || (on && (not k && x))) ≡ false
      kept o k on x f g = ap (λ b. b || (on && (not k && x))) f ∙ ap (λ b. on && (not b && x)) g ∙ and_right on false refl

  module _ (rows : HasExactRows p t) where
    -- each node has all that it may have
    node_is : (n : ℕ) → n < p.nodes → t.is_listed n ≡ true → value p t cut n ≡ allowed p t cut n
    node_is n l in_table =
        ⊎_elim
        (λ on. let row = rows.live n l in_table in
        let kids = total_same p.nodes (λ m. cond (is_child p.net t n m) (choice p t m) 0) (λ m. cond (is_child p.net t n m) (share p t cut m) 0) (λ m lm. cond_same (is_child p.net t n m) (choice p t m) (share p t cut m) (λ ch. on_live m lm ch on)) in
        let v = ap (λ b. cond b (t.live_cost n) (t.dark_cost n)) on in
        let u = ap (λ b. cond b (p.dark_weight n) (p.live_weight n)) on in
        omega arith)
        (λ off. let row = rows.dark n l in_table in
        let kids = total_same p.nodes (λ m. cond (is_child p.net t n m) (dark_share p t m) 0) (λ m. cond (is_child p.net t n m) (share p t cut m) 0) (λ m lm. cond_same (is_child p.net t n m) (dark_share p t m) (share p t cut m) (λ ch. on_dark m lm ch off)) in
        let v = ap (λ b. cond b (t.live_cost n) (t.dark_cost n)) off in
        let u = ap (λ b. cond b (p.dark_weight n) (p.live_weight n)) off in
        omega arith)
        (cases_Bool (lit p.net t cut n))
      where
        on_live : (m : ℕ) → m < p.nodes → is_child p.net t n m ≡ true → lit p.net t cut n ≡ true → choice p t m ≡ share p t cut m
        on_live m lm ch on =
            let parts = and_parts (has_parent p.net t m) (upper p.net t m == n) ch in
            let h = forest.parent m lm parts.0 in
            let d = t.parent m in
            let up : lit p.net t cut (upper p.net t m) ≡ true = ap (λ x. lit p.net t cut x) (eqb-true (upper p.net t m) n parts.1) ∙ on in
            let is : lit p.net t cut m ≡ not (cut d) = lit_child p t cut sound forest m lm parts.0 ∙ ap (λ b. b && not (cut d)) up in
            let c = opens.below m lm parts.0 ∙ ap (λ b. p.marked_open d || (b && is_cheaper_open p t m)) up in
            let e = choice_is (cut d) (p.marked_open d) (p.marked_ok d) (nat_lt (p.weight d + t.dark_cost m) (t.live_cost m)) (p.weight d) (t.dark_cost m) (t.live_cost m) c (λ o. (sound.marks d h.within o).1) (ltb-true (p.weight d + t.dark_cost m) (t.live_cost m)) (ltb-false (p.weight d + t.dark_cost m) (t.live_cost m)) in
            let same = ap (λ b. cond b (t.live_cost m) (t.dark_cost m)) is in
            omega arith

        on_dark : (m : ℕ) → m < p.nodes → is_child p.net t n m ≡ true → lit p.net t cut n ≡ false → dark_share p t m ≡ share p t cut m
        on_dark m lm ch off =
            let parts = and_parts (has_parent p.net t m) (upper p.net t m == n) ch in
            let d = t.parent m in
            let up : lit p.net t cut (upper p.net t m) ≡ false = ap (λ x. lit p.net t cut x) (eqb-true (upper p.net t m) n parts.1) ∙ off in
            let is : lit p.net t cut m ≡ false = lit_child p t cut sound forest m lm parts.0 ∙ ap (λ b. b && not (cut d)) up in
            let c : cut d ≡ p.marked_open d = opens.below m lm parts.0 ∙ ap (λ b. p.marked_open d || (b && is_cheaper_open p t m)) up ∙ or_false (p.marked_open d) in
            let e = ap (λ b. cond b (p.weight d) 0) c in
            let same = ap (λ b. cond b (t.live_cost m) (t.dark_cost m)) is in
            omega arith
          where
            or_false : (b : Bool) → (b || false) ≡ b
            or_false true = refl
            or_false false = refl

    -- each device is accounted for
    device_is : (d : ℕ) → d < p.devices → accounted p t cut d ≡ charge p cut d
    device_is d l =
        ⊎_elim
        (λ e. ⊎_elim (λ s. at_parent s.0 s.1 s.2 s.3) (λ u. at_apart e u.0 u.1) (forest.stray d l e))
        (λ e. at_open e)
        (cases_Bool (p.is_closed d))
      where
        term_is_0 : (m : ℕ) → (has_parent p.net t m && (t.parent m == d)) ≡ false → cond (has_parent p.net t m && (t.parent m == d)) (charge p cut d) 0 ≡ 0
        term_is_0 m e = ap (λ b. cond b (charge p cut d) 0) e

        at_open : p.is_closed d ≡ false → accounted p t cut d ≡ charge p cut d
        at_open e =
            let none : charge p cut d ≡ 0 = ap (λ b. cond b (p.weight d) 0) (opens.open_ones d l e) in
            let sums = total_zero p.nodes (λ m. cond (has_parent p.net t m && (t.parent m == d)) (charge p cut d) 0) (λ m lm. ap (λ x. cond (has_parent p.net t m && (t.parent m == d)) x 0) none ∙ cond_zero (has_parent p.net t m && (t.parent m == d))) in
            let unmarked : p.marked_open d ≡ false = false_from_ne_true (p.marked_open d) (λ o. false≢true (sym e ∙ (sound.marks d l o).0)) in
            let apart : cond (is_apart p t d) (p.weight d) 0 ≡ 0 = ap (λ b. cond b (p.weight d) 0) (and_left (p.marked_open d) (not (t.is_listed (p.from d)) && not (t.is_listed (p.to d))) unmarked) in
            omega arith

        at_apart : p.is_closed d ≡ true → t.is_listed (p.from d) ≡ false → t.is_listed (p.to d) ≡ false → accounted p t cut d ≡ charge p cut d
        at_apart e f g =
            let sums = total_zero p.nodes (λ m. cond (has_parent p.net t m && (t.parent m == d)) (charge p cut d) 0) (λ m lm. term_is_0 m (not_parent p t cut sound forest m d lm f g)) in
            let is : is_apart p t d ≡ cut d = ap (λ b. p.marked_open d && b) (and_from (not (t.is_listed (p.from d))) (not (t.is_listed (p.to d))) (not_from_false (t.is_listed (p.from d)) f) (not_from_false (t.is_listed (p.to d)) g)) ∙ and_true (p.marked_open d) ∙ sym (opens.apart d l e f g) in
            let same = ap (λ b. cond b (p.weight d) 0) is in
            omega arith

        at_parent : (m : ℕ) → m < p.nodes → has_parent p.net t m ≡ true → t.parent m ≡ d → accounted p t cut d ≡ charge p cut d
        at_parent m lm hp e =
            let h = forest.parent m lm hp in
            let here = and_from (has_parent p.net t m) (t.parent m == d) hp (eq-eqb (t.parent m) d e) in
            let sums = total_one p.nodes (λ k. cond (has_parent p.net t k && (t.parent k == d)) (charge p cut d) 0) m lm (λ k lk ne. term_is_0 k (false_from_ne_true (has_parent p.net t k && (t.parent k == d)) (λ b. ne (same_child p t cut sound forest k m d lk lm b here)))) in
            let term = ap (λ b. cond b (charge p cut d) 0) here in
            let in_table = (and_parts (t.is_listed m) (not (p.is_source m)) hp).0 in
            let end : (not (t.is_listed (p.from d)) && not (t.is_listed (p.to d))) ≡ false = ⊎_elim
            (λ x. and_left (not (t.is_listed (p.from d))) (not (t.is_listed (p.to d))) (not_from_true (t.is_listed (p.from d)) (ap t.is_listed (ap p.from (sym e) ∙ x) ∙ in_table)))
            (λ x. and_right (not (t.is_listed (p.from d))) (not (t.is_listed (p.to d))) (not_from_true (t.is_listed (p.to d)) (ap t.is_listed (ap p.to (sym e) ∙ x) ∙ in_table)))
            h.ends in
            let apart : cond (is_apart p t d) (p.weight d) 0 ≡ 0 = ap (λ b. cond b (p.weight d) 0) (and_right (p.marked_open d) (not (t.is_listed (p.from d)) && not (t.is_listed (p.to d))) end) in
            omega arith

    pub met : cost_by_table p t cut ≡ bound_of p t
    met =
        let nodes = total_same p.nodes (λ n. cond (t.is_listed n) (value p t cut n) 0) (λ n. cond (t.is_listed n) (allowed p t cut n) 0) (λ n l. cond_same (t.is_listed n) (value p t cut n) (allowed p t cut n) (node_is n l)) in
        let devices = total_same p.devices (accounted p t cut) (charge p cut) device_is in
        let sums = balance p t cut sound forest in
        omega arith
