-- The cut that opens where that costs less is the diagnosis, and the only one.
use Rattle.std.proofs.Common.{◌≡◌, ℕ, zero, suc, ◌+◌, ◌<◌, min, Bool, true, false, cond, refl, sym, ap, ◌∙◌, subst, ⊎_elim, arith}
use Rattle.std.specs.Prelude.{◌||◌, ◌&&◌, not, ◌==◌, nat_lt}
use Rattle.std.proofs.lemmas.Bool.{cases_Bool, and_from, and_parts, and_left, and_right, or_left, or_right, or_cases, or_from, false≢true, eq-eqb, not-true, not_from_false, not_from_true, false_from_ne_true, ltb-true}
use Rattle.outage_rules.specs.Network.{Problem, Cut, IsSound, is_live}
use Rattle.outage_rules.specs.Diagnosis.{cost, IsFeasible, IsLowerBound, IsLeast, IsDiagnosis}
use Rattle.outage_rules.specs.Certificate.{Table, has_parent, upper, cut_above, lit, choice, dark_share, is_child, is_cheaper_open, cost_by_table, bound_of, IsForest, IsBelowChildren, HasExactRows, OpensWhereCheaper}
use Rattle.outage_rules.proofs.Sums.{total_zero, total_le, total_le_same}
use Rattle.outage_rules.proofs.Balance.{charge, value, share, is_apart, allowed, lit_child, lit_source, not_parent}
use Rattle.outage_rules.proofs.Certified.{cond_le, child_live, child_dark, tight_nodes, tight_devices}
use Rattle.outage_rules.proofs.Rooted.{up_within}
use Rattle.outage_rules.proofs.Checked.{live_is_lit, cost_is_by_table, lower_bound}
use Rattle.outage_rules.proofs.Greedy

pub below_from_exact : (p : Problem) (t : Table) → HasExactRows p t → IsBelowChildren p t
below_from_exact p t rows = record {
  live = λ n l e. let r = rows.live n l e in omega arith;
  dark = λ n l e. let r = rows.dark n l e in omega arith;
}

cond_true_same : (b : Bool) (x y : ℕ) → b ≡ true → cond b x 0 ≡ cond b y 0 → x ≡ y
cond_true_same true x y e h = h
cond_true_same false x y e h = absurd (false≢true e)

-- a cut that meets the bound
module _ (p : Problem) (t : Table) (cut : Cut) (sound : IsSound p) (forest : IsForest p.net t) (rows : IsBelowChildren p t) (feasible : IsFeasible p cut) (meets : cost_by_table p t cut ≡ bound_of p t) where
  tight_live : (n m : ℕ) → n < p.nodes → m < p.nodes → t.is_listed n ≡ true → is_child p.net t n m ≡ true → lit p.net t cut n ≡ true → choice p t m ≡ share p t cut m
  tight_live n m l lm in_table ch on =
      let row = rows.live n l in_table in
      let all = cond_true_same (t.is_listed n) (value p t cut n) (allowed p t cut n) in_table (tight_nodes p t cut sound forest rows feasible meets n l) in
      let v = ap (λ b. cond b (t.live_cost n) (t.dark_cost n)) on in
      let u = ap (λ b. cond b (p.dark_weight n) (p.live_weight n)) on in
      let each = λ (k : ℕ) (lk : k < p.nodes). cond_le (is_child p.net t n k) (choice p t k) (share p t cut k) (λ c. child_live p t cut sound forest rows feasible n k lk c on) in
      let kids = total_le p.nodes (λ k. cond (is_child p.net t n k) (choice p t k) 0) (λ k. cond (is_child p.net t n k) (share p t cut k) 0) each in
      cond_true_same (is_child p.net t n m) (choice p t m) (share p t cut m) ch
      (total_le_same p.nodes (λ k. cond (is_child p.net t n k) (choice p t k) 0) (λ k. cond (is_child p.net t n k) (share p t cut k) 0) each (omega arith) m lm)

  tight_dark : (n m : ℕ) → n < p.nodes → m < p.nodes → t.is_listed n ≡ true → is_child p.net t n m ≡ true → lit p.net t cut n ≡ false → dark_share p t m ≡ share p t cut m
  tight_dark n m l lm in_table ch off =
      let row = rows.dark n l in_table in
      let all = cond_true_same (t.is_listed n) (value p t cut n) (allowed p t cut n) in_table (tight_nodes p t cut sound forest rows feasible meets n l) in
      let v = ap (λ b. cond b (t.live_cost n) (t.dark_cost n)) off in
      let u = ap (λ b. cond b (p.dark_weight n) (p.live_weight n)) off in
      let each = λ (k : ℕ) (lk : k < p.nodes). cond_le (is_child p.net t n k) (dark_share p t k) (share p t cut k) (λ c. child_dark p t cut sound forest rows feasible n k lk c off) in
      let kids = total_le p.nodes (λ k. cond (is_child p.net t n k) (dark_share p t k) 0) (λ k. cond (is_child p.net t n k) (share p t cut k) 0) each in
      cond_true_same (is_child p.net t n m) (dark_share p t m) (share p t cut m) ch
      (total_le_same p.nodes (λ k. cond (is_child p.net t n k) (dark_share p t k) 0) (λ k. cond (is_child p.net t n k) (share p t cut k) 0) each (omega arith) m lm)

  module _ (m : ℕ) (lm : m < p.nodes) (hp : has_parent p.net t m ≡ true) where
    own_child : is_child p.net t (upper p.net t m) m ≡ true
    own_child = and_from (has_parent p.net t m) (upper p.net t m == upper p.net t m) hp (eq-eqb (upper p.net t m) (upper p.net t m) refl)

    up_lit : lit p.net t cut (upper p.net t m) ≡ true → lit p.net t cut m ≡ not (cut (t.parent m))
    up_lit up = lit_child p t cut sound forest m lm hp ∙ ap (λ b. b && not (cut (t.parent m))) up

    -- below a live node it opens where that costs less
    pub opens_cheaper : lit p.net t cut (upper p.net t m) ≡ true → is_cheaper_open p t m ≡ true → cut (t.parent m) ≡ true
    opens_cheaper up cheaper =
        ⊎_elim
        (λ c. c)
        (λ c. let h = forest.parent m lm hp in
        let d = t.parent m in
        let parts = and_parts (not (p.marked_ok d)) (nat_lt (p.weight d + t.dark_cost m) (t.live_cost m)) cheaper in
        let less = ltb-true (p.weight d + t.dark_cost m) (t.live_cost m) parts.1 in
        let same = tight_live (upper p.net t m) m (up_within p.net t cut sound.net forest.rooted m h) lm h.listed own_child up in
        let v : value p t cut m ≡ t.live_cost m = ap (λ b. cond b (t.live_cost m) (t.dark_cost m)) (up_lit up ∙ ap not c) in
        let w : charge p cut d ≡ 0 = ap (λ b. cond b (p.weight d) 0) c in
        let unmarked : p.marked_open d ≡ false = false_from_ne_true (p.marked_open d) (λ o. false≢true (sym c ∙ feasible.opened d h.within o)) in
        let a : choice p t m ≡ min (p.weight d + t.dark_cost m) (t.live_cost m) =
        ap (λ b. cond b (p.weight d + t.dark_cost m) (cond (p.marked_ok d) (t.live_cost m) (min (p.weight d + t.dark_cost m) (t.live_cost m)))) unmarked
        ∙ ap (λ b. cond b (t.live_cost m) (min (p.weight d + t.dark_cost m) (t.live_cost m))) (not-true (p.marked_ok d) parts.0) in
        absurd (omega arith))
        (cases_Bool (cut (t.parent m)))

    -- below a dark node it opens only what is marked open
    marked_below_dark : lit p.net t cut (upper p.net t m) ≡ false → cut (t.parent m) ≡ true → p.marked_open (t.parent m) ≡ true
    marked_below_dark up c =
        ⊎_elim
        (λ o. o)
        (λ o. let h = forest.parent m lm hp in
        let d = t.parent m in
        let same = tight_dark (upper p.net t m) m (up_within p.net t cut sound.net forest.rooted m h) lm h.listed own_child up in
        let off : lit p.net t cut m ≡ false = lit_child p t cut sound forest m lm hp ∙ ap (λ b. b && not (cut (t.parent m))) up in
        let v : value p t cut m ≡ t.dark_cost m = ap (λ b. cond b (t.live_cost m) (t.dark_cost m)) off in
        let w : charge p cut d ≡ p.weight d = ap (λ b. cond b (p.weight d) 0) c in
        let a : cond (p.marked_open d) (p.weight d) 0 ≡ 0 = ap (λ b. cond b (p.weight d) 0) o in
        let heavy = sound.weights d h.within in
        absurd (omega arith))
        (cases_Bool (p.marked_open (t.parent m)))

    -- so its dark nodes determine it
    pub parent_cut : cut (t.parent m) ≡ (p.marked_open (t.parent m) || (lit p.net t cut (upper p.net t m) && not (lit p.net t cut m)))
    parent_cut =
        ⊎_elim
        (λ c. c ∙ sym (⊎_elim
        (λ up. or_right (p.marked_open (t.parent m)) _ (and_from (lit p.net t cut (upper p.net t m)) (not (lit p.net t cut m)) up (not_from_false (lit p.net t cut m) (up_lit up ∙ ap not c))))
        (λ up. or_left (p.marked_open (t.parent m)) _ (marked_below_dark up c))
        (cases_Bool (lit p.net t cut (upper p.net t m)))))
        (λ c. c ∙ sym (or_from (p.marked_open (t.parent m)) (lit p.net t cut (upper p.net t m) && not (lit p.net t cut m))
        (false_from_ne_true (p.marked_open (t.parent m)) (λ o. false≢true (sym c ∙ feasible.opened (t.parent m) (forest.parent m lm hp).within o)))
        (⊎_elim
        (λ up. and_right (lit p.net t cut (upper p.net t m)) (not (lit p.net t cut m)) (not_from_true (lit p.net t cut m) (up_lit up ∙ ap not c)))
        (λ up. and_left (lit p.net t cut (upper p.net t m)) (not (lit p.net t cut m)) up)
        (cases_Bool (lit p.net t cut (upper p.net t m))))))
        (cases_Bool (cut (t.parent m)))

  -- between unlisted nodes too it opens only what is marked open
  pub apart_cut : (d : ℕ) → d < p.devices → t.is_listed (p.from d) ≡ false → t.is_listed (p.to d) ≡ false → cut d ≡ p.marked_open d
  apart_cut d l f g =
      ⊎_elim
      (λ c. c ∙ sym (⊎_elim
      (λ o. o)
      (λ o. let none = total_zero p.nodes (λ m. cond (has_parent p.net t m && (t.parent m == d)) (charge p cut d) 0) (λ m lm. ap (λ b. cond b (charge p cut d) 0) (not_parent p t cut sound forest m d lm f g)) in
      let all = tight_devices p t cut sound forest rows feasible meets d l in
      let w : charge p cut d ≡ p.weight d = ap (λ b. cond b (p.weight d) 0) c in
      let a : cond (is_apart p t d) (p.weight d) 0 ≡ 0 = ap (λ b. cond b (p.weight d) 0) (and_left (p.marked_open d) (not (t.is_listed (p.from d)) && not (t.is_listed (p.to d))) o) in
      let heavy = sound.weights d l in
      absurd (omega arith))
      (cases_Bool (p.marked_open d))))
      (λ c. c ∙ sym (false_from_ne_true (p.marked_open d) (λ o. false≢true (sym c ∙ feasible.opened d l o))))
      (cases_Bool (cut d))

module _ (p : Problem) (t : Table) (sound : IsSound p) (forest : IsForest p.net t) (rows : HasExactRows p t) where
  below : IsBelowChildren p t
  below = below_from_exact p t rows

  module _ (cut : Cut) (opens : OpensWhereCheaper p t cut) where
    pub cost_is_bound : cost p cut ≡ bound_of p t
    cost_is_bound = cost_is_by_table p t cut sound forest ∙ Greedy.met p t cut sound forest opens rows

    pub is_least : IsLeast p cut
    is_least = record {
      feasible = Greedy.feasible p t cut sound forest opens;
      least = subst (IsLowerBound p) (sym cost_is_bound) (lower_bound p t sound forest below);
    }

    -- another least cut meets the bound too
    meets_too : (other : Cut) → IsLeast p other → cost_by_table p t other ≡ bound_of p t
    meets_too other l =
        let a = l.least cut is_least.feasible in
        let b = is_least.least other l.feasible in
        let c = cost_is_by_table p t other sound forest in
        let d = cost_is_bound in omega arith

    -- a node that is live under another least cut is live under this one
    lit_too : (other : Cut) → IsLeast p other → (k n : ℕ) → n < p.nodes → t.is_listed n ≡ true → t.depth n ≡ k → lit p.net t other n ≡ true → lit p.net t cut n ≡ true
    lit_too other least zero n l in_table e on =
        ⊎_elim
        (λ s. lit_source p t cut sound forest n l s)
        (λ s. let h = forest.parent n l (and_from (t.is_listed n) (not (p.is_source n)) in_table (not_from_false (p.is_source n) s)) in
        let x = h.deeper in absurd (omega arith))
        (cases_Bool (p.is_source n))
    lit_too other least (suc k) n l in_table e on =
        ⊎_elim
        (λ s. lit_source p t cut sound forest n l s)
        (λ s. let hp = and_from (t.is_listed n) (not (p.is_source n)) in_table (not_from_false (p.is_source n) s) in
        let h = forest.parent n l hp in
        let x = h.deeper in
        let parts = and_parts (lit p.net t other (upper p.net t n)) (not (other (t.parent n))) (sym (lit_child p t other sound forest n l hp) ∙ on) in
        let up = lit_too other least k (upper p.net t n) (up_within p.net t cut sound.net forest.rooted n h) h.listed (omega arith) parts.0 in
        lit_child p t cut sound forest n l hp
        ∙ and_from (lit p.net t cut (upper p.net t n)) (not (cut (t.parent n))) up (not_from_false (cut (t.parent n)) (kept hp (not-true (other (t.parent n)) parts.1) parts.0)))
        (cases_Bool (p.is_source n))
      where
        kept : has_parent p.net t n ≡ true → other (t.parent n) ≡ false → lit p.net t other (upper p.net t n) ≡ true → cut (t.parent n) ≡ false
        kept hp off up = false_from_ne_true (cut (t.parent n)) (λ c.
            ⊎_elim
            (λ o. false≢true (sym off ∙ least.feasible.opened (t.parent n) (forest.parent n l hp).within o))
            (λ a. false≢true (sym off ∙ opens_cheaper p t other sound forest below least.feasible (meets_too other least) n l hp up (and_parts (lit p.net t cut (upper p.net t n)) (is_cheaper_open p t n) a).1))
            (or_cases (p.marked_open (t.parent n)) (lit p.net t cut (upper p.net t n) && is_cheaper_open p t n) (sym (opens.below n l hp) ∙ c)))

    pub is_diagnosis : IsDiagnosis p cut
    is_diagnosis = record {
      least = is_least;
      cautious = λ other l n ln off. live_is_lit p t other sound forest n ln
          ∙ false_from_ne_true (lit p.net t other n) (λ on.
          false≢true (sym off ∙ live_is_lit p t cut sound forest n ln ∙ lit_too other l (t.depth n) n ln (and_parts (t.is_listed n) (not (cut_above p.net t other (t.depth n) n)) on).0 refl on));
    }

    -- two diagnoses have the same live nodes, and so the same devices
    pub only_one : (a b : Cut) → IsDiagnosis p a → IsDiagnosis p b → (d : ℕ) → d < p.devices → a d ≡ b d
    only_one a b da db d l =
        ⊎_elim
        (λ e. ⊎_elim
        (λ s. let up = up_within p.net t a sound.net forest.rooted s.0 (forest.parent s.0 s.1 s.2) in
        sym (ap a s.3)
        ∙ parent_cut p t a sound forest below da.least.feasible (meets_too a da.least) s.0 s.1 s.2
        ∙ ap (λ x. p.marked_open (t.parent s.0) || (x && not (lit p.net t a s.0))) (same_lit (upper p.net t s.0) up)
        ∙ ap (λ x. p.marked_open (t.parent s.0) || (lit p.net t b (upper p.net t s.0) && not x)) (same_lit s.0 s.1)
        ∙ sym (parent_cut p t b sound forest below db.least.feasible (meets_too b db.least) s.0 s.1 s.2)
        ∙ ap b s.3)
        (λ u. apart_cut p t a sound forest below da.least.feasible (meets_too a da.least) d l u.0 u.1
        ∙ sym (apart_cut p t b sound forest below db.least.feasible (meets_too b db.least) d l u.0 u.1))
        (forest.stray d l e))
        (λ e. shut a da.least.feasible e ∙ sym (shut b db.least.feasible e))
        (cases_Bool (p.is_closed d))
      where
        shut : (x : Cut) → IsFeasible p x → p.is_closed d ≡ false → x d ≡ false
        shut x f e = false_from_ne_true (x d) (λ c. false≢true (sym e ∙ f.closed d l c))

        one_way : (x y : Cut) → IsDiagnosis p x → IsDiagnosis p y → (n : ℕ) → n < p.nodes → lit p.net t y n ≡ true → lit p.net t x n ≡ true
        one_way x y dx dy n ln on =
            ⊎_elim
            (λ e. sym (live_is_lit p t x sound forest n ln) ∙ e)
            (λ e. absurd (false≢true (sym (dx.cautious y dy.least n ln e) ∙ live_is_lit p t y sound forest n ln ∙ on)))
            (cases_Bool (is_live p.net x n))

        same_lit : (n : ℕ) → n < p.nodes → lit p.net t a n ≡ lit p.net t b n
        same_lit n ln =
            ⊎_elim
            (λ e. e ∙ sym (one_way b a db da n ln e))
            (λ e. e ∙ sym (false_from_ne_true (lit p.net t b n) (λ f. false≢true (sym e ∙ one_way a b da db n ln f))))
            (cases_Bool (lit p.net t a n))
