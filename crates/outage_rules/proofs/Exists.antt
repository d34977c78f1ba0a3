-- For each table with exact rows there is a cut that opens where that costs less, so the bound is the least cost.
use Rattle.std.proofs.Common.{◌≡◌, ℕ, zero, suc, ◌<◌, ◌≤◌, Bool, true, false, cond, refl, sym, ap, ◌∙◌, subst, ⊎_elim, arith}
use Rattle.std.specs.Prelude.{◌||◌, ◌&&◌, not, ◌==◌}
use Rattle.std.proofs.lemmas.Bool.{cases_Bool, and_from, and_left, eq-eqb, not_from_false, false_from_ne_true}
use Rattle.outage_rules.specs.Network.{Problem, Cut, IsSound}
use Rattle.outage_rules.specs.Diagnosis.{cost, IsLeastCost, IsDiagnosis}
use Rattle.outage_rules.specs.Certificate.{Table, has_parent, upper, cut_above, lit, is_cheaper_open, bound_of, IsForest, HasParent, HasExactRows, OpensWhereCheaper}
use Rattle.outage_rules.specs.Reference.{is_parent_of, lower, wanted, greedy}
use Rattle.outage_rules.proofs.Balance.{same_child}
use Rattle.outage_rules.proofs.Rooted.{up_within}
use Rattle.outage_rules.proofs.Cautious.{is_least, is_diagnosis, cost_is_bound}

module _ (p : Problem) (t : Table) (sound : IsSound p) (forest : IsForest p.net t) where
  lower_is : (n : ℕ) → n < p.nodes → has_parent p.net t n ≡ true → lower p t (t.parent n) ≡ n
  lower_is n l hp =
      ⊎_elim
      (λ e. from_end e)
      (λ e. ap (λ b. cond b (p.to d) (p.from d)) (ap (is_parent_of p t d) e ∙ here) ∙ e)
      h.ends
    where
      d : ℕ
      d = t.parent n

      h : HasParent p.net t n
      h = forest.parent n l hp

      here : is_parent_of p t (t.parent n) n ≡ true
      here = and_from (has_parent p.net t n) (t.parent n == t.parent n) hp (eq-eqb (t.parent n) (t.parent n) refl)

      from_end : p.from (t.parent n) ≡ n → lower p t (t.parent n) ≡ n
      from_end e =
          let other : is_parent_of p t (t.parent n) (p.to (t.parent n)) ≡ false = false_from_ne_true (is_parent_of p t (t.parent n) (p.to (t.parent n))) (λ b.
          sound.apart (t.parent n) h.within (e ∙ sym (same_child p t (λ k. false) sound forest (p.to (t.parent n)) n (t.parent n) (sound.to (t.parent n) h.within) l b here))) in
          ap (λ b. cond b (p.to (t.parent n)) (p.from (t.parent n))) other ∙ e

  -- the greedy cut at a parent device
  at_parent : (n : ℕ) → n < p.nodes → has_parent p.net t n ≡ true → greedy p t (t.parent n) ≡ (p.marked_open (t.parent n) || (lit p.net t (wanted p t) (upper p.net t n) && is_cheaper_open p t n))
  at_parent n l hp =
      let h = forest.parent n l hp in
      let e = lower_is n l hp in
      let here = and_from (has_parent p.net t n) (t.parent n == t.parent n) hp (eq-eqb (t.parent n) (t.parent n) refl) in
      ap (λ b. b && (p.marked_open (t.parent n) || (is_parent_of p t (t.parent n) (lower p t (t.parent n)) && (lit p.net t (wanted p t) (upper p.net t (lower p t (t.parent n))) && is_cheaper_open p t (lower p t (t.parent n)))))) h.closed
      ∙ ap (λ m. p.marked_open (t.parent n) || (is_parent_of p t (t.parent n) m && (lit p.net t (wanted p t) (upper p.net t m) && is_cheaper_open p t m))) e
      ∙ ap (λ b. p.marked_open (t.parent n) || (b && (lit p.net t (wanted p t) (upper p.net t n) && is_cheaper_open p t n))) here

  wanted_at : (n : ℕ) → n < p.nodes → has_parent p.net t n ≡ true → wanted p t (t.parent n) ≡ (p.marked_open (t.parent n) || is_cheaper_open p t n)
  wanted_at n l hp = ap (λ m. p.marked_open (t.parent n) || is_cheaper_open p t m) (lower_is n l hp)

  -- the two cuts leave the same nodes live
  same_above : (k n : ℕ) → n < p.nodes → t.is_listed n ≡ true → t.depth n ≡ k → cut_above p.net t (greedy p t) k n ≡ cut_above p.net t (wanted p t) k n
  same_above zero n l in_table e = refl
  same_above (suc k) n l in_table e =
      ⊎_elim
      (λ s. absurd (let x = (forest.source n l s).1 in omega arith))
      (λ s. let hp = and_from (t.is_listed n) (not (p.is_source n)) in_table (not_from_false (p.is_source n) s) in
      let h = forest.parent n l hp in
      let x = h.deeper in
      let depth : t.depth (upper p.net t n) ≡ k = omega arith in
      let rest = same_above k (upper p.net t n) (up_within p.net t (greedy p t) sound.net forest.rooted n h) h.listed depth in
      let up : lit p.net t (wanted p t) (upper p.net t n) ≡ not (cut_above p.net t (wanted p t) k (upper p.net t n)) = ap (λ b. b && not (cut_above p.net t (wanted p t) (t.depth (upper p.net t n)) (upper p.net t n))) h.listed ∙ ap (λ j. not (cut_above p.net t (wanted p t) j (upper p.net t n))) depth in
      ap (λ b. has_parent p.net t n && (greedy p t (t.parent n) || b)) rest
      ∙ ap (λ b. has_parent p.net t n && b) (
      ap (λ b. b || cut_above p.net t (wanted p t) k (upper p.net t n)) (at_parent n l hp ∙ ap (λ b. p.marked_open (t.parent n) || (b && is_cheaper_open p t n)) up)
      ∙ either (p.marked_open (t.parent n)) (cut_above p.net t (wanted p t) k (upper p.net t n)) (is_cheaper_open p t n)
      ∙ ap (λ b. b || cut_above p.net t (wanted p t) k (upper p.net t n)) (sym (wanted_at n l hp))))
      (cases_Bool (p.is_source n))
    where
      either : (o a c : Bool) → ((o || (not a && c)) || a) ≡ ((o || c) || a)
      either true a c = refl
      either false true true = refl
      either false true false = refl
      either false false c = refl

  same_lit : (n : ℕ) → n < p.nodes → lit p.net t (greedy p t) n ≡ lit p.net t (wanted p t) n
  same_lit n l =
      ⊎_elim
      (λ e. ap (λ b. t.is_listed n && not b) (same_above (t.depth n) n l e refl))
      (λ e. ap (λ b. b && not (cut_above p.net t (greedy p t) (t.depth n) n)) e ∙ sym (ap (λ b. b && not (cut_above p.net t (wanted p t) (t.depth n) n)) e))
      (cases_Bool (t.is_listed n))

  pub greedy_opens : OpensWhereCheaper p t (greedy p t)
  greedy_opens = record {
    below = λ n l hp. at_parent n l hp ∙ ap (λ b. p.marked_open (t.parent n) || (b && is_cheaper_open p t n)) (sym (same_lit (upper p.net t n) (up_within p.net t (greedy p t) sound.net forest.rooted n (forest.parent n l hp))));
    apart = λ d l c f g.
        ap (λ b. b && (p.marked_open d || (is_parent_of p t d (lower p t d) && (lit p.net t (wanted p t) (upper p.net t (lower p t d)) && is_cheaper_open p t (lower p t d))))) c
        ∙ ap (λ b. p.marked_open d || (b && (lit p.net t (wanted p t) (upper p.net t (lower p t d)) && is_cheaper_open p t (lower p t d)))) (no_parent d f g)
        ∙ or_false (p.marked_open d);
    open_ones = λ d l c. and_left (p.is_closed d) _ c;
  }
    where
      or_false : (b : Bool) → (b || false) ≡ b
      or_false true = refl
      or_false false = refl

      unlisted : (d n : ℕ) → t.is_listed n ≡ false → is_parent_of p t d n ≡ false
      unlisted d n e = and_left (has_parent p.net t n) (t.parent n == d) (and_left (t.is_listed n) (not (p.is_source n)) e)

      no_parent : (d : ℕ) → t.is_listed (p.from d) ≡ false → t.is_listed (p.to d) ≡ false → is_parent_of p t d (lower p t d) ≡ false
      no_parent d f g = ap (λ b. is_parent_of p t d (cond b (p.to d) (p.from d))) (unlisted d (p.to d) g) ∙ unlisted d (p.from d) f

  module _ (rows : HasExactRows p t) where
    pub bound_is_least : IsLeastCost p (bound_of p t)
    bound_is_least =
        let least = is_least p t sound forest rows (greedy p t) greedy_opens in
        let meets = cost_is_bound p t sound forest rows (greedy p t) greedy_opens in
        record {
          attained = (greedy p t, least.feasible, meets);
          least = λ other f. subst (λ c. c ≤ cost p other) meets (least.least other f);
        }

    pub some_diagnosis : (cut : Cut) × IsDiagnosis p cut
    some_diagnosis = (greedy p t, is_diagnosis p t sound forest rows (greedy p t) greedy_opens)
