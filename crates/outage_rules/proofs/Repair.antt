-- A change at one node is repaired along its walk to the source.
use Rattle.std.proofs.Common.{◌≡◌, ◌≢◌, ℕ, zero, suc, ◌+◌, ◌-◌, ◌<◌, min, true, false, cond, refl, sym, ap, ◌∙◌, subst, inl, inr, ⊎_elim, arith}
use Rattle.std.specs.Prelude.{◌⊎◌, ◌==◌}
use Rattle.std.proofs.lemmas.Bool.{cases_Bool, cases_eq, and_from, and_parts, eq-eqb, ne_eqb, eqb-true, false≢true}
use Rattle.outage_rules.specs.Sum.{total}
use Rattle.outage_rules.specs.Network.{Problem, IsSound}
use Rattle.outage_rules.specs.Certificate.{Table, has_parent, upper, is_child, choice, IsForest}
use Rattle.outage_rules.proofs.Sums.{total_same}
use Rattle.outage_rules.proofs.Rooted.{up_within}

-- two sums that differ in one term
total_replaced : (n : ℕ) (f g : ℕ → ℕ) (j : ℕ) → j < n → ((k : ℕ) → k < n → k ≢ j → f k ≡ g k) → total n f + g j ≡ total n g + f j
total_replaced zero f g j l h = absurd (omega arith)
total_replaced (suc n) f g j l h =
    ⊎_elim
    (λ e. let rest = total_same n f g (λ k m. h k (omega arith) (omega arith)) in
    let a = ap f e in let b = ap g e in omega arith)
    (λ ne. let ne' : n ≢ j = ne in
    let rest = total_replaced n f g j (omega arith) (λ k m d. h k (omega arith) d) in
    let here = h n (omega arith) ne in omega arith)
    (cases_eq n j)

-- the table with another live cost at one node
abbrev pub with_live : Table → ℕ → ℕ → Table
with_live t u x = record t { live_cost = λ n. cond (n == u) x (t.live_cost n) }

-- what the children of a node add
abbrev pub added : Problem → Table → ℕ → ℕ
added p t n = total p.nodes (λ m. cond (is_child p.net t n m) (choice p t m) 0)

-- live rows are exact but at u, one of whose children adds `now` where it added `before`
pub record ExactBut (p : Problem) (t : Table) (u now before : ℕ) : Type 0 where
  pub others : (n : ℕ) → n < p.nodes → t.is_listed n ≡ true → n ≢ u → t.live_cost n ≡ p.dark_weight n + added p t n
  pub here : t.live_cost u + now ≡ p.dark_weight u + added p t u + before

module _ (p : Problem) (t : Table) (sound : IsSound p) (forest : IsForest p.net t) (u now before : ℕ) (lu : u < p.nodes) (on : t.is_listed u ≡ true) (but : ExactBut p t u now before) where
  repaired : Table
  repaired = with_live t u (t.live_cost u + now - before)

  live_here : (with_live t u (t.live_cost u + now - before)).live_cost u ≡ p.dark_weight u + added p t u
  live_here = ap (λ b. cond b (t.live_cost u + now - before) (t.live_cost u)) (eq-eqb u u refl) ∙ (let e = but.here in omega arith)

  live_other : (n : ℕ) → n ≢ u → (with_live t u (t.live_cost u + now - before)).live_cost n ≡ t.live_cost n
  live_other n ne = ap (λ b. cond b (t.live_cost u + now - before) (t.live_cost n)) (ne_eqb n u ne)

  choice_other : (m : ℕ) → m ≢ u → choice p (with_live t u (t.live_cost u + now - before)) m ≡ choice p t m
  choice_other m ne =
      ap (λ x. cond (p.marked_open (t.parent m)) (p.weight (t.parent m) + t.dark_cost m) (cond (p.marked_ok (t.parent m)) x (min (p.weight (t.parent m) + t.dark_cost m) x))) (live_other m ne)

  -- a node that is not above u has the same sum as before
  added_other : (n : ℕ) → (is_child p.net t n u ≡ true → ⊥) → added p (with_live t u (t.live_cost u + now - before)) n ≡ added p t n
  added_other n none =
      total_same p.nodes (λ m. cond (is_child p.net t n m) (choice p (with_live t u (t.live_cost u + now - before)) m) 0) (λ m. cond (is_child p.net t n m) (choice p t m) 0) (λ m l. at m (cases_eq m u))
    where
      at : (m : ℕ) → (m ≡ u) ⊎ (m ≢ u) → cond (is_child p.net t n m) (choice p (with_live t u (t.live_cost u + now - before)) m) 0 ≡ cond (is_child p.net t n m) (choice p t m) 0
      at m (inl e) = ⊎_elim (λ c. absurd (none (sym (ap (is_child p.net t n) e) ∙ c))) (λ c. ap (λ b. cond b (choice p (with_live t u (t.live_cost u + now - before)) m) 0) c ∙ sym (ap (λ b. cond b (choice p t m) 0) c)) (cases_Bool (is_child p.net t n m))
      at m (inr ne) = ap (λ x. cond (is_child p.net t n m) x 0) (choice_other m ne)

  not_own_child : is_child p.net t u u ≡ true → ⊥
  not_own_child c =
      let a = and_parts (has_parent p.net t u) (upper p.net t u == u) c in
      let h = (forest.parent u lu a.0).deeper in
      let e = ap t.depth (eqb-true (upper p.net t u) u a.1) in
      omega arith

  -- where u has a parent, one step of the repair leaves the node above to be repaired
  pub step_up : has_parent p.net t u ≡ true → ExactBut p (with_live t u (t.live_cost u + now - before)) (upper p.net t u) (choice p (with_live t u (t.live_cost u + now - before)) u) (choice p t u)
  step_up hp = record {
    others = λ n l e ne. ⊎_elim
        (λ x. subst (λ v. (with_live t u (t.live_cost u + now - before)).live_cost v ≡ p.dark_weight v + added p (with_live t u (t.live_cost u + now - before)) v) (sym x) (live_here ∙ ap (λ y. p.dark_weight u + y) (sym (added_other u not_own_child))))
        (λ x. live_other n x ∙ but.others n l e x ∙ ap (λ y. p.dark_weight n + y) (sym (added_other n (λ c. ne (sym (eqb-true (upper p.net t u) n (and_parts (has_parent p.net t u) (upper p.net t u == n) c).1))))))
        (cases_eq n u);
    here =
        let w = upper p.net t u in
        let own : is_child p.net t w u ≡ true = and_from (has_parent p.net t u) (upper p.net t u == upper p.net t u) hp (eq-eqb (upper p.net t u) (upper p.net t u) refl) in
        let apart : w ≢ u = λ e. not_own_child (ap (λ x. is_child p.net t x u) (sym e) ∙ own) in
        let h = forest.parent u lu hp in
        let old = but.others w (up_within p.net t (λ d. false) sound.net forest.rooted u h) h.listed apart in
        let same = live_other w apart in
        let replaced = total_replaced p.nodes (λ m. cond (is_child p.net t w m) (choice p (with_live t u (t.live_cost u + now - before)) m) 0) (λ m. cond (is_child p.net t w m) (choice p t m) 0) u lu (λ m l ne. ap (λ x. cond (is_child p.net t w m) x 0) (choice_other m ne)) in
        let a = ap (λ b. cond b (choice p (with_live t u (t.live_cost u + now - before)) u) 0) own in
        let b = ap (λ b. cond b (choice p t u) 0) own in
        omega arith;
  }

  -- at a source the repair is done
  pub done : has_parent p.net t u ≡ false → (n : ℕ) → n < p.nodes → t.is_listed n ≡ true → (with_live t u (t.live_cost u + now - before)).live_cost n ≡ p.dark_weight n + added p (with_live t u (t.live_cost u + now - before)) n
  done root n l e = ⊎_elim
      (λ x. subst (λ v. (with_live t u (t.live_cost u + now - before)).live_cost v ≡ p.dark_weight v + added p (with_live t u (t.live_cost u + now - before)) v) (sym x) (live_here ∙ ap (λ y. p.dark_weight u + y) (sym (added_other u not_own_child))))
      (λ x. live_other n x ∙ but.others n l e x ∙ ap (λ y. p.dark_weight n + y) (sym (added_other n (λ c. false≢true (sym root ∙ (and_parts (has_parent p.net t u) (upper p.net t u == n) c).0)))))
      (cases_eq n u)
