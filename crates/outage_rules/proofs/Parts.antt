-- An exact row is the least cost of its part.
use Rattle.std.proofs.Common.{◌≡◌, ◌≢◌, ℕ, zero, suc, ◌+◌, ◌-◌, ◌<◌, ◌≤◌, min, Bool, true, false, cond, refl, sym, ap, ◌∙◌, subst, inl, ⊎_elim, arith}
use Rattle.std.specs.Prelude.{◌&&◌, not, ◌==◌}
use Rattle.std.proofs.lemmas.Bool.{cases_Bool, cases_eq, and_from, and_parts, and_right, or_left, or_right, or_cases, eq-eqb, ne_eqb, eqb-true, false≢true, not_from_false, not_from_true, false_from_ne_true}
use Rattle.outage_rules.specs.Sum.{total}
use Rattle.outage_rules.specs.Network.{Problem, IsSound}
use Rattle.outage_rules.specs.Diagnosis.{IsLeastCost}
use Rattle.outage_rules.specs.Certificate.{Table, has_parent, upper, is_child, choice, dark_share, bound_of, IsForest, HasParent, HasExactRows, is_below, in_part, is_inside, part_of}
use Rattle.outage_rules.proofs.Sums.{total_same, total_zero, total_one}
use Rattle.outage_rules.proofs.Rooted.{parent_ends, up_within}
use Rattle.outage_rules.proofs.Exists.{bound_is_least}

-- the rows of the part, with the depth from its root
abbrev pub part_table : Problem → Table → ℕ → Table
part_table p t r = record t {
  is_listed = in_part p.net t r;
  depth = λ n. t.depth n - t.depth r;
}

module _ (p : Problem) (t : Table) (sound : IsSound p) (forest : IsForest p.net t) (r : ℕ) (lr : r < p.nodes) (root_listed : t.is_listed r ≡ true) where
  listed_in : (n : ℕ) → in_part p.net t r n ≡ true → t.is_listed n ≡ true
  listed_in n e = (and_parts (t.is_listed n) (is_below p.net t r (t.depth n) n) e).0

  pub root_in : in_part p.net t r r ≡ true
  root_in = and_from (t.is_listed r) (is_below p.net t r (t.depth r) r) root_listed (at (t.depth r))
    where
      at : (k : ℕ) → is_below p.net t r k r ≡ true
      at zero = eq-eqb r r refl
      at (suc k) = or_left (r == r) _ (eq-eqb r r refl)

  -- below the root means below the node above
  in_from_up : (n : ℕ) → n < p.nodes → has_parent p.net t n ≡ true → in_part p.net t r (upper p.net t n) ≡ true → in_part p.net t r n ≡ true
  in_from_up n l hp e =
      let h = forest.parent n l hp in
      let b = and_parts (t.is_listed (upper p.net t n)) (is_below p.net t r (t.depth (upper p.net t n)) (upper p.net t n)) e in
      and_from (t.is_listed n) (is_below p.net t r (t.depth n) n) (and_parts (t.is_listed n) (not (p.is_source n)) hp).0
      (ap (λ k. is_below p.net t r k n) h.deeper ∙ or_right (n == r) (has_parent p.net t n && is_below p.net t r (t.depth (upper p.net t n)) (upper p.net t n)) (and_from (has_parent p.net t n) (is_below p.net t r (t.depth (upper p.net t n)) (upper p.net t n)) hp b.1))

  up_from_in : (n : ℕ) → n < p.nodes → n ≢ r → in_part p.net t r n ≡ true → (has_parent p.net t n ≡ true) × (in_part p.net t r (upper p.net t n) ≡ true)
  up_from_in n l ne e =
      let b = and_parts (t.is_listed n) (is_below p.net t r (t.depth n) n) e in
      let hp = is_hung (t.depth n) b.1 in
      let h = forest.parent n l hp in
      let c = and_parts (has_parent p.net t n) (is_below p.net t r (t.depth (upper p.net t n)) (upper p.net t n))
      (⊎_elim (λ x. absurd (ne (eqb-true n r x))) (λ x. x) (or_cases (n == r) (has_parent p.net t n && is_below p.net t r (t.depth (upper p.net t n)) (upper p.net t n)) (sym (ap (λ k. is_below p.net t r k n) h.deeper) ∙ b.1))) in
      (hp, and_from (t.is_listed (upper p.net t n)) (is_below p.net t r (t.depth (upper p.net t n)) (upper p.net t n)) h.listed c.1)
    where
      is_hung : (k : ℕ) → is_below p.net t r k n ≡ true → has_parent p.net t n ≡ true
      is_hung zero x = absurd (ne (eqb-true n r x))
      is_hung (suc k) x = ⊎_elim (λ y. absurd (ne (eqb-true n r y))) (λ y. (and_parts (has_parent p.net t n) (is_below p.net t r k (upper p.net t n)) y).0) (or_cases (n == r) (has_parent p.net t n && is_below p.net t r k (upper p.net t n)) x)

  deeper_than_root : (k n : ℕ) → n < p.nodes → t.depth n ≡ k → in_part p.net t r n ≡ true → t.depth r ≤ t.depth n
  deeper_than_root zero n l e i =
      ⊎_elim
      (λ x. let y = ap t.depth x in omega arith)
      (λ x. let u = up_from_in n l x i in let h = (forest.parent n l u.0).deeper in absurd (omega arith))
      (cases_eq n r)
  deeper_than_root (suc k) n l e i =
      ⊎_elim
      (λ x. let y = ap t.depth x in omega arith)
      (λ x. let u = up_from_in n l x i in
      let h = forest.parent n l u.0 in
      let d = h.deeper in
      let rest = deeper_than_root k (upper p.net t n) (up_within p.net t (λ d. false) sound.net forest.rooted n h) (omega arith) u.1 in omega arith)
      (cases_eq n r)

  -- the root is below no node of the part
  not_root : (n : ℕ) → n < p.nodes → has_parent p.net t n ≡ true → in_part p.net t r (upper p.net t n) ≡ true → n ≢ r
  not_root n l hp e x =
      let h = forest.parent n l hp in
      let d = h.deeper in
      let deep = deeper_than_root (t.depth (upper p.net t n)) (upper p.net t n) (up_within p.net t (λ d. false) sound.net forest.rooted n h) refl e in
      let y = ap t.depth x in omega arith

  inside_parent : (n : ℕ) → n < p.nodes → has_parent p.net t n ≡ true → in_part p.net t r n ≡ true → in_part p.net t r (upper p.net t n) ≡ true → is_inside p.net t r (t.parent n) ≡ true
  inside_parent n l hp a b =
      let h = forest.parent n l hp in
      and_from (p.is_closed (t.parent n)) (in_part p.net t r (p.from (t.parent n)) && in_part p.net t r (p.to (t.parent n))) h.closed
      (⊎_elim
      (λ e. and_from (in_part p.net t r (p.from (t.parent n))) (in_part p.net t r (p.to (t.parent n))) (ap (in_part p.net t r) e.0 ∙ a) (ap (in_part p.net t r) e.1 ∙ b))
      (λ e. and_from (in_part p.net t r (p.from (t.parent n))) (in_part p.net t r (p.to (t.parent n))) (ap (in_part p.net t r) e.1 ∙ b) (ap (in_part p.net t r) e.0 ∙ a))
      (parent_ends p.net t (λ d. false) sound.net forest.rooted n h))

  pub part_sound : IsSound (part_of p t r)
  part_sound = record {
    net = record {
      from = sound.from;
      to = sound.to;
      apart = sound.apart;
      sources = λ n e. subst (λ x. x < p.nodes) (sym (eqb-true n r e)) lr;
    };
    weights = sound.weights;
    marks = λ d l e. let a = and_parts (is_inside p.net t r d) (p.marked_open d) e in (a.0, (sound.marks d l a.1).1);
  }

  pub part_forest : IsForest (part_of p t r).net (part_table p t r)
  part_forest = record {
    rooted = record {
      source = λ n l e. let x = eqb-true n r e in (ap (in_part p.net t r) x ∙ root_in, let y = ap t.depth x in omega arith);
      parent = λ n l hp. hung n l (and_parts (in_part p.net t r n) (not (n == r)) hp);
    };
    stray = λ d l c. let a = and_parts (p.is_closed d) (in_part p.net t r (p.from d) && in_part p.net t r (p.to d)) c in
        let i = and_parts (in_part p.net t r (p.from d)) (in_part p.net t r (p.to d)) a.1 in
        ⊎_elim
        (λ s. inl (s.0, s.1, own s.0 d s.1 s.2 s.3 i, s.3))
        (λ u. absurd (false≢true (sym u.0 ∙ listed_in (p.from d) i.0)))
        (forest.stray d l a.0);
  }
    where
      other_root : (n : ℕ) → not (n == r) ≡ true → n ≢ r
      other_root n e x = false≢true (sym (not_from_true (n == r) (eq-eqb n r x)) ∙ e)

      hung : (n : ℕ) → n < p.nodes → (in_part p.net t r n ≡ true) × (not (n == r) ≡ true) → HasParent (part_of p t r).net (part_table p t r) n
      hung n l a =
          let u = up_from_in n l (other_root n a.1) a.0 in
          let h = forest.parent n l u.0 in
          let d = h.deeper in
          let deep = deeper_than_root (t.depth (upper p.net t n)) (upper p.net t n) (up_within p.net t (λ d. false) sound.net forest.rooted n h) refl u.1 in
          record {
            within = h.within;
            closed = inside_parent n l u.0 a.0 u.1;
            ends = h.ends;
            listed = u.1;
            deeper = omega arith;
          }

      own : (m d : ℕ) → m < p.nodes → has_parent p.net t m ≡ true → t.parent m ≡ d → (in_part p.net t r (p.from d) ≡ true) × (in_part p.net t r (p.to d) ≡ true) → (in_part p.net t r m && not (m == r)) ≡ true
      own m d l hp e i =
          let h = forest.parent m l hp in
          let both : (in_part p.net t r m ≡ true) × (in_part p.net t r (upper p.net t m) ≡ true) = ⊎_elim
          (λ x. (sym (ap (in_part p.net t r) (sym (ap p.from e) ∙ x.0)) ∙ i.0, sym (ap (in_part p.net t r) (sym (ap p.to e) ∙ x.1)) ∙ i.1))
          (λ x. (sym (ap (in_part p.net t r) (sym (ap p.to e) ∙ x.0)) ∙ i.1, sym (ap (in_part p.net t r) (sym (ap p.from e) ∙ x.1)) ∙ i.0))
          (parent_ends p.net t (λ d. false) sound.net forest.rooted m h) in
          and_from (in_part p.net t r m) (not (m == r)) both.0 (not_from_false (m == r) (ne_eqb m r (not_root m l hp both.1)))

  module _ (rows : HasExactRows p t) where
    -- a node of the part has the children that it has in the whole
    same_child : (n m : ℕ) → n < p.nodes → m < p.nodes → in_part p.net t r n ≡ true → is_child (part_of p t r).net (part_table p t r) n m ≡ is_child p.net t n m
    same_child n m l lm i =
        ⊎_elim
        (λ c. let a = and_parts (has_parent p.net t m) (upper p.net t m == n) c in
        let up : in_part p.net t r (upper p.net t m) ≡ true = ap (in_part p.net t r) (eqb-true (upper p.net t m) n a.1) ∙ i in
        and_from (in_part p.net t r m && not (m == r)) (upper p.net t m == n) (and_from (in_part p.net t r m) (not (m == r)) (in_from_up m lm a.0 up) (not_from_false (m == r) (ne_eqb m r (not_root m lm a.0 up)))) a.1 ∙ sym c)
        (λ c. false_from_ne_true ((in_part p.net t r m && not (m == r)) && (upper p.net t m == n)) (λ x.
        let a = and_parts (in_part p.net t r m && not (m == r)) (upper p.net t m == n) x in
        let b = and_parts (in_part p.net t r m) (not (m == r)) a.0 in
        let u = up_from_in m lm (λ y. false≢true (sym (not_from_true (m == r) (eq-eqb m r y)) ∙ b.1)) b.0 in
        false≢true (sym c ∙ and_from (has_parent p.net t m) (upper p.net t m == n) u.0 a.1)) ∙ sym c)
        (cases_Bool (is_child p.net t n m))

    -- and they add what they add in the whole
    same_marks : (n m : ℕ) → n < p.nodes → m < p.nodes → in_part p.net t r n ≡ true → is_child p.net t n m ≡ true → is_inside p.net t r (t.parent m) ≡ true
    same_marks n m l lm i c =
        let a = and_parts (has_parent p.net t m) (upper p.net t m == n) c in
        let up : in_part p.net t r (upper p.net t m) ≡ true = ap (in_part p.net t r) (eqb-true (upper p.net t m) n a.1) ∙ i in
        inside_parent m lm a.0 (in_from_up m lm a.0 up) up

    cond_at : (b c : Bool) (x y : ℕ) → b ≡ c → (c ≡ true → x ≡ y) → cond b x 0 ≡ cond c y 0
    cond_at b true x y e h = ap (λ v. cond v x 0) e ∙ h refl
    cond_at b false x y e h = ap (λ v. cond v x 0) e

    pub part_rows : HasExactRows (part_of p t r) (part_table p t r)
    part_rows = record {
      live = λ n l i. rows.live n l (listed_in n i) ∙ ap (λ x. x + total p.nodes (λ m. cond (is_child p.net t n m) (choice p t m) 0)) (sym (ap (λ b. cond b (p.dark_weight n) 0) i))
          ∙ ap (λ x. cond (in_part p.net t r n) (p.dark_weight n) 0 + x) (sym (total_same p.nodes (λ m. cond (is_child (part_of p t r).net (part_table p t r) n m) (choice (part_of p t r) (part_table p t r) m) 0) (λ m. cond (is_child p.net t n m) (choice p t m) 0) (λ m lm.
          cond_at (is_child (part_of p t r).net (part_table p t r) n m) (is_child p.net t n m) (choice (part_of p t r) (part_table p t r) m) (choice p t m) (same_child n m l lm i) (λ c.
          ap (λ b. cond (b && p.marked_open (t.parent m)) (p.weight (t.parent m) + t.dark_cost m) (cond (p.marked_ok (t.parent m)) (t.live_cost m) (min (p.weight (t.parent m) + t.dark_cost m) (t.live_cost m)))) (same_marks n m l lm i c)))));
      dark = λ n l i. rows.dark n l (listed_in n i) ∙ ap (λ x. x + total p.nodes (λ m. cond (is_child p.net t n m) (dark_share p t m) 0)) (sym (ap (λ b. cond b (p.live_weight n) 0) i))
          ∙ ap (λ x. cond (in_part p.net t r n) (p.live_weight n) 0 + x) (sym (total_same p.nodes (λ m. cond (is_child (part_of p t r).net (part_table p t r) n m) (dark_share (part_of p t r) (part_table p t r) m) 0) (λ m. cond (is_child p.net t n m) (dark_share p t m) 0) (λ m lm.
          cond_at (is_child (part_of p t r).net (part_table p t r) n m) (is_child p.net t n m) (dark_share (part_of p t r) (part_table p t r) m) (dark_share p t m) (same_child n m l lm i) (λ c.
          ap (λ b. t.dark_cost m + cond (b && p.marked_open (t.parent m)) (p.weight (t.parent m)) 0) (same_marks n m l lm i c)))));
    }

    part_bound : bound_of (part_of p t r) (part_table p t r) ≡ t.live_cost r
    part_bound =
        let root = total_one p.nodes (λ n. cond (n == r) (t.live_cost n) 0) r lr (λ n l ne. ap (λ b. cond b (t.live_cost n) 0) (ne_eqb n r ne)) in
        let here = ap (λ b. cond b (t.live_cost r) 0) (eq-eqb r r refl) in
        let outside = total_zero p.nodes (λ n. cond (in_part p.net t r n) 0 (cond (in_part p.net t r n) (p.live_weight n) 0)) (λ n l. neither (in_part p.net t r n) (p.live_weight n)) in
        let marked = total_zero p.devices (λ d. cond ((is_inside p.net t r d && p.marked_open d) && (not (in_part p.net t r (p.from d)) && not (in_part p.net t r (p.to d)))) (p.weight d) 0) (λ d l. ap (λ b. cond b (p.weight d) 0) (both (p.is_closed d) (in_part p.net t r (p.from d)) (in_part p.net t r (p.to d)) (p.marked_open d))) in
        omega arith
      where
        neither : (b : Bool) (x : ℕ) → cond b 0 (cond b x 0) ≡ 0
        neither true x = refl
        neither false x = refl

        both : (c f g o : Bool) → (((c && (f && g)) && o) && (not f && not g)) ≡ false
        both c true g o = and_right ((c && (true && g)) && o) (not true && not g) refl
        both true false g o = refl
        both false false g o = refl

    -- the live row of a node is the least cost of its part where the node is live
    pub row_is_least : IsLeastCost (part_of p t r) (t.live_cost r)
    row_is_least = subst (IsLeastCost (part_of p t r)) part_bound (bound_is_least (part_of p t r) (part_table p t r) part_sound part_forest part_rows)
