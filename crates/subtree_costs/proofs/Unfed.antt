-- Trees whose roots are more than the sources: over the fed nodes they are a forest with exact rows, and what the roots come to is its bound.
use Rattle.std.proofs.Common.{◌≡◌, ℕ, ◌+◌, ◌<◌, Bool, true, false, cond, refl, sym, ap, ◌∙◌, inl, inr, ⊎_elim, arith}
use Rattle.std.specs.Prelude.{◌&&◌, not, ◌==◌, ◌⊎◌}
use Rattle.std.proofs.lemmas.Bool.{cases_Bool, and_parts, and_from, and_right, false≢true, not-true, not_from_false, eq-eqb, eqb-true}
use Rattle.outage_rules.specs.Sum.{total}
use Rattle.outage_rules.specs.Network.{Problem, IsSound, nothing}
use Rattle.outage_rules.specs.Loops.{with_sources}
use Rattle.outage_rules.specs.Certificate.{Table, has_parent, upper, is_child, choice, dark_share, bound_of, HasParent, IsForest, HasExactRows}
use Rattle.outage_rules.proofs.Sums.{total_same, total_add, total_swap, total_zero, total_one}
use Rattle.outage_rules.proofs.Balance.{cond_zero, by_parent, spread, same_child, charge}
use Rattle.outage_rules.proofs.Rooted.{parent_ends}

-- the problem whose walks begin at the roots
abbrev pub rooted : Problem → (ℕ → Bool) → Problem
rooted p top = record p { net = with_sources p.net top }

-- the table that lists the fed nodes alone
abbrev pub fed_table : Table → (ℕ → Bool) → Table
fed_table t fed = record t { is_listed = fed }

module _ (p : Problem) (top fed : ℕ → Bool) (t : Table) (sound : IsSound p) (rooted_sound : IsSound (rooted p top))
    (listed : (n : ℕ) → t.is_listed n ≡ true) (forest : IsForest (rooted p top).net t) (rows : HasExactRows (rooted p top) t)
    (source_top : (n : ℕ) → p.is_source n ≡ true → top n ≡ true) (top_fed : (n : ℕ) → top n ≡ true → fed n ≡ p.is_source n)
    (hung_fed : (n : ℕ) → n < p.nodes → top n ≡ false → fed n ≡ fed (upper p.net t n)) where
  hung : (n : ℕ) → top n ≡ false → has_parent (rooted p top).net t n ≡ true
  hung n e = and_from (t.is_listed n) (not (top n)) (listed n) (not_from_false (top n) e)

  not_top : (n : ℕ) → has_parent (rooted p top).net t n ≡ true → top n ≡ false
  not_top n e = not-true (top n) (and_parts (t.is_listed n) (not (top n)) e).1

  hung_is : (n : ℕ) → has_parent (rooted p top).net t n ≡ not (top n)
  hung_is n = ap (λ b. b && not (top n)) (listed n)

  above : (n : ℕ) → n < p.nodes → top n ≡ false → HasParent (rooted p top).net t n
  above n l e = forest.parent n l (hung n e)

  -- a fed node that is no source is no root
  fed_below : (n : ℕ) → (fed n && not (p.is_source n)) ≡ true → top n ≡ false
  fed_below n e =
      let parts = and_parts (fed n) (not (p.is_source n)) e in
      ⊎_elim
      (λ a. absurd (false≢true (sym (not-true (p.is_source n) parts.1) ∙ (sym (top_fed n a) ∙ parts.0))))
      (λ a. a)
      (cases_Bool (top n))

  source_not : (n : ℕ) → top n ≡ false → p.is_source n ≡ false
  source_not n e = ⊎_elim (λ s. absurd (false≢true (sym e ∙ source_top n s))) (λ s. s) (cases_Bool (p.is_source n))

  -- both ends of the device by which a node hangs are fed, or neither is
  ends_fed : (n : ℕ) → n < p.nodes → top n ≡ false → (fed (p.from (t.parent n)) ≡ fed n) × (fed (p.to (t.parent n)) ≡ fed n)
  ends_fed n l e =
      ⊎_elim
      (λ b. (ap fed b.0, ap fed b.1 ∙ sym (hung_fed n l e)))
      (λ b. (ap fed b.1 ∙ sym (hung_fed n l e), ap fed b.0))
      (parent_ends (rooted p top).net t nothing rooted_sound.net forest.rooted n (above n l e))

  pub fed_forest : IsForest p.net (fed_table t fed)
  fed_forest = record {
    rooted = record {
      source = λ n l s. (top_fed n (source_top n s) ∙ s, (forest.source n l (source_top n s)).1);
      parent = λ n l e.
          let low = fed_below n e in
          let h = above n l low in
          record {
            within = h.within;
            closed = h.closed;
            ends = h.ends;
            listed = sym (hung_fed n l low) ∙ (and_parts (fed n) (not (p.is_source n)) e).0;
            deeper = h.deeper;
          };
    };
    stray = λ d l c. ⊎_elim (λ x. at d x.0 x.1 (not_top x.0 x.2) x.3) (λ x. absurd (false≢true (sym x.0 ∙ listed (p.from d)))) (forest.stray d l c);
  }
    where
      at : (d n : ℕ) → n < p.nodes → top n ≡ false → t.parent n ≡ d
          → ((m : ℕ) × (m < p.nodes) × ((fed m && not (p.is_source m)) ≡ true) × (t.parent m ≡ d)) ⊎ ((fed (p.from d) ≡ false) × (fed (p.to d) ≡ false))
      at d n l e same =
          let ends = ends_fed n l e in
          ⊎_elim
          (λ f. inl (n, l, and_from (fed n) (not (p.is_source n)) f (not_from_false (p.is_source n) (source_not n e)), same))
          (λ f. inr (ap (λ x. fed (p.from x)) (sym same) ∙ ends.0 ∙ f, ap (λ x. fed (p.to x)) (sym same) ∙ ends.1 ∙ f))
          (cases_Bool (fed n))

  -- a fed node has the same children in both tables
  same_test : (f s o u : Bool) → (o ≡ false → u ≡ true → f ≡ true) → ((f && not s) ≡ true → o ≡ false) → (o ≡ false → s ≡ false)
      → ((f && not s) && u) ≡ (not o && u)
  same_test true true true true h k m = refl
  same_test true true false true h k m = absurd (false≢true (sym (m refl)))
  same_test true false true true h k m = absurd (false≢true (sym (k refl)))
  same_test true false false true h k m = refl
  same_test false s true true h k m = refl
  same_test false s false true h k m = absurd (false≢true (h refl refl))
  same_test f s o false h k m = and_right (f && not s) false refl ∙ sym (and_right (not o) false refl)

  child_same : (n m : ℕ) → m < p.nodes → fed n ≡ true → is_child p.net (fed_table t fed) n m ≡ is_child (rooted p top).net t n m
  child_same n m l f =
      same_test (fed m) (p.is_source m) (top m) (upper p.net t m == n)
      (λ o u. hung_fed m l o ∙ ap fed (eqb-true (upper p.net t m) n u) ∙ f)
      (fed_below m) (source_not m)
      ∙ ap (λ b. b && (upper p.net t m == n)) (sym (hung_is m))

  pub fed_rows : HasExactRows p (fed_table t fed)
  fed_rows = record {
    live = λ n l f. rows.live n l (listed n)
        ∙ ap (λ x. p.dark_weight n + x) (total_same p.nodes (λ m. cond (is_child (rooted p top).net t n m) (choice p t m) 0) (λ m. cond (is_child p.net (fed_table t fed) n m) (choice p t m) 0)
        (λ m lm. ap (λ b. cond b (choice p t m) 0) (sym (child_same n m lm f))));
    dark = λ n l f. rows.dark n l (listed n)
        ∙ ap (λ x. p.live_weight n + x) (total_same p.nodes (λ m. cond (is_child (rooted p top).net t n m) (dark_share p t m) 0) (λ m. cond (is_child p.net (fed_table t fed) n m) (dark_share p t m) 0)
        (λ m lm. ap (λ b. cond b (dark_share p t m) 0) (sym (child_same n m lm f))));
  }

  -- marked open, between nodes that aren't fed
  abbrev is_apart : ℕ → Bool
  is_apart d = p.marked_open d && (not (fed (p.from d)) && not (fed (p.to d)))

  apart_is : (n : ℕ) → n < p.nodes → top n ≡ false → cond (fed n) 0 (cond (p.marked_open (t.parent n)) (p.weight (t.parent n)) 0) ≡ charge p is_apart (t.parent n)
  apart_is n l e =
      let ends = ends_fed n l e in
      at (fed n) (p.marked_open (t.parent n)) (fed (p.from (t.parent n))) (fed (p.to (t.parent n))) (p.weight (t.parent n)) ends.0 ends.1
    where
      at : (f o a b : Bool) (w : ℕ) → a ≡ f → b ≡ f → cond f 0 (cond o w 0) ≡ cond (o && (not a && not b)) w 0
      at true true a b w x y = sym (ap (λ v. cond (not v && not b) w 0) x)
      at true false a b w x y = refl
      at false true a b w x y = sym (ap (λ v. cond (not v && not b) w 0) x ∙ ap (λ v. cond (not v) w 0) y)
      at false false a b w x y = refl

  abbrev is_by : ℕ → ℕ → Bool
  is_by m d = has_parent (rooted p top).net t m && (t.parent m == d)

  -- each such device is the parent device of one node
  apart_sum : total p.nodes (λ m. cond (has_parent (rooted p top).net t m) (charge p is_apart (t.parent m)) 0) ≡ total p.devices (charge p is_apart)
  apart_sum =
      total_same p.nodes (λ m. cond (has_parent (rooted p top).net t m) (charge p is_apart (t.parent m)) 0) (λ m. total p.devices (λ d. cond (is_by m d) (charge p is_apart d) 0))
      (λ m l. spread (rooted p top) t is_apart rooted_sound forest m l)
      ∙ total_swap p.nodes p.devices (λ m d. cond (is_by m d) (charge p is_apart d) 0)
      ∙ total_same p.devices (λ d. total p.nodes (λ m. cond (is_by m d) (charge p is_apart d) 0)) (charge p is_apart) (λ d l. each d l)
    where
      by_one : (d n : ℕ) → n < p.nodes → is_by n d ≡ true → total p.nodes (λ m. cond (is_by m d) (charge p is_apart d) 0) ≡ charge p is_apart d
      by_one d n l e =
          total_one p.nodes (λ m. cond (is_by m d) (charge p is_apart d) 0) n l
          (λ k lk ne. ⊎_elim
          (λ b. absurd (ne (same_child (rooted p top) t is_apart rooted_sound forest k n d lk l b e)))
          (λ b. ap (λ c. cond c (charge p is_apart d) 0) b)
          (cases_Bool (is_by k d)))
          ∙ ap (λ c. cond c (charge p is_apart d) 0) e

      each : (d : ℕ) → d < p.devices → total p.nodes (λ m. cond (is_by m d) (charge p is_apart d) 0) ≡ charge p is_apart d
      each d l =
          ⊎_elim
          (λ o. let mark = and_parts (p.marked_open d) (not (fed (p.from d)) && not (fed (p.to d))) o in
          ⊎_elim
          (λ x. by_one d x.0 x.1 (and_from (has_parent (rooted p top).net t x.0) (t.parent x.0 == d) x.2 (eq-eqb (t.parent x.0) d x.3)))
          (λ x. absurd (false≢true (sym x.0 ∙ listed (p.from d))))
          (forest.stray d l (sound.marks d l mark.0).0))
          (λ o. let none = ap (λ c. cond c (p.weight d) 0) o in
          total_zero p.nodes (λ m. cond (is_by m d) (charge p is_apart d) 0) (λ m lm. ap (λ x. cond (is_by m d) x 0) none ∙ cond_zero (is_by m d)) ∙ sym none)
          (cases_Bool (is_apart d))

  -- the dark rows of the nodes that aren't fed
  abbrev unfed : (ℕ → ℕ) → ℕ → ℕ
  unfed f n = cond (fed n) 0 (f n)

  unfed_rows : total p.nodes (unfed t.dark_cost) ≡ total p.nodes (unfed p.live_weight) + total p.nodes (λ m. cond (has_parent (rooted p top).net t m) (unfed (dark_share p t) m) 0)
  unfed_rows =
      total_same p.nodes (unfed t.dark_cost) (λ n. unfed p.live_weight n + cond (t.is_listed n) (total p.nodes (λ m. cond (is_child (rooted p top).net t n m) (unfed (dark_share p t) m) 0)) 0) each
      ∙ total_add p.nodes (unfed p.live_weight) (λ n. cond (t.is_listed n) (total p.nodes (λ m. cond (is_child (rooted p top).net t n m) (unfed (dark_share p t) m) 0)) 0)
      ∙ ap (λ x. total p.nodes (unfed p.live_weight) + x) (by_parent (rooted p top) t nothing rooted_sound forest (unfed (dark_share p t)))
    where
      child_fed : (n m : ℕ) → m < p.nodes → is_child (rooted p top).net t n m ≡ true → fed m ≡ fed n
      child_fed n m l c =
          let parts = and_parts (has_parent (rooted p top).net t m) (upper p.net t m == n) c in
          hung_fed m l (not_top m parts.0) ∙ ap fed (eqb-true (upper p.net t m) n parts.1)

      here : (f : Bool) (n : ℕ) → n < p.nodes → fed n ≡ f → cond f 0 (t.dark_cost n) ≡ cond f 0 (p.live_weight n) + total p.nodes (λ m. cond (is_child (rooted p top).net t n m) (unfed (dark_share p t) m) 0)
      here true n l e =
          let none = total_zero p.nodes (λ m. cond (is_child (rooted p top).net t n m) (unfed (dark_share p t) m) 0) (λ m lm.
          ⊎_elim
          (λ c. ap (λ b. cond b (unfed (dark_share p t) m) 0) c ∙ ap (λ b. cond b 0 (dark_share p t m)) (child_fed n m lm c ∙ e))
          (λ c. ap (λ b. cond b (unfed (dark_share p t) m) 0) c)
          (cases_Bool (is_child (rooted p top).net t n m))) in omega arith
      here false n l e = rows.dark n l (listed n) ∙ ap (λ x. p.live_weight n + x) (total_same p.nodes (λ m. cond (is_child (rooted p top).net t n m) (dark_share p t m) 0) (λ m. cond (is_child (rooted p top).net t n m) (unfed (dark_share p t) m) 0) (λ m lm.
          ⊎_elim
          (λ c. ap (λ b. cond b (dark_share p t m) 0) c ∙ sym (ap (λ b. cond b (unfed (dark_share p t) m) 0) c ∙ ap (λ b. cond b 0 (dark_share p t m)) (child_fed n m lm c ∙ e)))
          (λ c. ap (λ b. cond b (dark_share p t m) 0) c ∙ sym (ap (λ b. cond b (unfed (dark_share p t) m) 0) c))
          (cases_Bool (is_child (rooted p top).net t n m))))

      each : (n : ℕ) → n < p.nodes → unfed t.dark_cost n ≡ unfed p.live_weight n + cond (t.is_listed n) (total p.nodes (λ m. cond (is_child (rooted p top).net t n m) (unfed (dark_share p t) m) 0)) 0
      each n l = here (fed n) n l refl ∙ ap (λ x. unfed p.live_weight n + x) (sym (ap (λ b. cond b (total p.nodes (λ m. cond (is_child (rooted p top).net t n m) (unfed (dark_share p t) m) 0)) 0) (listed n)))

  -- what the roots come to
  abbrev root_row : ℕ → ℕ
  root_row n = cond (top n) (cond (p.is_source n) (t.live_cost n) (t.dark_cost n)) 0

  pub roots_are_bound : total p.nodes root_row ≡ bound_of p (fed_table t fed)
  roots_are_bound =
      let split = total_same p.nodes root_row (λ n. cond (p.is_source n) (t.live_cost n) 0 + cond (top n) (unfed t.dark_cost n) 0) (λ n l. root_split n)
      ∙ total_add p.nodes (λ n. cond (p.is_source n) (t.live_cost n) 0) (λ n. cond (top n) (unfed t.dark_cost n) 0) in
      let whole = total_same p.nodes (unfed t.dark_cost) (λ n. cond (top n) (unfed t.dark_cost n) 0 + cond (has_parent (rooted p top).net t n) (unfed t.dark_cost n) 0) (λ n l. either n)
      ∙ total_add p.nodes (λ n. cond (top n) (unfed t.dark_cost n) 0) (λ n. cond (has_parent (rooted p top).net t n) (unfed t.dark_cost n) 0) in
      let below = unfed_rows in
      let shares = total_same p.nodes (λ m. cond (has_parent (rooted p top).net t m) (unfed (dark_share p t) m) 0)
      (λ m. cond (has_parent (rooted p top).net t m) (unfed t.dark_cost m) 0 + cond (has_parent (rooted p top).net t m) (charge p is_apart (t.parent m)) 0) share_split
      ∙ total_add p.nodes (λ m. cond (has_parent (rooted p top).net t m) (unfed t.dark_cost m) 0) (λ m. cond (has_parent (rooted p top).net t m) (charge p is_apart (t.parent m)) 0) in
      let marks = apart_sum in
      omega arith
    where
      root_at : (o s f : Bool) (x y : ℕ) → (s ≡ true → o ≡ true) → (o ≡ true → f ≡ s) → cond o (cond s x y) 0 ≡ cond s x 0 + cond o (cond f 0 y) 0
      root_at true true f x y h k = let e = ap (λ b. cond b 0 y) (k refl) in omega arith
      root_at true false f x y h k = let e = ap (λ b. cond b 0 y) (k refl) in omega arith
      root_at false true f x y h k = absurd (false≢true (h refl))
      root_at false false f x y h k = omega arith

      root_split : (n : ℕ) → root_row n ≡ cond (p.is_source n) (t.live_cost n) 0 + cond (top n) (unfed t.dark_cost n) 0
      root_split n = root_at (top n) (p.is_source n) (fed n) (t.live_cost n) (t.dark_cost n) (source_top n) (top_fed n)

      either_at : (o : Bool) (x : ℕ) → x ≡ cond o x 0 + cond (not o) x 0
      either_at true x = omega arith
      either_at false x = omega arith

      either : (n : ℕ) → unfed t.dark_cost n ≡ cond (top n) (unfed t.dark_cost n) 0 + cond (has_parent (rooted p top).net t n) (unfed t.dark_cost n) 0
      either n = either_at (top n) (unfed t.dark_cost n) ∙ ap (λ b. cond (top n) (unfed t.dark_cost n) 0 + cond b (unfed t.dark_cost n) 0) (sym (hung_is n))

      unfed_add : (f : Bool) (x y : ℕ) → cond f 0 (x + y) ≡ cond f 0 x + cond f 0 y
      unfed_add true x y = refl
      unfed_add false x y = refl

      share_split : (m : ℕ) → m < p.nodes → cond (has_parent (rooted p top).net t m) (unfed (dark_share p t) m) 0
          ≡ cond (has_parent (rooted p top).net t m) (unfed t.dark_cost m) 0 + cond (has_parent (rooted p top).net t m) (charge p is_apart (t.parent m)) 0
      share_split m l =
          ⊎_elim
          (λ h. let a = ap (λ b. cond b (unfed (dark_share p t) m) 0) h in
          let b = ap (λ b. cond b (unfed t.dark_cost m) 0) h in
          let d = ap (λ b. cond b (charge p is_apart (t.parent m)) 0) h in
          let sum = unfed_add (fed m) (t.dark_cost m) (cond (p.marked_open (t.parent m)) (p.weight (t.parent m)) 0) in
          let mark = apart_is m l (not_top m h) in omega arith)
          (λ h. let a = ap (λ b. cond b (unfed (dark_share p t) m) 0) h in
          let b = ap (λ b. cond b (unfed t.dark_cost m) 0) h in
          let d = ap (λ b. cond b (charge p is_apart (t.parent m)) 0) h in omega arith)
          (cases_Bool (has_parent (rooted p top).net t m))
