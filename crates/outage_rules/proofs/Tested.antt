-- The tests of a table show what they test.
use Rattle.std.proofs.Common.{◌≡◌, ℕ, zero, suc, ◌+◌, ◌<◌, Bool, true, false, sym, ◌∙◌, subst, inl, inr, ⊎_elim, arith}
use Rattle.std.specs.Prelude.{◌||◌, ◌&&◌, not, ◌==◌, nat_lt, nat_le, if◌then◌else◌}
use Rattle.std.proofs.lemmas.Bool.{cases_lt, or_cases, and_parts, false≢true, eq-eqb, eqb-true, not-true, ltb-true, leb-true}
use Rattle.outage_rules.specs.Sum.{total, some_below}
use Rattle.outage_rules.specs.Network.{Problem, IsSound}
use Rattle.outage_rules.specs.Diagnosis.{IsDiagnosis}
use Rattle.outage_rules.specs.Certificate.{Table, has_parent, upper, is_child, choice, dark_share, IsForest, HasParent, HasExactRows}
use Rattle.outage_rules.specs.Reference.{all_below, implies, test_network, test_weights, test_sources, test_parent, test_stray, test_forest, test_rows, test_table, greedy}
use Rattle.outage_rules.proofs.Sums.{some_below_true}
use Rattle.outage_rules.proofs.Cautious.{is_diagnosis}
use Rattle.outage_rules.proofs.Exists.{greedy_opens}

each_below : (n : ℕ) (test : ℕ → Bool) → all_below n test ≡ true → (k : ℕ) → k < n → test k ≡ true
each_below zero test e k l = absurd (omega arith)
each_below (suc n) test e k l =
    let a = and_parts (all_below n test) (test n) e in
    ⊎_elim
    (λ x. each_below n test a.0 k x)
    (λ x. subst (λ j. test j ≡ true) (let y : n ≡ k = omega arith in y) a.1)
    (cases_lt k n)

implied : (a b : Bool) → implies a b ≡ true → a ≡ true → b ≡ true
implied true b h e = h
implied false b h e = absurd (false≢true e)

module _ (p : Problem) (t : Table) (sources : (n : ℕ) → p.is_source n ≡ true → n < p.nodes) (passes : test_table p t ≡ true) where
  one : (test_network p.net ≡ true) × (test_weights p ≡ true) × (test_forest p.net t ≡ true) × (test_rows p t ≡ true)
  one =
      let a = and_parts (test_network p.net) (test_weights p && (test_forest p.net t && test_rows p t)) passes in
      let b = and_parts (test_weights p) (test_forest p.net t && test_rows p t) a.1 in
      let c = and_parts (test_forest p.net t) (test_rows p t) b.1 in
      (a.0, b.0, c.0, c.1)

  at_device : (d : ℕ) → d < p.devices → (p.from d < p.nodes) × (p.to d < p.nodes) × (not (p.from d == p.to d) ≡ true)
  at_device d l =
      let a = each_below p.devices _ one.0 d l in
      let b = and_parts (nat_lt (p.from d) p.nodes) (nat_lt (p.to d) p.nodes && not (p.from d == p.to d)) a in
      let c = and_parts (nat_lt (p.to d) p.nodes) (not (p.from d == p.to d)) b.1 in
      (ltb-true (p.from d) p.nodes b.0, ltb-true (p.to d) p.nodes c.0, c.1)

  weighed : (d : ℕ) → d < p.devices → (nat_le 1 (p.weight d) ≡ true) × (implies (p.marked_open d) (p.is_closed d && not (p.marked_ok d)) ≡ true)
  weighed d l = and_parts (nat_le 1 (p.weight d)) (implies (p.marked_open d) (p.is_closed d && not (p.marked_ok d))) (each_below p.devices _ one.1 d l)

  sound : IsSound p
  sound = record {
    net = record {
      from = λ d l. (at_device d l).0;
      to = λ d l. (at_device d l).1;
      apart = λ d l e. false≢true (sym (not-true (p.from d == p.to d) (at_device d l).2) ∙ eq-eqb (p.from d) (p.to d) e);
      sources = sources;
    };
    weights = λ d l. leb-true 1 (p.weight d) (weighed d l).0;
    marks = λ d l e. let a = and_parts (p.is_closed d) (not (p.marked_ok d)) (implied (p.marked_open d) (p.is_closed d && not (p.marked_ok d)) (weighed d l).1 e) in (a.0, not-true (p.marked_ok d) a.1);
  }

  parts : (test_sources p.net t ≡ true) × (all_below p.nodes (λ n. implies (has_parent p.net t n) (test_parent p.net t n)) ≡ true) × (all_below p.devices (λ d. implies (p.is_closed d) (test_stray p.net t d)) ≡ true)
  parts =
      let a = and_parts (test_sources p.net t) (all_below p.nodes (λ n. implies (has_parent p.net t n) (test_parent p.net t n)) && all_below p.devices (λ d. implies (p.is_closed d) (test_stray p.net t d))) one.2 in
      let b = and_parts (all_below p.nodes (λ n. implies (has_parent p.net t n) (test_parent p.net t n))) (all_below p.devices (λ d. implies (p.is_closed d) (test_stray p.net t d))) a.1 in
      (a.0, b.0, b.1)

  hung : (n : ℕ) → test_parent p.net t n ≡ true → HasParent p.net t n
  hung n e =
      let d = t.parent n in
      let u = upper p.net t n in
      let a = and_parts (nat_lt d p.devices) (p.is_closed d && ((p.from d == n || p.to d == n) && (t.is_listed u && (t.depth n == suc (t.depth u))))) e in
      let b = and_parts (p.is_closed d) ((p.from d == n || p.to d == n) && (t.is_listed u && (t.depth n == suc (t.depth u)))) a.1 in
      let c = and_parts (p.from d == n || p.to d == n) (t.is_listed u && (t.depth n == suc (t.depth u))) b.1 in
      let f = and_parts (t.is_listed u) (t.depth n == suc (t.depth u)) c.1 in
      record {
        within = ltb-true d p.devices a.0;
        closed = b.0;
        ends = ⊎_elim (λ x. inl (eqb-true (p.from d) n x)) (λ x. inr (eqb-true (p.to d) n x)) (or_cases (p.from d == n) (p.to d == n) c.0);
        listed = f.0;
        deeper = eqb-true (t.depth n) (suc (t.depth u)) f.1;
      }

  forest : IsForest p.net t
  forest = record {
    rooted = record {
      source = λ n l e. let a = and_parts (t.is_listed n) (t.depth n == 0) (implied (p.is_source n) (t.is_listed n && (t.depth n == 0)) (each_below p.nodes _ parts.0 n l) e) in (a.0, eqb-true (t.depth n) 0 a.1);
      parent = λ n l hp. hung n (implied (has_parent p.net t n) (test_parent p.net t n) (each_below p.nodes _ parts.1 n l) hp);
    };
    stray = λ d l c. ⊎_elim
        (λ s. let f = some_below_true p.nodes (λ n. has_parent p.net t n && (t.parent n == d)) s in
        let a = and_parts (has_parent p.net t f.0) (t.parent f.0 == d) f.2 in inl (f.0, f.1, a.0, eqb-true (t.parent f.0) d a.1))
        (λ s. let a = and_parts (not (t.is_listed (p.from d))) (not (t.is_listed (p.to d))) s in inr (not-true (t.is_listed (p.from d)) a.0, not-true (t.is_listed (p.to d)) a.1))
        (or_cases (some_below p.nodes (λ n. has_parent p.net t n && (t.parent n == d))) (not (t.is_listed (p.from d)) && not (t.is_listed (p.to d)))
        (implied (p.is_closed d) (test_stray p.net t d) (each_below p.devices _ parts.2 d l) c));
  }

  live_sum : ℕ → ℕ
  live_sum n = p.dark_weight n + total p.nodes (λ m. if is_child p.net t n m then choice p t m else 0)

  at_row : (n : ℕ) → n < p.nodes → t.is_listed n ≡ true → (t.live_cost n ≡ p.dark_weight n + total p.nodes (λ m. if is_child p.net t n m then choice p t m else 0)) × (t.dark_cost n ≡ p.live_weight n + total p.nodes (λ m. if is_child p.net t n m then dark_share p t m else 0))
  at_row n l e =
      let x = p.dark_weight n + total p.nodes (λ m. if is_child p.net t n m then choice p t m else 0) in
      let y = p.live_weight n + total p.nodes (λ m. if is_child p.net t n m then dark_share p t m else 0) in
      let a = and_parts (t.live_cost n == x) (t.dark_cost n == y) (implied (t.is_listed n) ((t.live_cost n == x) && (t.dark_cost n == y)) (each_below p.nodes _ one.3 n l) e) in
      (eqb-true (t.live_cost n) x a.0, eqb-true (t.dark_cost n) y a.1)

  rows : HasExactRows p t
  rows = record { live = λ n l e. (at_row n l e).0; dark = λ n l e. (at_row n l e).1 }

  pub tested : IsDiagnosis p (greedy p t)
  tested = is_diagnosis p t sound forest rows (greedy p t) (greedy_opens p t sound forest)
