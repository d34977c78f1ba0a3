-- Tables that say the same of each node pass the check alike, and so do cuts with the same devices.
use Rattle.std.proofs.Common.{◌≡◌, ℕ, zero, suc, ◌+◌, ◌<◌, min, Bool, true, false, cond, refl, sym, ap, ◌∙◌, inl, inr, ⊎_elim, arith}
use Rattle.std.specs.Prelude.{◌||◌, ◌&&◌, not, ◌==◌}
use Rattle.std.proofs.lemmas.Bool.{and_parts}
use Rattle.outage_rules.specs.Network.{Problem, Cut, IsSoundNetwork, nothing}
use Rattle.outage_rules.specs.Diagnosis.{IsFeasible}
use Rattle.outage_rules.specs.Certificate.{Table, has_parent, other_end, upper, is_child, choice, dark_share, HasParent, IsForest, IsBelowChildren, cut_above, lit, cost_by_table, bound_of, PassesCheck}
use Rattle.outage_rules.specs.Agreement.{AgreeAt}
use Rattle.outage_rules.proofs.Sums.{total_same}
use Rattle.outage_rules.proofs.Rooted.{up_within}

-- what a child adds, by its parent device and its rows
abbrev choice_by : Problem → ℕ → ℕ → ℕ → ℕ
choice_by p d live dark = cond (p.marked_open d) (p.weight d + dark) (cond (p.marked_ok d) live (min (p.weight d + dark) live))

-- the same where the node above is dark
abbrev dark_share_by : Problem → ℕ → ℕ → ℕ
dark_share_by p d dark = dark + cond (p.marked_open d) (p.weight d) 0

-- a term that counts under equal tests
cond_at : (b c : Bool) (x y : ℕ) → b ≡ c → (b ≡ true → x ≡ y) → cond b x 0 ≡ cond c y 0
cond_at true c x y e h = h refl ∙ ap (λ v. cond v y 0) e
cond_at false c x y e h = ap (λ v. cond v y 0) e

-- what is asked only where another thing is so
and_at : (b c x y : Bool) → b ≡ c → (b ≡ true → x ≡ y) → (b && x) ≡ (c && y)
and_at true c x y e h = h refl ∙ ap (λ v. v && y) e
and_at false c x y e h = ap (λ v. v && y) e

module _ (p : Problem) (t u : Table) (cut other : Cut) (c : ℕ) (sound : IsSoundNetwork p.net) (same : (n : ℕ) → n < p.nodes → AgreeAt p.net t u n) (cuts : (d : ℕ) → d < p.devices → cut d ≡ other d) (passes : PassesCheck p t cut c) where
  feasible : IsFeasible p other
  feasible =
      let f = passes.feasible in
      record {
        closed = λ d l e. f.closed d l (cuts d l ∙ e);
        opened = λ d l e. sym (cuts d l) ∙ f.opened d l e;
        fine = λ d l e. sym (cuts d l) ∙ f.fine d l e;
      }

  -- the same nodes hang from the same others
  hung : (n : ℕ) → n < p.nodes → has_parent p.net t n ≡ has_parent p.net u n
  hung n l = ap (λ b. b && not (p.is_source n)) (same n l).listed

  listed : (n : ℕ) → has_parent p.net t n ≡ true → t.is_listed n ≡ true
  listed n h = (and_parts (t.is_listed n) (not (p.is_source n)) h).0

  up : (n : ℕ) → n < p.nodes → has_parent p.net t n ≡ true → upper p.net t n ≡ upper p.net u n
  up n l h = ap (λ d. other_end p.net d n) ((same n l).parent h)

  above_within : (n : ℕ) → n < p.nodes → has_parent p.net t n ≡ true → upper p.net t n < p.nodes
  above_within n l h = up_within p.net t nothing sound passes.forest.rooted n (passes.forest.parent n l h)

  parent : (n : ℕ) → n < p.nodes → has_parent p.net u n ≡ true → HasParent p.net u n
  parent n l hangs =
      let there = hung n l ∙ hangs in
      let h = passes.forest.parent n l there in
      let e = (same n l).parent there in
      let v = up n l there in
      let w = same (upper p.net t n) (above_within n l there) in
      record {
        within = let inside = h.within in omega arith;
        closed = ap p.is_closed (sym e) ∙ h.closed;
        ends = ⊎_elim (λ a. inl (ap p.from (sym e) ∙ a)) (λ a. inr (ap p.to (sym e) ∙ a)) h.ends;
        listed = ap u.is_listed (sym v) ∙ sym w.listed ∙ h.listed;
        deeper = sym ((same n l).depth (listed n there)) ∙ h.deeper ∙ ap suc (w.depth h.listed ∙ ap u.depth v);
      }

  forest : IsForest p.net u
  forest =
      let f = passes.forest in
      record {
        rooted = record {
          source = λ n l e. let s = f.source n l e in (sym (same n l).listed ∙ s.0, sym ((same n l).depth s.0) ∙ s.1);
          parent = parent;
        };
        stray = λ d l e. ⊎_elim
            (λ a. inl (a.0, a.1, sym (hung a.0 a.1) ∙ a.2, sym ((same a.0 a.1).parent a.2) ∙ a.3))
            (λ a. inr (sym (same (p.from d) (sound.from d l)).listed ∙ a.0, sym (same (p.to d) (sound.to d l)).listed ∙ a.1))
            (f.stray d l e);
      }

  -- each node has the same children, and they add the same
  child : (n m : ℕ) → m < p.nodes → is_child p.net t n m ≡ is_child p.net u n m
  child n m l = and_at (has_parent p.net t m) (has_parent p.net u m) (upper p.net t m == n) (upper p.net u m == n) (hung m l) (λ h. ap (λ x. x == n) (up m l h))

  hangs_below : (n m : ℕ) → is_child p.net t n m ≡ true → has_parent p.net t m ≡ true
  hangs_below n m h = (and_parts (has_parent p.net t m) (upper p.net t m == n) h).0

  choices : (m : ℕ) → m < p.nodes → has_parent p.net t m ≡ true → choice p t m ≡ choice p u m
  choices m l h =
      ap (λ d. choice_by p d (t.live_cost m) (t.dark_cost m)) ((same m l).parent h)
      ∙ ap (λ x. choice_by p (u.parent m) x (t.dark_cost m)) ((same m l).live (listed m h))
      ∙ ap (λ y. choice_by p (u.parent m) (u.live_cost m) y) ((same m l).dark (listed m h))

  shares : (m : ℕ) → m < p.nodes → has_parent p.net t m ≡ true → dark_share p t m ≡ dark_share p u m
  shares m l h =
      ap (λ d. dark_share_by p d (t.dark_cost m)) ((same m l).parent h)
      ∙ ap (λ y. dark_share_by p (u.parent m) y) ((same m l).dark (listed m h))

  rows : IsBelowChildren p u
  rows = record {
    live = λ n l e.
        let e' = (same n l).listed ∙ e in
        let most = passes.rows.live n l e' in
        let row = (same n l).live e' in
        let all = total_same p.nodes (λ m. cond (is_child p.net t n m) (choice p t m) 0) (λ m. cond (is_child p.net u n m) (choice p u m) 0)
        (λ m lm. cond_at (is_child p.net t n m) (is_child p.net u n m) (choice p t m) (choice p u m) (child n m lm) (λ h. choices m lm (hangs_below n m h))) in
        omega arith;
    dark = λ n l e.
        let e' = (same n l).listed ∙ e in
        let most = passes.rows.dark n l e' in
        let row = (same n l).dark e' in
        let all = total_same p.nodes (λ m. cond (is_child p.net t n m) (dark_share p t m) 0) (λ m. cond (is_child p.net u n m) (dark_share p u m) 0)
        (λ m lm. cond_at (is_child p.net t n m) (is_child p.net u n m) (dark_share p t m) (dark_share p u m) (child n m lm) (λ h. shares m lm (hangs_below n m h))) in
        omega arith;
  }

  -- the same nodes are cut off
  cut_off : (k n : ℕ) → n < p.nodes → cut_above p.net t cut k n ≡ cut_above p.net u other k n
  cut_off zero n l = refl
  cut_off (suc k) n l =
      and_at (has_parent p.net t n) (has_parent p.net u n) (cut (t.parent n) || cut_above p.net t cut k (upper p.net t n)) (other (u.parent n) || cut_above p.net u other k (upper p.net u n)) (hung n l)
      (λ h. ap (λ b. b || cut_above p.net t cut k (upper p.net t n)) (cuts (t.parent n) (passes.forest.parent n l h).within ∙ ap other ((same n l).parent h))
      ∙ ap (λ b. other (u.parent n) || b) (cut_off k (upper p.net t n) (above_within n l h) ∙ ap (cut_above p.net u other k) (up n l h)))

  lights : (n : ℕ) → n < p.nodes → lit p.net t cut n ≡ lit p.net u other n
  lights n l =
      and_at (t.is_listed n) (u.is_listed n) (not (cut_above p.net t cut (t.depth n) n)) (not (cut_above p.net u other (u.depth n) n)) (same n l).listed
      (λ e. ap not (cut_off (t.depth n) n l ∙ ap (λ k. cut_above p.net u other k n) ((same n l).depth e)))

  cut_cost : cost_by_table p u other ≡ c
  cut_cost =
      let is = passes.cut_cost in
      let opened = total_same p.devices (λ d. cond (cut d) (p.weight d) 0) (λ d. cond (other d) (p.weight d) 0) (λ d l. ap (λ b. cond b (p.weight d) 0) (cuts d l)) in
      let said = total_same p.nodes (λ n. cond (lit p.net t cut n) (p.dark_weight n) (p.live_weight n)) (λ n. cond (lit p.net u other n) (p.dark_weight n) (p.live_weight n))
      (λ n l. ap (λ b. cond b (p.dark_weight n) (p.live_weight n)) (lights n l)) in
      omega arith

  total_cost : c ≡ bound_of p u
  total_cost =
      let is = passes.total_cost in
      let sources = total_same p.nodes (λ n. cond (p.is_source n) (t.live_cost n) 0) (λ n. cond (p.is_source n) (u.live_cost n) 0)
      (λ n l. cond_at (p.is_source n) (p.is_source n) (t.live_cost n) (u.live_cost n) refl (λ e. (same n l).live (passes.forest.source n l e).0)) in
      let unlisted = total_same p.nodes (λ n. cond (t.is_listed n) 0 (p.live_weight n)) (λ n. cond (u.is_listed n) 0 (p.live_weight n)) (λ n l. ap (λ b. cond b 0 (p.live_weight n)) (same n l).listed) in
      let apart = total_same p.devices (λ d. cond (p.marked_open d && (not (t.is_listed (p.from d)) && not (t.is_listed (p.to d)))) (p.weight d) 0)
      (λ d. cond (p.marked_open d && (not (u.is_listed (p.from d)) && not (u.is_listed (p.to d)))) (p.weight d) 0)
      (λ d l. ap (λ b. cond (p.marked_open d && (not b && not (t.is_listed (p.to d)))) (p.weight d) 0) (same (p.from d) (sound.from d l)).listed
      ∙ ap (λ b. cond (p.marked_open d && (not (u.is_listed (p.from d)) && not b)) (p.weight d) 0) (same (p.to d) (sound.to d l)).listed) in
      omega arith

  pub passes_too : PassesCheck p u other c
  passes_too = record { feasible = feasible; forest = forest; rows = rows; cut_cost = cut_cost; total_cost = total_cost }
