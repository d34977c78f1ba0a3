-- The last device of a cut on the walk to a node, by the node's chain of parents.
use Rattle.std.proofs.Common.{◌≡◌, ◌≢◌, ℕ, zero, suc, ◌<◌, ◌≤◌, Bool, true, false, cond, refl, sym, ap, ◌∙◌, subst, ⊎_elim, inl, inr, arith, Some, None}
use Rattle.std.specs.Prelude.{◌==◌, ◌||◌, ◌&&◌, ◌⊎◌, not}
use Rattle.std.specs.List.{range_with_len, list_all}
use Rattle.std.proofs.lemmas.Bool.{cases_Bool, and_parts, and_from, and_left, and_right, or_left, eq-eqb, eqb-true, ne_eqb, false≢true, false_from_ne_true}
use Rattle.outage_rules.specs.Network.{Problem, Cut, IsSound}
use Rattle.outage_rules.specs.Certificate.{Table, has_parent, upper, IsForest}
use Rattle.outage_rules.proofs.Rooted.{parent_ends}
use Rattle.history_rules.specs.State.{is_below}
use Rattle.history_rules.specs.Outages.{is_cut_on_walk, is_last_cut, last_cut, cut_above}
use Rattle.nested_faults.specs.LastCuts.{last_above}
use Rattle.nested_faults.proofs.Noting.{nothing_above}
use Rattle.nested_faults.proofs.Ranges.{find_none, find_first, find_same, all_same, all_from, all_at}
use Rattle.nested_faults.proofs.Chains.{Hangs, in_turn, upper_within, deeper, below_step, below_none, hung, not_above_itself, below_from, below_both}

-- the cut without one device
abbrev pub without : Cut → ℕ → Cut
without cut d = λ e. cut e && not (e == d)

uncut_first : (c b s : Bool) → (s ≡ true → c ≡ false) → (c && (s || b)) ≡ (c && b)
uncut_first c b false f = refl
uncut_first c b true f = ap (λ x. x && true) (f refl) ∙ sym (ap (λ x. x && b) (f refl))

without_same : (c b s : Bool) → (s ≡ true → b ≡ false) → ((c && not s) && b) ≡ (c && b)
without_same true b true f = sym (f refl)
without_same false b true f = refl
without_same true b false f = refl
without_same false b false f = refl

covered : (w s b : Bool) → (w ≡ true → s ≡ false → b ≡ true) → (not w || (s || b)) ≡ true
covered false s b f = refl
covered true true b f = refl
covered true false b f = f refl refl

uncovered : (w s b : Bool) → (not w || (s || b)) ≡ true → w ≡ true → s ≡ false → b ≡ true
uncovered true false b e f g = e
uncovered true true b e f g = absurd (false≢true (sym g))
uncovered false s b e f g = absurd (false≢true f)

module _ (p : Problem) (t : Table) (sound : IsSound p) (forest : IsForest p.net t) where
  -- the last device is settled by which ones are on the walk
  same_walk : (cut cut' : Cut) (n n' : ℕ) → ((d : ℕ) → is_cut_on_walk p.net cut n d ≡ is_cut_on_walk p.net cut' n' d) → last_cut p.net cut n ≡ last_cut p.net cut' n'
  same_walk cut cut' n n' same =
      find_same (is_last_cut p.net cut n) (is_last_cut p.net cut' n') 0 p.devices
      (λ d l m. ap (λ b. b && list_all (λ e. not (is_cut_on_walk p.net cut n e) || ((e == d) || is_below p.net e (p.from d))) (range_with_len 0 p.devices)) (same d)
      ∙ ap (λ b. is_cut_on_walk p.net cut' n' d && b) (all_same (λ e. not (is_cut_on_walk p.net cut n e) || ((e == d) || is_below p.net e (p.from d))) (λ e. not (is_cut_on_walk p.net cut' n' e) || ((e == d) || is_below p.net e (p.from d))) 0 p.devices
      (λ e le me. ap (λ b. not b || ((e == d) || is_below p.net e (p.from d))) (same e))))

  pub no_last : (cut : Cut) (n : ℕ) → n < p.nodes → has_parent p.net t n ≡ false → last_cut p.net cut n ≡ None
  no_last cut n l hp =
      find_none (is_last_cut p.net cut n) 0 p.devices
      (λ d a b. and_left (is_cut_on_walk p.net cut n d) (list_all (λ e. not (is_cut_on_walk p.net cut n e) || ((e == d) || is_below p.net e (p.from d))) (range_with_len 0 p.devices))
      (and_right (cut d) (is_below p.net d n) (below_none p t sound forest d n l hp)))

  -- where the parent device isn't cut, the last one is that of the node above
  pub last_further : (cut : Cut) (n : ℕ) → n < p.nodes → has_parent p.net t n ≡ true → cut (t.parent n) ≡ false → last_cut p.net cut n ≡ last_cut p.net cut (upper p.net t n)
  last_further cut n l hp c =
      same_walk cut cut n (upper p.net t n)
      (λ d. ap (λ b. cut d && b) (below_step p t sound forest d n l hp)
      ∙ uncut_first (cut d) (is_below p.net d (upper p.net t n)) (t.parent n == d) (λ e. ap cut (sym (eqb-true (t.parent n) d e)) ∙ c))

  module _ (cut : Cut) (n : ℕ) (l : n < p.nodes) (hp : has_parent p.net t n ≡ true) (c : cut (t.parent n) ≡ true) where
    on_walk : is_below p.net (t.parent n) n ≡ true
    on_walk = below_step p t sound forest (t.parent n) n l hp ∙ or_left (t.parent n == t.parent n) (is_below p.net (t.parent n) (upper p.net t n)) (eq-eqb (t.parent n) (t.parent n) refl)

    -- another device on the walk is on the walk to the node above
    other_above : (e : ℕ) → is_below p.net e n ≡ true → t.parent n ≢ e → is_below p.net e (upper p.net t n) ≡ true
    other_above e b ne =
        in_turn (t.parent n == e) (is_below p.net e (upper p.net t n)) (is_below p.net e (upper p.net t n) ≡ true) (sym (below_step p t sound forest e n l hp) ∙ b)
        (λ same. absurd (ne (eqb-true (t.parent n) e same)))
        (λ above. above)

    parent_last : is_last_cut p.net cut n (t.parent n) ≡ true
    parent_last =
        and_from (is_cut_on_walk p.net cut n (t.parent n)) (list_all (λ e. not (is_cut_on_walk p.net cut n e) || ((e == t.parent n) || is_below p.net e (p.from (t.parent n)))) (range_with_len 0 p.devices))
        (and_from (cut (t.parent n)) (is_below p.net (t.parent n) n) c on_walk)
        (all_from (λ e. not (is_cut_on_walk p.net cut n e) || ((e == t.parent n) || is_below p.net e (p.from (t.parent n)))) 0 p.devices
        (λ e a b. covered (is_cut_on_walk p.net cut n e) (e == t.parent n) (is_below p.net e (p.from (t.parent n)))
        (λ w ne. below_from p t sound forest e n l hp (other_above e (and_parts (cut e) (is_below p.net e n) w).1 (λ s. false≢true (sym ne ∙ eq-eqb e (t.parent n) (sym s)))))))

    -- and no other one is the last
    only_parent : (e : ℕ) → t.parent n ≢ e → is_last_cut p.net cut n e ≡ false
    only_parent e ne =
        false_from_ne_true (is_last_cut p.net cut n e)
        (λ last. let parts = and_parts (is_cut_on_walk p.net cut n e) (list_all (λ d. not (is_cut_on_walk p.net cut n d) || ((d == e) || is_below p.net d (p.from e))) (range_with_len 0 p.devices)) last in
        let above = other_above e (and_parts (cut e) (is_below p.net e n) parts.0).1 ne in
        let within = (forest.parent n l hp).within in
        let both = uncovered (is_cut_on_walk p.net cut n (t.parent n)) (t.parent n == e) (is_below p.net (t.parent n) (p.from e))
        (all_at (λ d. not (is_cut_on_walk p.net cut n d) || ((d == e) || is_below p.net d (p.from e))) (t.parent n) 0 p.devices parts.1 (omega arith) (omega arith))
        (and_from (cut (t.parent n)) (is_below p.net (t.parent n) n) c on_walk) (ne_eqb (t.parent n) e ne) in
        false≢true (sym (not_above_itself p t sound forest n l hp) ∙ below_both p t sound forest (t.depth (upper p.net t n)) (t.parent n) e (upper p.net t n) (upper_within p t sound forest n l hp) refl above both))

    -- where the parent device is cut, it is the last one
    pub last_here : last_cut p.net cut n ≡ Some (t.parent n)
    last_here =
        find_first (is_last_cut p.net cut n) (t.parent n) 0 p.devices (omega arith) (let a = (forest.parent n l hp).within in omega arith) parent_last
        (λ d a b. only_parent d (λ e. let e' : t.parent n ≡ d = e in absurd (omega arith)))

  -- the last cut device is that of the chain
  pub last_is : (k : ℕ) (cut : Cut) (n : ℕ) → n < p.nodes → t.depth n ≡ k → last_cut p.net cut n ≡ last_above p.net t cut k n
  last_is zero cut n l e =
      ⊎_elim
      (λ hp. absurd (let x = deeper p t sound forest n l hp in omega arith))
      (λ hp. no_last cut n l hp)
      (cases_Bool (has_parent p.net t n))
  last_is (suc k) cut n l e =
      ⊎_elim
      (λ hp. at hp (last_is k cut (upper p.net t n) (upper_within p t sound forest n l hp) (let x = deeper p t sound forest n l hp in omega arith)) (cases_Bool (cut (t.parent n))) ∙ sym (ap (λ b. cond b (cond (cut (t.parent n)) (Some (t.parent n)) (last_above p.net t cut k (upper p.net t n))) None) hp))
      (λ hp. no_last cut n l hp ∙ sym (nothing_above p.net t cut (suc k) n hp))
      (cases_Bool (has_parent p.net t n))
    where
      at : has_parent p.net t n ≡ true → last_cut p.net cut (upper p.net t n) ≡ last_above p.net t cut k (upper p.net t n) → (cut (t.parent n) ≡ true) ⊎ (cut (t.parent n) ≡ false)
          → last_cut p.net cut n ≡ cond (cut (t.parent n)) (Some (t.parent n)) (last_above p.net t cut k (upper p.net t n))
      at hp further (inl c) = last_here cut n l hp c ∙ sym (ap (λ b. cond b (Some (t.parent n)) (last_above p.net t cut k (upper p.net t n))) c)
      at hp further (inr c) =
          last_further cut n l hp c
          ∙ further
          ∙ sym (ap (λ b. cond b (Some (t.parent n)) (last_above p.net t cut k (upper p.net t n))) c)

  -- a device that isn't on the walk to a node makes no difference
  last_without : (cut : Cut) (d n : ℕ) → is_below p.net d n ≡ false → last_cut p.net (without cut d) n ≡ last_cut p.net cut n
  last_without cut d n b =
      same_walk (without cut d) cut n n (λ e. without_same (cut e) (is_below p.net e n) (e == d) (λ s. ap (λ x. is_below p.net x n) (eqb-true e d s) ∙ b))

  -- the other last device on the walk to a device, from its upper end: where its first end hangs by it, that is the second
  pub above_second : (cut : Cut) (d : ℕ) → d < p.devices → has_parent p.net t (p.from d) ≡ true → t.parent (p.from d) ≡ d → cut_above p.net cut d ≡ last_cut p.net cut (p.to d)
  above_second cut d l hp e =
      last_further (without cut d) (p.from d) (sound.from d l) hp (ap (without cut d) e ∙ and_right (cut d) (not (d == d)) (ap not (eq-eqb d d refl)))
      ∙ last_without cut d (upper p.net t (p.from d)) (subst (λ x. is_below p.net x (upper p.net t (p.from d)) ≡ false) e (not_above_itself p t sound forest (p.from d) (sound.from d l) hp))
      ∙ ap (last_cut p.net cut) up
    where
      up : upper p.net t (p.from d) ≡ p.to d
      up = ap (λ x. cond (p.to x == p.from d) (p.from x) (p.to x)) e ∙ ap (λ b. cond b (p.from d) (p.to d)) (ne_eqb (p.to d) (p.from d) (λ s. sound.apart d l (sym s)))

  -- and else the first
  pub above_first : (cut : Cut) (d : ℕ) → d < p.devices → (has_parent p.net t (p.from d) ≡ true → t.parent (p.from d) ≢ d) → cut_above p.net cut d ≡ last_cut p.net cut (p.from d)
  above_first cut d l ne = last_without cut d (p.from d) (false_from_ne_true (is_below p.net d (p.from d)) (λ b. not_above (hung p t sound forest (t.depth (p.from d)) d (p.from d) (sound.from d l) refl b)))
    where
      not_above : (w : ℕ) × Hangs p t d w × (t.depth w ≤ t.depth (p.from d)) → ⊥
      not_above a =
          let h = forest.parent a.0 a.1.within a.1.parented in
          let x = h.deeper in
          let y = a.2 in
          ⊎_elim
          (λ b. ne (ap (has_parent p.net t) (ap p.from (sym a.1.parent) ∙ b.0) ∙ a.1.parented) (ap t.parent (ap p.from (sym a.1.parent) ∙ b.0) ∙ a.1.parent))
          (λ b. let z = ap t.depth (ap p.from (sym a.1.parent) ∙ b.1) in absurd (omega arith))
          (parent_ends p.net t (λ e. false) sound.net forest.rooted a.0 h)
