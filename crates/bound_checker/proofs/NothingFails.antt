-- Where the table passes the check and no source has a parent, no condition fails.
use Rattle.std.proofs.Common.{◌≡◌, ℕ, suc, ◌<◌, Bool, true, false, refl, sym, ◌∙◌, ⊎_elim}
use Rattle.std.specs.Prelude.{◌&&◌, ◌||◌, not, ◌==◌, nat_lt, ◌⊎◌, [], ◌∷◌, ◌++◌, Some, None, if◌then◌else◌}
use Rattle.std.specs.Option.{option_map}
use Rattle.std.proofs.lemmas.Bool.{and_from, or_left, or_right, not_from_true, not_from_false, eq-eqb, lt-ltb, le-ltb}
use Rattle.outage_rules.specs.Sum.{some_below}
use Rattle.outage_rules.specs.Network.{Network, Problem, Cut}
use Rattle.outage_rules.specs.Certificate.{Table, has_parent, upper, cost_by_table, bound_of, HasParent, PassesCheck}
use Rattle.outage_rules.specs.Reference.{test_parent, test_stray}
use Rattle.outage_rules.proofs.Sums.{some_below_at}
use Rattle.bound_checker.specs.declared.rules.CheckRule.{CheckRule}
use Rattle.bound_checker.specs.declared.rules.CheckRule.TheVariants.{NotClosed, MarkedOk, MissingOpen, BadSource, BadParent, StrayDevice, LiveRow, DarkRow, CutCost, Total}
use Rattle.bound_checker.specs.declared.rules.Place.{Place}
use Rattle.bound_checker.specs.declared.rules.Place.TheVariants.{Nowhere}
use Rattle.bound_checker.specs.declared.rules.Verdict.{Verdict}
use Rattle.bound_checker.specs.declared.rules.Verdict.TheVariants.{Valid}
use Rattle.bound_checker.specs.Conditions.{is_not_closed, is_cut_though_ok, is_missing, is_bad_source, has_bad_parent, is_stray, most_live, most_dark, is_live_above, is_dark_above, costs_otherwise, adds_up_otherwise}
use Rattle.bound_checker.specs.Verdict.{at_device, at_node, by_device, by_node, on_the_whole, cut_trials, forest_trials, row_trials, cost_trials, first_below, first_failed, or_else, verdict_of}
use Rattle.bound_checker.specs.Laws.{SourcesHaveNoParent}
use Rattle.bound_checker.proofs.FirstBelow.{none_below}
use Rattle.bound_checker.proofs.Trials.{holds, behind}

-- two things that aren't so together
never : (a b : Bool) → (a ≡ true → b ≡ false) → (a && b) ≡ false
never true b h = h refl
never false b h = refl

never_with : (a b : Bool) → (b ≡ true → a ≡ false) → (a && b) ≡ false
never_with true true h = h refl
never_with true false h = refl
never_with false b h = refl

-- a thing that is so only where another one is
only_with : (a b : Bool) → (a ≡ true → b ≡ true) → (a && not b) ≡ false
only_with a b h = never a (not b) (λ e. not_from_true b (h e))

-- a condition that fails nowhere leaves the verdict to the others
nowhere : (rule : CheckRule) (at : ℕ → Place) (n : ℕ) (fails : ℕ → Bool) (rest : Verdict) → ((k : ℕ) → k < n → fails k ≡ false) → rest ≡ Valid → or_else rule (option_map at (first_below n fails)) rest ≡ Valid
nowhere rule at n fails rest h e = sym (holds rule at (first_below n fails) rest (sym (none_below n fails h))) ∙ e

-- and so does one on the whole
not_whole : (rule : CheckRule) (fails : Bool) (rest : Verdict) → fails ≡ false → rest ≡ Valid → or_else rule (if fails then Some Nowhere else None) rest ≡ Valid
not_whole rule false rest h e = e
not_whole rule true rest h e = absurd (let x : ⊥ = cc in x)

-- a parent passes its test
parent_passes : (g : Network) (t : Table) (n : ℕ) → HasParent g t n → test_parent g t n ≡ true
parent_passes g t n h =
    let d = t.parent n in
    let u = upper g t n in
    and_from (nat_lt d g.devices) (g.is_closed d && ((g.from d == n || g.to d == n) && (t.is_listed u && (t.depth n == suc (t.depth u))))) (lt-ltb d g.devices h.within)
    (and_from (g.is_closed d) ((g.from d == n || g.to d == n) && (t.is_listed u && (t.depth n == suc (t.depth u)))) h.closed
    (and_from (g.from d == n || g.to d == n) (t.is_listed u && (t.depth n == suc (t.depth u)))
    (⊎_elim (λ e. or_left (g.from d == n) (g.to d == n) (eq-eqb (g.from d) n e)) (λ e. or_right (g.from d == n) (g.to d == n) (eq-eqb (g.to d) n e)) h.ends)
    (and_from (t.is_listed u) (t.depth n == suc (t.depth u)) h.listed (eq-eqb (t.depth n) (suc (t.depth u)) h.deeper))))

-- a device that is a parent device, or has no listed end, is no stray
no_stray : (g : Network) (t : Table) (d : ℕ) → ((n : ℕ) × (n < g.nodes) × (has_parent g t n ≡ true) × (t.parent n ≡ d)) ⊎ ((t.is_listed (g.from d) ≡ false) × (t.is_listed (g.to d) ≡ false)) → test_stray g t d ≡ true
no_stray g t d h =
    let held = some_below g.nodes (λ n. has_parent g t n && (t.parent n == d)) in
    let bare = not (t.is_listed (g.from d)) && not (t.is_listed (g.to d)) in
    ⊎_elim
    (λ a. or_left held bare (some_below_at g.nodes (λ n. has_parent g t n && (t.parent n == d)) a.0 a.1 (and_from (has_parent g t a.0) (t.parent a.0 == d) a.2 (eq-eqb (t.parent a.0) d a.3))))
    (λ a. or_right held bare (and_from (not (t.is_listed (g.from d))) (not (t.is_listed (g.to d))) (not_from_false (t.is_listed (g.from d)) a.0) (not_from_false (t.is_listed (g.to d)) a.1)))
    h

module _ (p : Problem) (t : Table) (cut : Cut) (c : ℕ) (passes : PassesCheck p t cut c) (sources : SourcesHaveNoParent p.net t) where
  cut_valid : first_failed (cut_trials p cut) ≡ Valid
  cut_valid =
      let second = by_device MarkedOk p.devices (is_cut_though_ok p cut) in
      let third = by_device MissingOpen p.devices (is_missing p cut) in
      let f = passes.feasible in
      nowhere NotClosed at_device p.devices (is_not_closed p.net cut) (first_failed (second ∷ third ∷ [])) (λ d l. only_with (cut d) (p.is_closed d) (f.closed d l))
      (nowhere MarkedOk at_device p.devices (is_cut_though_ok p cut) (first_failed (third ∷ [])) (λ d l. never_with (cut d) (p.marked_ok d) (f.fine d l))
      (nowhere MissingOpen at_device p.devices (is_missing p cut) Valid (λ d l. only_with (p.marked_open d) (cut d) (f.opened d l)) refl))

  good_source : (n : ℕ) → n < p.nodes → p.is_source n ≡ true → (t.is_listed n && (t.parent n == p.devices && t.depth n == 0)) ≡ true
  good_source n l e =
      let s = passes.forest.source n l e in
      and_from (t.is_listed n) (t.parent n == p.devices && t.depth n == 0) s.0
      (and_from (t.parent n == p.devices) (t.depth n == 0) (eq-eqb (t.parent n) p.devices (sources n l e)) (eq-eqb (t.depth n) 0 s.1))

  forest_valid : first_failed (forest_trials p.net t) ≡ Valid
  forest_valid =
      let second = by_node BadParent p.nodes (has_bad_parent p.net t) in
      let third = by_device StrayDevice p.devices (is_stray p.net t) in
      let f = passes.forest in
      nowhere BadSource at_node p.nodes (is_bad_source p.net t) (first_failed (second ∷ third ∷ []))
      (λ n l. only_with (p.is_source n) (t.is_listed n && (t.parent n == p.devices && t.depth n == 0)) (good_source n l))
      (nowhere BadParent at_node p.nodes (has_bad_parent p.net t) (first_failed (third ∷ [])) (λ n l. only_with (has_parent p.net t n) (test_parent p.net t n) (λ h. parent_passes p.net t n (f.parent n l h)))
      (nowhere StrayDevice at_device p.devices (is_stray p.net t) Valid (λ d l. only_with (p.is_closed d) (test_stray p.net t d) (λ e. no_stray p.net t d (f.stray d l e))) refl))

  rows_valid : first_failed (row_trials p t) ≡ Valid
  rows_valid =
      let second = by_node DarkRow p.nodes (is_dark_above p t) in
      let r = passes.rows in
      nowhere LiveRow at_node p.nodes (is_live_above p t) (first_failed (second ∷ [])) (λ n l. never (t.is_listed n) (nat_lt (most_live p t n) (t.live_cost n)) (λ e. le-ltb (most_live p t n) (t.live_cost n) (r.live n l e)))
      (nowhere DarkRow at_node p.nodes (is_dark_above p t) Valid (λ n l. never (t.is_listed n) (nat_lt (most_dark p t n) (t.dark_cost n)) (λ e. le-ltb (most_dark p t n) (t.dark_cost n) (r.dark n l e))) refl)

  costs_valid : first_failed (cost_trials p t cut c) ≡ Valid
  costs_valid =
      not_whole CutCost (costs_otherwise p t cut c) (first_failed (on_the_whole Total (adds_up_otherwise p t c) ∷ []))
      (not_from_true (cost_by_table p t cut == c) (eq-eqb (cost_by_table p t cut) c passes.cut_cost))
      (not_whole Total (adds_up_otherwise p t c) Valid (not_from_true (bound_of p t == c) (eq-eqb (bound_of p t) c (sym passes.total_cost))) refl)

  pub valid : verdict_of p t cut c ≡ Valid
  unfolding verdict_of
  valid =
      behind (cut_trials p cut) (forest_trials p.net t ++ (row_trials p t ++ cost_trials p t cut c)) cut_valid
      ∙ behind (forest_trials p.net t) (row_trials p t ++ cost_trials p t cut c) forest_valid
      ∙ behind (row_trials p t) (cost_trials p t cut c) rows_valid
      ∙ costs_valid
