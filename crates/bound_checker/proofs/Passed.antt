-- Where no condition fails, the table passes the check.
use Rattle.std.proofs.Common.{◌≡◌, ℕ, suc, ◌<◌, Bool, true, false, List, length, get_or, refl, sym, ◌∙◌, inl, inr, ⊎_elim, slice_index_or}
use Rattle.std.specs.Prelude.{◌&&◌, ◌||◌, not, ◌==◌, nat_lt, ◌⊎◌, [], ◌∷◌, ◌++◌, None}
use Rattle.std.proofs.lemmas.Bool.{or_cases, and_parts, eqb-true, not-true, ltb-true, ltb-false}
use Rattle.outage_rules.specs.Sum.{some_below}
use Rattle.outage_rules.specs.Network.{Network, Problem, Cut}
use Rattle.outage_rules.specs.Diagnosis.{IsFeasible}
use Rattle.outage_rules.specs.Certificate.{Table, has_parent, upper, cost_by_table, bound_of, HasParent, IsForest, IsBelowChildren, PassesCheck, IsCertified}
use Rattle.outage_rules.specs.Reference.{test_parent, test_stray}
use Rattle.outage_rules.proofs.Sums.{some_below_true}
use Rattle.outage_rules.proofs.Checked.{certified}
use Rattle.grid_model.specs.Parts.{Parts}
use Rattle.grid_model.specs.Sound.{IsSoundParts}
use Rattle.grid_model.specs.Network.{network_of, network_in}
use Rattle.grid_model.specs.declared.history.Mark.{Mark}
use Rattle.grid_model.specs.declared.history.Mark.TheVariants.{Nothing, Opened, Fine}
use Rattle.grid_model.proofs.SoundParts.{sound_network}
use Rattle.bound_checker.specs.declared.rules.CheckRule.TheVariants.{NotClosed, MarkedOk, MissingOpen, BadSource, BadParent, StrayDevice, LiveRow, DarkRow, CutCost, Total}
use Rattle.bound_checker.specs.declared.rules.Verdict.TheVariants.{Valid}
use Rattle.grid_model.specs.Problem.{problem_of, says_opened, says_fine}
use Rattle.bound_checker.specs.Chains.{AllHang}
use Rattle.bound_checker.specs.Conditions.{is_not_closed, is_cut_though_ok, is_missing, is_bad_source, has_bad_parent, is_stray, most_live, most_dark, is_live_above, is_dark_above, costs_otherwise, adds_up_otherwise}
use Rattle.bound_checker.specs.Verdict.{at_device, at_node, by_device, by_node, on_the_whole, cut_trials, forest_trials, row_trials, cost_trials, first_below, first_failed, verdict_of}
use Rattle.bound_checker.specs.Laws.{SourcesHaveNoParent}
use Rattle.bound_checker.proofs.FirstBelow.{fails_below}
use Rattle.bound_checker.proofs.Trials.{both_hold, parts_hold, no_place, not_failed}

-- what isn't so unless another thing is so
unless : (a b : Bool) → (a && not b) ≡ false → a ≡ true → b ≡ true
unless true true e h = refl
unless true false e h = sym e
unless false b e h = absurd (let x : ⊥ = cc in x)

-- two things that aren't so together
apart : (a b : Bool) → (a && b) ≡ false → b ≡ true → a ≡ false
apart true b e h = sym h ∙ e
apart false b e h = refl

together : (a b : Bool) → (a && b) ≡ false → a ≡ true → b ≡ false
together true b e h = e
together false b e h = absurd (let x : ⊥ = cc in x)

not-not : (a : Bool) → not a ≡ false → a ≡ true
not-not true e = refl
not-not false e = sym e

-- the conditions on the cut hold
pub cut_holds : (p : Problem) (cut : Cut) → first_failed (cut_trials p cut) ≡ Valid →
    (first_below p.devices (is_not_closed p.net cut) ≡ None) × (first_below p.devices (is_cut_though_ok p cut) ≡ None) × (first_below p.devices (is_missing p cut) ≡ None)
cut_holds p cut e =
    let second = by_device MarkedOk p.devices (is_cut_though_ok p cut) in
    let third = by_device MissingOpen p.devices (is_missing p cut) in
    let a = both_hold (by_device NotClosed p.devices (is_not_closed p.net cut)) (second ∷ third ∷ []) e in
    let b = both_hold second (third ∷ []) a.1 in
    let d = both_hold third [] b.1 in
    (no_place at_device (first_below p.devices (is_not_closed p.net cut)) a.0, no_place at_device (first_below p.devices (is_cut_though_ok p cut)) b.0, no_place at_device (first_below p.devices (is_missing p cut)) d.0)

-- the conditions on the chains of parents hold
pub forest_holds : (g : Network) (t : Table) → first_failed (forest_trials g t) ≡ Valid →
    (first_below g.nodes (is_bad_source g t) ≡ None) × (first_below g.nodes (has_bad_parent g t) ≡ None) × (first_below g.devices (is_stray g t) ≡ None)
forest_holds g t e =
    let second = by_node BadParent g.nodes (has_bad_parent g t) in
    let third = by_device StrayDevice g.devices (is_stray g t) in
    let a = both_hold (by_node BadSource g.nodes (is_bad_source g t)) (second ∷ third ∷ []) e in
    let b = both_hold second (third ∷ []) a.1 in
    let d = both_hold third [] b.1 in
    (no_place at_node (first_below g.nodes (is_bad_source g t)) a.0, no_place at_node (first_below g.nodes (has_bad_parent g t)) b.0, no_place at_device (first_below g.devices (is_stray g t)) d.0)

-- the conditions on the rows hold
rows_hold : (p : Problem) (t : Table) → first_failed (row_trials p t) ≡ Valid →
    (first_below p.nodes (is_live_above p t) ≡ None) × (first_below p.nodes (is_dark_above p t) ≡ None)
rows_hold p t e =
    let second = by_node DarkRow p.nodes (is_dark_above p t) in
    let a = both_hold (by_node LiveRow p.nodes (is_live_above p t)) (second ∷ []) e in
    let b = both_hold second [] a.1 in
    (no_place at_node (first_below p.nodes (is_live_above p t)) a.0, no_place at_node (first_below p.nodes (is_dark_above p t)) b.0)

-- the conditions on the sums hold
costs_hold : (p : Problem) (t : Table) (cut : Cut) (c : ℕ) → first_failed (cost_trials p t cut c) ≡ Valid →
    (costs_otherwise p t cut c ≡ false) × (adds_up_otherwise p t c ≡ false)
costs_hold p t cut c e =
    let second = on_the_whole Total (adds_up_otherwise p t c) in
    let a = both_hold (on_the_whole CutCost (costs_otherwise p t cut c)) (second ∷ []) e in
    let b = both_hold second [] a.1 in
    (not_failed (costs_otherwise p t cut c) a.0, not_failed (adds_up_otherwise p t c) b.0)

-- what the test of a parent shows
hung : (g : Network) (t : Table) (n : ℕ) → test_parent g t n ≡ true → HasParent g t n
hung g t n e =
    let d = t.parent n in
    let u = upper g t n in
    let a = and_parts (nat_lt d g.devices) (g.is_closed d && ((g.from d == n || g.to d == n) && (t.is_listed u && (t.depth n == suc (t.depth u))))) e in
    let b = and_parts (g.is_closed d) ((g.from d == n || g.to d == n) && (t.is_listed u && (t.depth n == suc (t.depth u)))) a.1 in
    let h = and_parts (g.from d == n || g.to d == n) (t.is_listed u && (t.depth n == suc (t.depth u))) b.1 in
    let f = and_parts (t.is_listed u) (t.depth n == suc (t.depth u)) h.1 in
    record {
      within = ltb-true d g.devices a.0;
      closed = b.0;
      ends = ⊎_elim (λ x. inl (eqb-true (g.from d) n x)) (λ x. inr (eqb-true (g.to d) n x)) (or_cases (g.from d == n) (g.to d == n) h.0);
      listed = f.0;
      deeper = eqb-true (t.depth n) (suc (t.depth u)) f.1;
    }

-- where no parent is bad, each listed node that is no source has one
pub parents_hold : (g : Network) (t : Table) → first_below g.nodes (has_bad_parent g t) ≡ None → (n : ℕ) → n < g.nodes → has_parent g t n ≡ true → HasParent g t n
parents_hold g t e n l h =
    hung g t n (unless (has_parent g t n) (test_parent g t n) (fails_below g.nodes (has_bad_parent g t) e n l) h)

pub all_hang : (g : Parts) (closed : List Bool) (t : Table) → first_below (length g.nodes) (has_bad_parent (network_in g (λ d. slice_index_or closed d false)) t) ≡ None → AllHang (network_of g) t
all_hang g closed t e n l h =
    let a = parents_hold (network_in g (λ d. slice_index_or closed d false)) t e n l h in
    record { within = a.within; listed = a.listed; deeper = a.deeper }

module _ (p : Problem) (t : Table) (cut : Cut) (c : ℕ) (valid : verdict_of p t cut c ≡ Valid) where
  parts : (first_failed (cut_trials p cut) ≡ Valid) × (first_failed (forest_trials p.net t) ≡ Valid) × (first_failed (row_trials p t) ≡ Valid) × (first_failed (cost_trials p t cut c) ≡ Valid)
  unfolding verdict_of
  parts =
      let a = parts_hold (cut_trials p cut) (forest_trials p.net t ++ (row_trials p t ++ cost_trials p t cut c)) valid in
      let b = parts_hold (forest_trials p.net t) (row_trials p t ++ cost_trials p t cut c) a.1 in
      let d = parts_hold (row_trials p t) (cost_trials p t cut c) b.1 in
      (a.0, b.0, d.0, d.1)

  pub feasible : IsFeasible p cut
  feasible =
      let a = cut_holds p cut parts.0 in
      record {
        closed = λ d l e. unless (cut d) (p.is_closed d) (fails_below p.devices (is_not_closed p.net cut) a.0 d l) e;
        opened = λ d l e. unless (p.marked_open d) (cut d) (fails_below p.devices (is_missing p cut) a.2 d l) e;
        fine = λ d l e. apart (cut d) (p.marked_ok d) (fails_below p.devices (is_cut_though_ok p cut) a.1 d l) e;
      }

  source_row : (n : ℕ) → n < p.nodes → p.is_source n ≡ true → (t.is_listed n ≡ true) × (t.parent n ≡ p.devices) × (t.depth n ≡ 0)
  source_row n l e =
      let a = unless (p.is_source n) (t.is_listed n && (t.parent n == p.devices && t.depth n == 0)) (fails_below p.nodes (is_bad_source p.net t) (forest_holds p.net t parts.1).0 n l) e in
      let b = and_parts (t.is_listed n) (t.parent n == p.devices && t.depth n == 0) a in
      let d = and_parts (t.parent n == p.devices) (t.depth n == 0) b.1 in
      (b.0, eqb-true (t.parent n) p.devices d.0, eqb-true (t.depth n) 0 d.1)

  pub no_parents : SourcesHaveNoParent p.net t
  no_parents = λ n l e. (source_row n l e).1

  source : (n : ℕ) → n < p.nodes → p.is_source n ≡ true → (t.is_listed n ≡ true) × (t.depth n ≡ 0)
  source n l e = let a = source_row n l e in (a.0, a.2)

  stray : (d : ℕ) → d < p.devices → p.is_closed d ≡ true →
      ((n : ℕ) × (n < p.nodes) × (has_parent p.net t n ≡ true) × (t.parent n ≡ d)) ⊎ ((t.is_listed (p.from d) ≡ false) × (t.is_listed (p.to d) ≡ false))
  stray d l e =
      ⊎_elim
      (λ s. let f = some_below_true p.nodes (λ n. has_parent p.net t n && (t.parent n == d)) s in
      let a = and_parts (has_parent p.net t f.0) (t.parent f.0 == d) f.2 in inl (f.0, f.1, a.0, eqb-true (t.parent f.0) d a.1))
      (λ s. let a = and_parts (not (t.is_listed (p.from d))) (not (t.is_listed (p.to d))) s in inr (not-true (t.is_listed (p.from d)) a.0, not-true (t.is_listed (p.to d)) a.1))
      (or_cases (some_below p.nodes (λ n. has_parent p.net t n && (t.parent n == d))) (not (t.is_listed (p.from d)) && not (t.is_listed (p.to d)))
      (unless (p.is_closed d) (test_stray p.net t d) (fails_below p.devices (is_stray p.net t) (forest_holds p.net t parts.1).2 d l) e))

  forest : IsForest p.net t
  forest = record {
    rooted = record { source = source; parent = parents_hold p.net t (forest_holds p.net t parts.1).1 };
    stray = stray;
  }

  below : IsBelowChildren p t
  below =
      let a = rows_hold p t parts.2 in
      record {
        live = λ n l e. ltb-false (most_live p t n) (t.live_cost n) (together (t.is_listed n) (nat_lt (most_live p t n) (t.live_cost n)) (fails_below p.nodes (is_live_above p t) a.0 n l) e);
        dark = λ n l e. ltb-false (most_dark p t n) (t.dark_cost n) (together (t.is_listed n) (nat_lt (most_dark p t n) (t.dark_cost n)) (fails_below p.nodes (is_dark_above p t) a.1 n l) e);
      }

  pub passed : PassesCheck p t cut c
  passed =
      let a = costs_hold p t cut c parts.3 in
      record {
        feasible = feasible;
        forest = forest;
        rows = below;
        cut_cost = eqb-true (cost_by_table p t cut) c (not-not (cost_by_table p t cut == c) a.0);
        total_cost = sym (eqb-true (bound_of p t) c (not-not (bound_of p t == c) a.1));
      }

not_both : (mark : Mark) → says_opened mark ≡ true → says_fine mark ≡ false
not_both Nothing e = refl
not_both Opened e = refl
not_both Fine e = absurd (let x : ⊥ = cc in x)

-- a valid table poses a sound problem, since only closed devices can be cut
pub valid_certifies : (g : Parts) (closed : List Bool) (marks : List Mark) (dark live : List ℕ) (t : Table) (cut : Cut) (c : ℕ) → IsSoundParts g →
    verdict_of (problem_of g closed marks dark live) t cut c ≡ Valid → IsCertified (problem_of g closed marks dark live) cut c
valid_certifies g closed marks dark live t cut c s valid =
    let p = problem_of g closed marks dark live in
    let net = sound_network g s in
    let f = feasible p t cut c valid in
    certified p t cut c (record {
      net = record { from = net.from; to = net.to; apart = net.apart; sources = net.sources };
      weights = λ d l. (s.devices d l).weight;
      marks = λ d l e. (f.closed d l (f.opened d l e), not_both (get_or marks d Nothing) e);
    }) (passed p t cut c valid)
