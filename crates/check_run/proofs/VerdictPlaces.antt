-- A verdict names a place of the network.
use Rattle.std.proofs.Common.{◌≡◌, ℕ, zero, suc, ◌<◌, Bool, true, false, refl, sym, subst, arith, length, Some, None}
use Rattle.std.specs.Prelude.{Option, IfSome, if◌then◌else◌}
use Rattle.std.specs.Option.{option_map}
use Rattle.outage_rules.specs.Network.{Problem, Cut}
use Rattle.outage_rules.specs.Certificate as certificate
use Rattle.grid_model.specs.Parts.{Parts}
use Rattle.history_rules.specs.Posed.{problem_after}
use Rattle.bound_table.specs.Table.{Table}
use Rattle.bound_checker.specs.Claimed.{table_of, cut_of}
use Rattle.bound_checker.specs.Conditions.{is_not_closed, is_cut_though_ok, is_missing, is_bad_source, has_bad_parent, is_stray, is_live_above, is_dark_above, costs_otherwise, adds_up_otherwise}
use Rattle.bound_checker.specs.Verdict.{or_here, first_below, or_else, at_node, at_device, verdict_of}
use Rattle.bound_checker.specs.declared.rules.CheckRule.{CheckRule}
use Rattle.bound_checker.specs.declared.rules.CheckRule.TheVariants.{NotClosed, MarkedOk, MissingOpen, BadSource, BadParent, StrayDevice, LiveRow, DarkRow, CutCost, Total}
use Rattle.bound_checker.specs.declared.rules.Place.{Place}
use Rattle.bound_checker.specs.declared.rules.Place.TheVariants.{Nowhere}
use Rattle.bound_checker.specs.declared.rules.Verdict.{Verdict}
use Rattle.outage_engine.specs.Engined.{Engined, IsEngine}
use Rattle.run_rules.specs.Told.{IsPlaceOf, IsVerdictOf}
use Rattle.check_run.specs.Reported.{IsVerdictOn}

-- the first number that passes is below the bound
here_within : (found : Option ℕ) (passes : Bool) (n : ℕ) → IfSome found (λ k. k < n) → IfSome (or_here found passes n) (λ k. k < suc n)
here_within (Some k) passes n l = omega arith
here_within None true n l = omega arith
here_within None false n l = tt

first_within : (n : ℕ) (test : ℕ → Bool) → IfSome (first_below n test) (λ k. k < n)
first_within zero test = tt
first_within (suc n) test = here_within (first_below n test) (test n) n (first_within n test)

module _ (g : Parts) where
  node_placed : (found : Option ℕ) → IfSome found (λ k. k < length g.nodes) → IfSome (option_map at_node found) (IsPlaceOf g)
  node_placed (Some k) l = l
  node_placed None l = tt

  device_placed : (found : Option ℕ) → IfSome found (λ k. k < length g.devices) → IfSome (option_map at_device found) (IsPlaceOf g)
  device_placed (Some k) l = l
  device_placed None l = tt

  whole_placed : (fails : Bool) → IfSome (if fails then Some Nowhere else None) (IsPlaceOf g)
  whole_placed true = tt
  whole_placed false = tt

  -- a rule with a place of the network, or else the rest
  else_placed : (rule : CheckRule) (place : Option Place) (rest : Verdict) → IfSome place (IsPlaceOf g) → IsVerdictOf g rest → IsVerdictOf g (or_else rule place rest)
  else_placed rule (Some place) rest here later = here
  else_placed rule None rest here later = later

  module _ (p : Problem) (nodes : p.nodes ≡ length g.nodes) (devices : p.devices ≡ length g.devices) where
    by_nodes : (test : ℕ → Bool) → IfSome (option_map at_node (first_below p.nodes test)) (IsPlaceOf g)
    by_nodes test = node_placed (first_below p.nodes test) (subst (λ n. IfSome (first_below p.nodes test) (λ k. k < n)) nodes (first_within p.nodes test))

    by_devices : (test : ℕ → Bool) → IfSome (option_map at_device (first_below p.devices test)) (IsPlaceOf g)
    by_devices test = device_placed (first_below p.devices test) (subst (λ n. IfSome (first_below p.devices test) (λ k. k < n)) devices (first_within p.devices test))

    pub verdict_placed : (t : certificate.Table) (cut : Cut) (c : ℕ) → IsVerdictOf g (verdict_of p t cut c)
    unfolding verdict_of
    verdict_placed t cut c =
        else_placed NotClosed _ _ (by_devices (is_not_closed p.net cut))
        (else_placed MarkedOk _ _ (by_devices (is_cut_though_ok p cut))
        (else_placed MissingOpen _ _ (by_devices (is_missing p cut))
        (else_placed BadSource _ _ (by_nodes (is_bad_source p.net t))
        (else_placed BadParent _ _ (by_nodes (has_bad_parent p.net t))
        (else_placed StrayDevice _ _ (by_devices (is_stray p.net t))
        (else_placed LiveRow _ _ (by_nodes (is_live_above p t))
        (else_placed DarkRow _ _ (by_nodes (is_dark_above p t))
        (else_placed CutCost _ _ (whole_placed (costs_otherwise p t cut c))
        (else_placed Total _ _ (whole_placed (adds_up_otherwise p t c)) tt)))))))))

-- the verdict on bounds by an engine names a place of the network
pub placed_by : (e : Engined) (b : Table) (v : Verdict) → IsEngine e → IsVerdictOn e b v → IsVerdictOf e.grid v
unfolding problem_after IsVerdictOn
placed_by e b v engine is =
    subst (IsVerdictOf e.grid) (sym (is engine.0 engine.1))
    (verdict_placed e.grid (problem_after e.grid engine.0) refl refl (table_of (length e.grid.devices) b.rows) (cut_of b.cuts) b.cost)
