-- The verdict of the local check: the first rule whose condition fails, and the first place by number where it does.
use Rattle.std.specs.Prelude.{ℕ, zero, suc, Bool, List, [], ◌∷◌, ◌++◌, Option, Some, None, if◌then◌else◌}
use Rattle.std.specs.Option.{option_map}
use Rattle.outage_rules.specs.Network.{Network, Problem, Cut}
use Rattle.outage_rules.specs.Certificate.{Table}
use Rattle.bound_checker.specs.declared.rules.CheckRule.{CheckRule}
use Rattle.bound_checker.specs.declared.rules.CheckRule.TheVariants.{NotClosed, MarkedOk, MissingOpen, BadSource, BadParent, StrayDevice, LiveRow, DarkRow, CutCost, Total}
use Rattle.bound_checker.specs.declared.rules.Place.{Place}
use Rattle.bound_checker.specs.declared.rules.Place.TheVariants.{Node, Device, Nowhere}
use Rattle.bound_checker.specs.declared.rules.Verdict.{Verdict}
use Rattle.bound_checker.specs.declared.rules.Verdict.TheVariants.{Valid, Invalid}
use Rattle.bound_checker.specs.Conditions.{is_not_closed, is_cut_though_ok, is_missing, is_bad_source, has_bad_parent, is_stray, is_live_above, is_dark_above, costs_otherwise, adds_up_otherwise}

-- a number that was found before, or this one where it passes
abbrev pub or_here : Option ℕ → Bool → ℕ → Option ℕ
or_here (Some k) passes n = Some k
or_here None passes n = if passes then Some n else None

-- the first number below a bound that passes
abbrev pub first_below : ℕ → (ℕ → Bool) → Option ℕ
first_below zero test = None
first_below (suc n) test = or_here (first_below n test) (test n) n

-- a rule, and the first place where its condition fails
pub record Trial : Type 0 where
  pub rule : CheckRule
  pub place : Option Place

abbrev pub at_device : ℕ → Place
at_device d = Device (record { 0 = d })

abbrev pub at_node : ℕ → Place
at_node n = Node (record { 0 = n })

-- of a condition on devices
abbrev pub by_device : CheckRule → ℕ → (ℕ → Bool) → Trial
by_device rule devices fails = record { rule = rule; place = option_map at_device (first_below devices fails) }

-- of a condition on nodes
abbrev pub by_node : CheckRule → ℕ → (ℕ → Bool) → Trial
by_node rule nodes fails = record { rule = rule; place = option_map at_node (first_below nodes fails) }

-- of a condition on the whole
abbrev pub on_the_whole : CheckRule → Bool → Trial
on_the_whole rule fails = record { rule = rule; place = if fails then Some Nowhere else None }

-- on the cut by itself
abbrev pub cut_trials : Problem → Cut → List Trial
cut_trials p cut =
    by_device NotClosed p.devices (is_not_closed p.net cut)
    ∷ by_device MarkedOk p.devices (is_cut_though_ok p cut)
    ∷ by_device MissingOpen p.devices (is_missing p cut)
    ∷ []

-- on the chains of parents
abbrev pub forest_trials : Network → Table → List Trial
forest_trials g t =
    by_node BadSource g.nodes (is_bad_source g t)
    ∷ by_node BadParent g.nodes (has_bad_parent g t)
    ∷ by_device StrayDevice g.devices (is_stray g t)
    ∷ []

-- on each row and its children's
abbrev pub row_trials : Problem → Table → List Trial
row_trials p t =
    by_node LiveRow p.nodes (is_live_above p t)
    ∷ by_node DarkRow p.nodes (is_dark_above p t)
    ∷ []

-- on the sums
abbrev pub cost_trials : Problem → Table → Cut → ℕ → List Trial
cost_trials p t cut c =
    on_the_whole CutCost (costs_otherwise p t cut c)
    ∷ on_the_whole Total (adds_up_otherwise p t c)
    ∷ []

-- invalid where a place was found, else what the rest says
abbrev pub or_else : CheckRule → Option Place → Verdict → Verdict
or_else rule None rest = rest
or_else rule (Some place) rest = Invalid rule place

-- the first rule with a place
abbrev pub first_failed : List Trial → Verdict
first_failed [] = Valid
first_failed (trial ∷ rest) = or_else trial.rule trial.place (first_failed rest)

-- all conditions in their order
unfoldable pub verdict_of : Problem → Table → Cut → ℕ → Verdict
verdict_of p t cut c = first_failed (cut_trials p cut ++ (forest_trials p.net t ++ (row_trials p t ++ cost_trials p t cut c)))
