-- The outages of a history can be ordered.
use Rattle.std.proofs.Common.{◌≡◌, ℕ, zero, suc, ◌+◌, ◌<◌, ◌≤◌, Bool, true, false, cond, refl, sym, ap, ◌∙◌, arith, List, length, Option, Some, None, is_some, IfSome}
use Rattle.std.specs.Prelude.{◌==◌, ◌||◌, ◌&&◌, not, option_map}
use Rattle.std.specs.List.{find, list_all, range_with_len, sum_by}
use Rattle.std.proofs.lemmas.Bool.{and_parts, eq-eqb, not-true, false≢true}
use Rattle.outage_rules.specs.Network.{Network, Problem, Cut, IsSound}
use Rattle.outage_rules.specs.Certificate.{IsForest}
use Rattle.outage_rules.specs.Reference.{table_of}
use Rattle.outage_rules.proofs.Computed.{exact_table}
use Rattle.grid_model.specs.Parts.{Parts}
use Rattle.grid_model.specs.Places.{device_id, node_of}
use Rattle.grid_model.specs.Sound.{IsSoundParts}
use Rattle.grid_model.specs.Problem.{posed}
use Rattle.grid_model.specs.declared.history.Event.{Event}
use Rattle.grid_model.specs.declared.history.Outage.{Outage}
use Rattle.history_rules.specs.State.{is_closed, mark_of, network_after, is_below}
use Rattle.history_rules.specs.Evidence.{dark_weight, live_weight}
use Rattle.history_rules.specs.Posed.{IsHistory, at_node, problem_after, diagnosis_after}
use Rattle.history_rules.specs.Outages.{is_cut_on_walk, is_last_cut, last_cut, cut_above, customers_of, outage_of, outages_after}
use Rattle.history_rules.specs.Crew.{above_of, above_in, top_within, is_device_of, most_customers, CanBeOrdered}
use Rattle.history_rules.proofs.RadialLemmas.{stays_radial}
use Rattle.history_rules.proofs.SoundLemmas.{problem_is_sound, history_is_diagnosed}
use Rattle.history_rules.proofs.Chains.{rank_falls}
use Rattle.history_rules.proofs.OutageLists.{listed, all_listed, find_listed, device_listed, apart_listed, sum_at_most, customers_at_most}
use Rattle.history_rules.proofs.OutageTops.{ends_within}

abbrev number_or_zero : Option ℕ → ℕ
number_or_zero None = 0
number_or_zero (Some x) = x

some_same : (a b : ℕ) → Some a ≡ Some b → a ≡ b
some_same a b e = ap number_or_zero e

-- what a search finds passes and is of the range
found_in_range : (test : ℕ → Bool) (a n x : ℕ) → find test (range_with_len a n) ≡ Some x → (x < a + n) × (test x ≡ true)
found_in_range test a zero x e = absurd (false≢true (ap is_some e))
found_in_range test a (suc n) x e = by (test a) refl e (found_in_range test (a + 1) n x)
  where
    by : (b : Bool) → test a ≡ b → cond b (Some a) (find test (range_with_len (a + 1) n)) ≡ Some x
        → (find test (range_with_len (a + 1) n) ≡ Some x → (x < (a + 1) + n) × (test x ≡ true)) → (x < a + suc n) × (test x ≡ true)
    by true t e rest = let is = some_same a x e in (omega arith, ap test (sym is) ∙ t)
    by false t e rest = let r = rest e in (let l = r.0 in omega arith, r.1)

-- e is another device of the cut, on the walk to d
record IsAbove (net : Network) (cut : Cut) (d e : ℕ) : Type 0 where
  within : e < net.devices
  opened : cut e ≡ true
  other : d ≡ e → ⊥
  walk : is_below net e (net.from d) ≡ true

-- the device above one is such a device
is_above : (net : Network) (cut : Cut) (d e : ℕ) → cut_above net cut d ≡ Some e → IsAbove net cut d e
is_above net cut d e found =
    let test : ℕ → Bool = is_last_cut net (λ x. cut x && not (x == d)) (net.from d) in
    let there = found_in_range test 0 net.devices e found in
    let last = and_parts (is_cut_on_walk net (λ x. cut x && not (x == d)) (net.from d) e)
    (list_all (λ x. not (is_cut_on_walk net (λ y. cut y && not (y == d)) (net.from d) x) || ((x == e) || is_below net x (net.from e))) (range_with_len 0 net.devices)) there.1 in
    let walk = and_parts (cut e && not (e == d)) (is_below net e (net.from d)) last.0 in
    let own = and_parts (cut e) (not (e == d)) walk.0 in
    record {
      within = let l = there.0 in omega arith;
      opened = own.0;
      other = λ same. false≢true (sym (not-true (e == d) own.1) ∙ eq-eqb e d (sym same));
      walk = walk.1;
    }

-- the problem of the events, in parts
abbrev problem_here : Parts → List Event → Problem
problem_here g h = posed g (is_closed g h) (mark_of g h) (at_node g (dark_weight g h)) (at_node g (live_weight g h))

sound_here : (g : Parts) (h : List Event) → IsSoundParts g → IsHistory g h → IsSound (problem_here g h)
unfolding problem_after
sound_here g h sound a = problem_is_sound g h sound a

-- the diagnosis opens closed devices only
closed_only : (g : Parts) (h : List Event) → IsSoundParts g → IsHistory g h → (d : ℕ) → d < length g.devices → diagnosis_after g h d ≡ true → is_closed g h d ≡ true
unfolding problem_after
closed_only g h sound a d l c = (history_is_diagnosed g h sound a).diagnosis.least.feasible.closed d l c

number_back : (o : Option ℕ) → option_map (λ d. d.0) (option_map device_id o) ≡ o
number_back None = refl
number_back (Some d) = refl

module _ (g : Parts) (h : List Event) (cut : Cut) (sound : IsSoundParts g) (past : IsHistory g h) (closed : (d : ℕ) → d < length g.devices → cut d ≡ true → is_closed g h d ≡ true) where
  -- a device of the cut
  record IsCut (d : ℕ) : Type 0 where
    within : d < length g.devices
    opened : cut d ≡ true

  -- the walks down from the sources are a forest
  forest : IsForest (network_after g h) (table_of (problem_here g h))
  forest = (exact_table (problem_here g h) (sound_here g h sound past) (stays_radial g h sound past)).0

  abbrev all : List Outage
  all = listed cut (outage_of g h cut) 0 (length g.devices)

  named : (d : ℕ) → (outage_of g h cut d).device.0 ≡ d
  named d = refl

  cut_listed : (d : ℕ) → IsCut d → is_device_of all d ≡ true
  cut_listed d c = device_listed cut (outage_of g h cut) named d (length g.devices) c.within c.opened

  -- what stands above an outage of the list is the device above it
  above_is : (d : ℕ) → IsCut d → above_in all d ≡ cut_above (network_after g h) cut d
  above_is d c =
      ap above_of (find_listed cut (outage_of g h cut) named d 0 (length g.devices) (omega arith) (let l = c.within in omega arith) c.opened)
      ∙ number_back (cut_above (network_after g h) cut d)

  -- how deep the ends of a device are together
  abbrev rank : ℕ → ℕ
  rank d = (table_of (problem_here g h)).depth ((network_after g h).from d) + (table_of (problem_here g h)).depth ((network_after g h).to d)

  -- the device above is less deep
  up : (d e : ℕ) → IsCut d → above_in all d ≡ Some e → IsCut e × (is_device_of all e ≡ true) × (rank e < rank d)
  up d e c found =
      let a = is_above (network_after g h) cut d e (sym (above_is d c) ∙ found) in
      let there : IsCut e = record { within = a.within; opened = a.opened } in
      (there, cut_listed e there, rank_falls (problem_here g h) (table_of (problem_here g h)) (sound_here g h sound past) forest d e c.within (closed d c.within c.opened) a.walk a.other)

  above_listed : (d : ℕ) (o : Option ℕ) → cut_above (network_after g h) cut d ≡ o → IfSome (option_map device_id o) (λ e. is_device_of all e.0 ≡ true)
  above_listed d None found = tt
  above_listed d (Some e) found = let a = is_above (network_after g h) cut d e found in cut_listed e (record { within = a.within; opened = a.opened })

  -- each meter belongs to one outage at most
  few_customers : sum_by (λ o. o.customers) all ≤ most_customers
  few_customers =
      let shared = customers_at_most cut (outage_of g h cut) (customers_of g) (λ m. last_cut (network_after g h) cut (node_of g m)) (range_with_len 0 (length g.meters)) (length g.devices) (λ d. refl) in
      let most = sum_at_most (customers_of g) (length g.meters) 1000000 (λ m l. (sound.meters m l).most_customers) in
      let few = sound.few_meters in omega arith

  ordered : CanBeOrdered all
  ordered = record {
    apart = apart_listed cut (outage_of g h cut) named 0 (length g.devices);
    above = all_listed (λ o. IfSome o.above (λ d. is_device_of all d.0 ≡ true)) cut (outage_of g h cut) 0 (length g.devices) (λ d a l c. above_listed d (cut_above (network_after g h) cut d) refl);
    ends = all_listed (λ o. above_in all (top_within all (length all) o.device.0) ≡ None) cut (outage_of g h cut) 0 (length g.devices)
        (λ d a l c. ends_within all rank IsCut up d (record { within = omega arith; opened = c }));
    customers = few_customers;
  }

pub outages_can_be_ordered : (g : Parts) (h : List Event) → IsSoundParts g → IsHistory g h → CanBeOrdered (outages_after g h (diagnosis_after g h))
unfolding outages_after
outages_can_be_ordered g h sound past = ordered g h (diagnosis_after g h) sound past (closed_only g h sound past)
