-- What is listed are the outages of the diagnosis.
use Rattle.std.proofs.Common.{◌≡◌, ℕ, zero, suc, ◌<◌, ◌≤◌, Bool, true, false, cond, refl, sym, ap, ◌∙◌, subst, ⊎_elim, arith, List, length, Option, Some, None}
use Rattle.std.specs.Prelude.{option_map, is_some, IfSome, IfOk, Result, Ok, Err, ◌&&◌, not}
use Rattle.std.specs.List.{list_any, sum_by}
use Rattle.std.proofs.lemmas.Bool.{cases_Bool, cases_lt, eq-eqb, eqb-true, ne_eqb, false≢true, and_parts, and_from}
use Rattle.std.proofs.lemmas.List.{get_or_past}
use Rattle.outage_rules.specs.Network.{Problem, Cut, IsSound}
use Rattle.outage_rules.specs.Certificate.{Table, has_parent, upper, IsForest}
use Rattle.grid_model.specs.Parts.{Parts}
use Rattle.grid_model.specs.Places.{device_at, device_id, node_of, is_source}
use Rattle.grid_model.specs.Network.{network_in, network_of}
use Rattle.grid_model.specs.Problem.{posed}
use Rattle.grid_model.specs.declared.parts.DeviceId.{DeviceId}
use Rattle.grid_model.specs.declared.history.Event.{Event}
use Rattle.grid_model.specs.declared.history.Outage.{Outage}
use Rattle.grid_model.specs.declared.history.Stamp.{Stamp}
use Rattle.history_rules.specs.State.{is_closed, mark_of, network_after}
use Rattle.history_rules.specs.Evidence.{dark_weight, live_weight, dark_since, came_back, earliest}
use Rattle.history_rules.specs.Posed.{at_node, problem_after, diagnosis_after}
use Rattle.history_rules.specs.Laws.{ProblemIsSound}
use Rattle.history_rules.specs.Outages.{is_at, last_cut, cut_above, meters_of, since_of, as_stamp, customers_of, outage_of, outages_after}
use Rattle.radial_forest.specs.Traversed.{parent_in, number_of_device}
use Rattle.subtree_costs.specs.Costed.{Costed, problem_in}
use Rattle.subtree_costs.specs.Laws.{fed_rows, AreFedRows, FedRowsAreExact}
use Rattle.diagnosis.specs.Judgement.{Judgement, opened_by}
use Rattle.field_state.specs.Fielded.{Fielded, IsFieldAfter, FieldPoses}
use Rattle.nested_faults.specs.LastCuts.{last_above, last_opened, noted_at, AreLastCuts}
use Rattle.nested_faults.specs.Tallies.{tally_at, members, since_kept, back_kept, AreTallies}
use Rattle.nested_faults.specs.Listing.{hangs_by, upper_end, outage_in, outages_in}
use Rattle.nested_faults.specs.declared.tally.Tally.{Tally}
use Rattle.nested_faults.proofs.Ranges.{filter_same, filter_map_same, any_same, fold_same}
use Rattle.diagnosis.proofs.Agreed.{fed_alike}
use Rattle.nested_faults.proofs.Noting.{nothing_above}
use Rattle.nested_faults.proofs.LastCut.{last_is, above_second, above_first}

-- the problem of the events, in parts
abbrev pub problem_here : Parts → List Event → Problem
problem_here g h = posed g (is_closed g h) (mark_of g h) (at_node g (dark_weight g h)) (at_node g (live_weight g h))

sound_here : (g : Parts) (h : List Event) → IsSound (problem_after g h) → IsSound (problem_here g h)
unfolding problem_after
sound_here g h sound = sound

forest_here : (g : Parts) (h : List Event) (c : Costed) → problem_in g c ≡ problem_after g h → AreFedRows g c → IsForest (problem_here g h).net (fed_rows g c)
unfolding problem_after
forest_here g h c posed fed = subst (λ p. IsForest p.net (fed_rows g c)) posed fed.forest

-- which devices are closed makes no difference to the chains
same_chain : (g : Parts) (a b : ℕ → Bool) (t : Table) (cut : Cut) (k n : ℕ) → last_above (network_in g a) t cut k n ≡ last_above (network_in g b) t cut k n
same_chain g a b t cut zero n = refl
same_chain g a b t cut (suc k) n =
    ap (λ x. cond (has_parent (network_in g a) t n) (cond (cut (t.parent n)) (Some (t.parent n)) x) None) (same_chain g a b t cut k (upper (network_in g a) t n))

number_back : (o : Option ℕ) → option_map (λ d. d.0) (option_map device_id o) ≡ o
number_back None = refl
number_back (Some d) = refl

stamp_back : (o : Option Stamp) → option_map as_stamp (option_map (λ s. s.0) o) ≡ o
stamp_back None = refl
stamp_back (Some s) = refl

-- the last device is one of the cut
last_in_cut : (g : Parts) (t : Table) (cut : Cut) (k n : ℕ) → IfSome (option_map device_id (last_above (network_of g) t cut k n)) (λ d. cut d.0 ≡ true)
last_in_cut g t cut zero n = tt
last_in_cut g t cut (suc k) n = by (has_parent (network_of g) t n) (cut (t.parent n)) refl (last_in_cut g t cut k (upper (network_of g) t n))
  where
    by : (b c : Bool) → cut (t.parent n) ≡ c → IfSome (option_map device_id (last_above (network_of g) t cut k (upper (network_of g) t n))) (λ d. cut d.0 ≡ true)
        → IfSome (option_map device_id (cond b (cond c (Some (t.parent n)) (last_above (network_of g) t cut k (upper (network_of g) t n))) None)) (λ d. cut d.0 ≡ true)
    by false c e rest = tt
    by true true e rest = e
    by true false e rest = rest

if_some : {X : Type 0} (o : Option X) (P Q : X → Type 0) → ((x : X) → P x → Q x) → IfSome o P → IfSome o Q
if_some None P Q f h = tt
if_some (Some x) P Q f h = f x h

-- what is noted is a device of the network
pub noted_within : (g : Parts) (c : Costed) (j : Judgement) (last : List (Option DeviceId)) → length j.opened ≡ length g.devices → AreLastCuts g c j last → (n : ℕ) → IfSome (noted_at last n) (λ d. d.0 < length g.devices)
noted_within g c j last flags cuts n =
    ⊎_elim
    (λ l. subst (λ o. IfSome o (λ d. d.0 < length g.devices)) (sym (cuts.noted n l))
    (if_some (option_map device_id (last_opened g c j n)) (λ d. opened_by j d.0 ≡ true) (λ d. d.0 < length g.devices) (λ d. within d.0) (last_in_cut g (fed_rows g c) (opened_by j) ((fed_rows g c).depth n) n)))
    (λ l. subst (λ o. IfSome o (λ d. d.0 < length g.devices)) (sym (get_or_past last n None (let e = cuts.each in omega arith))) tt)
    (cases_lt n (length g.nodes))
  where
    past : (d : ℕ) → length g.devices ≤ d → opened_by j d ≡ true → ⊥
    past d l e = false≢true (sym (get_or_past j.opened d false (omega arith)) ∙ e)

    within : (d : ℕ) → opened_by j d ≡ true → d < length g.devices
    within d e = ⊎_elim (λ l. l) (λ l. absurd (past d l e)) (cases_lt d (length g.devices))

pub if_ok : {X E : Type 0} (r : Result X E) (P Q : X → Type 0) → ((x : X) → P x → Q x) → IfOk r P → IfOk r Q
if_ok (Ok x) P Q f h = f x h
if_ok (Err e) P Q f h = tt

outage_same : (d : DeviceId) (a a' : Option DeviceId) (m m' c c' : ℕ) (s s' : Option Stamp) (n n' : Bool) → a ≡ a' → m ≡ m' → c ≡ c' → s ≡ s' → n ≡ n'
    → ◌≡◌ {A = Outage} (record { device = d; above = a; meters = m; customers = c; since = s; nested = n }) (record { device = d; above = a'; meters = m'; customers = c'; since = s'; nested = n' })
outage_same d a a' m m' c c' s s' n n' ea em ec es en =
    ap (λ x. record { device = d; above = x; meters = m; customers = c; since = s; nested = n }) ea
    ∙ ap (λ x. record { device = d; above = a'; meters = x; customers = c; since = s; nested = n }) em
    ∙ ap (λ x. record { device = d; above = a'; meters = m'; customers = x; since = s; nested = n }) ec
    ∙ ap (λ x. record { device = d; above = a'; meters = m'; customers = c'; since = x; nested = n }) es
    ∙ ap (λ x. record { device = d; above = a'; meters = m'; customers = c'; since = s'; nested = x }) en

-- the number of a device that is there
number_is : (o : Option DeviceId) (d : ℕ) → is_at d (option_map (λ x. x.0) o) ≡ true → o ≡ Some (device_id d)
number_is None d e = absurd (false≢true e)
number_is (Some x) d e = ap (λ y. Some (device_id y)) (eqb-true x.0 d e)

module _ (g : Parts) (h : List Event) (f : Fielded) (j : Judgement) (last : List (Option DeviceId)) (tallies : List Tally)
    (field : IsFieldAfter g h f) (cuts : AreLastCuts g f.costs j last) (told : AreTallies g f.evidence last (length g.meters) tallies) (each : length tallies ≡ length g.devices)
    (sound_problem : ProblemIsSound) (poses : FieldPoses) (exact : FedRowsAreExact) where
  sound : IsSound (problem_here g h)
  sound = sound_here g h (sound_problem g h field.sound field.history)

  fed : AreFedRows g f.costs
  fed = exact g f.costs field.costed

  forest : IsForest (problem_here g h).net (fed_rows g f.costs)
  forest = forest_here g h f.costs (poses g h f field).posed fed

  -- of each node the last cut is noted
  noted : (n : ℕ) → n < length g.nodes → noted_at last n ≡ option_map device_id (last_cut (network_after g h) (opened_by j) n)
  noted n l =
      cuts.noted n l
      ∙ ap (option_map device_id)
      (same_chain g (λ d. (device_at g d).starts_closed) (is_closed g h) (fed_rows g f.costs) (opened_by j) ((fed_rows g f.costs).depth n) n
      ∙ sym (last_is (problem_here g h) (fed_rows g f.costs) sound forest ((fed_rows g f.costs).depth n) (opened_by j) n l refl))

  -- so the meters of an outage are those that are counted
  same_meters : (d : ℕ) → members g last d (length g.meters) ≡ meters_of g h (opened_by j) d
  same_meters d =
      filter_same (λ m. is_at d (option_map (λ x. x.0) (noted_at last (node_of g m)))) (λ m. is_at d (last_cut (network_after g h) (opened_by j) (node_of g m))) 0 (length g.meters)
      (λ m a b. ap (λ o. is_at d (option_map (λ x. x.0) o)) (noted (node_of g m) (field.sound.meters m (omega arith)).node)
      ∙ ap (is_at d) (number_back (last_cut (network_after g h) (opened_by j) (node_of g m))))

  same_above : (d : ℕ) → d < length g.devices → noted_at last (upper_end g f.costs d) ≡ option_map device_id (cut_above (network_after g h) (opened_by j) d)
  same_above d l = ⊎_elim at_second at_first (cases_Bool (hangs_by f.costs (device_at g d).from.0 d))
    where
      ends : ((device_at g d).from.0 < length g.nodes) × ((device_at g d).to.0 < length g.nodes)
      ends = ((field.sound.devices d l).from, (field.sound.devices d l).to)

      -- a device between nodes that aren't fed
      no_walk : (n : ℕ) → n < length g.nodes → has_parent (problem_here g h).net (fed_rows g f.costs) n ≡ false → last_cut (network_after g h) (opened_by j) n ≡ None
      no_walk n l hp = last_is (problem_here g h) (fed_rows g f.costs) sound forest ((fed_rows g f.costs).depth n) (opened_by j) n l refl
          ∙ nothing_above (problem_here g h).net (fed_rows g f.costs) (opened_by j) ((fed_rows g f.costs).depth n) n hp

      at_second : hangs_by f.costs (device_at g d).from.0 d ≡ true → noted_at last (upper_end g f.costs d) ≡ option_map device_id (cut_above (network_after g h) (opened_by j) d)
      at_second e =
          let is = number_is (parent_in f.forest.parents (device_at g d).from.0) d e in
          ap (λ b. noted_at last (cond b (device_at g d).to.0 (device_at g d).from.0)) e
          ∙ noted (device_at g d).to.0 ends.1
          ∙ ap (option_map device_id) (sym (⊎_elim
          (λ live. above_second (problem_here g h) (fed_rows g f.costs) sound forest (opened_by j) d l
          (and_from ((fed_rows g f.costs).is_listed (device_at g d).from.0) (not (is_source g (device_at g d).from.0)) live (sym (fed.parents (device_at g d).from.0 ends.0 live) ∙ ap is_some is))
          (ap number_of_device is))
          (λ dead. above_first (problem_here g h) (fed_rows g f.costs) sound forest (opened_by j) d l
          (λ hp. absurd (false≢true (sym (ap (λ b. b && not (is_source g (device_at g d).from.0)) dead) ∙ hp)))
          ∙ no_walk (device_at g d).from.0 ends.0 (ap (λ b. b && not (is_source g (device_at g d).from.0)) dead)
          ∙ sym (no_walk (device_at g d).to.0 ends.1 (ap (λ b. b && not (is_source g (device_at g d).to.0)) (other_dead dead))))
          (cases_Bool ((fed_rows g f.costs).is_listed (device_at g d).from.0))))
        where
          -- the end that hangs isn't fed, and so the other one isn't
          other_dead : (fed_rows g f.costs).is_listed (device_at g d).from.0 ≡ false → (fed_rows g f.costs).is_listed (device_at g d).to.0 ≡ false
          other_dead dead =
              ap (λ n. (fed_rows g f.costs).is_listed n) (sym (ap (λ b. cond b (device_at g d).from.0 (device_at g d).to.0) (ne_eqb (device_at g d).to.0 (device_at g d).from.0 (λ s. sound.apart d l (sym s)))))
              ∙ fed_alike g f.costs field.costed fed (device_at g d).from.0 (device_id d) ends.0 (number_is (parent_in f.forest.parents (device_at g d).from.0) d e)
              ∙ dead

      at_first : hangs_by f.costs (device_at g d).from.0 d ≡ false → noted_at last (upper_end g f.costs d) ≡ option_map device_id (cut_above (network_after g h) (opened_by j) d)
      at_first e =
          ap (λ b. noted_at last (cond b (device_at g d).to.0 (device_at g d).from.0)) e
          ∙ noted (device_at g d).from.0 ends.0
          ∙ ap (option_map device_id) (sym (above_first (problem_here g h) (fed_rows g f.costs) sound forest (opened_by j) d l
          (λ hp is. false≢true (sym e ∙ hanging (parent_in f.forest.parents (device_at g d).from.0) (fed.parents (device_at g d).from.0 ends.0 (and_parts ((fed_rows g f.costs).is_listed (device_at g d).from.0) (not (is_source g (device_at g d).from.0)) hp).0
          ∙ (and_parts ((fed_rows g f.costs).is_listed (device_at g d).from.0) (not (is_source g (device_at g d).from.0)) hp).1) is))))
        where
          hanging : (o : Option DeviceId) → is_some o ≡ true → number_of_device o ≡ d → is_at d (option_map (λ x. x.0) o) ≡ true
          hanging None s n = absurd (false≢true s)
          hanging (Some x) s n = eq-eqb x.0 d n

  same_outage : (d : ℕ) → d < length g.devices → outage_in g f.costs last tallies d ≡ outage_of g h (opened_by j) d
  same_outage d l =
      let t = told d (omega (arith, each)) in
      let in_test : ℕ → Bool = λ m. is_at d (option_map (λ x. x.0) (noted_at last (node_of g m))) in
      outage_same (device_id d) (noted_at last (upper_end g f.costs d)) (option_map device_id (cut_above (network_after g h) (opened_by j) d))
      (tally_at tallies d).meters (length (meters_of g h (opened_by j) d)) (tally_at tallies d).customers (sum_by (customers_of g) (meters_of g h (opened_by j) d))
      (tally_at tallies d).since (option_map as_stamp (since_of g h (meters_of g h (opened_by j) d))) (tally_at tallies d).nested (list_any (came_back g h) (meters_of g h (opened_by j) d))
      (same_above d l)
      (t.count ∙ ap length (same_meters d))
      (t.customers ∙ ap (sum_by (customers_of g)) (same_meters d))
      (sym (stamp_back (tally_at tallies d).since)
      ∙ ap (option_map as_stamp) (t.since ∙ fold_same in_test earliest (since_kept g f.evidence) (dark_since g h) None 0 (length g.meters) (λ m a b. field.since m (omega arith)) ∙ ap (since_of g h) (same_meters d)))
      (t.nested ∙ any_same in_test (back_kept g f.evidence) (came_back g h) 0 (length g.meters) (λ m a b. field.came_back m (omega arith)) ∙ ap (list_any (came_back g h)) (same_meters d))

  all_outages : outages_in g f.costs j last tallies (length g.devices) ≡ outages_after g h (opened_by j)
  unfolding outages_after
  all_outages =
      filter_map_same (λ d. cond (opened_by j d) (Some (outage_in g f.costs last tallies d)) None) (λ d. cond (opened_by j d) (Some (outage_of g h (opened_by j) d)) None) 0 (length g.devices)
      (λ d a b. ap (λ x. cond (opened_by j d) (Some x) None) (same_outage d (omega arith)))

  pub listed_outages : opened_by j ≡ diagnosis_after g h → outages_in g f.costs j last tallies (length g.devices) ≡ outages_after g h (diagnosis_after g h)
  listed_outages e = all_outages ∙ ap (outages_after g h) e
