-- The outages and the interruptions after events are of the network, and their times have texts.
use Rattle.std.proofs.Common.{ℕ, ◌<◌, Bool, true, false, cond, arith, List, [], ◌∷◌, length, Option, Some, None}
use Rattle.std.specs.Prelude.{IfSome, option_map, ◌&&◌, not, ◌==◌}
use Rattle.std.specs.List.{All}
use Rattle.std.proofs.lemmas.List.Elements.{All-nil, All-cons, All-append}
use Rattle.outage_rules.specs.Network.{Cut}
use Rattle.grid_model.specs.Parts.{Parts}
use Rattle.grid_model.specs.Places.{device_id}
use Rattle.grid_model.specs.declared.history.Event.{Event}
use Rattle.grid_model.specs.declared.history.Outage.{Outage}
use Rattle.grid_model.specs.declared.history.Stamp.{Stamp}
use Rattle.history_rules.specs.State.{network_after}
use Rattle.history_rules.specs.StampTexts.{last_second}
use Rattle.history_rules.specs.Outages.{is_last_cut, cut_above, meters_of, since_of, as_stamp, outage_of, outages_after}
use Rattle.history_rules.specs.Ledger.{is_judged_dark, begun, lines_before, lines_of, ledger_after}
use Rattle.report_text.specs.Rows.{IsWritable, IsOutageOf, IsLineOf}
use Rattle.report_text.proofs.Ranges.{All-flat_map, All-filter_map, All-reverse, find_within}
use Rattle.report_text.proofs.Times.{AreBy, IsBy, since_by}

named : (g : Parts) (o : Option ℕ) → IfSome o (λ d. d < length g.devices) → IfSome (option_map device_id o) (λ d. d.0 < length g.devices)
named g None h = tt
named g (Some d) h = h

writable : (o : Option ℕ) → IsBy last_second o → IfSome (option_map as_stamp o) IsWritable
writable None h = tt
writable (Some t) h = h

module _ (g : Parts) (h : List Event) (by : AreBy last_second h) where
  outage_is : (cut : Cut) (d : ℕ) → d < length g.devices → IsOutageOf g (outage_of g h cut d)
  outage_is cut d l = record {
    device = l;
    above = named g (cut_above (network_after g h) cut d) (find_within (is_last_cut (network_after g h) (λ e. cut e && not (e == d)) ((network_after g h).from d)) (length g.devices) 0 (length g.devices) (omega arith));
    since = writable (since_of g h (meters_of g h cut d)) (since_by last_second g h (meters_of g h cut d) by);
  }

  pub outages_are : (cut : Cut) → All (IsOutageOf g) (outages_after g h cut)
  unfolding outages_after
  outages_are cut = All-filter_map (IsOutageOf g) (λ d. cond (cut d) (Some (outage_of g h cut d)) None) 0 (length g.devices) (λ d l m. pick (cut d) (outage_of g h cut d) (outage_is cut d (omega arith)))
    where
      pick : (b : Bool) (o : Outage) → IsOutageOf g o → IfSome (cond b (Some o) None) (IsOutageOf g)
      pick true o is = is
      pick false o is = tt

module _ (g : Parts) (m : ℕ) (of_network : m < length g.meters) where
  begun_is : (start : Stamp) (next : Option Stamp) (b b' : Bool) → IsWritable start → IfSome next IsWritable → All (IsLineOf g) (begun m start next b b')
  begun_is start next true false l ln = All-cons (IsLineOf g) _ [] (record { meter = of_network; start = l; end = ln }) (All-nil (IsLineOf g))
  begun_is start next true true l ln = All-nil (IsLineOf g)
  begun_is start next false b' l ln = All-nil (IsLineOf g)

  next_is : (b : Bool) (next : Option Stamp) (t : Stamp) → IfSome next IsWritable → IsWritable t → IfSome (cond b next (Some t)) IsWritable
  next_is true next t ln l = ln
  next_is false next t ln l = l

  before_are : (dark : List Event → Bool) (next : Option Stamp) (h : List Event) → IfSome next IsWritable → AreBy last_second h → All (IsLineOf g) (lines_before m dark next h)
  before_are dark next [] ln by = All-nil (IsLineOf g)
  before_are dark next (e ∷ h) ln by =
      All-append (IsLineOf g) (begun m e.time next (dark (e ∷ h)) (dark h)) (lines_before m dark (cond (dark (e ∷ h)) next (Some e.time)) h)
      (begun_is e.time next (dark (e ∷ h)) (dark h) by.0 ln)
      (before_are dark (cond (dark (e ∷ h)) next (Some e.time)) h (next_is (dark (e ∷ h)) next e.time ln by.0) by.1)

pub lines_are : (g : Parts) (h : List Event) → AreBy last_second h → All (IsLineOf g) (ledger_after g h)
unfolding ledger_after
lines_are g h by = All-flat_map (IsLineOf g) (lines_of g h) 0 (length g.meters)
    (λ m l k. All-reverse (IsLineOf g) (lines_before m (is_judged_dark g m) None h) (before_are g m (omega arith) (is_judged_dark g m) None h tt by))
