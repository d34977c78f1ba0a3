-- Legal rows make a network that is sound but for its loops.
use Rattle.std.proofs.Common.{◌≡◌, ◌≢◌, ℕ, zero, suc, ◌<◌, ◌≤◌, Bool, true, false, cond, refl, sym, ap, ◌∙◌, subst, arith, List, [], ◌∷◌, ◌++◌, length, get_or, set, map, ⊎_elim}
use Rattle.std.specs.Prelude.{Option, Some, None, nat_lt, slice_index}
use Rattle.std.specs.List.{All, AllPairs}
use Rattle.std.proofs.lemmas.Bool.{cases_eq, ltb-false}
use Rattle.std.proofs.lemmas.List.{length-map, length-set, map-append, get_or-set_same, get_or-set_other}
use Rattle.std.proofs.lemmas.List.Elements.{All-push, All-weaker, All-map}
use Rattle.grid_model.specs.Name.{is_name}
use Rattle.grid_model.specs.Names.{is_among, mentioned, AreDistinct}
use Rattle.grid_model.specs.Places.{no_device, no_meter, setting_place}
use Rattle.grid_model.specs.Sound.{IsSoundDevice, IsSoundMeter, AreSoundSettings}
use Rattle.grid_model.specs.declared.parts.NodeId.{NodeId}
use Rattle.grid_model.specs.declared.parts.Device.{Device}
use Rattle.grid_model.specs.declared.parts.Meter.{Meter}
use Rattle.grid_reader.specs.declared.row.Row.{Row}
use Rattle.grid_reader.specs.declared.row.Row.TheVariants as row
use Rattle.grid_reader.specs.declared.row.DeviceRow.{DeviceRow}
use Rattle.grid_reader.specs.declared.row.SettingRow.{SettingRow}
use Rattle.grid_reader.specs.declared.fault.GridRule.{GridRule}
use Rattle.grid_reader.specs.declared.fault.GridRule.TheVariants.{DuplicateSource, DuplicateDevice, DuplicateMeter, TooManyNodes, TooManyDevices, TooManyMeters}
use Rattle.grid_reader.specs.Network.{nodes_of, node_id, source_names, device_names, meter_names, sources_of, devices_of, meters_of, default_settings, settings_of, parts_of, duplicate_in, excess_in, or_else}
use Rattle.grid_reader.proofs.Legal.{IsFairSetting, IsLegal}
use Rattle.grid_reader.proofs.AlmostSound.{IsAlmostSound}
use Rattle.grid_reader.proofs.Numbers.{Holds, holds_itself, holds_both, holds_mentioned, among_mentioned, mentioned_distinct, mentioned_all, more_distinct, number_within, numbers_apart, map_agree, all_pairs_map}

-- neither of two rules is broken
pub neither : (a b : Option GridRule) → or_else a b ≡ None → (a ≡ None) × (b ≡ None)
neither (Some rule) b e = absurd (cc)
neither None b e = (refl, e)

-- a rule that isn't broken
pub passed : (b : Bool) (rule : GridRule) (other : Option GridRule) → cond b (Some rule) other ≡ None → (b ≡ false) × (other ≡ None)
passed true rule other e = absurd (cc)
passed false rule other e = (refl, e)

-- a row holds the nodes of those before it
pub row_holds : (r : Row) (earlier : List Row) → Holds (nodes_of earlier) (nodes_of (r ∷ earlier))
row_holds (row.Source node) earlier = holds_mentioned (nodes_of earlier) node
row_holds (row.Device d) earlier =
    holds_both (nodes_of earlier) (mentioned (nodes_of earlier) d.from) (mentioned (mentioned (nodes_of earlier) d.from) d.to)
    (holds_mentioned (nodes_of earlier) d.from) (holds_mentioned (mentioned (nodes_of earlier) d.from) d.to)
row_holds (row.Meter m) earlier = holds_mentioned (nodes_of earlier) m.node
row_holds (row.Setting s) earlier = holds_itself (nodes_of earlier)

-- both ends of a device are among the nodes
from_among : (earlier : List Row) (d : DeviceRow) → is_among (nodes_of (row.Device d ∷ earlier)) d.from ≡ true
from_among earlier d = (holds_mentioned (mentioned (nodes_of earlier) d.from) d.to).among d.from (among_mentioned (nodes_of earlier) d.from)

to_among : (earlier : List Row) (d : DeviceRow) → is_among (nodes_of (row.Device d ∷ earlier)) d.to ≡ true
to_among earlier d = among_mentioned (mentioned (nodes_of earlier) d.from) d.to

pub nodes_distinct : (rows : List Row) → AreDistinct (nodes_of rows)
nodes_distinct [] = λ i j d lt l. absurd (omega arith)
nodes_distinct (row.Source node ∷ earlier) = mentioned_distinct (nodes_of earlier) node (nodes_distinct earlier)
nodes_distinct (row.Device d ∷ earlier) = mentioned_distinct (mentioned (nodes_of earlier) d.from) d.to (mentioned_distinct (nodes_of earlier) d.from (nodes_distinct earlier))
nodes_distinct (row.Meter m ∷ earlier) = mentioned_distinct (nodes_of earlier) m.node (nodes_distinct earlier)
nodes_distinct (row.Setting s ∷ earlier) = nodes_distinct earlier

nodes_named : (rows : List Row) → IsLegal rows → All (λ name. is_name name ≡ true) (nodes_of rows)
nodes_named [] h = λ k d l. absurd (omega arith)
nodes_named (row.Source node ∷ earlier) h = mentioned_all (λ name. is_name name ≡ true) (nodes_of earlier) node (nodes_named earlier h.0) h.1
nodes_named (row.Device d ∷ earlier) h =
    mentioned_all (λ name. is_name name ≡ true) (mentioned (nodes_of earlier) d.from) d.to
    (mentioned_all (λ name. is_name name ≡ true) (nodes_of earlier) d.from (nodes_named earlier h.0) h.1.from)
    h.1.to
nodes_named (row.Meter m ∷ earlier) h = mentioned_all (λ name. is_name name ≡ true) (nodes_of earlier) m.node (nodes_named earlier h.0) h.1.node
nodes_named (row.Setting s ∷ earlier) h = nodes_named earlier h.0

-- no name of an earlier row of its sort
unrepeated : (b : Bool) (rule : GridRule) (excess : Option GridRule) → or_else (cond b (Some rule) None) excess ≡ None → b ≡ false
unrepeated b rule excess e = (passed b rule None (neither (cond b (Some rule) None) excess e).0).0

pub source_names_distinct : (rows : List Row) → IsLegal rows → AreDistinct (source_names rows)
source_names_distinct [] h = λ i j d lt l. absurd (omega arith)
source_names_distinct (row.Source node ∷ earlier) h =
    more_distinct (source_names earlier) node (source_names_distinct earlier h.0)
    (unrepeated (is_among (source_names earlier) node) DuplicateSource (excess_in (row.Source node ∷ earlier)) h.2)
source_names_distinct (row.Device d ∷ earlier) h = source_names_distinct earlier h.0
source_names_distinct (row.Meter m ∷ earlier) h = source_names_distinct earlier h.0
source_names_distinct (row.Setting s ∷ earlier) h = source_names_distinct earlier h.0

pub device_names_distinct : (rows : List Row) → IsLegal rows → AreDistinct (device_names rows)
device_names_distinct [] h = λ i j d lt l. absurd (omega arith)
device_names_distinct (row.Source node ∷ earlier) h = device_names_distinct earlier h.0
device_names_distinct (row.Device d ∷ earlier) h =
    more_distinct (device_names earlier) d.name (device_names_distinct earlier h.0)
    (unrepeated (is_among (device_names earlier) d.name) DuplicateDevice (excess_in (row.Device d ∷ earlier)) h.2)
device_names_distinct (row.Meter m ∷ earlier) h = device_names_distinct earlier h.0
device_names_distinct (row.Setting s ∷ earlier) h = device_names_distinct earlier h.0

pub meter_names_distinct : (rows : List Row) → IsLegal rows → AreDistinct (meter_names rows)
meter_names_distinct [] h = λ i j d lt l. absurd (omega arith)
meter_names_distinct (row.Source node ∷ earlier) h = meter_names_distinct earlier h.0
meter_names_distinct (row.Device d ∷ earlier) h = meter_names_distinct earlier h.0
meter_names_distinct (row.Meter m ∷ earlier) h =
    more_distinct (meter_names earlier) m.name (meter_names_distinct earlier h.0)
    (unrepeated (is_among (meter_names earlier) m.name) DuplicateMeter (excess_in (row.Meter m ∷ earlier)) h.2)
meter_names_distinct (row.Setting s ∷ earlier) h = meter_names_distinct earlier h.0

-- the devices and the meters have the names of their rows
pub devices_have_names : (rows : List Row) → map (λ d. d.name) (devices_of rows) ≡ device_names rows
devices_have_names [] = refl
devices_have_names (row.Source node ∷ earlier) = devices_have_names earlier
devices_have_names (row.Device d ∷ earlier) = map-append (λ (x : Device). x.name) (devices_of earlier) _ ∙ ap (λ names. names ++ d.name ∷ []) (devices_have_names earlier)
devices_have_names (row.Meter m ∷ earlier) = devices_have_names earlier
devices_have_names (row.Setting s ∷ earlier) = devices_have_names earlier

pub meters_have_names : (rows : List Row) → map (λ m. m.name) (meters_of rows) ≡ meter_names rows
meters_have_names [] = refl
meters_have_names (row.Source node ∷ earlier) = meters_have_names earlier
meters_have_names (row.Device d ∷ earlier) = meters_have_names earlier
meters_have_names (row.Meter m ∷ earlier) = map-append (λ (x : Meter). x.name) (meters_of earlier) _ ∙ ap (λ names. names ++ m.name ∷ []) (meters_have_names earlier)
meters_have_names (row.Setting s ∷ earlier) = meters_have_names earlier

-- a fact of names among the earlier nodes is one of names among the later ones
among_later : (r : Row) (earlier : List Row) (names : List (List ℕ)) → All (λ name. is_among (nodes_of earlier) name ≡ true) names → All (λ name. is_among (nodes_of (r ∷ earlier)) name ≡ true) names
among_later r earlier names h =
    All-weaker (λ name. is_among (nodes_of earlier) name ≡ true) (λ name. is_among (nodes_of (r ∷ earlier)) name ≡ true) (λ name e. (row_holds r earlier).among name e) names h

pub sources_among : (rows : List Row) → All (λ name. is_among (nodes_of rows) name ≡ true) (source_names rows)
sources_among [] = λ k d l. absurd (omega arith)
sources_among (row.Source node ∷ earlier) =
    All-push (λ name. is_among (nodes_of (row.Source node ∷ earlier)) name ≡ true) (source_names earlier) node
    (among_later (row.Source node) earlier (source_names earlier) (sources_among earlier))
    (among_mentioned (nodes_of earlier) node)
sources_among (row.Device d ∷ earlier) = among_later (row.Device d) earlier (source_names earlier) (sources_among earlier)
sources_among (row.Meter m ∷ earlier) = among_later (row.Meter m) earlier (source_names earlier) (sources_among earlier)
sources_among (row.Setting s ∷ earlier) = sources_among earlier

-- the sources keep their numbers
numbers_stay : (r : Row) (earlier : List Row) → map (node_id earlier) (source_names earlier) ≡ map (node_id (r ∷ earlier)) (source_names earlier)
numbers_stay r earlier =
    map_agree (node_id earlier) (node_id (r ∷ earlier)) (source_names earlier)
    (All-weaker (λ name. is_among (nodes_of earlier) name ≡ true) (λ name. node_id earlier name ≡ node_id (r ∷ earlier) name)
    (λ name e. ap id_of (sym ((row_holds r earlier).number name e)))
    (source_names earlier) (sources_among earlier))
  where
    id_of : ℕ → NodeId
    id_of n = record { 0 = n }

-- the sources are the numbers of their names
pub sources_are : (rows : List Row) → sources_of rows ≡ map (node_id rows) (source_names rows)
sources_are [] = refl
sources_are (row.Source node ∷ earlier) =
    ap (λ ids. ids ++ node_id (row.Source node ∷ earlier) node ∷ []) (sources_are earlier ∙ numbers_stay (row.Source node) earlier)
    ∙ sym (map-append (node_id (row.Source node ∷ earlier)) (source_names earlier) (node ∷ []))
sources_are (row.Device d ∷ earlier) = sources_are earlier ∙ numbers_stay (row.Device d) earlier
sources_are (row.Meter m ∷ earlier) = sources_are earlier ∙ numbers_stay (row.Meter m) earlier
sources_are (row.Setting s ∷ earlier) = sources_are earlier

sources_apart : (rows : List Row) → IsLegal rows → AllPairs (λ a b. a.0 ≢ b.0) (sources_of rows)
sources_apart rows h =
    subst (λ (ids : List NodeId). AllPairs (λ a b. a.0 ≢ b.0) ids) (sym (sources_are rows))
    (all_pairs_map (λ (a b : NodeId). a.0 ≢ b.0) (node_id rows) (source_names rows) []
    (λ i j d lt l. numbers_apart (nodes_of rows) (get_or (source_names rows) i d) (get_or (source_names rows) j d)
    (sources_among rows i d (omega arith)) (sources_among rows j d l) (source_names_distinct rows h i j d lt l)))

sources_within : (rows : List Row) → All (λ s. s.0 < length (nodes_of rows)) (sources_of rows)
sources_within rows =
    subst (λ (ids : List NodeId). All (λ s. s.0 < length (nodes_of rows)) ids) (sym (sources_are rows))
    (All-map (λ (s : NodeId). s.0 < length (nodes_of rows)) (node_id rows) (source_names rows)
    (λ k d l. number_within (nodes_of rows) (get_or (source_names rows) k d) (sources_among rows k d l)))

-- a device that is sound stays so with more nodes, and so does a meter
device_stays : (r : Row) (earlier : List Row) (d : Device) → IsSoundDevice (parts_of earlier) d → IsSoundDevice (parts_of (r ∷ earlier)) d
device_stays r earlier d s =
    let more = (row_holds r earlier).count in
    record {
      from = let l = s.from in omega arith;
      to = let l = s.to in omega arith;
      apart = s.apart;
      weight = s.weight;
      most_weight = s.most_weight;
    }

devices_stay : (r : Row) (earlier : List Row) → All (IsSoundDevice (parts_of earlier)) (devices_of earlier) → All (IsSoundDevice (parts_of (r ∷ earlier))) (devices_of earlier)
devices_stay r earlier h = All-weaker (IsSoundDevice (parts_of earlier)) (IsSoundDevice (parts_of (r ∷ earlier))) (device_stays r earlier) (devices_of earlier) h

devices_sound : (rows : List Row) → IsLegal rows → All (IsSoundDevice (parts_of rows)) (devices_of rows)
devices_sound [] h = λ k d l. absurd (omega arith)
devices_sound (row.Source node ∷ earlier) h = devices_stay (row.Source node) earlier (devices_sound earlier h.0)
devices_sound (row.Device d ∷ earlier) h =
    All-push (IsSoundDevice (parts_of (row.Device d ∷ earlier))) (devices_of earlier) _ (devices_stay (row.Device d) earlier (devices_sound earlier h.0))
    (record {
      from = number_within (nodes_of (row.Device d ∷ earlier)) d.from (from_among earlier d);
      to = number_within (nodes_of (row.Device d ∷ earlier)) d.to (to_among earlier d);
      apart = numbers_apart (nodes_of (row.Device d ∷ earlier)) d.from d.to (from_among earlier d) (to_among earlier d) h.1.apart;
      weight = h.1.weight;
      most_weight = h.1.most_weight;
    })
devices_sound (row.Meter m ∷ earlier) h = devices_stay (row.Meter m) earlier (devices_sound earlier h.0)
devices_sound (row.Setting s ∷ earlier) h = devices_stay (row.Setting s) earlier (devices_sound earlier h.0)

devices_named : (rows : List Row) → IsLegal rows → All (λ d. is_name d.name ≡ true) (devices_of rows)
devices_named [] h = λ k d l. absurd (omega arith)
devices_named (row.Source node ∷ earlier) h = devices_named earlier h.0
devices_named (row.Device d ∷ earlier) h = All-push (λ (x : Device). is_name x.name ≡ true) (devices_of earlier) _ (devices_named earlier h.0) h.1.name
devices_named (row.Meter m ∷ earlier) h = devices_named earlier h.0
devices_named (row.Setting s ∷ earlier) h = devices_named earlier h.0

meter_stays : (r : Row) (earlier : List Row) (m : Meter) → IsSoundMeter (parts_of earlier) m → IsSoundMeter (parts_of (r ∷ earlier)) m
meter_stays r earlier m s =
    let more = (row_holds r earlier).count in
    record { node = let l = s.node in omega arith; customers = s.customers; most_customers = s.most_customers }

meters_stay : (r : Row) (earlier : List Row) → All (IsSoundMeter (parts_of earlier)) (meters_of earlier) → All (IsSoundMeter (parts_of (r ∷ earlier))) (meters_of earlier)
meters_stay r earlier h = All-weaker (IsSoundMeter (parts_of earlier)) (IsSoundMeter (parts_of (r ∷ earlier))) (meter_stays r earlier) (meters_of earlier) h

meters_sound : (rows : List Row) → IsLegal rows → All (IsSoundMeter (parts_of rows)) (meters_of rows)
meters_sound [] h = λ k d l. absurd (omega arith)
meters_sound (row.Source node ∷ earlier) h = meters_stay (row.Source node) earlier (meters_sound earlier h.0)
meters_sound (row.Device d ∷ earlier) h = meters_stay (row.Device d) earlier (meters_sound earlier h.0)
meters_sound (row.Meter m ∷ earlier) h =
    All-push (IsSoundMeter (parts_of (row.Meter m ∷ earlier))) (meters_of earlier) _ (meters_stay (row.Meter m) earlier (meters_sound earlier h.0))
    (record {
      node = number_within (nodes_of (row.Meter m ∷ earlier)) m.node (among_mentioned (nodes_of earlier) m.node);
      customers = h.1.customers;
      most_customers = h.1.most_customers;
    })
meters_sound (row.Setting s ∷ earlier) h = meters_stay (row.Setting s) earlier (meters_sound earlier h.0)

meters_named : (rows : List Row) → IsLegal rows → All (λ m. is_name m.name ≡ true) (meters_of rows)
meters_named [] h = λ k d l. absurd (omega arith)
meters_named (row.Source node ∷ earlier) h = meters_named earlier h.0
meters_named (row.Device d ∷ earlier) h = meters_named earlier h.0
meters_named (row.Meter m ∷ earlier) h = All-push (λ (x : Meter). is_name x.name ≡ true) (meters_of earlier) _ (meters_named earlier h.0) h.1.name
meters_named (row.Setting s ∷ earlier) h = meters_named earlier h.0

-- the counts are within their limits
pub record AreFew (rows : List Row) : Type 0 where
  pub nodes : length (nodes_of rows) ≤ 200000
  pub devices : length (device_names rows) ≤ 400000
  pub meters : length (meter_names rows) ≤ 500000

few_within : (rows : List Row) → excess_in rows ≡ None → AreFew rows
few_within rows e =
    let n = length (nodes_of rows) in
    let d = length (device_names rows) in
    let m = length (meter_names rows) in
    let first = passed (nat_lt 200000 n) TooManyNodes (cond (nat_lt 400000 d) (Some TooManyDevices) (cond (nat_lt 500000 m) (Some TooManyMeters) None)) e in
    let second = passed (nat_lt 400000 d) TooManyDevices (cond (nat_lt 500000 m) (Some TooManyMeters) None) first.1 in
    let third = passed (nat_lt 500000 m) TooManyMeters None second.1 in
    record { nodes = ltb-false 200000 n first.0; devices = ltb-false 400000 d second.0; meters = ltb-false 500000 m third.0 }

pub rows_few : (rows : List Row) → IsLegal rows → AreFew rows
rows_few [] h = record { nodes = omega arith; devices = omega arith; meters = omega arith }
rows_few (r ∷ earlier) h = few_within (r ∷ earlier) (neither (duplicate_in earlier r) (excess_in (r ∷ earlier)) h.2).1

-- what holds of a value that is set, and of the one that stood there, holds of the one that stands there
at_set : (values : List ℕ) (place value k : ℕ) (P : ℕ → Type 0) → k < length values → (k ≡ place → P value) → P (get_or values k 0) → P (get_or (set values place value) k 0)
at_set values place value k P l here there =
    ⊎_elim
    (λ same. subst (λ i. P (get_or (set values place value) i 0)) (sym same) (subst P (sym (get_or-set_same values place value 0 (omega arith))) (here same)))
    (λ other. subst P (sym (get_or-set_other values place k value 0 other)) there)
    (cases_eq k place)

-- a value within the range of its setting keeps the settings sound
setting_stays : (values : List ℕ) (s : SettingRow) → IsFairSetting s → AreSoundSettings values → AreSoundSettings (set values (setting_place s.setting) s.value)
setting_stays values s fair h =
    let eight = h.eight in
    let place = setting_place s.setting in
    record {
      eight = length-set values place s.value ∙ h.eight;
      weights = λ k l. at_set values place s.value k (λ v. 1 ≤ v) (omega arith) (λ same. fair.weight (omega arith)) (h.weights k l);
      most_weights = λ k l. at_set values place s.value k (λ v. v ≤ 1000000) (omega arith) (λ same. fair.most_weight (omega arith)) (h.most_weights k l);
      holds = λ k l. at_set values place s.value k (λ v. v ≤ 10000000) (omega arith) (λ same. fair.hold) (h.holds k l);
    }

-- each default weight of a report is at least 1
least_weights : (k : ℕ) → k < 5 → 1 ≤ slice_index default_settings k
least_weights zero l = omega arith
least_weights (suc zero) l = omega arith
least_weights (suc (suc zero)) l = omega arith
least_weights (suc (suc (suc zero))) l = omega arith
least_weights (suc (suc (suc (suc zero)))) l = omega arith
least_weights (suc (suc (suc (suc (suc k))))) l = absurd (omega arith)

-- and each default setting is at most 3,600
most_values : (k : ℕ) → k < 8 → slice_index default_settings k ≤ 3600
most_values zero l = omega arith
most_values (suc zero) l = omega arith
most_values (suc (suc zero)) l = omega arith
most_values (suc (suc (suc zero))) l = omega arith
most_values (suc (suc (suc (suc zero)))) l = omega arith
most_values (suc (suc (suc (suc (suc zero))))) l = omega arith
most_values (suc (suc (suc (suc (suc (suc zero)))))) l = omega arith
most_values (suc (suc (suc (suc (suc (suc (suc zero))))))) l = omega arith
most_values (suc (suc (suc (suc (suc (suc (suc (suc k)))))))) l = absurd (omega arith)

settings_sound : (rows : List Row) → IsLegal rows → AreSoundSettings (settings_of rows)
settings_sound [] h = record {
  eight = refl;
  weights = least_weights;
  most_weights = λ k l. let m = most_values k (omega arith) in omega arith;
  holds = λ k l. let m = most_values k l in omega arith;
}
settings_sound (row.Source node ∷ earlier) h = settings_sound earlier h.0
settings_sound (row.Device d ∷ earlier) h = settings_sound earlier h.0
settings_sound (row.Meter m ∷ earlier) h = settings_sound earlier h.0
settings_sound (row.Setting s ∷ earlier) h = setting_stays (settings_of earlier) s h.1 (settings_sound earlier h.0)

-- legal rows make parts that are sound but for loops
pub rows_are_sound : (rows : List Row) → IsLegal rows → IsAlmostSound (parts_of rows)
rows_are_sound rows h =
    let few = rows_few rows h in
    record {
      names = record { nodes = nodes_named rows h; devices = devices_named rows h; meters = meters_named rows h };
      node_names = nodes_distinct rows;
      device_names = subst AreDistinct (sym (devices_have_names rows)) (device_names_distinct rows h);
      meter_names = subst AreDistinct (sym (meters_have_names rows)) (meter_names_distinct rows h);
      sources_apart = sources_apart rows h;
      sources = sources_within rows;
      devices = λ d l. devices_sound rows h d no_device l;
      meters = λ m l. meters_sound rows h m no_meter l;
      settings = settings_sound rows h;
      few_nodes = few.nodes;
      few_devices = let n = few.devices in omega (arith, length-map (devices_of rows) (λ (d : Device). d.name), ap length (devices_have_names rows));
      few_meters = let n = few.meters in omega (arith, length-map (meters_of rows) (λ (m : Meter). m.name), ap length (meters_have_names rows));
    }
