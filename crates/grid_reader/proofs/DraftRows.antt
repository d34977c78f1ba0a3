-- A draft after one more row.
use Rattle.std.proofs.Common.{◌≡◌, ℕ, Bool, sym, ap, ◌∙◌, subst, List, [], ◌∷◌, ◌++◌, map, Option, Some, None}
use Rattle.std.proofs.lemmas.List.{map-append}
use Rattle.grid_model.specs.Names.{mentioned, number_of, AreDistinct}
use Rattle.grid_model.specs.declared.parts.NodeId.{NodeId}
use Rattle.grid_model.specs.declared.parts.Device.{Device}
use Rattle.grid_model.specs.declared.parts.Meter.{Meter}
use Rattle.grid_reader.specs.declared.row.Row.{Row}
use Rattle.grid_reader.specs.declared.row.DeviceRow.{DeviceRow}
use Rattle.grid_reader.specs.declared.row.MeterRow.{MeterRow}
use Rattle.grid_reader.specs.declared.fault.GridRule.{GridRule}
use Rattle.grid_reader.specs.declared.fault.RowFault.{RowFault}
use Rattle.grid_reader.specs.declared.fault.RowFault.TheVariants.{Breaks, Memory}
use Rattle.grid_reader.specs.RowFaults.{IfBroken}
use Rattle.grid_reader.specs.Network.{nodes_of, duplicate_in, excess_in, or_else, broken_after}
use Rattle.grid_reader.proofs.Numbers.{holds_mentioned, among_mentioned}
use Rattle.grid_reader.proofs.SoundRows.{nodes_distinct}

-- a node by its number
pub same_node : (n : NodeId) (k : ℕ) → n.0 ≡ k → n ≡ record { 0 = k }
same_node n k e = ap (λ j. let node : NodeId = record { 0 = j } in node) e

-- the number of a node that was mentioned
pub node_is : (names later before : List (List ℕ)) (name : List ℕ) (n : NodeId) → n.0 ≡ number_of later name → later ≡ mentioned before name → before ≡ names → n ≡ record { 0 = number_of (mentioned names name) name }
node_is names later before name n at e held = same_node n _ (at ∙ ap (λ ns. number_of ns name) (e ∙ ap (λ ns. mentioned ns name) held))

-- it stays when another one is mentioned
pub upper_is : (names later before : List (List ℕ)) (name other : List ℕ) (n : NodeId) → n.0 ≡ number_of later name → later ≡ mentioned before name → before ≡ names
    → n ≡ record { 0 = number_of (mentioned (mentioned names name) other) name }
upper_is names later before name other n at e held =
    same_node n _
    (at
    ∙ ap (λ ns. number_of ns name) (e ∙ ap (λ ns. mentioned ns name) held)
    ∙ sym ((holds_mentioned (mentioned names name) other).number name (among_mentioned names name)))

-- the device of a row between these nodes
abbrev pub device_between : DeviceRow → Bool → NodeId → NodeId → Device
device_between d closed from to = record {
  name = d.name;
  kind = d.kind;
  from = from;
  to = to;
  weight = d.weight;
  starts_closed = closed;
}

pub same_device : (d : DeviceRow) (closed : Bool) (a i b j : NodeId) → a ≡ i → b ≡ j → device_between d closed a b ≡ device_between d closed i j
same_device d closed a i b j from to = ap (λ n. device_between d closed n b) from ∙ ap (λ n. device_between d closed i n) to

-- the meter of a row at this node
abbrev pub meter_at_node : MeterRow → NodeId → Meter
meter_at_node m node = record { name = m.name; node = node; customers = m.customers }

-- one more at the end, and what it is mapped to
pub pushed : {X Y : Type 0} (f : X → Y) (before after : List Y) (xs : List X) (x : X) (y : Y) → before ≡ map f xs → after ≡ before ++ y ∷ [] → y ≡ f x → after ≡ map f (xs ++ x ∷ [])
pushed f before after xs x y held e same = e ∙ ap (λ ys. ys ++ y ∷ []) held ∙ ap (λ z. map f xs ++ z ∷ []) same ∙ sym (map-append f xs (x ∷ []))

-- the nodes that a draft holds are distinct
pub held_distinct : (rows : List Row) (nodes : List (List ℕ)) → nodes ≡ nodes_of rows → AreDistinct nodes
held_distinct rows nodes e = subst AreDistinct (sym e) (nodes_distinct rows)

-- the rule that a row breaks by its name is the first
pub name_first : (earlier : List Row) (r : Row) (fault : RowFault) → IfBroken fault (λ rule. duplicate_in earlier r ≡ Some rule) → IfBroken fault (λ rule. broken_after earlier r ≡ Some rule)
name_first earlier r (Breaks rule) e = ap (λ o. or_else o (excess_in (r ∷ earlier))) e
name_first earlier r Memory e = tt

-- a row with a new name breaks the rule on what is too much, or none
pub excess_last : (earlier : List Row) (r : Row) (excess : Option GridRule) → duplicate_in earlier r ≡ None → excess ≡ excess_in (r ∷ earlier) → broken_after earlier r ≡ excess
excess_last earlier r excess fresh e = ap (λ o. or_else o (excess_in (r ∷ earlier))) fresh ∙ sym e
