-- The order in which crews take outages.
use Rattle.std.specs.Prelude.{◌≡◌, ◌≢◌, ◌≤◌, ◌<◌, ℕ, zero, suc, Bool, true, false, ◌==◌, ◌&&◌, ◌||◌, nat_lt, List, [], ◌∷◌, length, if◌then◌else◌, Option, Some, None, IfSome, All, filter, find, sum_by, fold, option_map, slice_index_or}
use Rattle.std.specs.Option.{option_map_or}
use Rattle.std.specs.List.{list_any}
use Rattle.grid_model.specs.Parts.{Parts}
use Rattle.grid_model.specs.Sound.{IsSoundParts}
use Rattle.grid_model.specs.declared.history.Event.{Event}
use Rattle.grid_model.specs.declared.history.Outage.{Outage}
use Rattle.history_rules.specs.Evidence.{earliest}
use Rattle.history_rules.specs.Posed.{IsHistory, diagnosis_after}
use Rattle.history_rules.specs.Outages.{outages_after}

-- the device above that of an outage
abbrev pub above_of : Option Outage → Option ℕ
above_of None = None
above_of (Some o) = option_map (λ d. d.0) o.above

abbrev pub above_in : List Outage → ℕ → Option ℕ
above_in all d = above_of (find (λ o. o.device.0 == d) all)

-- following `above` for at most so many steps: where it ends, and how far it goes
unfoldable pub top_within : List Outage → ℕ → ℕ → ℕ
top_within all zero d = d
top_within all (suc k) d = option_map_or (top_within all k) (above_in all d) d

unfoldable pub count_within : List Outage → ℕ → ℕ → ℕ
count_within all zero d = 0
count_within all (suc k) d = option_map_or (λ e. suc (count_within all k e)) (above_in all d) 0

-- the topmost device above an outage names its group
abbrev pub top_of : List Outage → Outage → ℕ
top_of all o = top_within all (length all) o.device.0

-- how many outages are above it
abbrev pub count_above : List Outage → Outage → ℕ
count_above all o = count_within all (length all) o.device.0

abbrev pub group_of : List Outage → ℕ → List Outage
group_of all top = filter (λ q. top_of all q == top) all

abbrev pub group_customers : List Outage → ℕ → ℕ
group_customers all top = sum_by (λ q. q.customers) (group_of all top)

-- the earliest second of a group
abbrev pub group_since : List Outage → ℕ → Option ℕ
group_since all top = fold (λ t q. earliest t (option_map (λ s. s.0) q.since)) None (group_of all top)

-- no second counts as later than all
abbrev pub has_none : Option ℕ → ℕ
has_none None = 1
has_none (Some t) = 0

abbrev pub second_or_zero : Option ℕ → ℕ
second_or_zero None = 0
second_or_zero (Some t) = t

-- the first pair that differs rises
abbrev pub rises : List (ℕ × ℕ) → Bool
rises [] = false
rises (p ∷ ps) = nat_lt p.0 p.1 || ((p.0 == p.1) && rises ps)

-- groups by customers falling, then by their earliest second with none last, then by their topmost device; inside a group by the count of outages above, then by device
unfoldable pub comes_before : List Outage → Outage → Outage → Bool
comes_before all a b =
    rises (
    (group_customers all (top_of all b), group_customers all (top_of all a))
    ∷ (has_none (group_since all (top_of all a)), has_none (group_since all (top_of all b)))
    ∷ (second_or_zero (group_since all (top_of all a)), second_or_zero (group_since all (top_of all b)))
    ∷ (top_of all a, top_of all b)
    ∷ (count_above all a, count_above all b)
    ∷ (a.device.0, b.device.0) ∷ [])

-- an outage put before the first one that it comes before
unfoldable pub placed : (Outage → Outage → Bool) → Outage → List Outage → List Outage
placed before x [] = x ∷ []
placed before x (y ∷ ys) = if before x y then x ∷ y ∷ ys else y ∷ placed before x ys

unfoldable pub in_order : (Outage → Outage → Bool) → List Outage → List Outage
in_order before [] = []
in_order before (x ∷ xs) = placed before x (in_order before xs)

abbrev pub crew_order : List Outage → List Outage
crew_order all = in_order (comes_before all) all

-- the most customers that outages may have together
abbrev pub most_customers : ℕ
most_customers = 1000000000000

abbrev pub is_device_of : List Outage → ℕ → Bool
is_device_of all d = list_any (λ o. o.device.0 == d) all

-- outages that can be ordered: of different devices, each below one of them or below none, where following `above` ends, and with no more customers than are counted
pub record CanBeOrdered (all : List Outage) : Type 0 where
  pub apart : (i j : ℕ) (x : Outage) → i < j → j < length all → (slice_index_or all i x).device.0 ≢ (slice_index_or all j x).device.0
  pub above : All (λ o. IfSome o.above (λ d. is_device_of all d.0 ≡ true)) all
  pub ends : All (λ o. above_in all (top_of all o) ≡ None) all
  pub customers : sum_by (λ o. o.customers) all ≤ most_customers

-- so the outages of a history can be ordered
abbrev pub OutagesCanBeOrdered : Type 0
OutagesCanBeOrdered = (g : Parts) (h : List Event) → IsSoundParts g → IsHistory g h → CanBeOrdered (outages_after g h (diagnosis_after g h))

-- the crew order has the same outages, and none that comes before one behind which it stands
pub record IsCrewOrder (all order : List Outage) : Type 0 where
  pub same : (test : Outage → Bool) → length (filter test order) ≡ length (filter test all)
  pub sorted : (i j : ℕ) (x : Outage) → i < j → j < length order → comes_before all (slice_index_or order j x) (slice_index_or order i x) ≡ false

abbrev pub CrewOrderIsSorted : Type 0
CrewOrderIsSorted = (all : List Outage) → IsCrewOrder all (crew_order all)
