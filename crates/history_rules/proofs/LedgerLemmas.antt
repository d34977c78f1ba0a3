-- The lines of the ledger start and end by the last event, and are few.
use Rattle.std.proofs.Common.{◌≡◌, ℕ, zero, suc, ◌+◌, ◌*◌, ◌<◌, ◌≤◌, Bool, true, false, List, [], ◌∷◌, ◌++◌, length, reverse, All, flat_map, arith}
use Rattle.std.specs.Prelude.{Option, Some, None, IfSome, if◌then◌else◌}
use Rattle.std.specs.List.{range_with_len}
use Rattle.std.proofs.lemmas.List.{length-append, length-reverse}
use Rattle.std.proofs.lemmas.List.Elements.{All-nil, All-cons, All-append}
use Rattle.std.proofs.lemmas.List.Sorted.{All-permutation, IsPermutation-reverse}
use Rattle.std.proofs.Math.Nat.{mul_comm}
use Rattle.grid_model.specs.Parts.{Parts}
use Rattle.grid_model.specs.declared.history.Event.{Event}
use Rattle.grid_model.specs.declared.history.Stamp.{Stamp}
use Rattle.grid_model.specs.declared.history.Line.{Line}
use Rattle.history_rules.specs.State.{now}
use Rattle.history_rules.specs.Slots.{IsTimely}
use Rattle.history_rules.specs.Ledger.{is_judged_dark, line_of, begun, lines_before, lines_of, ledger_after, IsLineBy, LedgerIsTimely}
use Rattle.history_rules.proofs.TimelyLemmas

-- an end, where there is one, lies between two times
abbrev EndsWithin : ℕ → ℕ → Option Stamp → Type 0
EndsWithin first last end = IfSome end (λ t. (first ≤ t.0) × (t.0 ≤ last))

earlier_first : (before first last : ℕ) (end : Option Stamp) → before ≤ first → EndsWithin first last end → EndsWithin before last end
earlier_first before first last None earlier within = tt
earlier_first before first last (Some t) earlier within = (omega arith, within.1)

next_end : (dark : Bool) (before last : ℕ) (time : Stamp) (end : Option Stamp) → before ≤ time.0 → time.0 ≤ last → EndsWithin time.0 last end →
    EndsWithin before last (if dark then end else Some time)
next_end true before last time end earlier by within = earlier_first before time.0 last end earlier within
next_end false before last time end earlier by within = (earlier, by)

all_begun : (g : Parts) (m last : ℕ) (time : Stamp) (end : Option Stamp) (after before : Bool) → m < length g.meters → time.0 ≤ last → EndsWithin time.0 last end →
    All (IsLineBy g last) (begun m time end after before)
all_begun g m last time end true false meter by within =
    All-cons (IsLineBy g last) (line_of m time end) [] (record { meter = meter; start = by; end = within }) (All-nil (IsLineBy g last))
all_begun g m last time end true true meter by within = All-nil (IsLineBy g last)
all_begun g m last time end false before meter by within = All-nil (IsLineBy g last)

-- the lines of a meter before a time at which it is live again
all_before : (g : Parts) (m last : ℕ) (dark : List Event → Bool) (h : List Event) (next : Option Stamp) → m < length g.meters → IsTimely h → now h ≤ last → EndsWithin (now h) last next →
    All (IsLineBy g last) (lines_before m dark next h)
all_before g m last dark [] next meter timely by within = All-nil (IsLineBy g last)
all_before g m last dark (e ∷ h) next meter timely by within =
    let after = if dark (e ∷ h) then next else Some e.time in
    All-append (IsLineBy g last) (begun m e.time next (dark (e ∷ h)) (dark h)) (lines_before m dark after h)
    (all_begun g m last e.time next (dark (e ∷ h)) (dark h) meter by within)
    (all_before g m last dark h after meter timely.1 (omega arith) (next_end (dark (e ∷ h)) (now h) last e.time next timely.0 by within))

few_begun : (m : ℕ) (time : Stamp) (end : Option Stamp) (after before : Bool) → length (begun m time end after before) ≤ 1
few_begun m time end true false = omega arith
few_begun m time end true true = omega arith
few_begun m time end false before = omega arith

few_before : (m : ℕ) (dark : List Event → Bool) (h : List Event) (next : Option Stamp) → length (lines_before m dark next h) ≤ length h
few_before m dark [] next = omega arith
few_before m dark (e ∷ h) next =
    let after = if dark (e ∷ h) then next else Some e.time in
    let first = begun m e.time next (dark (e ∷ h)) (dark h) in
    let joined : length (first ++ lines_before m dark after h) ≡ length first + length (lines_before m dark after h) = length-append first (lines_before m dark after h) in
    let one : length first ≤ 1 = few_begun m e.time next (dark (e ∷ h)) (dark h) in
    let rest : length (lines_before m dark after h) ≤ length h = few_before m dark h after in
    omega arith

-- what holds of the lines of each meter holds of all
all_meters : (P : Line → Type 0) (f : ℕ → List Line) (n first : ℕ) → ((m : ℕ) → m < first + n → All P (f m)) → All P (flat_map f (range_with_len first n))
all_meters P f zero first each = All-nil P
all_meters P f (suc n) first each =
    All-append P (f first) (flat_map f (range_with_len (first + 1) n)) (each first (omega arith)) (all_meters P f n (first + 1) (λ m l. each m (omega arith)))

few_meters : (f : ℕ → List Line) (most n first : ℕ) → ((m : ℕ) → length (f m) ≤ most) → length (flat_map f (range_with_len first n)) ≤ most * n
few_meters f most zero first each = omega arith
few_meters f most (suc n) first each =
    let joined : length (f first ++ flat_map f (range_with_len (first + 1) n)) ≡ length (f first) + length (flat_map f (range_with_len (first + 1) n)) = length-append (f first) (flat_map f (range_with_len (first + 1) n)) in
    let one : length (f first) ≤ most = each first in
    let rest : length (flat_map f (range_with_len (first + 1) n)) ≤ most * n = few_meters f most n (first + 1) each in
    omega arith

all_of_meter : (g : Parts) (h : List Event) (m : ℕ) → IsTimely h → m < length g.meters → All (IsLineBy g (now h)) (lines_of g h m)
all_of_meter g h m timely meter =
    let before = lines_before m (is_judged_dark g m) None h in
    All-permutation (IsLineBy g (now h)) before (reverse before) (IsPermutation-reverse before)
    (all_before g m (now h) (is_judged_dark g m) h None meter timely (omega arith) tt)

few_of_meter : (g : Parts) (h : List Event) (m : ℕ) → length (lines_of g h m) ≤ length h
few_of_meter g h m =
    let before = lines_before m (is_judged_dark g m) None h in
    let same : length (reverse before) ≡ length before = length-reverse before in
    let few : length before ≤ length h = few_before m (is_judged_dark g m) h None in
    omega arith

pub ledger_is_timely : LedgerIsTimely
unfolding ledger_after
ledger_is_timely g h sound history =
    let timely : IsTimely h = TimelyLemmas.history_is_timely g h history in
    let swapped : length h * length g.meters ≡ length g.meters * length h = mul_comm (length h) (length g.meters) in
    let few : length (flat_map (lines_of g h) (range_with_len 0 (length g.meters))) ≤ length h * length g.meters = few_meters (lines_of g h) (length h) (length g.meters) 0 (few_of_meter g h) in
    record {
      lines = all_meters (IsLineBy g (now h)) (lines_of g h) (length g.meters) 0 (λ m l. all_of_meter g h m timely (omega arith));
      each = few_of_meter g h;
      count = omega arith;
    }
