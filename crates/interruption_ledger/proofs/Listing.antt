-- All lines, sorted by meter.
use Rattle.std.proofs.Common.{◌≡◌, ℕ, ◌<◌, Bool, false, List, ◌++◌, length, map, reverse, get_or, refl, sym, ap, ◌∙◌, arith}
use Rattle.std.specs.Prelude.{Option, Some, None, filter, flat_map}
use Rattle.std.specs.List.{All, range_with_len}
use Rattle.std.specs.List.Sorted.{IsPermutation, IsNonDecreasingBy, IsStableByKey}
use Rattle.std.specs.Ordering.{nat_cmp}
use Rattle.std.proofs.lemmas.List.{reverse-append, reverse-reverse}
use Rattle.std.proofs.lemmas.List.Elements.{filter-append, All-append, All-same}
use Rattle.std.proofs.lemmas.List.Sorted.{All-permutation}
use Rattle.std.proofs.lemmas.List.FromFn.{length-map-range_with_len, get_or-map-range_with_len}
use Rattle.grid_model.specs.declared.history.Stamp.{Stamp}
use Rattle.grid_model.specs.declared.history.Line.{Line}
use Rattle.history_rules.specs.Ledger.{interrupted_first, kept_lines, line_from, line_of}
use Rattle.interruption_ledger.specs.Ledgered.{Ledgered, interrupted_at, lines_kept}
use Rattle.interruption_ledger.specs.Inside.{is_of, interrupted_in, open_below}
use Rattle.interruption_ledger.proofs.ByNumber.{in_parts, same_parts, flat_map_alike}
use Rattle.interruption_ledger.proofs.Open.{open_of, open_within}

abbrev pub meter_of : Line → ℕ
meter_of line = line.meter.0

reversed_line : (m : ℕ) (s : Option Stamp) → reverse (line_from m s None) ≡ line_from m s None
reversed_line m None = refl
reversed_line m (Some start) = refl

-- the lines of a meter as they are kept: the ended ones, and then the open one
kept_apart : (dark : List Bool) (starts : List (Option Stamp)) (ended : List Line) (m : ℕ)
    → kept_lines m (interrupted_in dark starts ended m) ≡ filter (is_of m) ended ++ line_from m (get_or starts m None) None
kept_apart dark starts ended m =
    reverse-append (line_from m (get_or starts m None) None) (reverse (filter (is_of m) ended))
    ∙ ap (λ ls. ls ++ reverse (line_from m (get_or starts m None) None)) (reverse-reverse (filter (is_of m) ended))
    ∙ ap (λ ls. filter (is_of m) ended ++ ls) (reversed_line m (get_or starts m None))

part_kept : (dark : List Bool) (starts : List (Option Stamp)) (ended : List Line) (m n : ℕ) → m < n
    → filter (is_of m) (ended ++ open_below starts n) ≡ kept_lines m (interrupted_in dark starts ended m)
part_kept dark starts ended m n lt =
    filter-append (is_of m) ended (open_below starts n)
    ∙ ap (λ ls. filter (is_of m) ended ++ ls) (open_of starts m n lt)
    ∙ sym (kept_apart dark starts ended m)

-- the sorted lines of a meter are its lines as they are kept
sorted_part : (dark : List Bool) (starts : List (Option Stamp)) (ended lines sorted : List Line) (l : Ledgered) (m : ℕ)
    → map (interrupted_in dark starts ended) (range_with_len 0 (length dark)) ≡ l.meters
    → lines ≡ ended ++ open_below starts (length dark) → IsStableByKey meter_of nat_cmp lines sorted → m < length dark
    → filter (is_of m) sorted ≡ kept_lines m (interrupted_at l m)
sorted_part dark starts ended lines sorted l m is_meters opened stable lt =
    let n = length dark in
    same_parts meter_of (λ k. line_of k (record { 0 = 0 }) None) (λ k. refl) lines sorted stable m
    ∙ ap (filter (is_of m)) opened ∙ part_kept dark starts ended m n lt
    ∙ ap (kept_lines m) (sym (get_or-map-range_with_len (interrupted_in dark starts ended) 0 n m m (interrupted_first false) lt (omega arith)))
    ∙ ap (λ ms. kept_lines m (get_or ms m (interrupted_first false))) is_meters

all_within : (starts : List (Option Stamp)) (ended lines sorted : List Line) (n : ℕ) → All (λ line. line.meter.0 < n) ended
    → lines ≡ ended ++ open_below starts n → IsPermutation lines sorted → All (λ line. line.meter.0 < n) sorted
all_within starts ended lines sorted n within opened permuted =
    let all = All-append (λ line. line.meter.0 < n) ended (open_below starts n) within (open_within starts n) in
    All-permutation (λ line. line.meter.0 < n) lines sorted permuted (All-same (λ line. line.meter.0 < n) lines (ended ++ open_below starts n) opened all)

pub listed : (dark : List Bool) (starts : List (Option Stamp)) (ended lines sorted : List Line) (l : Ledgered)
    → map (interrupted_in dark starts ended) (range_with_len 0 (length dark)) ≡ l.meters → length starts ≡ length dark
    → All (λ line. line.meter.0 < length dark) ended → lines ≡ ended ++ open_below starts (length starts)
    → IsPermutation lines sorted → IsNonDecreasingBy meter_of sorted → IsStableByKey meter_of nat_cmp lines sorted
    → sorted ≡ lines_kept l
listed dark starts ended lines sorted l is_meters each within is_lines permuted rising stable =
    let n = length dark in
    let opened : lines ≡ ended ++ open_below starts n = is_lines ∙ ap (λ k. ended ++ open_below starts k) each in
    in_parts meter_of n sorted rising (all_within starts ended lines sorted n within opened permuted)
    ∙ flat_map_alike (λ m. filter (is_of m) sorted) (λ m. kept_lines m (interrupted_at l m)) 0 n
    (λ m low high. sorted_part dark starts ended lines sorted l m is_meters opened stable (omega arith))
    ∙ ap (λ k. flat_map (λ m. kept_lines m (interrupted_at l m)) (range_with_len 0 k)) (sym (length-map-range_with_len (interrupted_in dark starts ended) 0 n) ∙ ap length is_meters)
