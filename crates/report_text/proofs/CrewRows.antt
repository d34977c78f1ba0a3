-- The rows of crews, one more at a time.
use Rattle.std.proofs.Common.{◌≡◌, ℕ, ◌+◌, ◌<◌, sym, ap, ◌∙◌, arith, List, [], ◌∷◌, ◌++◌, length, map, take, get_or, append-nil, append_assoc}
use Rattle.std.specs.Prelude.{codes, decimal}
use Rattle.std.proofs.lemmas.List.{take_more, map-append, length-map, length-take-le}
use Rattle.grid_model.specs.Parts.{Parts}
use Rattle.grid_model.specs.declared.history.Outage.{Outage}
use Rattle.event_rules.specs.Rows.{row}
use Rattle.history_rules.specs.Report.{device_word, crew_rows}
use Rattle.crew_list.specs.Listed.{outage_at}

-- a row of this number
abbrev named_row : Parts → ℕ → ℕ → List ℕ
named_row g number device = row (codes "crew" ∷ decimal number ∷ device_word g device ∷ [])

abbrev crew_row : Parts → ℕ → Outage → List ℕ
crew_row g number o = named_row g number o.device.0

-- an outage more is a row more
rows_of_more : (g : Parts) (number : ℕ) (os : List Outage) (o : Outage) → crew_rows g number (os ++ o ∷ []) ≡ crew_rows g number os ++ crew_row g (number + length os) o
unfolding crew_rows
rows_of_more g number [] o = append-nil (crew_row g number o) ∙ ap (λ n. crew_row g n o) (let e : number ≡ number + 0 = omega arith in e)
rows_of_more g number (x ∷ os) o =
    ap (λ t. crew_row g number x ++ t)
    (rows_of_more g (number + 1) os o ∙ ap (λ n. crew_rows g (number + 1) os ++ crew_row g n o) (let e : (number + 1) + length os ≡ number + length (x ∷ os) = omega arith in e))
    ∙ sym (append_assoc (crew_row g number x) (crew_rows g (number + 1) os) (crew_row g (number + length (x ∷ os)) o))

-- the rows of the first places, and of one more
places_more : (g : Parts) (all : List Outage) (places : List ℕ) (k : ℕ) → k < length places
    → crew_rows g 1 (map (outage_at all) (take (k + 1) places))
    ≡ crew_rows g 1 (map (outage_at all) (take k places)) ++ crew_row g (k + 1) (outage_at all (get_or places k 0))
places_more g all places k within =
    let count : length (map (outage_at all) (take k places)) ≡ k = length-map (take k places) (outage_at all) ∙ length-take-le k places (omega arith) in
    ap (λ ks. crew_rows g 1 (map (outage_at all) ks)) (take_more places k 0 within)
    ∙ ap (crew_rows g 1) (map-append (outage_at all) (take k places) (get_or places k 0 ∷ []))
    ∙ rows_of_more g 1 (map (outage_at all) (take k places)) (outage_at all (get_or places k 0))
    ∙ ap (λ n. crew_rows g 1 (map (outage_at all) (take k places)) ++ crew_row g n (outage_at all (get_or places k 0)))
    (let e : 1 + length (map (outage_at all) (take k places)) ≡ k + 1 = omega arith in e)

pub crew_added : (g : Parts) (all : List Outage) (places : List ℕ) (k number device : ℕ) (old mid new : List ℕ) → k < length places → number ≡ k
    → device ≡ (outage_at all (get_or places k 0)).device.0 → mid ≡ old ++ crew_rows g 1 (map (outage_at all) (take k places))
    → new ≡ mid ++ row (codes "crew" ∷ decimal (number + 1) ∷ device_word g device ∷ []) → new ≡ old ++ crew_rows g 1 (map (outage_at all) (take (k + 1) places))
crew_added g all places k number device old mid new within number_is is before adds =
    let rows = crew_rows g 1 (map (outage_at all) (take k places)) in
    adds
    ∙ ap (λ t. t ++ named_row g (number + 1) device) before
    ∙ ap (λ n. (old ++ rows) ++ named_row g (n + 1) device) number_is
    ∙ ap (λ d. (old ++ rows) ++ named_row g (k + 1) d) is
    ∙ append_assoc old rows (crew_row g (k + 1) (outage_at all (get_or places k 0)))
    ∙ ap (λ t. old ++ t) (sym (places_more g all places k within))

-- before all places there is no row
pub no_crews : (g : Parts) (old : List ℕ) → old ≡ old ++ crew_rows g 1 []
unfolding crew_rows
no_crews g old = sym (append-nil old)
