-- What is kept of the meters, where one of them changes.
use Rattle.std.proofs.Common.{◌≡◌, ℕ, ◌<◌, ◌≤◌, ◌^◌, Bool, true, false, List, [], ◌∷◌, ◌++◌, length, map, reverse, replicate, get_or, set, refl, sym, ap, ◌∙◌, subst, inl, inr, arith}
use Rattle.std.specs.Prelude.{◌≢◌, ◌⊎◌, ◌==◌, Option, Some, None, filter}
use Rattle.std.specs.List.{All, range_with_len}
use Rattle.std.proofs.lemmas.Bool.{cases_eq, eq-eqb, ne_eqb, cond-true, cond-false}
use Rattle.std.proofs.lemmas.List.{length-set, length-map, get_or-set_same, get_or-set_other, ext_get_or, append-nil, reverse-append, get_or-map, get_or-replicate}
use Rattle.std.proofs.lemmas.List.Elements.{filter-append, All-push}
use Rattle.std.proofs.lemmas.List.FromFn.{length-map-range_with_len, get_or-map-range_with_len, fill_by_all}
use Rattle.grid_model.specs.declared.history.Stamp.{Stamp}
use Rattle.grid_model.specs.declared.history.Line.{Line}
use Rattle.history_rules.specs.Ledger.{Interrupted, interrupted_first, gone_dark, gone_live, line_from, line_of}
use Rattle.interruption_ledger.specs.Inside.{is_of, interrupted_in}

-- a number within a list by number
pub fits : {X : Type 0} (f : ℕ → X) (n m : ℕ) (xs : List X) → map f (range_with_len 0 n) ≡ xs → m < length xs → m < n
fits f n m xs e lt = omega (arith, ap length e, length-map-range_with_len f 0 n)

pub read_at : {X : Type 0} (f : ℕ → X) (n m : ℕ) (xs : List X) (d : X) → map f (range_with_len 0 n) ≡ xs → m < length xs → get_or xs m d ≡ f m
read_at f n m xs d e lt =
    ap (λ ys. get_or ys m d) (sym e) ∙ get_or-map-range_with_len f 0 n m m d (fits f n m xs e lt) (omega arith)

at_place : {X : Type 0} (f g : ℕ → X) (n m : ℕ) (x : X) → m < n → f m ≡ x → ((k : ℕ) → k ≢ m → f k ≡ g k)
    → (k : ℕ) → k < n → (k ≡ m) ⊎ (k ≡ m → ⊥) → get_or (map f (range_with_len 0 n)) k x ≡ get_or (set (map g (range_with_len 0 n)) m x) k x
at_place f g n m x lt here elsewhere k l (inl e) =
    get_or-map-range_with_len f 0 n k k x l (omega arith) ∙ ap f e ∙ here
    ∙ sym (ap (λ j. get_or (set (map g (range_with_len 0 n)) m x) j x) e ∙ get_or-set_same (map g (range_with_len 0 n)) m x x (omega (arith, length-map-range_with_len g 0 n)))
at_place f g n m x lt here elsewhere k l (inr ne) =
    get_or-map-range_with_len f 0 n k k x l (omega arith) ∙ elsewhere k ne
    ∙ sym (get_or-set_other (map g (range_with_len 0 n)) m k x x ne ∙ get_or-map-range_with_len g 0 n k k x l (omega arith))

-- lists by number that differ at one place
changed_at : {X : Type 0} (f g : ℕ → X) (n m : ℕ) (xs : List X) (x : X) → map g (range_with_len 0 n) ≡ xs → m < length xs
    → f m ≡ x → ((k : ℕ) → k ≢ m → f k ≡ g k) → map f (range_with_len 0 n) ≡ set xs m x
changed_at f g n m xs x e lt here elsewhere =
    ext_get_or x (map f (range_with_len 0 n)) (set (map g (range_with_len 0 n)) m x)
    (length-map-range_with_len f 0 n ∙ sym (length-set (map g (range_with_len 0 n)) m x ∙ length-map-range_with_len g 0 n))
    (λ k l. at_place f g n m x (fits g n m xs e lt) here elsewhere k (omega (arith, length-map-range_with_len f 0 n)) (cases_eq k m))
    ∙ ap (λ ys. set ys m x) e

abbrev kept_as : Bool → Option Stamp → List Line → Interrupted
kept_as d s ls = record { dark = d; start = s; ended = ls }

alike : (b c : Bool) (s t : Option Stamp) (x y : List Line) → b ≡ c → s ≡ t → x ≡ y → kept_as b s x ≡ kept_as c t y
alike b c s t x y e f g = ap (λ d. kept_as d s x) e ∙ ap (λ u. kept_as c u x) f ∙ ap (λ ls. kept_as c t ls) g

pub first_meters : (items dark : List Bool) (starts : List (Option Stamp)) (ended : List Line) → items ≡ dark → starts ≡ replicate (length dark) None → ended ≡ []
    → map (interrupted_in items starts ended) (range_with_len 0 (length items)) ≡ map interrupted_first dark
first_meters items dark starts ended is_items is_starts is_ended =
    sym (fill_by_all (interrupted_in items starts ended) (map interrupted_first dark) (length items) (interrupted_first false)
    (omega (arith, length-map dark interrupted_first, ap length is_items))
    (λ k l. get_or-map interrupted_first dark k false (interrupted_first false) (omega (arith, ap length is_items))
    ∙ sym (alike _ _ _ _ _ _ (ap (λ xs. get_or xs k false) is_items)
    (ap (λ xs. get_or xs k None) is_starts ∙ get_or-replicate (length dark) k None None (omega (arith, ap length is_items)))
    (ap (λ ls. reverse (filter (is_of k) ls)) is_ended))))

-- the flags and the starts of other meters stay where one's are written
other_same : (dark : List Bool) (starts starts2 : List (Option Stamp)) (ended ended2 : List Line) (m k : ℕ) (d : Bool) → k ≢ m
    → get_or starts2 k None ≡ get_or starts k None → filter (is_of k) ended2 ≡ filter (is_of k) ended
    → interrupted_in (set dark m d) starts2 ended2 k ≡ interrupted_in dark starts ended k
other_same dark starts starts2 ended ended2 m k d ne is_start is_ended =
    alike _ _ _ _ _ _ (get_or-set_other dark m k d false ne) is_start (ap reverse is_ended)

pub darkened : (dark : List Bool) (starts : List (Option Stamp)) (ended : List Line) (meters : List Interrupted) (m : ℕ) (at : Stamp)
    → map (interrupted_in dark starts ended) (range_with_len 0 (length dark)) ≡ meters → length starts ≡ length dark → m < length meters
    → map (interrupted_in (set dark m true) (set starts m (Some at)) ended) (range_with_len 0 (length (set dark m true)))
    ≡ set meters m (gone_dark at (get_or meters m (interrupted_first false)))
darkened dark starts ended meters m at is_meters each lt =
    let f = λ (k : ℕ). interrupted_in (set dark m true) (set starts m (Some at)) ended k in
    let g = λ (k : ℕ). interrupted_in dark starts ended k in
    let inside : m < length dark = fits g (length dark) m meters is_meters lt in
    ap (λ n. map f (range_with_len 0 n)) (length-set dark m true)
    ∙ changed_at f g (length dark) m meters (gone_dark at (get_or meters m (interrupted_first false))) is_meters lt
    (alike _ _ _ _ _ _ (get_or-set_same dark m true false inside) (get_or-set_same starts m (Some at) None (omega arith))
    (ap (λ k. k.ended) (sym (read_at g (length dark) m meters (interrupted_first false) is_meters lt))))
    (λ k ne. other_same dark starts (set starts m (Some at)) ended ended m k true ne (get_or-set_other starts m k (Some at) None ne) refl)

-- a meter goes live, with these starts and ended lines afterwards
lit : (dark : List Bool) (starts starts2 : List (Option Stamp)) (ended ended2 : List Line) (meters : List Interrupted) (m : ℕ) (at : Stamp)
    → map (interrupted_in dark starts ended) (range_with_len 0 (length dark)) ≡ meters → m < length meters
    → get_or starts2 m None ≡ None → reverse (filter (is_of m) ended2) ≡ line_from m (get_or starts m None) (Some at) ++ reverse (filter (is_of m) ended)
    → ((k : ℕ) → k ≢ m → get_or starts2 k None ≡ get_or starts k None) → ((k : ℕ) → k ≢ m → filter (is_of k) ended2 ≡ filter (is_of k) ended)
    → map (interrupted_in (set dark m false) starts2 ended2) (range_with_len 0 (length (set dark m false)))
    ≡ set meters m (gone_live m at (get_or meters m (interrupted_first false)))
lit dark starts starts2 ended ended2 meters m at is_meters lt closed added starts_stay ended_stay =
    let f = λ (k : ℕ). interrupted_in (set dark m false) starts2 ended2 k in
    let g = λ (k : ℕ). interrupted_in dark starts ended k in
    let inside : m < length dark = fits g (length dark) m meters is_meters lt in
    ap (λ n. map f (range_with_len 0 n)) (length-set dark m false)
    ∙ changed_at f g (length dark) m meters (gone_live m at (get_or meters m (interrupted_first false))) is_meters lt
    (alike _ _ _ _ _ _ (get_or-set_same dark m false false inside) closed
    (added ∙ ap (λ k. line_from m k.start (Some at) ++ k.ended) (sym (read_at g (length dark) m meters (interrupted_first false) is_meters lt))))
    (λ k ne. other_same dark starts starts2 ended ended2 m k false ne (starts_stay k ne) (ended_stay k ne))

pub lit_unlined : (dark : List Bool) (starts : List (Option Stamp)) (ended : List Line) (meters : List Interrupted) (m : ℕ) (at : Stamp)
    → map (interrupted_in dark starts ended) (range_with_len 0 (length dark)) ≡ meters → m < length meters → get_or starts m None ≡ None
    → map (interrupted_in (set dark m false) starts ended) (range_with_len 0 (length (set dark m false)))
    ≡ set meters m (gone_live m at (get_or meters m (interrupted_first false)))
lit_unlined dark starts ended meters m at is_meters lt none =
    lit dark starts starts ended ended meters m at is_meters lt none
    (ap (λ s. line_from m s (Some at) ++ reverse (filter (is_of m) ended)) (sym none))
    (λ k ne. refl) (λ k ne. refl)

own_pushed : (m : ℕ) (start : Stamp) (end : Option Stamp) (ended : List Line)
    → filter (is_of m) (ended ++ line_of m start end ∷ []) ≡ filter (is_of m) ended ++ line_of m start end ∷ []
own_pushed m start end ended =
    filter-append (is_of m) ended (line_of m start end ∷ [])
    ∙ ap (λ ls. filter (is_of m) ended ++ ls) (cond-true (m == m) (line_of m start end ∷ []) [] (eq-eqb m m refl))

other_pushed : (m k : ℕ) (start : Stamp) (end : Option Stamp) (ended : List Line) → k ≢ m
    → filter (is_of k) (ended ++ line_of m start end ∷ []) ≡ filter (is_of k) ended
other_pushed m k start end ended ne =
    filter-append (is_of k) ended (line_of m start end ∷ [])
    ∙ ap (λ ls. filter (is_of k) ended ++ ls) (cond-false (m == k) (line_of m start end ∷ []) [] (ne_eqb m k (λ e. ne (sym e))))
    ∙ append-nil (filter (is_of k) ended)

pub lit_lined : (dark : List Bool) (starts : List (Option Stamp)) (ended ended2 : List Line) (meters : List Interrupted) (m : ℕ) (start at : Stamp)
    → map (interrupted_in dark starts ended) (range_with_len 0 (length dark)) ≡ meters → length starts ≡ length dark → m < length meters
    → get_or starts m None ≡ Some start → ended2 ≡ ended ++ line_of m start (Some at) ∷ []
    → map (interrupted_in (set dark m false) (set starts m None) ended2) (range_with_len 0 (length (set dark m false)))
    ≡ set meters m (gone_live m at (get_or meters m (interrupted_first false)))
lit_lined dark starts ended ended2 meters m start at is_meters each lt started pushed =
    let inside : m < length dark = fits (interrupted_in dark starts ended) (length dark) m meters is_meters lt in
    lit dark starts (set starts m None) ended ended2 meters m at is_meters lt (get_or-set_same starts m None None (omega arith))
    (ap (λ ls. reverse (filter (is_of m) ls)) pushed ∙ ap reverse (own_pushed m start (Some at) ended)
    ∙ reverse-append (filter (is_of m) ended) (line_of m start (Some at) ∷ [])
    ∙ ap (λ s. line_from m s (Some at) ++ reverse (filter (is_of m) ended)) (sym started))
    (λ k ne. get_or-set_other starts m k None None ne)
    (λ k ne. ap (filter (is_of k)) pushed ∙ other_pushed m k start (Some at) ended ne)

cleared : (starts : List (Option Stamp)) (m k : ℕ) → m < length starts → get_or starts k None ≡ None → (k ≡ m) ⊎ (k ≡ m → ⊥)
    → get_or (set starts m None) k None ≡ None
cleared starts m k lt none (inl e) = ap (λ j. get_or (set starts m None) j None) e ∙ get_or-set_same starts m None None lt
cleared starts m k lt none (inr ne) = get_or-set_other starts m k None None ne ∙ none

-- a start that is taken away leaves none that didn't fit
pub still_fits : (starts : List (Option Stamp)) (m : ℕ) → m < length starts → ((k : ℕ) → 2 ^ 32 ≤ k → get_or starts k None ≡ None)
    → (k : ℕ) → 2 ^ 32 ≤ k → get_or (set starts m None) k None ≡ None
still_fits starts m lt none k le = cleared starts m k lt (none k le) (cases_eq k m)

pub still_within : (n : ℕ) (ended ended2 : List Line) (line : Line) → ended2 ≡ ended ++ line ∷ [] → line.meter.0 < n
    → All (λ l. l.meter.0 < n) ended → All (λ l. l.meter.0 < n) ended2
still_within n ended ended2 line e lt all = subst (All (λ l. l.meter.0 < n)) (sym e) (All-push (λ l. l.meter.0 < n) ended line all lt)
