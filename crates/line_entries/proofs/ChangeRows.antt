-- The rows of the devices that are listed as changed are those of two diagnoses.
use Rattle.std.proofs.Common.{◌≡◌, ℕ, ◌+◌, ◌<◌, Bool, true, false, cond, refl, sym, ap, ◌∙◌, subst, arith, List, [], ◌∷◌, ◌++◌, All, length, map, get_or, append_assoc, append-nil, Ok}
use Rattle.std.specs.Prelude.{◌&&◌, not, codes, decimal, filter, flat_map, take, drop, Option, None, Some}
use Rattle.std.specs.List.{range_with_len}
use Rattle.std.proofs.Math.Path.{fun_ext}
use Rattle.std.proofs.lemmas.Grind.{flat_map-append}
use Rattle.std.proofs.lemmas.List.Folds.{flat_map-map}
use Rattle.std.proofs.lemmas.List.Elements.{All-filter}
use Rattle.std.proofs.lemmas.List.{length-map, get_or-map, take-append-drop, take_more}
use Rattle.std.proofs.lemmas.List.FromFn.{get_or-range_with_len, length-range_with_len}
use Rattle.grid_model.specs.Parts.{Parts}
use Rattle.grid_model.specs.Places.{device_at}
use Rattle.grid_model.specs.declared.parts.DeviceId.{DeviceId}
use Rattle.grid_model.specs.declared.history.Event.{Event}
use Rattle.grid_model.specs.declared.history.Refusal.{Refusal}
use Rattle.outage_rules.specs.Network.{Cut}
use Rattle.event_rules.specs.Rows.{row}
use Rattle.history_rules.specs.Posed.{least_after, diagnosis_after, refusal_of, joined, joined_by}
use Rattle.history_rules.specs.Output.{cost_row, change_rows, changes}
use Rattle.diagnosis.specs.Judgement.{opened_by, differ, differences, flag_in}
use Rattle.outage_engine.specs.declared.Applied.{Applied}
use Rattle.outage_engine.specs.Engined.{Engined, IsEngineAfter, answer_by}
use Rattle.line_entries.specs.Entered.{IsLastChange, AppliedIsLastChange, device_rows}

filter_step : {X A : Type 0} (f : X → List A) (b : Bool) (x : X) (xs : List X) (rest : List A) → flat_map f xs ≡ rest → flat_map f (cond b (x ∷ xs) xs) ≡ cond b (f x) [] ++ rest
filter_step f true x xs rest e = ap (λ ys. f x ++ ys) e
filter_step f false x xs rest e = e

-- what a filter leaves out adds nothing
flat_map-filter : {X A : Type 0} (f : X → List A) (test : X → Bool) (xs : List X) → flat_map f (filter test xs) ≡ flat_map (λ x. cond (test x) (f x) []) xs
flat_map-filter f test [] = refl
flat_map-filter f test (x ∷ xs) = filter_step f (test x) x (filter test xs) _ (flat_map-filter f test xs)

-- numbers that a filter leaves of a range are below its end
numbers_below : (changed : List DeviceId) (test : ℕ → Bool) (n : ℕ) → map (λ d. d.0) changed ≡ filter test (range_with_len 0 n) → All (λ d. d.0 < n) changed
numbers_below changed test n listed = λ k d l.
    let numbers = map (λ (d : DeviceId). d.0) changed in
    let range = range_with_len 0 n in
    let below : All (λ j. j < n) range = λ i e w. (let fits = length-range_with_len 0 n in let here = get_or-range_with_len 0 n i e (omega arith) in omega arith) in
    let left : All (λ j. j < n) (filter test range) = All-filter test (λ j. j < n) range below in
    let same : length numbers ≡ length changed = length-map changed (λ d. d.0) in
    let place : k < length (filter test range) = omega (arith, ap length listed) in
    let small : get_or (filter test range) k d.0 < n = left k d.0 place in
    let read : get_or numbers k d.0 ≡ (get_or changed k d).0 = get_or-map (λ (d : DeviceId). d.0) changed k d d.0 l in
    let is : get_or numbers k d.0 ≡ get_or (filter test range) k d.0 = ap (λ xs. get_or xs k d.0) listed in
    omega arith

-- a device that was opened and changed isn't opened any more
leaving : (before now : Bool) (xs : List ℕ) → cond (differ before now) (cond (differ true now) xs []) [] ≡ cond (before && not now) xs []
leaving true true xs = refl
leaving true false xs = refl
leaving false true xs = refl
leaving false false xs = refl

-- one that wasn't is opened now
entering : (before now : Bool) (xs : List ℕ) → cond (differ before now) (cond (differ false now) xs []) [] ≡ cond (now && not before) xs []
entering true true xs = refl
entering true false xs = refl
entering false true xs = refl
entering false false xs = refl

module _ (h : List Event) (event : Event) (applied : Applied) (e : Engined) (last : IsLastChange h event applied e) where
  -- the judgement has a flag for each device
  pub last_each : length e.judged.opened ≡ length e.grid.devices
  last_each = last.after.judged.sized.opened

  -- the devices that changed are of the network
  pub last_known : All (λ d. d.0 < length e.grid.devices) e.judged.changed
  last_known = numbers_below e.judged.changed (λ d. differ (diagnosis_after e.grid h d) (diagnosis_after e.grid (event ∷ h) d)) (length e.grid.devices) last.changed

module _ (e : Engined) (word : List ℕ) (line : ℕ) (before after : Cut) (opened : opened_by e.judged ≡ after) (listed : map (λ d. d.0) e.judged.changed ≡ filter (λ d. differ (before d) (after d)) (range_with_len 0 (length e.grid.devices))) where
  named : ℕ → List ℕ
  named d = row (word ∷ decimal line ∷ (device_at e.grid d).name ∷ [])

  rows_by : (was_opened : Bool) → device_rows e word line was_opened e.judged.changed
      ≡ flat_map (λ d. cond (differ (before d) (after d)) (cond (differ was_opened (after d)) (row (word ∷ decimal line ∷ (device_at e.grid d).name ∷ [])) []) []) (range_with_len 0 (length e.grid.devices))
  rows_by was_opened =
      let here = λ (cut : Cut) (d : ℕ). cond (differ was_opened (cut d)) (row (word ∷ decimal line ∷ (device_at e.grid d).name ∷ [])) [] in
      sym (flat_map-map (here (opened_by e.judged)) (λ d. d.0) e.judged.changed)
      ∙ ap (flat_map (here (opened_by e.judged))) listed
      ∙ ap (λ cut. flat_map (here cut) (filter (λ d. differ (before d) (after d)) (range_with_len 0 (length e.grid.devices)))) opened
      ∙ flat_map-filter (here after) (λ d. differ (before d) (after d)) (range_with_len 0 (length e.grid.devices))

  leaving_rows : device_rows e word line true e.judged.changed ≡ change_rows e.grid word line before after
  unfolding change_rows
  leaving_rows = rows_by true ∙ ap (λ f. flat_map f (range_with_len 0 (length e.grid.devices))) (fun_ext (λ d. leaving (before d) (after d) (row (word ∷ decimal line ∷ (device_at e.grid d).name ∷ []))))

  entering_rows : device_rows e word line false e.judged.changed ≡ change_rows e.grid word line after before
  unfolding change_rows
  entering_rows = rows_by false ∙ ap (λ f. flat_map f (range_with_len 0 (length e.grid.devices))) (fun_ext (λ d. entering (before d) (after d) (row (word ∷ decimal line ∷ (device_at e.grid d).name ∷ []))))

-- what is listed of a last change is what the events change
pub changes_listed : (h : List Event) (event : Event) (applied : Applied) (e : Engined) (line : ℕ) → IsLastChange h event applied e
    → device_rows e (codes "leaves") line true e.judged.changed ++ (device_rows e (codes "enters") line false e.judged.changed ++ cost_row line applied.cost_before applied.cost_after)
    ≡ changes e.grid line h (event ∷ h)
changes_listed h event applied e line last =
    let before = diagnosis_after e.grid h in
    let after = diagnosis_after e.grid (event ∷ h) in
    let leave = leaving_rows e (codes "leaves") line before after last.after.opened last.changed in
    let enter = entering_rows e (codes "enters") line before after last.after.opened last.changed in
    ap (λ xs. xs ++ (device_rows e (codes "enters") line false e.judged.changed ++ cost_row line applied.cost_before applied.cost_after)) leave
    ∙ ap (λ xs. change_rows e.grid (codes "leaves") line before after ++ (xs ++ cost_row line applied.cost_before applied.cost_after)) enter
    ∙ ap (λ n. change_rows e.grid (codes "leaves") line before after ++ (change_rows e.grid (codes "enters") line after before ++ cost_row line n applied.cost_after)) last.cost_before
    ∙ ap (λ n. change_rows e.grid (codes "leaves") line before after ++ (change_rows e.grid (codes "enters") line after before ++ cost_row line (least_after e.grid h) n)) last.cost_after
    ∙ sym (append_assoc (change_rows e.grid (codes "leaves") line before after) (change_rows e.grid (codes "enters") line after before) (cost_row line (least_after e.grid h) (least_after e.grid (event ∷ h))))

-- the rows of one device more
pub rows_more : {X : Type 0} (f : X → List ℕ) (xs : List X) (n : ℕ) (x d : X) → n < length xs → x ≡ get_or xs n d → flat_map f (take (n + 1) xs) ≡ flat_map f (take n xs) ++ f x
rows_more f xs n x d l is =
    ap (flat_map f) (take_more xs n d l)
    ∙ flat_map-append f (take n xs) (get_or xs n d ∷ [])
    ∙ ap (λ y. flat_map f (take n xs) ++ y) (append-nil (f (get_or xs n d)))
    ∙ ap (λ y. flat_map f (take n xs) ++ f y) (sym is)

-- the rows of all devices, behind those of the first
pub rows_all : {X : Type 0} (f : X → List ℕ) (xs : List X) (n : ℕ) → flat_map f (take n xs) ++ flat_map f (drop n xs) ≡ flat_map f xs
rows_all f xs n = sym (flat_map-append f (take n xs) (drop n xs)) ∙ ap (flat_map f) (take-append-drop n xs)

-- the answer to an event that was applied: no rule refuses it, and the costs are those before it and after it
applied_by : (g : Parts) (h : List Event) (event : Event) (rule : Option Refusal) (applied : Applied) → Ok applied ≡ answer_by g h event rule
    → (rule ≡ None) × ((applied.cost_before ≡ least_after g h) × (applied.cost_after ≡ least_after g (joined g h event)))
applied_by g h event None applied e = (refl, (cc, cc))
applied_by g h event (Some rule) applied e = cc

-- where two judgements differ is where the diagnoses do
listed_by : (old new : List Bool) (before after : Cut) (n : ℕ) (changed : List ℕ) → flag_in old ≡ before → flag_in new ≡ after → length new ≡ n → changed ≡ differences old new
    → changed ≡ filter (λ d. differ (before d) (after d)) (range_with_len 0 n)
listed_by old new before after n changed was is size e =
    e
    ∙ ap (λ cut. filter (λ d. differ (cut d) (flag_in new d)) (range_with_len 0 (length new))) was
    ∙ ap (λ cut. filter (λ d. differ (before d) (cut d)) (range_with_len 0 (length new))) is
    ∙ ap (λ k. filter (λ d. differ (before d) (after d)) (range_with_len 0 k)) size

pub applied_is_last : AppliedIsLastChange
applied_is_last h event applied old new was answer grid is listed =
    let by = applied_by old.grid h event (refusal_of old.grid h event) applied answer in
    let joins : joined old.grid h event ≡ event ∷ h = ap (joined_by h event) by.0 in
    let after : IsEngineAfter (event ∷ h) new = subst (λ xs. IsEngineAfter xs new) joins is in
    record {
      after = after;
      changed = listed_by old.judged.opened new.judged.opened (diagnosis_after new.grid h) (diagnosis_after new.grid (event ∷ h)) (length new.grid.devices) (map (λ d. d.0) new.judged.changed)
          (was.opened ∙ ap (λ g. diagnosis_after g h) (sym grid)) after.opened after.judged.sized.opened listed;
      cost_before = by.1.0 ∙ ap (λ g. least_after g h) (sym grid);
      cost_after = by.1.1 ∙ ap (λ xs. least_after old.grid xs) joins ∙ ap (λ g. least_after g (event ∷ h)) (sym grid);
    }

-- the rows of the first devices, of the next, and of the others
pub rows_split : {X : Type 0} (f : X → List ℕ) (xs : List X) (n : ℕ) (x d : X) → n < length xs → x ≡ get_or xs n d → flat_map f (take n xs) ++ (f x ++ flat_map f (drop (n + 1) xs)) ≡ flat_map f xs
rows_split f xs n x d l is =
    sym (append_assoc (flat_map f (take n xs)) (f x) (flat_map f (drop (n + 1) xs)))
    ∙ ap (λ y. y ++ flat_map f (drop (n + 1) xs)) (sym (rows_more f xs n x d l is))
    ∙ rows_all f xs (n + 1)
