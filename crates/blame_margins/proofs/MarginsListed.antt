-- The margins of the first devices of a list.
use Rattle.std.proofs.Common.{◌≡◌, ◌<◌, ◌≤◌, ◌+◌, ◌*◌, ℕ, Bool, true, false, List, [], ◌∷◌, ◌++◌, length, map, take, suc, Some, refl, sym, ap, ◌∙◌, subst, arith}
use Rattle.std.specs.Prelude.{All, slice_index_or}
use Rattle.std.specs.List.{sum_by}
use Rattle.std.specs.List.{range_with_len}
use Rattle.std.proofs.Math.Seq.{take-suc}
use Rattle.std.proofs.lemmas.List.{map_push, take-map, get_or-map, length-map}
use Rattle.std.proofs.lemmas.List.Sums.{sum_by_push, sum_by-take-le}
use Rattle.std.proofs.lemmas.List.Elements.{All-push, All-get_or, filter_passes}
use Rattle.grid_model.specs.declared.parts.DeviceId.{DeviceId}
use Rattle.grid_model.specs.declared.history.Event.{Event}
use Rattle.radial_forest.specs.Traversed.{parent_in}
use Rattle.radial_forest.specs.Spreading.{switched}
use Rattle.subtree_costs.specs.Reach.{IsReach}
use Rattle.diagnosis.specs.Judgement.{opened_by, flagged}
use Rattle.outage_engine.specs.Engined.{Engined, IsEngineAfter}
use Rattle.blame_margins.specs.Blamed.{IsMargin, AreLowerEnds, margins_work}
use Rattle.blame_margins.specs.declared.blame.Margin.{Margin}

-- the margins of these devices are listed, in so many steps, and the engine is as it was
pub record AreListed (e now : Engined) (before steps : ℕ) (ds : List DeviceId) (ms : List Margin) : Type 0 where
  pub same : now ≡ e
  pub devices : map (λ m. m.device.0) ms ≡ map (λ d. d.0) ds
  pub margins : (h : List Event) → IsEngineAfter h e → All (λ m. IsMargin e.grid h m.device.0 m.margin) ms
  pub work : (lower reach : ℕ → ℕ) → AreLowerEnds e lower reach → steps ≤ before + margins_work lower reach (map (λ d. d.0) ds)

-- one more is worked out
module _ (e now next : Engined) (before steps more : ℕ) (ds : List DeviceId) (ms : List Margin) (d : DeviceId) (m : Margin) (listed : AreListed e now before steps ds ms)
    (same : next ≡ now) (device : m.device ≡ d) (blamed : opened_by e.judged d.0 ≡ true)
    (margin : (h : List Event) → IsEngineAfter h now → IsMargin now.grid h d.0 m.margin)
    (work : (n r : ℕ) → n < length now.grid.nodes → parent_in now.field.forest.parents n ≡ Some d → IsReach (switched now.grid now.field.forest.closed) n r → more ≤ steps + 8 * (r + 1)) where
  last_work : (lower reach : ℕ → ℕ) → AreLowerEnds e lower reach → more ≤ steps + 8 * (reach (lower d.0) + 1)
  last_work lower reach ends =
      let there : AreLowerEnds now lower reach = subst (λ (f : Engined). AreLowerEnds f lower reach) (sym listed.same) ends in
      let is = subst (λ (f : Engined). opened_by f.judged d.0 ≡ true) (sym listed.same) blamed in
      work (lower d.0) (reach (lower d.0)) (there.node d is) (there.hangs d is) (there.reaches (lower d.0) (there.node d is))

  pub one_more : AreListed e next before more (ds ++ d ∷ []) (ms ++ m ∷ [])
  one_more = record {
    same = same ∙ listed.same;
    devices = map_push (λ m. m.device.0) ms m ∙ ap (λ xs. xs ++ m.device.0 ∷ []) listed.devices ∙ ap (λ (k : DeviceId). map (λ d. d.0) ds ++ k.0 ∷ []) device ∙ sym (map_push (λ d. d.0) ds d);
    margins = λ h is. All-push (λ m. IsMargin e.grid h m.device.0 m.margin) ms m (listed.margins h is)
        (subst (λ (k : DeviceId). IsMargin e.grid h k.0 m.margin) (sym device) (subst (λ (f : Engined). IsEngineAfter h f → IsMargin f.grid h d.0 m.margin) listed.same (margin h) is));
    work = λ lower reach ends.
        let sums = sum_by_push (λ k. 8 * (reach (lower k) + 1)) (map (λ d. d.0) ds) d.0 ∙ refl in
        let pushed = ap (sum_by (λ k. 8 * (reach (lower k) + 1))) (map_push (λ d. d.0) ds d) in
        let so_far = listed.work lower reach ends in
        let last = last_work lower reach ends in
        omega arith;
  }

-- a front of the list takes no more than the list
pub work_of_front : (lower reach : ℕ → ℕ) (ds : List DeviceId) (i : ℕ) → margins_work lower reach (map (λ d. d.0) (take i ds)) ≤ margins_work lower reach (map (λ d. d.0) ds)
work_of_front lower reach ds i =
    subst (λ xs. margins_work lower reach xs ≤ margins_work lower reach (map (λ d. d.0) ds)) (take-map (λ d. d.0) i ds) (sum_by-take-le (λ k. 8 * (reach (lower k) + 1)) (map (λ d. d.0) ds) i)

-- a listed device is flagged
pub flagged_at : (flags : List Bool) (ds : List DeviceId) (i : ℕ) (z : DeviceId) → map (λ d. d.0) ds ≡ flagged flags → i < length ds → slice_index_or flags (slice_index_or ds i z).0 false ≡ true
flagged_at flags ds i z is l =
    let within : i < length (flagged flags) = subst (λ (xs : List ℕ). i < length xs) is (subst (λ (k : ℕ). i < k) (sym (length-map ds (λ d. d.0))) l) in
    let at = All-get_or (λ k. slice_index_or flags k false ≡ true) (flagged flags) i z.0 within (filter_passes (λ k. slice_index_or flags k false) (range_with_len 0 (length flags))) in
    subst (λ (k : ℕ). slice_index_or flags k false ≡ true) (ap (λ (xs : List ℕ). slice_index_or xs i z.0) (sym is) ∙ get_or-map (λ d. d.0) ds i z z.0 l) at

pub work_within : (e now : Engined) (before steps k : ℕ) (ds : List DeviceId) (ms : List Margin) (all : List ℕ) → AreListed e now before steps (take k ds) ms → map (λ d. d.0) ds ≡ all →
    (lower reach : ℕ → ℕ) → AreLowerEnds e lower reach → steps ≤ before + margins_work lower reach all
work_within e now before steps k ds ms all listed is lower reach ends =
    let so_far = listed.work lower reach ends in
    let front = subst (λ (xs : List ℕ). margins_work lower reach (map (λ d. d.0) (take k ds)) ≤ margins_work lower reach xs) is (work_of_front lower reach ds k) in
    omega arith

-- one place further in a list
pub further : (ds : List DeviceId) (i : ℕ) (z : DeviceId) → i < length ds → take (i + 1) ds ≡ take i ds ++ slice_index_or ds i z ∷ []
further ds i z l =
    let next : i + 1 ≡ suc i = omega arith in
    ap (λ (k : ℕ). take k ds) next ∙ take-suc ds i z l
