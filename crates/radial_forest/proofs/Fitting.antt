-- Numbers below a bound that all differ are no more than the bound, and a node's devices all differ.
use Rattle.std.proofs.Common.{◌≡◌, ◌≢◌, ℕ, zero, suc, ◌<◌, ◌≤◌, sym, ◌∙◌, subst, arith, List, length, get_or, map}
use Rattle.std.specs.List.{AllPairs, range_with_len}
use Rattle.std.proofs.Math.Dec.{eqb}
use Rattle.std.proofs.lemmas.Bool.{eqb-true, ne_eqb}
use Rattle.std.proofs.lemmas.List.FromFn.{length-range_with_len, length-map-range_with_len, get_or-range_with_len, get_or-map-range_with_len}
use Rattle.std.proofs.lemmas.List.Kept.{AllPairs-filter}
use Rattle.std.proofs.lemmas.Map.Keys.{IsDistinct-from_apart}
use Rattle.std.proofs.lemmas.Map.Steps.{length-le_from_distinct_below}
use Rattle.std.proofs.lemmas.Map.Views.{Contains-from_any}
use Rattle.grid_model.specs.declared.parts.DeviceId.{DeviceId}
use Rattle.grid_model.specs.Parts.{Parts}
use Rattle.grid_model.specs.Places.{touches, devices_at}
use Rattle.radial_forest.proofs.Incident.{number_at, at_is, long}

pub at_most : (f : ℕ → ℕ) (count bound : ℕ) → ((k : ℕ) → k < count → f k < bound) → ((j k : ℕ) → j < k → k < count → f j ≢ f k) → count ≤ bound
at_most f count bound below apart =
    let xs = map f (range_with_len 0 count) in
    let long : length xs ≡ count = length-map-range_with_len f 0 count in
    let at : (k d : ℕ) → k < count → get_or xs k d ≡ f k = λ k d l. get_or-map-range_with_len f 0 count k k d l (omega arith) in
    let distinct = IsDistinct-from_apart eqb xs (λ i j d l m. ne_eqb (get_or xs i d) (get_or xs j d) (λ e. apart i j l (omega arith) (sym (at i d (omega arith)) ∙ (e ∙ at j d (omega arith))))) in
    let less = length-le_from_distinct_below xs bound distinct (λ q e. let c = Contains-from_any eqb-true q xs e in
    let lk = c.1 in subst (λ x. x < bound) (sym (at c.0 q (omega arith)) ∙ c.2) (below c.0 (omega arith))) in
    omega arith

-- one number, and others after it
abbrev with_first : ℕ → (ℕ → ℕ) → ℕ → ℕ
with_first m f zero = m
with_first m f (suc k) = f k

-- where another number differs from all of them there are fewer
pub fewer : (f : ℕ → ℕ) (count bound m : ℕ) → ((k : ℕ) → k < count → f k < bound) → ((j k : ℕ) → j < k → k < count → f j ≢ f k) → m < bound → ((k : ℕ) → k < count → f k ≢ m) → count < bound
fewer f count bound m below apart lm fresh =
    let le = at_most (with_first m f) (suc count) bound below' apart' in omega arith
  where
    below' : (k : ℕ) → k < suc count → with_first m f k < bound
    below' zero l = lm
    below' (suc k) l = below k (omega arith)

    apart' : (j k : ℕ) → j < k → k < suc count → with_first m f j ≢ with_first m f k
    apart' j zero l lk = λ e. absurd (omega arith)
    apart' zero (suc k) l lk = λ e. fresh k (omega arith) (sym e)
    apart' (suc j) (suc k) l lk = apart j k (omega arith) (omega arith)

rising : (n : ℕ) → AllPairs (λ x y. x < y) (range_with_len 0 n)
rising n i j d l lj =
    let e = length-range_with_len 0 n in
    let a = get_or-range_with_len 0 n i d (omega arith) in
    let b = get_or-range_with_len 0 n j d (omega arith) in omega arith

-- no device stands twice at a node
pub devices_apart : (g : Parts) (n : ℕ) (xs : List DeviceId) → map (λ d. d.0) xs ≡ devices_at g n → (i j : ℕ) → i < j → j < length xs → number_at xs i ≢ number_at xs j
devices_apart g n xs listed i j l lj e =
    let a = at_is g n xs listed i in
    let b = at_is g n xs listed j in
    let c = long g n xs listed in
    let less = AllPairs-filter (λ x y. x < y) (λ d. touches g d n) (range_with_len 0 (length g.devices)) (rising (length g.devices)) i j 0 l (omega arith) in
    absurd (omega arith)
