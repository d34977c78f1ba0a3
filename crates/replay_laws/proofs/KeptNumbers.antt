-- Lists of what numbers that pass a test stand for.
use Rattle.std.proofs.Common.{◌≡◌, ℕ, ◌<◌, Bool, ap, ◌∙◌, arith, get_or, map}
use Rattle.std.specs.Prelude.{All, AllPairs}
use Rattle.std.specs.List.{filter, range_with_len}
use Rattle.std.proofs.lemmas.List.{get_or-map, length-map}
use Rattle.std.proofs.lemmas.List.Elements.{All-filter}
use Rattle.std.proofs.lemmas.List.Kept.{AllPairs-filter}
use Rattle.std.proofs.lemmas.List.FromFn.{length-range_with_len, get_or-range_with_len}

-- numbers of a range are below its end, and rise
range_below : (n : ℕ) → All (λ k. k < n) (range_with_len 0 n)
range_below n k d l =
    let size = length-range_with_len 0 n in
    let is = get_or-range_with_len 0 n k d (omega arith) in omega arith

range_rises : (n : ℕ) → AllPairs (λ a b. a < b) (range_with_len 0 n)
range_rises n i j d less l =
    let size = length-range_with_len 0 n in
    let x = get_or-range_with_len 0 n i d (omega arith) in
    let y = get_or-range_with_len 0 n j d (omega arith) in omega arith

pub kept_below : (test : ℕ → Bool) (n : ℕ) → All (λ k. k < n) (filter test (range_with_len 0 n))
kept_below test n = All-filter test (λ k. k < n) (range_with_len 0 n) (range_below n)

-- and so do those of what stands for them
pub kept_rise : {X : Type 0} (number : X → ℕ) (r : ℕ → X) (test : ℕ → Bool) (n : ℕ) → ((k : ℕ) → number (r k) ≡ k)
    → AllPairs (λ a b. number a < number b) (map r (filter test (range_with_len 0 n)))
kept_rise number r test n is i j d less l =
    let xs = filter test (range_with_len 0 n) in
    let size = length-map xs r in
    let rise = AllPairs-filter (λ a b. a < b) test (range_with_len 0 n) (range_rises n) i j 0 less (omega arith) in
    let x = ap number (get_or-map r xs i 0 d (omega arith)) ∙ is (get_or xs i 0) in
    let y = ap number (get_or-map r xs j 0 d (omega arith)) ∙ is (get_or xs j 0) in omega arith
