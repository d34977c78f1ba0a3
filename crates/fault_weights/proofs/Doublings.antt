-- The least number of doublings, and the weight that it gives.
use Rattle.std.proofs.Common.{◌≡◌, ◌+◌, ◌*◌, ◌^◌, ◌<◌, ◌≤◌, ◌⊎◌, ℕ, zero, suc, sym, get_or, ap, ◌∙◌, inl, inr, arith}
use Rattle.std.specs.List.{position_or_len, range_with_len}
use Rattle.std.proofs.Math.Pow.{pow_mono}
use Rattle.std.proofs.lemmas.Nat.{mul-le}
use Rattle.std.proofs.lemmas.Grind.{pow_more}
use Rattle.std.proofs.lemmas.Bool.{cases_lt, le-leb, lt-leb}
use Rattle.std.proofs.lemmas.List.Sums.{position_or_len_is}
use Rattle.std.proofs.lemmas.List.FromFn.{length-range_with_len, get_or-range_with_len}
use Rattle.fault_weights.specs.Rates.{rate_hours, IsLeastDoubling, is_doubled_enough, rate_weight}
use Rattle.fault_weights.specs.Laws.{RateWeightIsLeast, OneLeastDoubling, RateWeightIsBounded}

-- one doubling more
pub doubled : (rate failures k : ℕ) → failures ≡ rate * 2 ^ k → failures * 2 ≡ rate * 2 ^ (k + 1)
doubled rate failures k e = rw (e, pow_more) (omega arith)

-- the least is the first that is enough, among enough numbers
first-least : (rate n k : ℕ) → k < n → IsLeastDoubling rate k → position_or_len (is_doubled_enough rate) (range_with_len 0 n) ≡ k
first-least rate n k h is_least =
    let at : (j : ℕ) → j < n → get_or (range_with_len 0 n) j 0 ≡ j = λ j lt. get_or-range_with_len 0 n j 0 lt ∙ omega arith in
    position_or_len_is (is_doubled_enough rate) (range_with_len 0 n) k 0 (omega (arith, length-range_with_len 0 n))
    (λ j lt. ap (is_doubled_enough rate) (at j (omega arith)) ∙ lt-leb rate_hours (rate * 2 ^ j) (is_least.least j lt))
    (λ lt. ap (is_doubled_enough rate) (at k h) ∙ le-leb rate_hours (rate * 2 ^ k) is_least.reached)

-- all of the first n are too few, or one of them is the least
least_among : (rate n : ℕ) → ((j : ℕ) → j < n → rate * 2 ^ j < rate_hours) ⊎ ((k : ℕ) × (k < n) × IsLeastDoubling rate k)
least_among rate zero = inl (λ j h. absurd (omega arith))
least_among rate (suc n) =
    elim (least_among rate n) [
      | inr found ↦ inr (found.0, omega arith, found.2)
      | inl below ↦ elim (cases_lt (rate * 2 ^ n) rate_hours) [
        | inl few ↦ inl (λ j h. elim (cases_lt j n) [
          | inl lt ↦ below j lt
          | inr ge ↦ let same : j ≡ n = omega arith in rw same few
        ])
        | inr enough ↦ inr (n, omega arith, record { reached = enough; least = below })
      ]
    ]

-- 30 doublings are enough for any rate
pub most-doublings : (rate k : ℕ) → 1 ≤ rate → ((j : ℕ) → j < k → rate * 2 ^ j < rate_hours) → k ≤ 30
most-doublings rate k some below =
    elim (cases_lt 30 k) [
      | inl gt ↦ absurd (let few : rate * 1073741824 < rate_hours = below 30 gt in omega arith)
      | inr le ↦ le
    ]

-- 9 are too few for a rate of a million
pub least-doublings : (rate k : ℕ) → rate ≤ 1000000 → rate_hours ≤ rate * 2 ^ k → 10 ≤ k
least-doublings rate k most enough =
    elim (cases_lt k 10) [
      | inl lt ↦ let few : 2 ^ k ≤ 512 = pow_mono {j = 9} (omega arith) in absurd (omega (arith, mul-le rate (2 ^ k) 1000000 512 most few))
      | inr ge ↦ ge
    ]

pub rate_weight-is : (rate k : ℕ) → 1 ≤ rate → IsLeastDoubling rate k → 10 * k ≡ rate_weight rate
unfolding rate_weight
rate_weight-is rate k some is_least =
    let few : k < 31 = omega (arith, most-doublings rate k some is_least.least) in
    ap (λ n. 10 * n) (sym (first-least rate 31 k few is_least))

pub has_least : RateWeightIsLeast
has_least rate some =
    elim (least_among rate 31) [
      | inl below ↦ absurd (omega (arith, most-doublings rate 31 some below))
      | inr found ↦ (found.0, found.2, sym (rate_weight-is rate found.0 some found.2))
    ]

-- neither of two is below the other
pub one_least : OneLeastDoubling
one_least rate j k at_j at_k = grind (arith, at_j.least k, at_k.least j)

pub bounded : RateWeightIsBounded
bounded rate some most =
    let found = has_least rate some in
    let least = least-doublings rate found.0 most found.1.reached in
    let most_of = most-doublings rate found.0 some found.1.least in
    (omega (arith, found.2, least), omega (arith, found.2, most_of))
