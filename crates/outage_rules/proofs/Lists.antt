-- A sum over the places of a list is a sum over its elements.
use Rattle.std.proofs.Common.{◌≡◌, ℕ, zero, suc, ◌+◌, ◌≤◌, refl, ap, ◌∙◌, arith, List, length, get_or, take, add-one}
use Rattle.std.specs.Prelude.{sum_by}
use Rattle.std.proofs.lemmas.List.{take_all}
use Rattle.std.proofs.lemmas.List.Sums.{sum_by_more}
use Rattle.outage_rules.specs.Sum.{total}

pub total_take : {X : Type 0} (f : X → ℕ) (xs : List X) (d : X) (i : ℕ) → i ≤ length xs → total i (λ k. f (get_or xs k d)) ≡ sum_by f (take i xs)
total_take f xs d zero l = refl
total_take f xs d (suc i) l =
    let rest = total_take f xs d i (omega arith) in
    let more = sum_by_more f xs i d (omega arith) in
    let e : sum_by f (take (i + 1) xs) ≡ sum_by f (take (suc i) xs) = ap (λ j. sum_by f (take j xs)) (add-one i) in
    omega arith

pub total_list : {X : Type 0} (f : X → ℕ) (xs : List X) (d : X) → total (length xs) (λ k. f (get_or xs k d)) ≡ sum_by f xs
total_list f xs d = total_take f xs d (length xs) (omega arith) ∙ ap (sum_by f) (take_all (length xs) xs (omega arith))
