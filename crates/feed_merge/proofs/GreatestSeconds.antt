-- The greatest second of some lines.
use Rattle.std.proofs.Common.{◌≡◌, ◌≤◌, ℕ, zero, suc, List, [], ◌∷◌, map, refl, sym, inl, inr, arith}
use Rattle.std.specs.Prelude.{max}
use Rattle.std.specs.List.{Contains}
use Rattle.std.proofs.Math.Nat.{le-max_left, le-max_right, max-eq_left, max-eq_right}
use Rattle.std.proofs.lemmas.Bool.{cases_lt}
use Rattle.std.proofs.lemmas.List.Elements.{All-cons, All-nil, All-weaker}
use Rattle.feed_merge.specs.Merging.{second_of, greatest_second}
use Rattle.feed_merge.specs.Laws.{IsGreatest}

up_to : (low high : ℕ) → low ≤ high → (line : List ℕ) → second_of line ≤ low → second_of line ≤ high
up_to low high le line h = omega arith

first_in : (x y : ℕ) (xs : List ℕ) → x ≡ y → Contains (x ∷ xs) y
first_in x y xs e = (zero, omega arith, e)

rest_in : (x y : ℕ) (xs : List ℕ) → Contains xs y → Contains (x ∷ xs) y
rest_in x y xs (k, lt, e) = (suc k, omega arith, e)

pub is_greatest : (before : List (List ℕ)) → IsGreatest before (greatest_second before)
unfolding greatest_second
is_greatest [] = (All-nil (λ line. second_of line ≤ 0), inl refl)
is_greatest (line ∷ rest) =
    let least = is_greatest rest in
    let top = greatest_second rest in
    let whole = max (second_of line) top in (
      All-cons (λ l. second_of l ≤ whole) line rest (le-max_left (second_of line) top)
          (All-weaker (λ l. second_of l ≤ top) (λ l. second_of l ≤ whole) (up_to top whole (le-max_right (second_of line) top)) rest least.0),
      elim (cases_lt (second_of line) top) [
        | inl less ↦ let e : whole ≡ top = max-eq_right (omega arith) in
            rw e (elim least.1 [ inl none ↦ inl none | inr there ↦ inr (rest_in (second_of line) top (map second_of rest) there) ])
        | inr more ↦ inr (first_in (second_of line) whole (map second_of rest) (sym (max-eq_left more)))
      ],
    )
