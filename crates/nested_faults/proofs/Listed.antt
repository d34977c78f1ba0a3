-- One device more in a list of outages.
use Rattle.std.proofs.Common.{◌≡◌, ℕ, ◌+◌, Bool, true, false, cond, sym, ap, ◌∙◌, arith, List, [], ◌∷◌, ◌++◌, Some, None, add-one, append-nil}
use Rattle.std.specs.List.{filter_map, range_with_len}
use Rattle.std.proofs.lemmas.List.Elements.{filter_map-append}
use Rattle.nested_faults.proofs.Ranges.{range_more}

module _ {X : Type 0} (test : ℕ → Bool) (item : ℕ → X) (k : ℕ) where
  abbrev listed : ℕ → List X
  listed n = filter_map (λ d. cond (test d) (Some (item d)) None) (range_with_len 0 n)

  more : listed (k + 1) ≡ listed k ++ filter_map (λ d. cond (test d) (Some (item d)) None) (k ∷ [])
  more =
      ap listed (add-one k)
      ∙ ap (filter_map (λ d. cond (test d) (Some (item d)) None)) (range_more 0 k ∙ ap (λ x. range_with_len 0 k ++ x ∷ []) (let e : 0 + k ≡ k = omega arith in e))
      ∙ filter_map-append (λ d. cond (test d) (Some (item d)) None) (range_with_len 0 k) (k ∷ [])

  -- an item is put behind the others where the number passes
  pub item_more : (xs : List X) (x : X) → xs ≡ listed k → true ≡ test k → x ≡ item k → xs ++ x ∷ [] ≡ listed (k + 1)
  item_more xs x before e is =
      ap (λ ys. ys ++ x ∷ []) before
      ∙ ap (λ y. listed k ++ y ∷ []) is
      ∙ ap (λ b. listed k ++ filter_map (λ d. cond b (Some (item d)) None) (k ∷ [])) e
      ∙ sym more

  -- and nothing where it doesn't
  pub item_passed : (xs : List X) → xs ≡ listed k → false ≡ test k → xs ≡ listed (k + 1)
  item_passed xs before e =
      before
      ∙ sym (append-nil (listed k))
      ∙ ap (λ b. listed k ++ filter_map (λ d. cond b (Some (item d)) None) (k ∷ [])) e
      ∙ sym more
