-- The texts of a range of numbers, number by number.
use Rattle.std.proofs.Common.{◌≡◌, ℕ, zero, suc, ◌+◌, refl, sym, ap, ◌∙◌, arith, add-one, List, [], ◌∷◌, ◌++◌, append-nil, append_assoc}
use Rattle.std.specs.List.{flat_map, range_with_len}
use Rattle.std.proofs.lemmas.Grind.{flat_map-append}
use Rattle.grid_maker.specs.NetworkText.{each}

range_more : (a n : ℕ) → range_with_len a (suc n) ≡ range_with_len a n ++ (a + n) ∷ []
range_more a zero = ap (λ x. x ∷ []) (let e : a ≡ a + 0 = omega arith in e)
range_more a (suc n) = ap (λ x. a ∷ x) (range_more (a + 1) n ∙ ap (λ x. range_with_len (a + 1) n ++ x ∷ []) (let e : (a + 1) + n ≡ a + suc n = omega arith in e))

-- of no number
pub each_none : (text : ℕ → List ℕ) (first : ℕ) → each text first 0 ≡ []
unfolding each
each_none text first = refl

-- of one number more
pub each_more : (text : ℕ → List ℕ) (first n : ℕ) → each text first (n + 1) ≡ each text first n ++ text (first + n)
unfolding each
each_more text first n =
    ap (λ k. flat_map text (range_with_len first k)) (add-one n)
    ∙ ap (flat_map text) (range_more first n)
    ∙ flat_map-append text (range_with_len first n) ((first + n) ∷ [])
    ∙ ap (λ x. flat_map text (range_with_len first n) ++ x) (append-nil (text (first + n)))

-- before the first number nothing is written
pub each_begun : (text : ℕ → List ℕ) (first : ℕ) (t : List ℕ) → t ≡ t ++ each text first 0
each_begun text first t = sym (append-nil t) ∙ ap (λ x. t ++ x) (sym (each_none text first))

-- what is written behind the texts so far is the text of the next number
pub each_added : (text : ℕ → List ℕ) (first n i m : ℕ) (t0 t1 t2 : List ℕ) → first + n ≡ i → n + 1 ≡ m → t1 ≡ t0 ++ each text first n → t2 ≡ t1 ++ text i → t2 ≡ t0 ++ each text first m
each_added text first n i m t0 t1 t2 at next e1 e2 =
    e2
    ∙ ap (λ t. t ++ text i) e1
    ∙ append_assoc t0 (each text first n) (text i)
    ∙ ap (λ k. t0 ++ (each text first n ++ text k)) (sym at)
    ∙ ap (λ x. t0 ++ x) (sym (each_more text first n))
    ∙ ap (λ k. t0 ++ each text first k) next
