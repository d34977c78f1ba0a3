-- Names that are distinct are numbered in their order.
use Rattle.std.proofs.Common.{◌≡◌, ◌<◌, ◌++◌, ◌∷◌, [], ℕ, ◌+◌, false, cond, List, length, take, get_or, map, sym, ap, ◌∙◌, arith}
use Rattle.std.proofs.lemmas.Cmp.{nat_list_eq_equiv}
use Rattle.std.proofs.lemmas.List.{take_more, get_or-take, length-take-le, length-map, get_or-map, take-map, get_or_read}
use Rattle.std.proofs.lemmas.List.Folds.{list_any_none}
use Rattle.std.proofs.lemmas.List.Elements.{All-from_get_or}
use Rattle.grid_model.specs.Names.{name_eq, is_among, mentioned, AreDistinct}

differs_below : (xs : List (List ℕ)) (i k : ℕ) (x : List ℕ) → AreDistinct xs → i < length xs → k < i → x ≡ get_or xs i [] → name_eq x (get_or (take i xs) k []) ≡ false
differs_below xs i k x h w below e =
    let there : get_or (take i xs) k [] ≡ get_or xs k [] = get_or-take i xs k [] below in
    rw there (rw e (nat_list_eq_equiv.symm (get_or xs i []) (get_or xs k []) ∙ h k i [] below w))

-- a name isn't among the earlier ones
not_among : (xs : List (List ℕ)) (i : ℕ) (x : List ℕ) → AreDistinct xs → i < length xs → x ≡ get_or xs i [] → is_among (take i xs) x ≡ false
not_among xs i x h w e =
    let n : length (take i xs) ≡ i = length-take-le i xs (omega arith) in
    list_any_none (name_eq x) (take i xs) (All-from_get_or (λ y. name_eq x y ≡ false) (take i xs) [] (λ k below. differs_below xs i k x h w (omega arith) e))

-- so its mention appends it
pub mentioned_next : (xs : List (List ℕ)) (i : ℕ) (x : List ℕ) → AreDistinct xs → i < length xs → x ≡ get_or xs i x → mentioned (take i xs) x ≡ take (i + 1) xs
mentioned_next xs i x h w e =
    let at : x ≡ get_or xs i [] = get_or_read xs i x w e [] in
    ap (λ b. cond b (take i xs) (take i xs ++ x ∷ [])) (not_among xs i x h w at)
    ∙ ap (λ y. take i xs ++ y ∷ []) at
    ∙ sym (take_more xs i [] w)

-- the same of what has a name
pub mentioned_next_of : {X : Type 0} (f : X → List ℕ) (xs : List X) (i : ℕ) (x : X) → AreDistinct (map f xs) → i < length xs → x ≡ get_or xs i x
    → mentioned (map f (take i xs)) (f x) ≡ map f (take (i + 1) xs)
mentioned_next_of f xs i x h w e =
    let n : length (map f xs) ≡ length xs = length-map xs f in
    let at : f x ≡ get_or (map f xs) i (f x) = ap f e ∙ sym (get_or-map f xs i x (f x) w) in
    ap (λ z. mentioned z (f x)) (sym (take-map f i xs))
    ∙ mentioned_next (map f xs) i (f x) h (omega arith) at
    ∙ take-map f (i + 1) xs
