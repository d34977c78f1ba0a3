-- The numbers of names: they stay when more names are mentioned, and differ where the names do.
use Rattle.std.proofs.Common.{◌≡◌, ◌≢◌, ℕ, ◌+◌, ◌<◌, ◌≤◌, Bool, true, false, cond, refl, sym, ap, ◌∙◌, subst, arith, List, [], ◌∷◌, ◌++◌, length, get_or, map}
use Rattle.std.specs.Prelude.{◌||◌, not, Some, None}
use Rattle.std.specs.List.{list_any, position_or_len, All, AllPairs}
use Rattle.std.specs.Str.{bytes_eq}
use Rattle.std.proofs.lemmas.Bool.{cond_both, cond-true, or_left, or_right, lt-ltb, false≢true, false_from_ne_true}
use Rattle.std.proofs.lemmas.List.{length_push, length-map, get_or-map}
use Rattle.std.proofs.lemmas.List.Elements.{All-push, All-head, All-tail}
use Rattle.std.proofs.lemmas.List.Folds.{list_any_at, list_any-append}
use Rattle.std.proofs.lemmas.List.Quantifiers.{all_pairs_push, position-Some}
use Rattle.std.proofs.lemmas.Slice.Eq.{bytes_eq-Decides}
use Rattle.grid_model.specs.Names.{name_eq, is_among, mentioned, number_of, AreDistinct}

-- no element passes
none_passes : {X : Type 0} (p : X → Bool) (xs : List X) → list_any p xs ≡ false → All (λ x. p x ≡ false) xs
none_passes p xs e k d l = false_from_ne_true (p (get_or xs k d)) (λ t. false≢true (sym e ∙ list_any_at p xs k d l t))

-- a step of the search where the element at hand passes or some later one does
within_step : (b any : Bool) (n len : ℕ) → (b || any) ≡ true → (any ≡ true → n < len) → cond (not b) (1 + n) 0 < 1 + len
within_step true any n len e h = omega arith
within_step false any n len e h = let l = h e in omega arith

-- the same step with more behind the list
kept_step : (b any : Bool) (m n : ℕ) → (b || any) ≡ true → (any ≡ true → m ≡ n) → cond (not b) (1 + m) 0 ≡ cond (not b) (1 + n) 0
kept_step true any m n e h = refl
kept_step false any m n e h = ap (λ k. 1 + k) (h e)

-- what passes is found among the first
found_within : {X : Type 0} (p : X → Bool) (xs : List X) → list_any p xs ≡ true → position_or_len p xs < length xs
found_within p [] e = absurd (false≢true e)
found_within p (x ∷ xs) e = let l = within_step (p x) (list_any p xs) (position_or_len p xs) (length xs) e (found_within p xs) in omega arith

-- what is found among the first is found there with more behind them
found_first : {X : Type 0} (p : X → Bool) (xs ys : List X) → list_any p xs ≡ true → position_or_len p (xs ++ ys) ≡ position_or_len p xs
found_first p [] ys e = absurd (false≢true e)
found_first p (x ∷ xs) ys e = kept_step (p x) (list_any p xs) (position_or_len p (xs ++ ys)) (position_or_len p xs) e (found_first p xs ys)

-- what is found passes
found_passes : {X : Type 0} (p : X → Bool) (xs : List X) (d : X) → list_any p xs ≡ true → p (get_or xs (position_or_len p xs) d) ≡ true
found_passes p xs d e =
    let k = position_or_len p xs in
    (position-Some p xs k d (cond-true _ (Some k) None (lt-ltb k (length xs) (found_within p xs e)))).1

pub name_eq_self : (name : List ℕ) → name_eq name name ≡ true
name_eq_self name = (bytes_eq-Decides name name).1 refl

-- names that differ differ either way round
pub name_eq_turned : (a b : List ℕ) → name_eq a b ≡ false → name_eq b a ≡ false
name_eq_turned a b e = false_from_ne_true (bytes_eq b a) (λ t. false≢true (sym e ∙ (bytes_eq-Decides a b).1 (sym ((bytes_eq-Decides b a).0 t))))

-- a name among these has a number below their count
pub number_within : (names : List (List ℕ)) (name : List ℕ) → is_among names name ≡ true → number_of names name < length names
number_within names name e = found_within (name_eq name) names e

-- names among these that differ have numbers that differ
pub numbers_apart : (names : List (List ℕ)) (a b : List ℕ) → is_among names a ≡ true → is_among names b ≡ true → name_eq a b ≡ false → number_of names a ≢ number_of names b
numbers_apart names a b in_a in_b apart same =
    let at_a : a ≡ get_or names (number_of names a) [] = (bytes_eq-Decides a _).0 (found_passes (name_eq a) names [] in_a) in
    let at_b : b ≡ get_or names (number_of names b) [] = (bytes_eq-Decides b _).0 (found_passes (name_eq b) names [] in_b) in
    let equal : a ≡ b = at_a ∙ ap (λ k. get_or names k []) same ∙ sym at_b in
    false≢true (sym apart ∙ (bytes_eq-Decides a b).1 equal)

-- with a new one behind them, names that differ still do
pub more_distinct : (names : List (List ℕ)) (name : List ℕ) → AreDistinct names → is_among names name ≡ false → AreDistinct (names ++ name ∷ [])
more_distinct names name h e =
    all_pairs_push (λ a b. name_eq a b ≡ false) names name h (λ k d l. name_eq_turned name (get_or names k d) (none_passes (name_eq name) names e k d l))

-- later names hold the earlier ones with their numbers
pub record Holds (earlier later : List (List ℕ)) : Type 0 where
  pub count : length earlier ≤ length later
  pub among : (name : List ℕ) → is_among earlier name ≡ true → is_among later name ≡ true
  pub number : (name : List ℕ) → is_among earlier name ≡ true → number_of later name ≡ number_of earlier name

pub holds_itself : (names : List (List ℕ)) → Holds names names
holds_itself names = record { count = omega arith; among = λ name e. e; number = λ name e. refl }

pub holds_both : (a b c : List (List ℕ)) → Holds a b → Holds b c → Holds a c
holds_both a b c h k = record {
  count = let m = h.count in let n = k.count in omega arith;
  among = λ name e. k.among name (h.among name e);
  number = λ name e. k.number name (h.among name e) ∙ h.number name e;
}

holds_pushed : (names : List (List ℕ)) (name : List ℕ) → Holds names (names ++ name ∷ [])
holds_pushed names name = record {
  count = let l = length_push names name in omega arith;
  among = λ other e. list_any-append (name_eq other) names (name ∷ []) ∙ or_left (is_among names other) (is_among (name ∷ []) other) e;
  number = λ other e. found_first (name_eq other) names (name ∷ []) e;
}

-- a mention
pub holds_mentioned : (names : List (List ℕ)) (name : List ℕ) → Holds names (mentioned names name)
holds_mentioned names name = cond_both (is_among names name) names (names ++ name ∷ []) (Holds names) (λ e. holds_itself names) (λ e. holds_pushed names name)

-- puts the name among the names
pub among_mentioned : (names : List (List ℕ)) (name : List ℕ) → is_among (mentioned names name) name ≡ true
among_mentioned names name =
    cond_both (is_among names name) names (names ++ name ∷ []) (λ later. is_among later name ≡ true)
    (λ e. e)
    (λ e. list_any-append (name_eq name) names (name ∷ []) ∙ or_right (is_among names name) (is_among (name ∷ []) name) (or_left (name_eq name name) false (name_eq_self name)))

-- keeps them distinct
pub mentioned_distinct : (names : List (List ℕ)) (name : List ℕ) → AreDistinct names → AreDistinct (mentioned names name)
mentioned_distinct names name h = cond_both (is_among names name) names (names ++ name ∷ []) AreDistinct (λ e. h) (more_distinct names name h)

-- and keeps what holds of each
pub mentioned_all : (P : List ℕ → Type 0) (names : List (List ℕ)) (name : List ℕ) → All P names → P name → All P (mentioned names name)
mentioned_all P names name h p = cond_both (is_among names name) names (names ++ name ∷ []) (All P) (λ e. h) (λ e. All-push P names name h p)

-- functions that agree at each element make the same list
pub map_agree : {X Y : Type 0} (f g : X → Y) (xs : List X) → All (λ x. f x ≡ g x) xs → map f xs ≡ map g xs
map_agree f g [] h = refl
map_agree f g (x ∷ xs) h =
    ap (λ y. y ∷ map f xs) (All-head (λ x. f x ≡ g x) x xs h) ∙ ap (λ ys. g x ∷ ys) (map_agree f g xs (All-tail (λ x. f x ≡ g x) x xs h))

-- what holds of the pairs of a list holds of those of its images
pub all_pairs_map : {X Y : Type 0} (R : Y → Y → Type 0) (f : X → Y) (xs : List X) (d : X) → AllPairs (λ a b. R (f a) (f b)) xs → AllPairs R (map f xs)
all_pairs_map R f xs d h i j e lt l =
    let n = length-map xs f in
    let at_i : f (get_or xs i d) ≡ get_or (map f xs) i e = sym (get_or-map f xs i d e (omega arith)) in
    let at_j : f (get_or xs j d) ≡ get_or (map f xs) j e = sym (get_or-map f xs j d e (omega arith)) in
    subst (λ b. R (get_or (map f xs) i e) b) at_j (subst (λ a. R a (f (get_or xs j d))) at_i (h i j d lt (omega arith)))
