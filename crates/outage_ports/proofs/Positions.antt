-- What `position` says of `find`.
use Rattle.std.specs.Prelude.{◌≡◌, ℕ, Bool, true, false, List, [], ◌∷◌, length, Option, None, Some, is_some, option_map, find, position, slice_get, nat_lt, map, refl}
use Rattle.std.specs.List.{position_or_len}
use Rattle.std.proofs.Common.{sym, ◌∙◌, ap, inl, inr, cond, arith}
use Rattle.std.proofs.lemmas.Bool.{cases_Bool, ltb-false, ltb-true}
use Rattle.std.proofs.lemmas.Option.{slice_get_past, slice_get_cases, slice_get-map}
use Rattle.std.proofs.lemmas.List.Folds.{find_at}

pub same_place : {X : Type 0} (p : X → Bool) (xs : List X) (i : ℕ) → position p xs ≡ Some i → position_or_len p xs ≡ i
same_place p xs i e = elim (cases_Bool (nat_lt (position_or_len p xs) (length xs))) [
  | inl t ↦ let h : Some (position_or_len p xs) ≡ Some i = ap (λ b. cond b (Some (position_or_len p xs)) None) (sym t) ∙ e in cc
  | inr f ↦ let h : None ≡ Some i = ap (λ b. cond b (Some (position_or_len p xs)) None) (sym f) ∙ e in cc
]

pub inside : {X : Type 0} (p : X → Bool) (xs : List X) (i : ℕ) → position p xs ≡ Some i → nat_lt (position_or_len p xs) (length xs) ≡ true
inside p xs i e = elim (cases_Bool (nat_lt (position_or_len p xs) (length xs))) [
  | inl t ↦ t
  | inr f ↦ let h : None ≡ Some i = ap (λ b. cond b (Some (position_or_len p xs)) None) (sym f) ∙ e in cc
]

pub outside : {X : Type 0} (p : X → Bool) (xs : List X) → position p xs ≡ None → nat_lt (position_or_len p xs) (length xs) ≡ false
outside p xs e = elim (cases_Bool (nat_lt (position_or_len p xs) (length xs))) [
  | inl t ↦ let h : Some (position_or_len p xs) ≡ None = ap (λ b. cond b (Some (position_or_len p xs)) None) (sym t) ∙ e in cc
  | inr f ↦ f
]

-- at the position stands what `find` finds
pub found_there : {X : Type 0} (p : X → Bool) (xs : List X) (i : ℕ) → position p xs ≡ Some i → slice_get xs i ≡ find p xs
found_there p xs i e = ap (λ k. slice_get xs k) (sym (same_place p xs i e)) ∙ sym (find_at p xs)

pub found_some : {X : Type 0} (p : X → Bool) (xs : List X) (i : ℕ) → position p xs ≡ Some i → is_some (find p xs) ≡ true
found_some p xs i e = elim ((slice_get_cases xs (position_or_len p xs)).1) [
  | inl h ↦ rw (find_at p xs, h.2) refl
  | inr h ↦ let lt = ltb-true (position_or_len p xs) (length xs) (inside p xs i e) in absurd (omega (arith, h.0, lt))
]

pub found_none : {X : Type 0} (p : X → Bool) (xs : List X) → position p xs ≡ None → find p xs ≡ None
found_none p xs e = find_at p xs ∙ slice_get_past xs (position_or_len p xs) (ltb-false _ _ (outside p xs e))

-- a position exists exactly where something is found
pub is_some-position : {X : Type 0} (p : X → Bool) (xs : List X) (o : Option ℕ) → position p xs ≡ o → is_some o ≡ is_some (find p xs)
is_some-position p xs None e = sym (ap is_some (found_none p xs e))
is_some-position p xs (Some i) e = sym (found_some p xs i e)

cond_image : {X Y : Type 0} (f : X → Y) (b : Bool) (x : X) (o : Option Y) (q : Option X) → o ≡ option_map f q → cond b (Some (f x)) o ≡ option_map f (cond b (Some x) q)
cond_image f true x o q e = refl
cond_image f false x o q e = e

-- what is found among the images
pub find-map : {X Y : Type 0} (f : X → Y) (p : Y → Bool) (xs : List X) → find p (map f xs) ≡ option_map f (find (λ x. p (f x)) xs)
find-map f p [] = refl
find-map f p (x ∷ xs) = cond_image f (p (f x)) x (find p (map f xs)) (find (λ x. p (f x)) xs) (find-map f p xs)

some_image : {X Y : Type 0} (f : X → Y) (o : Option X) → is_some (option_map f o) ≡ is_some o
some_image f None = refl
some_image f (Some x) = refl

-- among the images something is found exactly where there is a position
pub is_some-image : {X Y : Type 0} (f : X → Y) (p : Y → Bool) (xs : List X) (o : Option ℕ) → position (λ x. p (f x)) xs ≡ o → is_some o ≡ is_some (find p (map f xs))
is_some-image f p xs o e =
    is_some-position (λ x. p (f x)) xs o e ∙ sym (some_image f (find (λ x. p (f x)) xs)) ∙ ap is_some (sym (find-map f p xs))

-- the image at the position is what is found among the images
pub found_image : {X Y : Type 0} (f : X → Y) (p : Y → Bool) (xs : List X) (i : ℕ) → position (λ x. p (f x)) xs ≡ Some i → slice_get (map f xs) i ≡ find p (map f xs)
found_image f p xs i e =
    slice_get-map f xs i ∙ ap (option_map f) (found_there (λ x. p (f x)) xs i e) ∙ sym (find-map f p xs)
