-- Where a name stands that was just mentioned.
use Rattle.std.proofs.Common.{◌≡◌, ◌≢◌, ℕ, ◌+◌, ◌<◌, true, false, cond, Some, sym, ap, ◌∙◌, subst, arith, List, [], ◌∷◌, ◌++◌, length, take, get_or}
use Rattle.std.specs.List.{slice_get}
use Rattle.std.proofs.lemmas.Bool.{false≢true, false_from_ne_true, true_from_ne_false}
use Rattle.std.proofs.lemmas.List.{length_push, get_or_append_left, take_more}
use Rattle.std.proofs.lemmas.List.Folds.{list_any_at}
use Rattle.std.proofs.lemmas.List.Sums.{position_or_len_is}
use Rattle.std.proofs.lemmas.Option.{slice_get_within, get_or_from_slice_get}
use Rattle.grid_model.specs.Names.{name_eq, is_among, mentioned, number_of, AreDistinct}
use Rattle.grid_reader.proofs.Numbers.{name_eq_self, name_eq_turned, mentioned_distinct}

-- a new name is put behind the others
pub mentioned-new : (names : List (List ℕ)) (name : List ℕ) → is_among names name ≡ false → mentioned names name ≡ names ++ name ∷ []
mentioned-new names name e = ap (λ b. cond b names (names ++ name ∷ [])) e

mentioned-old : (names : List (List ℕ)) (name : List ℕ) → is_among names name ≡ true → mentioned names name ≡ names
mentioned-old names name e = ap (λ b. cond b names (names ++ name ∷ [])) e

-- a name that stands behind the others is new
pub fresh_behind : (names : List (List ℕ)) (name : List ℕ) (i : ℕ) → slice_get (mentioned names name) i ≡ Some name → i ≡ length names → is_among names name ≡ false
fresh_behind names name i at behind =
    false_from_ne_true (is_among names name)
    (λ old. let l = slice_get_within names i name (ap (λ ns. slice_get ns i) (sym (mentioned-old names name old)) ∙ at) in absurd (omega arith))

-- and one that doesn't was mentioned before
pub old_within : (names : List (List ℕ)) (name : List ℕ) (i : ℕ) → slice_get (mentioned names name) i ≡ Some name → i ≢ length names → is_among names name ≡ true
old_within names name i at elsewhere =
    true_from_ne_false (is_among names name)
    (λ new. let there : slice_get (names ++ name ∷ []) i ≡ Some name = ap (λ ns. slice_get ns i) (sym (mentioned-new names name new)) ∙ at in
    let l = slice_get_within (names ++ name ∷ []) i name there in
    let long = length_push names name in
    let within : i < length names = omega arith in
    let same : get_or names i [] ≡ name = sym (get_or_append_left names (name ∷ []) [] i within) ∙ get_or_from_slice_get (names ++ name ∷ []) i name [] there in
    false≢true (sym new ∙ list_any_at (name_eq name) names i [] within (ap (name_eq name) same ∙ name_eq_self name)))

-- the place of a name is its number, where no name stands twice
number_at : (names : List (List ℕ)) (name : List ℕ) (i : ℕ) → AreDistinct names → slice_get names i ≡ Some name → i ≡ number_of names name
number_at names name i distinct at =
    let l = slice_get_within names i name at in
    let same : get_or names i [] ≡ name = get_or_from_slice_get names i name [] at in
    sym (position_or_len_is (name_eq name) names i [] (omega arith)
    (λ k lt. name_eq_turned (get_or names k []) name (ap (name_eq (get_or names k [])) (sym same) ∙ distinct k i [] lt l))
    (λ within. ap (name_eq name) same ∙ name_eq_self name))

-- a mention keeps names distinct
pub distinct_after : (names later : List (List ℕ)) (name : List ℕ) → AreDistinct names → later ≡ mentioned names name → AreDistinct later
distinct_after names later name distinct e = subst AreDistinct (sym e) (mentioned_distinct names name distinct)

-- so after a mention too the place is the number
pub mentioned_at : (names later : List (List ℕ)) (name : List ℕ) (i : ℕ) → AreDistinct names → later ≡ mentioned names name → slice_get later i ≡ Some name → i ≡ number_of later name
mentioned_at names later name i distinct e at = number_at later name i (distinct_after names later name distinct e) at

-- one more of the names in their order
pub take-next : (names all : List (List ℕ)) (number : ℕ) (name : List ℕ) → all ≡ take number names → slice_get names number ≡ Some name
    → all ++ name ∷ [] ≡ take (number + 1) names
take-next names all number name so_far next =
    ap (λ ns. ns ++ name ∷ []) so_far
    ∙ ap (λ n. take number names ++ n ∷ []) (sym (get_or_from_slice_get names number name name next))
    ∙ sym (take_more names number name (slice_get_within names number name next))
