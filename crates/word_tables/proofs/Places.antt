-- The first places of words.
use Rattle.std.proofs.Common.{◌≡◌, ◌≢◌, ◌+◌, ◌<◌, ℕ, Bool, true, false, cond, not, List, [], ◌∷◌, length, map, get_or, Option, Some, None, IsNone, IfSome, Contains, position, slice_get, nat_eq, refl, ap, sym, ◌∙◌, inl, inr, arith, ◌↔◌}
use Rattle.std.specs.List.{prefix_len, position_or_len, list_all, enumerate_from}
use Rattle.std.specs.Borrow.{Bor}
use Rattle.std.specs.Option.{option_eq}
use Rattle.std.specs.Str.{bytes_eq}
use Rattle.std.proofs.lemmas.Bool.{cases_Bool, cases_lt, lt-ltb, eqb-true, eq-eqb, false≢true}
use Rattle.std.proofs.lemmas.List.{length-map, get_or-map, get_or_default}
use Rattle.std.proofs.lemmas.List.FromFn.{length-enumerate_from, get_or-enumerate_from}
use Rattle.std.proofs.lemmas.List.Sums.{position_or_len_is, fails_before_first, AllPass-from_list_all, list_all-from_AllPass}
use Rattle.std.proofs.lemmas.List.Quantifiers.{position-Some}
use Rattle.std.proofs.lemmas.Option.{slice_get_within, get_or_from_slice_get, slice_get-get_or, same_Some}
use Rattle.std.proofs.lemmas.Slice.Eq.{bytes_eq-Decides}
use Rattle.word_tables.specs.Tables.{AreDistinct, place_of}
use Rattle.word_tables.specs.TableInside.{words_of, place_inside, is_first_place}
use Rattle.word_tables.specs.Laws.{WordIsAtPlace, PlaceHasWord}

-- the longest front among images
prefix_len-map : {A B : Type 0} (f : A → B) (p : B → Bool) (xs : List A) → prefix_len p (map f xs) ≡ prefix_len (λ a. p (f a)) xs
prefix_len-map f p [] = refl
prefix_len-map f p (x ∷ xs) = ap (λ n. cond (p (f x)) (1 + n) 0) (prefix_len-map f p xs)

-- the first place among images
pub position-map : {A B : Type 0} (f : A → B) (p : B → Bool) (xs : List A) → position p (map f xs) ≡ position (λ a. p (f a)) xs
position-map f p xs = rw (prefix_len-map f (λ b. not (p b)) xs, length-map xs f) refl

-- different bytes fail the test
differs : (a b : List ℕ) → (a ≡ b → ⊥) → bytes_eq a b ≡ false
differs a b h =
    elim (cases_Bool (bytes_eq a b)) [
      | inl same ↦ absurd (h ((bytes_eq-Decides a b).0 same))
      | inr other ↦ other
    ]

-- where no word stands twice, each is found at its place
pub place_of-slice_get : WordIsAtPlace
place_of-slice_get words word i distinct at =
    let within : i < length words = slice_get_within words i word at in
    let here : get_or words i [] ≡ word = get_or_from_slice_get words i word [] at in
    let before : (k : ℕ) → k < i → bytes_eq word (get_or words k []) ≡ false = λ k lt. differs word (get_or words k []) (λ e. distinct k i [] lt within (sym e ∙ sym here)) in
    let passes = (bytes_eq-Decides word (get_or words i [])).1 (sym here) in
    let first = position_or_len_is (bytes_eq word) words i [] (omega arith) before (λ lt. passes) in
    rw (first, lt-ltb i (length words) within) refl

-- what is found at a place is the word there
pub slice_get-place : PlaceHasWord
slice_get-place words word i e =
    let found = position-Some (bytes_eq word) words i [] e in
    slice_get-get_or words i [] found.0 ∙ ap Some (sym ((bytes_eq-Decides word (get_or words i [])).0 found.1))

-- the place that a search answers
pub place-found : (words : List (List ℕ)) (text : List ℕ) (r : Option ℕ) → r ≡ place_of words text → IfSome r (λ i. slice_get words i ≡ Some text)
place-found words text None e = tt
place-found words text (Some i) e = slice_get-place words text i (sym e)

pub place-first : (words : List (List ℕ)) (text : List ℕ) (r : Option ℕ) → r ≡ place_of words text → IfSome r (λ i. (k : ℕ) → k < i → slice_get words k ≢ Some text)
place-first words text None e = tt
place-first words text (Some i) e = λ k lt at.
    let before = (position-Some (bytes_eq text) words i [] (sym e)).2 k lt in
    false≢true (sym before ∙ (bytes_eq-Decides text (get_or words k [])).1 (sym (get_or_from_slice_get words k text [] at)))

-- nothing is found exactly where no word has the bytes
none-contains : (words : List (List ℕ)) (text : List ℕ) → None ≡ place_of words text → Contains words text → ⊥
none-contains words text e found =
    elim (cases_lt (position_or_len (bytes_eq text) words) (length words)) [
      | inl lt ↦ let some = rw lt-ltb at e in cc
      | inr ge ↦ false≢true (sym (fails_before_first (bytes_eq text) words found.0 text (omega arith)) ∙ (bytes_eq-Decides text (get_or words found.0 text)).1 (sym found.2))
    ]

pub place-none : (words : List (List ℕ)) (text : List ℕ) (r : Option ℕ) → r ≡ place_of words text → IsNone r ↔ (Contains words text → ⊥)
place-none words text None e = (λ h. none-contains words text e, λ h. refl)
place-none words text (Some i) e =
    let at = slice_get-place words text i (sym e) in
    (λ h. cc, λ h. absurd (h (i, slice_get_within words i text at, get_or_from_slice_get words i text text at)))

-- each word is at its own place
pub distinct-place : (words : List (List ℕ)) (k : ℕ) → k < length words → AreDistinct words → place_of words (get_or words k []) ≡ Some k
distinct-place words k lt distinct = place_of-slice_get words (get_or words k []) k distinct (slice_get-get_or words k [] lt)

pub places-distinct : (words : List (List ℕ)) → ((k : ℕ) → k < length words → place_of words (get_or words k []) ≡ Some k) → AreDistinct words
places-distinct words at i j d lt within e =
    let first : i < length words = omega arith in
    let same : get_or words i [] ≡ get_or words j [] = get_or_default words i [] d first ∙ e ∙ get_or_default words j d [] within in
    let places = same_Some i j (sym (at i first) ∙ ap (place_of words) same ∙ at j within) in
    omega (arith, places)

-- the place inside a table is the place in the list of its words
pub place_inside-words_of : (words : List (Bor (List ℕ))) (text : List ℕ) → place_inside words text ≡ place_of (words_of words) text
place_inside-words_of words text = sym (position-map (λ w. w.now) (bytes_eq text) words)

-- the test of an answer against a place
option_eq-true : (o : Option ℕ) (k : ℕ) → option_eq nat_eq o (Some k) ≡ true → o ≡ Some k
option_eq-true None k e = cc
option_eq-true (Some i) k e = ap Some (eqb-true i k e)

true-option_eq : (o : Option ℕ) (k : ℕ) → o ≡ Some k → option_eq nat_eq o (Some k) ≡ true
true-option_eq None k e = cc
true-option_eq (Some i) k e = eq-eqb i k (same_Some i k e)

-- some reference to a word
abbrev pub held : List ℕ → Bor (List ℕ)
held word = record { ref_ptr = (0, 0); now = word }

-- the place inside a table of the word at k, and in the list of its words
place_at : (words : List (Bor (List ℕ))) (k : ℕ) (d : Bor (List ℕ)) → k < length words → place_inside words (get_or words k d).now ≡ place_of (words_of words) (get_or (words_of words) k [])
place_at words k d lt =
    place_inside-words_of words (get_or words k d).now ∙ ap (place_of (words_of words)) (sym (get_or-map (λ w. w.now) words k d [] lt))

-- the test at k
test_at : (words : List (Bor (List ℕ))) (k : ℕ) (d : ℕ × Bor (List ℕ)) → k < length words → is_first_place words (get_or (enumerate_from 0 words) k d) ≡ option_eq nat_eq (place_of (words_of words) (get_or (words_of words) k [])) (Some k)
test_at words k d lt =
    let number : 0 + k ≡ k = omega arith in
    ap (is_first_place words) (get_or-enumerate_from 0 words k d lt)
    ∙ ap (λ place. option_eq nat_eq place (Some (0 + k))) (place_at words k d.1 lt)
    ∙ ap (λ n. option_eq nat_eq (place_of (words_of words) (get_or (words_of words) k [])) (Some n)) number

-- words are distinct exactly where all pass the test
pub all-first_places : (words : List (Bor (List ℕ))) → (list_all (is_first_place words) (enumerate_from 0 words) ≡ true) ↔ AreDistinct (words_of words)
all-first_places words = (
  λ e. places-distinct (words_of words) (λ k lt.
      let within : k < length words = omega (arith, length-map words (λ w. w.now)) in
      let all = AllPass-from_list_all (is_first_place words) (enumerate_from 0 words) e in
      option_eq-true _ k (sym (test_at words k (0, held []) within) ∙ all k (0, held []) (omega (arith, length-enumerate_from 0 words)))),
  λ distinct. list_all-from_AllPass (is_first_place words) (enumerate_from 0 words) (λ k d lt.
      let within : k < length words = omega (arith, length-enumerate_from 0 words) in
      test_at words k d within ∙ true-option_eq _ k (distinct-place (words_of words) k (omega (arith, length-map words (λ w. w.now))) distinct)),
)
