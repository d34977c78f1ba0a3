-- The fields of a row by their places.
use Rattle.std.proofs.Common.{◌≡◌, ℕ, zero, suc, Bool, true, false, cond, ◌+◌, ◌<◌, List, [], ◌∷◌, ◌++◌, length, get_or, map, take, Bor, Option, Some, None, refl, sym, ap, ◌∙◌, arith}
use Rattle.std.specs.Prelude.{option_map, unwrap_or, slice_set, codes}
use Rattle.std.specs.List.{range_with_len}
use Rattle.std.proofs.lemmas.List.{map-append, take_more_set, length-map}
use Rattle.std.proofs.lemmas.List.FromFn.{fill_by_all, map-range_with_len_more}
use Rattle.csv.specs.Records.{field_at}
use Rattle.std.specs.Str.{bytes_eq}
use Rattle.grid_reader.specs.Words.{state_named}
use Rattle.grid_reader.specs.Shapes.{shape_in_state, shape_of_fields}

-- the field at a place, or an empty text
pub field_at-is : (fields : List (List ℕ)) (k : ℕ) → unwrap_or (field_at fields k) [] ≡ get_or fields k []
unfolding field_at
field_at-is [] zero = refl
field_at-is [] (suc k) = refl
field_at-is (f ∷ fields) zero = refl
field_at-is (f ∷ fields) (suc k) = field_at-is fields k

unwrap_or-now : (field : Option (Bor (List ℕ))) (none : Bor (List ℕ)) → none.now ≡ [] → (unwrap_or field none).now ≡ unwrap_or (option_map (λ f. f.now) field) []
unwrap_or-now None none e = e
unwrap_or-now (Some field) none e = refl

-- one more field is read
pub next_field : (texts : List (Bor (List ℕ))) (fields : List (List ℕ)) (field : Option (Bor (List ℕ))) (none text : Bor (List ℕ)) (i : ℕ)
    → i < length texts → map (λ f. f.now) (take i texts) ≡ map (λ k. get_or fields k []) (range_with_len 0 i)
    → option_map (λ f. f.now) field ≡ field_at fields i → none.now ≡ [] → text ≡ unwrap_or field none
    → map (λ f. f.now) (take (i + 1) (slice_set texts i text)) ≡ map (λ k. get_or fields k []) (range_with_len 0 (i + 1))
next_field texts fields field none text i l so_far found empty e =
    let at : text.now ≡ get_or fields i [] =
    ap (λ (t : Bor (List ℕ)). t.now) e ∙ unwrap_or-now field none empty ∙ ap (λ o. unwrap_or o []) found ∙ field_at-is fields i in
    ap (map (λ f. f.now)) (take_more_set texts i text l)
    ∙ map-append (λ f. f.now) (take i texts) (text ∷ [])
    ∙ ap (λ fs. fs ++ text.now ∷ []) so_far
    ∙ ap (λ f. map (λ k. get_or fields k []) (range_with_len 0 i) ++ f ∷ []) at
    ∙ sym (map-range_with_len_more (λ k. get_or fields k []) 0 i i (omega arith))

-- so many fields are those at their places
pub listed : (fields : List (List ℕ)) (n : ℕ) → length fields ≡ n → fields ≡ map (λ k. get_or fields k []) (range_with_len 0 n)
listed fields n e = fill_by_all (λ k. get_or fields k []) fields n [] e (λ k l. refl)

now_at : (texts : List (Bor (List ℕ))) (none : Bor (List ℕ)) (k : ℕ) → none.now ≡ [] → (get_or texts k none).now ≡ get_or (map (λ f. f.now) texts) k []
now_at [] none zero e = e
now_at [] none (suc k) e = e
now_at (text ∷ texts) none zero e = refl
now_at (text ∷ texts) none (suc k) e = now_at texts none k e

-- the text at a place of those read
pub read_at : (texts : List (Bor (List ℕ))) (read : List (List ℕ)) (none : Bor (List ℕ)) → map (λ f. f.now) texts ≡ read → none.now ≡ [] → (k : ℕ) → (get_or texts k none).now ≡ get_or read k []
read_at texts read none e empty k = now_at texts none k empty ∙ ap (λ fs. get_or fs k []) e

no_state : (b : Bool) (name kind from to weight : List ℕ) (state : Option Bool) → state ≡ None → cond b (shape_in_state name kind from to state weight) None ≡ None
no_state true name kind from to weight None e = refl
no_state true name kind from to weight (Some closed) e = cc
no_state false name kind from to weight state e = refl

-- seven fields whose sixth is no state are of no shape
pub stateless : (texts : List (Bor (List ℕ))) (none : Bor (List ℕ)) → length texts ≡ 7 → none.now ≡ [] → state_named (get_or texts 5 none).now ≡ None → shape_of_fields (map (λ f. f.now) texts) ≡ None
stateless texts none seven empty e =
    let fields = map (λ (f : Bor (List ℕ)). f.now) texts in
    let at : (k : ℕ) → List ℕ = λ k. get_or fields k [] in
    ap shape_of_fields (listed fields 7 (length-map texts (λ f. f.now) ∙ seven))
    ∙ no_state (bytes_eq (at 0) (codes "device")) (at 1) (at 2) (at 3) (at 4) (at 6) (state_named (at 5)) (ap state_named (sym (now_at texts none 5 empty)) ∙ e)
