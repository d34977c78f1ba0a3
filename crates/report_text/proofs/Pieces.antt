-- A row, word by word.
use Rattle.std.proofs.Common.{◌≡◌, ℕ, List, [], ◌∷◌, ◌++◌, ap, ◌∙◌, append_assoc, map, append-nil}
use Rattle.std.specs.Prelude.{flat_map}
use Rattle.std.specs.List.{join_with_byte}
use Rattle.event_rules.specs.Rows.{row}

-- words with commas between them are a word, and others behind a comma each
behind_commas : {W : Type 0} (of : W → List ℕ) (first : List ℕ) (others : List W) → first ++ flat_map (λ w. 44 ∷ of w) others ≡ join_with_byte 44 (first ∷ map of others)
behind_commas of first [] = append-nil first
behind_commas of first (w ∷ others) = ap (λ t. first ++ 44 ∷ t) (behind_commas of (of w) others)

pub row_pieces : {W : Type 0} (of : W → List ℕ) (first : List ℕ) (others : List W) (t0 t1 t2 t3 : List ℕ) → t1 ≡ t0 ++ first → t2 ≡ t1 ++ flat_map (λ w. 44 ∷ of w) others → t3 ≡ t2 ++ 10 ∷ []
    → t3 ≡ t0 ++ row (first ∷ map of others)
row_pieces of first others t0 t1 t2 t3 e1 e2 e3 =
    let words = flat_map (λ w. 44 ∷ of w) others in
    e3
    ∙ ap (λ t. t ++ 10 ∷ []) (e2 ∙ ap (λ t. t ++ words) e1 ∙ append_assoc t0 first words)
    ∙ append_assoc t0 (first ++ words) (10 ∷ [])
    ∙ ap (λ t. t0 ++ (t ++ 10 ∷ [])) (behind_commas of first others)
