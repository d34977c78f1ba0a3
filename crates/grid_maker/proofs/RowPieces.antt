-- A row of seven words, piece by piece.
use Rattle.std.proofs.Common.{◌≡◌, ℕ, List, [], ◌∷◌, ◌++◌, ap, ◌∙◌, append_assoc}
use Rattle.event_rules.specs.Rows.{row}

-- four words in front of the rest
in_front : (t a b c d rest : List ℕ) → (t ++ (a ++ 44 ∷ (b ++ 44 ∷ (c ++ 44 ∷ d)))) ++ rest ≡ t ++ (a ++ 44 ∷ (b ++ 44 ∷ (c ++ 44 ∷ (d ++ rest))))
in_front t a b c d rest = simp append_assoc

front-pieces : (t0 t1 t2 t3 t4 a b c d : List ℕ) → t1 ≡ t0 ++ a → t2 ≡ t1 ++ 44 ∷ b → t3 ≡ t2 ++ 44 ∷ c → t4 ≡ t3 ++ 44 ∷ d → t4 ≡ t0 ++ (a ++ 44 ∷ (b ++ 44 ∷ (c ++ 44 ∷ d)))
front-pieces t0 t1 t2 t3 t4 a b c d e1 e2 e3 e4 = rw (e4, e3, e2, e1) (simp append_assoc)

back-pieces : (t0 t1 t2 t3 t4 a b c : List ℕ) → t1 ≡ t0 ++ 44 ∷ a → t2 ≡ t1 ++ 44 ∷ b → t3 ≡ t2 ++ 44 ∷ c → t4 ≡ t3 ++ 10 ∷ [] → t4 ≡ t0 ++ (44 ∷ (a ++ 44 ∷ (b ++ 44 ∷ (c ++ 10 ∷ []))))
back-pieces t0 t1 t2 t3 t4 a b c e1 e2 e3 e4 = rw (e4, e3, e2, e1) (simp append_assoc)

pub row-pieces : (t0 t1 t2 t3 t4 t5 t6 t7 t8 a b c d x y z : List ℕ) → t1 ≡ t0 ++ a → t2 ≡ t1 ++ 44 ∷ b → t3 ≡ t2 ++ 44 ∷ c → t4 ≡ t3 ++ 44 ∷ d → t5 ≡ t4 ++ 44 ∷ x → t6 ≡ t5 ++ 44 ∷ y → t7 ≡ t6 ++ 44 ∷ z → t8 ≡ t7 ++ 10 ∷ [] → t8 ≡ t0 ++ row (a ∷ b ∷ c ∷ d ∷ x ∷ y ∷ z ∷ [])
row-pieces t0 t1 t2 t3 t4 t5 t6 t7 t8 a b c d x y z e1 e2 e3 e4 e5 e6 e7 e8 =
    let end : List ℕ = 44 ∷ (x ++ 44 ∷ (y ++ 44 ∷ (z ++ 10 ∷ []))) in
    back-pieces t4 t5 t6 t7 t8 x y z e5 e6 e7 e8
    ∙ ap (λ t. t ++ end) (front-pieces t0 t1 t2 t3 t4 a b c d e1 e2 e3 e4)
    ∙ in_front t0 a b c d end
    ∙ ap (λ t. t0 ++ t) (whole a b c d x y z)
  where
    last_of : (x y z : List ℕ) → x ++ 44 ∷ (y ++ 44 ∷ (z ++ 10 ∷ [])) ≡ (x ++ 44 ∷ (y ++ 44 ∷ z)) ++ 10 ∷ []
    last_of x y z = simp append_assoc

    four : (a b c d rest : List ℕ) → a ++ 44 ∷ (b ++ 44 ∷ (c ++ 44 ∷ (d ++ 44 ∷ (rest ++ 10 ∷ [])))) ≡ (a ++ 44 ∷ (b ++ 44 ∷ (c ++ 44 ∷ (d ++ 44 ∷ rest)))) ++ 10 ∷ []
    four a b c d rest = simp append_assoc

    whole : (a b c d x y z : List ℕ) → a ++ 44 ∷ (b ++ 44 ∷ (c ++ 44 ∷ (d ++ 44 ∷ (x ++ 44 ∷ (y ++ 44 ∷ (z ++ 10 ∷ [])))))) ≡ row (a ∷ b ∷ c ∷ d ∷ x ∷ y ∷ z ∷ [])
    whole a b c d x y z = ap (λ t. a ++ 44 ∷ (b ++ 44 ∷ (c ++ 44 ∷ (d ++ 44 ∷ t)))) (last_of x y z) ∙ four a b c d (x ++ 44 ∷ (y ++ 44 ∷ z))
