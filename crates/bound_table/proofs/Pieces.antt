-- A row of the bounds part, piece by piece.
use Rattle.std.proofs.Common.{◌≡◌, ℕ, List, [], ◌∷◌, ◌++◌, append_assoc}
use Rattle.std.specs.Prelude.{codes}
use Rattle.event_rules.specs.Rows.{row}

pub row-pieces : (t0 t1 t2 t3 t4 t5 t6 t7 t8 node parent depth live dark : List ℕ) → t1 ≡ t0 ++ codes "row" ++ 44 ∷ [] → t2 ≡ t1 ++ node → t3 ≡ t2 ++ 44 ∷ [] → t4 ≡ t3 ++ parent → t5 ≡ t4 ++ 44 ∷ depth → t6 ≡ t5 ++ 44 ∷ live → t7 ≡ t6 ++ 44 ∷ dark → t8 ≡ t7 ++ 10 ∷ [] → t8 ≡ t0 ++ row (codes "row" ∷ node ∷ parent ∷ depth ∷ live ∷ dark ∷ [])
row-pieces t0 t1 t2 t3 t4 t5 t6 t7 t8 node parent depth live dark e1 e2 e3 e4 e5 e6 e7 e8 =
    rw (e8, e7, e6, e5, e4, e3, e2, e1) (simp append_assoc)
