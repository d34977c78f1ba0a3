-- The text of a fraction, word by word.
use Rattle.std.proofs.Common.{◌≡◌, ◌*◌, ◌/◌, ◌%◌, ℕ, List, [], ◌∷◌, ◌++◌, ap, ◌∙◌, append_assoc}
use Rattle.std.specs.Prelude.{decimal}
use Rattle.event_rules.specs.Fractions.{Ratio, ratio_text, four_digits}

-- a word behind a mark behind a text
marked : (text word : List ℕ) (mark : ℕ) → (text ++ mark ∷ []) ++ word ≡ text ++ mark ∷ word
marked text word mark = append_assoc text (mark ∷ []) word

laid : (a b c d : List ℕ) → (((((a ++ 47 ∷ []) ++ b) ++ 44 ∷ []) ++ c) ++ 46 ∷ []) ++ d ≡ (a ++ 47 ∷ b) ++ 44 ∷ (c ++ 46 ∷ d)
laid a b c d =
    marked ((((a ++ 47 ∷ []) ++ b) ++ 44 ∷ []) ++ c) d 46
    ∙ ap (λ z. z ++ 46 ∷ d) (marked ((a ++ 47 ∷ []) ++ b) c 44)
    ∙ append_assoc ((a ++ 47 ∷ []) ++ b) (44 ∷ c) (46 ∷ d)
    ∙ ap (λ z. z ++ 44 ∷ (c ++ 46 ∷ d)) (marked a b 47)

-- what a text holds behind each word and each mark that is appended
pub record IsLaid (r : Ratio) (t0 t1 t2 t3 t4 t5 t6 t7 : List ℕ) : Type 0 where
  pub empty : t0 ≡ []
  pub top : t1 ≡ t0 ++ decimal r.top
  pub slash : t2 ≡ t1 ++ 47 ∷ []
  pub under : t3 ≡ t2 ++ decimal r.under
  pub comma : t4 ≡ t3 ++ 44 ∷ []
  pub whole : t5 ≡ t4 ++ decimal (r.top / r.under)
  pub point : t6 ≡ t5 ++ 46 ∷ []
  pub decimals : t7 ≡ t6 ++ four_digits (r.top % r.under * 10000 / r.under)

pub ratio_text-laid : (r : Ratio) (t0 t1 t2 t3 t4 t5 t6 t7 : List ℕ) → IsLaid r t0 t1 t2 t3 t4 t5 t6 t7 → t7 ≡ ratio_text r
unfolding ratio_text
ratio_text-laid r t0 t1 t2 t3 t4 t5 t6 t7 h =
    rw (h.decimals, h.point, h.whole, h.comma, h.under, h.slash, h.top, h.empty)
    (laid (decimal r.top) (decimal r.under) (decimal (r.top / r.under)) (four_digits (r.top % r.under * 10000 / r.under)))
