-- The shape of a time, mark by mark.
use Rattle.std.proofs.Common.{◌≡◌, ◌&&◌, ℕ, zero, suc, true, ◌<◌, ◌≤◌, List, [], ◌∷◌, length, nat_le, slice_index, refl, ap, subst, arith}
use Rattle.std.proofs.lemmas.Bool.{and_parts, leb-true}
use Rattle.std.specs.List.{list_all, zip}
use Rattle.event_rules.specs.Decimals.{is_digit}
use Rattle.event_rules.specs.Stamps.{fits_pattern}
use Rattle.line_text.specs.StampText.{fits_mark}

-- a text as long as the pattern fits it where each byte fits its mark
pub list_all-fits : (pattern text : List ℕ) → length text ≡ length pattern → list_all (λ p. fits_mark p.0 p.1) (zip pattern text) ≡ fits_pattern pattern text
list_all-fits [] [] e = refl
list_all-fits [] (b ∷ text) e = absurd (omega arith)
list_all-fits (p ∷ pattern) [] e = absurd (omega arith)
list_all-fits (p ∷ pattern) (b ∷ text) e = ap (λ z. fits_mark p b && z) (list_all-fits pattern text (omega arith))

digit_marked : (p b : ℕ) → p ≡ 48 → fits_mark p b ≡ true → is_digit b ≡ true
digit_marked p b e h = let P : ℕ → Type 0 = λ mark. fits_mark mark b ≡ true in subst P e h

-- where the pattern has a 0, a text that fits it has a digit
pub digit_there : (pattern text : List ℕ) (k : ℕ) → fits_pattern pattern text ≡ true → slice_index pattern k ≡ 48 → (k < length text) × (48 ≤ slice_index text k) × (slice_index text k ≤ 57)
digit_there [] [] k h e = absurd (omega arith)
digit_there [] (b ∷ text) k h e = cc
digit_there (p ∷ pattern) [] k h e = cc
digit_there (p ∷ pattern) (b ∷ text) zero h e =
    let parts = and_parts (fits_mark p b) (fits_pattern pattern text) h in
    let both = and_parts (nat_le 48 b) (nat_le b 57) (digit_marked p b e parts.0) in
    (omega arith, leb-true 48 b both.0, leb-true b 57 both.1)
digit_there (p ∷ pattern) (b ∷ text) (suc k) h e =
    let parts = and_parts (fits_mark p b) (fits_pattern pattern text) h in
    let rest = digit_there pattern text k parts.1 e in
    (omega arith, rest.1, rest.2)
