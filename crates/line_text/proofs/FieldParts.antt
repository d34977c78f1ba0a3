-- The first field of a line.
use Rattle.std.proofs.Common.{◌≡◌, ◌==◌, false, ℕ, Option, Some, None, Bor, List, [], ◌∷◌, ◌++◌, refl, ap, ◌∙◌, append_assoc, sym, inl, inr}
use Rattle.std.specs.List.{list_any}
use Rattle.std.proofs.lemmas.Bool.{or_parts, cases_Bool}
use Rattle.std.proofs.lemmas.List.{append-nil}
use Rattle.event_rules.specs.Fields.{parts_from, between_commas}
use Rattle.std.specs.Option.{option_copied, is_some}
use Rattle.line_text.specs.FieldsLeft.{fields_left}

-- a line is cut at its first comma
pub parts_from-cut : (part front behind : List ℕ) → list_any (λ b. b == 44) front ≡ false → parts_from part (front ++ 44 ∷ behind) ≡ (part ++ front) ∷ between_commas behind
unfolding parts_from
parts_from-cut part [] behind h = ap (λ z. z ∷ between_commas behind) (sym (append-nil part))
parts_from-cut part (b ∷ front) behind h =
    let parts = or_parts (b == 44) (list_any (λ b. b == 44) front) h in
    rw parts.0 (parts_from-cut (part ++ b ∷ []) front behind parts.1 ∙ ap (λ z. z ∷ between_commas behind) (append_assoc part (b ∷ []) front))

-- a line without a comma is one field
pub parts_from-whole : (part line : List ℕ) → list_any (λ b. b == 44) line ≡ false → parts_from part line ≡ (part ++ line) ∷ []
unfolding parts_from
parts_from-whole part [] h = ap (λ z. z ∷ []) (sym (append-nil part))
parts_from-whole part (b ∷ line) h =
    let parts = or_parts (b == 44) (list_any (λ b. b == 44) line) h in
    rw parts.0 (parts_from-whole (part ++ b ∷ []) line parts.1 ∙ ap (λ z. z ∷ []) (append_assoc part (b ∷ []) line))

-- a line has a field
pub parts_from-some : (part line : List ℕ) → parts_from part line ≡ [] → ⊥
unfolding parts_from
parts_from-some part [] e = cc
parts_from-some part (b ∷ line) e =
    elim (cases_Bool (b == 44)) [
      | inl comma ↦ let empty = rw comma at e in cc
      | inr other ↦ parts_from-some (part ++ b ∷ []) line (rw other at e)
    ]

-- what is left of a line
pub fields_left-cut : (left : Option (Bor (List ℕ))) (rest : Bor (List ℕ)) (front behind : List ℕ) → left ≡ Some rest → rest.now ≡ front ++ 44 ∷ behind → list_any (λ b. b == 44) front ≡ false → fields_left (option_copied left) ≡ front ∷ between_commas behind
fields_left-cut left rest front behind e whole first = rw (e, whole) (parts_from-cut [] front behind first)

pub fields_left-last : (left : Option (Bor (List ℕ))) (rest : Bor (List ℕ)) → left ≡ Some rest → list_any (λ b. b == 44) rest.now ≡ false → fields_left (option_copied left) ≡ rest.now ∷ []
fields_left-last left rest e whole = rw e (parts_from-whole [] rest.now whole)

pub fields_left-none : (left : Option (Bor (List ℕ))) → is_some left ≡ false → fields_left (option_copied left) ≡ []
fields_left-none None e = refl
fields_left-none (Some rest) e = cc

pub none-fields_left : (left : Option (Bor (List ℕ))) → fields_left (option_copied left) ≡ [] → is_some left ≡ false
none-fields_left None e = refl
none-fields_left (Some rest) e = absurd (parts_from-some [] rest.now e)
