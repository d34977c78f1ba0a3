-- The first field of a line that is cut at its first comma, and its second.
use Rattle.std.proofs.Common.{◌≡◌, ◌==◌, false, ℕ, List, [], ◌∷◌, ◌++◌, refl, ap}
use Rattle.std.specs.Prelude.{Option, Some, None, option_map, unwrap_or}
use Rattle.std.specs.List.{list_any}
use Rattle.grid_model.specs.declared.history.Stamp.{Stamp}
use Rattle.std.proofs.lemmas.Bool.{or_parts}
use Rattle.feed_merge.specs.Merging.{first_field}

pub first_field-cut : (front behind : List ℕ) → list_any (λ b. b == 44) front ≡ false → front ≡ first_field (front ++ 44 ∷ behind)
unfolding first_field
first_field-cut [] behind h = refl
first_field-cut (b ∷ front) behind h =
    let parts = or_parts (b == 44) (list_any (λ b. b == 44) front) h in
    rw parts.0 (ap (λ z. b ∷ z) (first_field-cut front behind parts.1))

pub first_field-whole : (line : List ℕ) → list_any (λ b. b == 44) line ≡ false → line ≡ first_field line
unfolding first_field
first_field-whole [] h = refl
first_field-whole (b ∷ line) h =
    let parts = or_parts (b == 44) (list_any (λ b. b == 44) line) h in
    rw parts.0 (ap (λ z. b ∷ z) (first_field-whole line parts.1))

-- the second of a stamp that was read, or 0
pub second_read : (read : Option Stamp) (stamp : Option ℕ) → option_map (λ (at : Stamp). at.0) read ≡ stamp → (unwrap_or read (record { 0 = 0 })).0 ≡ unwrap_or stamp 0
second_read None stamp e = ap (λ s. unwrap_or s 0) e
second_read (Some at) stamp e = ap (λ s. unwrap_or s 0) e
