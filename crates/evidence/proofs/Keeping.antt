-- What is kept of each meter, read, written and begun.
use Rattle.std.proofs.Common.{◌≡◌, ℕ, ◌+◌, ◌<◌, zero, suc, List, [], ◌∷◌, length, get_or, set, replicate, refl, ap, ◌∙◌, arith}
use Rattle.evidence.specs.Kept.{nothing_kept}
use Rattle.evidence.specs.Slot.{kept_in}
use Rattle.evidence.specs.Inside.{kept_from}
use Rattle.evidence.specs.declared.slot.Slot.{Slot}

pub length-kept : (m : ℕ) (slots : List Slot) → length (kept_from m slots) ≡ length slots
length-kept m [] = refl
length-kept m (s ∷ slots) = ap suc (length-kept (suc m) slots)

-- what is kept of the meter at place k
pub kept_at : (m k n : ℕ) (slots : List Slot) (d : Slot) → n ≡ m + k → k < length slots
    → get_or (kept_from m slots) k nothing_kept ≡ kept_in n (get_or slots k d)
kept_at m k n [] d e lt = absurd (omega arith)
kept_at m zero n (s ∷ slots) d e lt = ap (λ i. kept_in i s) (omega (arith, e))
kept_at m (suc k) n (s ∷ slots) d e lt = kept_at (suc m) k n slots d (omega arith) (omega arith)

pub kept_set : (m k n : ℕ) (slots : List Slot) (s : Slot) → n ≡ m + k
    → kept_from m (set slots k s) ≡ set (kept_from m slots) k (kept_in n s)
kept_set m k n [] s e = refl
kept_set m zero n (x ∷ slots) s e = ap (λ i. kept_in i s ∷ kept_from (suc m) slots) (omega (arith, e))
kept_set m (suc k) n (x ∷ slots) s e = ap (λ l. kept_in m x ∷ l) (kept_set (suc m) k n slots s (omega arith))

pub kept_new : (m n : ℕ) (s : Slot) → ((i : ℕ) → kept_in i s ≡ nothing_kept) → kept_from m (replicate n s) ≡ replicate n nothing_kept
kept_new m zero s e = refl
kept_new m (suc n) s e = ap (λ k. k ∷ kept_from (suc m) (replicate n s)) (e m) ∙ ap (λ l. nothing_kept ∷ l) (kept_new (suc m) n s e)
