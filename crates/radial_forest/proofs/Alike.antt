-- Two tests that say the same.
use Rattle.std.proofs.Common.{◌≡◌, Bool, true, false, refl, sym}

pub same_test : (a b : Bool) → (a ≡ true → b ≡ true) → (b ≡ true → a ≡ true) → a ≡ b
same_test true b h k = sym (h refl)
same_test false true h k = k refl
same_test false false h k = refl
