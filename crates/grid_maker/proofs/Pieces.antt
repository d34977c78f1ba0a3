-- Texts without an LF, and how many bytes they have at most.
use Rattle.std.proofs.Common.{◌≡◌, ℕ, ◌+◌, ◌/◌, ◌%◌, ◌<◌, ◌≤◌, ◌==◌, Bool, false, refl, ◌∙◌, arith, List, [], ◌∷◌, ◌++◌, length, length-append}
use Rattle.std.specs.Prelude.{decimal}
use Rattle.std.specs.List.{list_any}
use Rattle.std.proofs.lemmas.Bool.{or_from, ne_eqb}
use Rattle.std.proofs.lemmas.List.Folds.{list_any-append}
use Rattle.std.proofs.lemmas.Fmt.{length-decimal-le, decimal_by_steps}
use Rattle.history_rules.specs.StampTexts.{year_of, month_of, day_of_month, two_digits, date_text, clock_text, stamp_text}
use Rattle.grid_maker.specs.Names.{numbered}

abbrev has_lf : List ℕ → Bool
has_lf text = list_any (λ b. b == 10) text

pub record IsPiece (text : List ℕ) (most : ℕ) : Type 0 where
  pub no_lf : has_lf text ≡ false
  pub short : length text ≤ most

pub nothing : IsPiece [] 0
nothing = record { no_lf = refl; short = omega arith }

pub byte : (b : ℕ) (rest : List ℕ) (k : ℕ) → (b == 10) ≡ false → IsPiece rest k → IsPiece (b ∷ rest) (1 + k)
byte b rest k other p = record { no_lf = or_from (b == 10) (has_lf rest) other p.no_lf; short = let s = p.short in omega arith }

pub joined : (a b : List ℕ) (m k : ℕ) → IsPiece a m → IsPiece b k → IsPiece (a ++ b) (m + k)
joined a b m k p q = record {
  no_lf = list_any-append (λ x. x == 10) a b ∙ or_from (has_lf a) (has_lf b) p.no_lf q.no_lf;
  short = let s = p.short in let t = q.short in omega (arith, length-append a b);
}

-- two words with a comma between them
pub pair : (a b : List ℕ) (m k : ℕ) → IsPiece a m → IsPiece b k → IsPiece (a ++ 44 ∷ b) (m + (1 + k))
pair a b m k p q = joined a (44 ∷ b) m (1 + k) p (byte 44 b k refl q)

pub within : (a : List ℕ) (m k : ℕ) → m ≤ k → IsPiece a m → IsPiece a k
within a m k le p = record { no_lf = p.no_lf; short = let s = p.short in omega arith }

digit : (d : ℕ) → (48 + d == 10) ≡ false
digit d = ne_eqb (48 + d) 10 (λ e. omega arith)

-- a number below a thousand
pub number : (n : ℕ) → n < 1000 → IsPiece (decimal n) 3
number n small = record {
  no_lf = decimal_by_steps (λ n ds. has_lf ds ≡ false) (λ n l. one n) (λ n ds l h. more n ds h) n (omega arith);
  short = length-decimal-le 3 n (omega arith) (omega arith) (omega arith);
}
  where
    one : (n : ℕ) → has_lf ((48 + n) ∷ []) ≡ false
    one n = or_from (48 + n == 10) false (digit n) refl

    more : (n : ℕ) (ds : List ℕ) → has_lf ds ≡ false → has_lf (ds ++ (48 + n % 10) ∷ []) ≡ false
    more n ds h = list_any-append (λ x. x == 10) ds ((48 + n % 10) ∷ []) ∙ or_from (has_lf ds) (has_lf ((48 + n % 10) ∷ [])) h (one (n % 10))

-- names of one number, of two and of three
pub one_number : (letter f : ℕ) → (letter == 10) ≡ false → f < 1000 → IsPiece (numbered (letter ∷ []) (f ∷ [])) 4
one_number letter f other l = byte letter (decimal f) 3 other (number f l)

pub two_numbers : (letter f j : ℕ) → (letter == 10) ≡ false → f < 1000 → j < 1000 → IsPiece (numbered (letter ∷ []) (f ∷ j ∷ [])) 8
two_numbers letter f j other lf lj =
    byte letter (decimal f ++ 46 ∷ decimal j) 7 other (joined (decimal f) (46 ∷ decimal j) 3 4 (number f lf) (byte 46 (decimal j) 3 refl (number j lj)))

pub three_numbers : (letter f j k : ℕ) → (letter == 10) ≡ false → f < 1000 → j < 1000 → k < 1000 → IsPiece (numbered (letter ∷ []) (f ∷ j ∷ k ∷ [])) 12
three_numbers letter f j k other lf lj lk =
    byte letter (decimal f ++ 46 ∷ (decimal j ++ 46 ∷ decimal k)) 11 other
    (joined (decimal f) (46 ∷ (decimal j ++ 46 ∷ decimal k)) 3 8 (number f lf)
    (byte 46 (decimal j ++ 46 ∷ decimal k) 7 refl (joined (decimal j) (46 ∷ decimal k) 3 4 (number j lj) (byte 46 (decimal k) 3 refl (number k lk)))))

-- the text of a second
two : (n : ℕ) → IsPiece (two_digits n) 2
two n = byte (48 + n / 10) ((48 + n % 10) ∷ []) 1 (digit (n / 10)) (byte (48 + n % 10) [] 0 (digit (n % 10)) nothing)

marked : (n mark : ℕ) (rest : List ℕ) (k : ℕ) → (mark == 10) ≡ false → IsPiece rest k → IsPiece (two_digits n ++ mark ∷ rest) (2 + (1 + k))
marked n mark rest k other p = joined (two_digits n) (mark ∷ rest) 2 (1 + k) (two n) (byte mark rest k other p)

date : (day : ℕ) → IsPiece (date_text day) 10
date day =
    let days = two_digits (day_of_month day) in
    let months = two_digits (month_of day) ++ 45 ∷ days in
    joined (two_digits (year_of day / 100)) (two_digits (year_of day % 100) ++ 45 ∷ months) 2 8 (two (year_of day / 100))
    (marked (year_of day % 100) 45 months 5 refl (marked (month_of day) 45 days 2 refl (two (day_of_month day))))

clock : (second : ℕ) → IsPiece (clock_text second) 8
clock second =
    marked (second / 3600) 58 (two_digits (second / 60 % 60) ++ 58 ∷ two_digits (second % 60)) 5 refl
    (marked (second / 60 % 60) 58 (two_digits (second % 60)) 2 refl (two (second % 60)))

pub stamp : (at : ℕ) → IsPiece (stamp_text at) 20
unfolding stamp_text
stamp at =
    joined (date_text (at / 86400)) (84 ∷ (clock_text (at % 86400) ++ 90 ∷ [])) 10 10 (date (at / 86400))
    (byte 84 (clock_text (at % 86400) ++ 90 ∷ []) 9 refl (joined (clock_text (at % 86400)) (90 ∷ []) 8 1 (clock (at % 86400)) (byte 90 [] 0 refl nothing)))
