-- The open lines, by meter.
use Rattle.std.proofs.Common.{◌≡◌, ℕ, zero, suc, ◌+◌, ◌<◌, ◌≤◌, List, [], ◌∷◌, ◌++◌, get_or, refl, sym, ap, ◌∙◌, inl, inr, arith}
use Rattle.std.specs.Prelude.{◌≢◌, ◌⊎◌, ◌==◌, Option, Some, None, filter, flat_map}
use Rattle.std.specs.List.{All, range_with_len}
use Rattle.std.proofs.lemmas.Bool.{cases_eq, eq-eqb, ne_eqb, cond-true, cond-false}
use Rattle.std.proofs.lemmas.List.{append-nil, append_assoc}
use Rattle.std.proofs.lemmas.List.Elements.{filter-append, All-nil, All-cons, All-append}
use Rattle.std.proofs.lemmas.List.Concat.{flat_map-append}
use Rattle.grid_model.specs.declared.history.Stamp.{Stamp}
use Rattle.grid_model.specs.declared.history.Line.{Line}
use Rattle.history_rules.specs.Ledger.{line_from, line_of}
use Rattle.interruption_ledger.specs.Inside.{is_of, open_below}

range_more : (a n : ℕ) → range_with_len a (n + 1) ≡ range_with_len a n ++ (a + n) ∷ []
range_more a zero = let e : a ≡ a + 0 = omega arith in ap (λ m. m ∷ []) e
range_more a (suc n) =
    let e : suc n + 1 ≡ suc (n + 1) = omega arith in
    let next : a + 1 + n ≡ a + suc n = omega arith in
    ap (range_with_len a) e ∙ ap (λ ms. a ∷ ms) (range_more (a + 1) n ∙ ap (λ m. range_with_len (a + 1) n ++ m ∷ []) next)

-- the open lines below a number, and the next meter's
pub open_more : (starts : List (Option Stamp)) (n : ℕ) → open_below starts (n + 1) ≡ open_below starts n ++ line_from n (get_or starts n None) None
open_more starts n =
    let f = λ (m : ℕ). line_from m (get_or starts m None) None in
    let next : 0 + n ≡ n = omega arith in
    ap (flat_map f) (range_more 0 n ∙ ap (λ m. range_with_len 0 n ++ m ∷ []) next) ∙ flat_map-append f (range_with_len 0 n) (n ∷ [])
    ∙ ap (λ ls. flat_map f (range_with_len 0 n) ++ ls) (append-nil (f n))

-- the lines, with those of the next meter
pub pushed : (starts : List (Option Stamp)) (n : ℕ) (first lines lines2 : List Line) (s : Option Stamp)
    → lines ≡ first ++ open_below starts n → get_or starts n None ≡ s → lines2 ≡ lines ++ line_from n s None
    → lines2 ≡ first ++ open_below starts (n + 1)
pushed starts n first lines lines2 s before is_start after =
    after ∙ ap (λ ls. ls ++ line_from n s None) before ∙ append_assoc first (open_below starts n) (line_from n s None)
    ∙ ap (λ ls. first ++ ls) (ap (λ u. open_below starts n ++ line_from n u None) (sym is_start) ∙ sym (open_more starts n))

abbrev open_from : (ℕ → Option Stamp) → ℕ → ℕ → List Line
open_from s a n = flat_map (λ m. line_from m (s m) None) (range_with_len a n)

own_line : (m : ℕ) (s : Option Stamp) → filter (is_of m) (line_from m s None) ≡ line_from m s None
own_line m None = refl
own_line m (Some start) = cond-true (m == m) (line_of m start None ∷ []) [] (eq-eqb m m refl)

other_line : (m k : ℕ) (s : Option Stamp) → k ≢ m → filter (is_of m) (line_from k s None) ≡ []
other_line m k None ne = refl
other_line m k (Some start) ne = cond-false (k == m) (line_of k start None ∷ []) [] (ne_eqb k m ne)

later_lines : (s : ℕ → Option Stamp) (m a n : ℕ) → m < a → filter (is_of m) (open_from s a n) ≡ []
later_lines s m a zero lt = refl
later_lines s m a (suc n) lt =
    filter-append (is_of m) (line_from a (s a) None) (open_from s (a + 1) n)
    ∙ ap (λ ls. ls ++ filter (is_of m) (open_from s (a + 1) n)) (other_line m a (s a) (λ e. omega arith))
    ∙ later_lines s m (a + 1) n (omega arith)

found_line : (s : ℕ → Option Stamp) (m a n : ℕ) → (a ≢ m → filter (is_of m) (open_from s (a + 1) n) ≡ line_from m (s m) None)
    → (a ≡ m) ⊎ (a ≡ m → ⊥) → filter (is_of m) (open_from s a (suc n)) ≡ line_from m (s m) None
found_line s m a n later (inl e) =
    filter-append (is_of m) (line_from a (s a) None) (open_from s (a + 1) n)
    ∙ ap (λ ls. filter (is_of m) (line_from a (s a) None) ++ ls) (later_lines s m (a + 1) n (omega arith))
    ∙ append-nil (filter (is_of m) (line_from a (s a) None))
    ∙ ap (λ k. filter (is_of m) (line_from k (s k) None)) e ∙ own_line m (s m)
found_line s m a n later (inr ne) =
    filter-append (is_of m) (line_from a (s a) None) (open_from s (a + 1) n)
    ∙ ap (λ ls. ls ++ filter (is_of m) (open_from s (a + 1) n)) (other_line m a (s a) ne)
    ∙ later ne

one_line : (s : ℕ → Option Stamp) (m a n : ℕ) → a ≤ m → m < a + n → filter (is_of m) (open_from s a n) ≡ line_from m (s m) None
one_line s m a zero low high = absurd (omega arith)
one_line s m a (suc n) low high = found_line s m a n (λ ne. one_line s m (a + 1) n (omega arith) (omega arith)) (cases_eq a m)

-- a meter's open line
pub open_of : (starts : List (Option Stamp)) (m n : ℕ) → m < n → filter (is_of m) (open_below starts n) ≡ line_from m (get_or starts m None) None
open_of starts m n lt = one_line (λ k. get_or starts k None) m 0 n (omega arith) (omega arith)

line_within : (m n : ℕ) (s : Option Stamp) → m < n → All (λ l. l.meter.0 < n) (line_from m s None)
line_within m n None lt = All-nil (λ l. l.meter.0 < n)
line_within m n (Some start) lt = All-cons (λ l. l.meter.0 < n) (line_of m start None) [] lt (All-nil (λ l. l.meter.0 < n))

open_from_within : (s : ℕ → Option Stamp) (a k n : ℕ) → a + k ≤ n → All (λ l. l.meter.0 < n) (open_from s a k)
open_from_within s a zero n le = All-nil (λ l. l.meter.0 < n)
open_from_within s a (suc k) n le =
    All-append (λ l. l.meter.0 < n) (line_from a (s a) None) (open_from s (a + 1) k) (line_within a n (s a) (omega arith)) (open_from_within s (a + 1) k n (omega arith))

pub open_within : (starts : List (Option Stamp)) (n : ℕ) → All (λ l. l.meter.0 < n) (open_below starts n)
open_within starts n = open_from_within (λ k. get_or starts k None) 0 n n (omega arith)
