-- How many lines and bytes the texts have.
use Rattle.std.proofs.Common.{◌≡◌, ℕ, zero, suc, ◌+◌, ◌-◌, ◌*◌, ◌/◌, ◌%◌, ◌^◌, ◌<◌, ◌≤◌, refl, ap, ◌∙◌, arith, List, [], ◌∷◌, ◌++◌, length, length-append, append_assoc}
use Rattle.std.specs.Prelude.{codes, decimal}
use Rattle.std.specs.List.{join_with_byte}
use Rattle.std.proofs.lemmas.Nat.{mod_below}
use Rattle.event_rules.specs.Lines.{lines}
use Rattle.line_text.proofs.LineParts.{lines-cut}
use Rattle.history_rules.specs.StampTexts.{stamp_text}
use Rattle.grid_maker.specs.Names.{source_name, breaker_name, place_name, line_name, fuse_name, branch_name, transformer_name, service_name, meter_name, tie_name}
use Rattle.grid_maker.specs.NetworkText.{each, device_row, source_row, breaker_row, line_row, fuse_row, transformer_row, meter_row, service_rows, branch_rows, main_rows, feeder_rows, tie_row, network_text}
use Rattle.grid_maker.specs.Draws.{drawn}
use Rattle.grid_maker.specs.declared.happenings.Happening.{Happening}
use Rattle.grid_maker.specs.declared.happenings.Happening.TheVariants.{Gasp, Call, PingDown, PingUp, Powerup, Restore, ConfirmOk, ConfirmOpen, ConfirmClear, OpenLine, CloseLine, Clock, CloseTie, OpenTie}
use Rattle.grid_maker.specs.Happenings.{happening, happening_words}
use Rattle.grid_maker.specs.EventText.{event_row, event_after, event_line, event_text, second_of}
use Rattle.grid_maker.specs.Laws.{StormHasLines, TextsAreShort}
use Rattle.grid_maker.proofs.Pieces.{IsPiece, pair, within, number, one_number, two_numbers, three_numbers, stamp}
use Rattle.grid_maker.proofs.EventPieces.{words_behind}

-- names have at most twelve bytes
abbrev IsName : List ℕ → Type 0
IsName name = IsPiece name 12

source : (f : ℕ) → f < 1000 → IsName (source_name f)
unfolding source_name
source f lf = within _ 4 12 (omega arith) (one_number 83 f refl lf)

breaker : (f : ℕ) → f < 1000 → IsName (breaker_name f)
unfolding breaker_name
breaker f lf = within _ 4 12 (omega arith) (one_number 66 f refl lf)

place : (f j : ℕ) → f < 1000 → j < 1000 → IsName (place_name f j)
unfolding place_name
place f j lf lj = within _ 8 12 (omega arith) (two_numbers 78 f j refl lf lj)

line : (f j : ℕ) → f < 1000 → j < 1000 → IsName (line_name f j)
unfolding line_name
line f j lf lj = within _ 8 12 (omega arith) (two_numbers 76 f j refl lf lj)

fuse : (f j : ℕ) → f < 1000 → j < 1000 → IsName (fuse_name f j)
unfolding fuse_name
fuse f j lf lj = within _ 8 12 (omega arith) (two_numbers 70 f j refl lf lj)

branch : (f j : ℕ) → f < 1000 → j < 1000 → IsName (branch_name f j)
unfolding branch_name
branch f j lf lj = within _ 8 12 (omega arith) (two_numbers 80 f j refl lf lj)

transformer : (f j k : ℕ) → f < 1000 → j < 1000 → k < 1000 → IsName (transformer_name f j k)
unfolding transformer_name
transformer f j k lf lj lk = three_numbers 84 f j k refl lf lj lk

service : (f j k : ℕ) → f < 1000 → j < 1000 → k < 1000 → IsName (service_name f j k)
unfolding service_name
service f j k lf lj lk = three_numbers 68 f j k refl lf lj lk

meter : (f j k : ℕ) → f < 1000 → j < 1000 → k < 1000 → IsName (meter_name f j k)
unfolding meter_name
meter f j k lf lj lk = three_numbers 77 f j k refl lf lj lk

tie : (f : ℕ) → f < 1000 → IsName (tie_name f)
unfolding tie_name
tie f lf = within _ 4 12 (omega arith) (one_number 88 f refl lf)

-- words and names of what happens
named : (word name : List ℕ) → IsPiece word 7 → IsName name → IsPiece (word ++ 44 ∷ name) 40
named word name p q = within _ 20 40 (omega arith) (pair word name 7 12 p q)

told : (word name last : List ℕ) → IsPiece word 7 → IsName name → IsPiece last 7 → IsPiece (word ++ 44 ∷ (name ++ 44 ∷ last)) 40
told word name last p q r = within _ 28 40 (omega arith) (pair word (name ++ 44 ∷ last) 7 20 p (pair name last 12 7 q r))

happened : (f j k : ℕ) → f < 1000 → j < 1000 → k < 1000 → (h : Happening) → IsPiece (join_with_byte 44 (happening_words f j k h)) 40
happened f j k lf lj lk Gasp = named (codes "gasp") _ (record { no_lf = refl; short = omega arith }) (meter f j k lf lj lk)
happened f j k lf lj lk Call = named (codes "call") _ (record { no_lf = refl; short = omega arith }) (meter f j k lf lj lk)
happened f j k lf lj lk PingDown = told (codes "ping") _ (codes "down") (record { no_lf = refl; short = omega arith }) (meter f j k lf lj lk) (record { no_lf = refl; short = omega arith })
happened f j k lf lj lk PingUp = told (codes "ping") _ (codes "up") (record { no_lf = refl; short = omega arith }) (meter f j k lf lj lk) (record { no_lf = refl; short = omega arith })
happened f j k lf lj lk Powerup = named (codes "powerup") _ (record { no_lf = refl; short = omega arith }) (meter f j k lf lj lk)
happened f j k lf lj lk Restore = named (codes "restore") _ (record { no_lf = refl; short = omega arith }) (fuse f j lf lj)
happened f j k lf lj lk ConfirmOk = told (codes "confirm") _ (codes "ok") (record { no_lf = refl; short = omega arith }) (fuse f j lf lj) (record { no_lf = refl; short = omega arith })
happened f j k lf lj lk ConfirmOpen = told (codes "confirm") _ (codes "open") (record { no_lf = refl; short = omega arith }) (fuse f j lf lj) (record { no_lf = refl; short = omega arith })
happened f j k lf lj lk ConfirmClear = told (codes "confirm") _ (codes "clear") (record { no_lf = refl; short = omega arith }) (fuse f j lf lj) (record { no_lf = refl; short = omega arith })
happened f j k lf lj lk OpenLine = named (codes "open") _ (record { no_lf = refl; short = omega arith }) (line f (1 + j % 49) lf (omega arith))
happened f j k lf lj lk CloseLine = named (codes "close") _ (record { no_lf = refl; short = omega arith }) (line f (1 + j % 49) lf (omega arith))
happened f j k lf lj lk Clock = record { no_lf = refl; short = omega arith }
happened f j k lf lj lk CloseTie = named (codes "close") _ (record { no_lf = refl; short = omega arith }) (tie f lf)
happened f j k lf lj lk OpenTie = named (codes "open") _ (record { no_lf = refl; short = omega arith }) (tie f lf)

-- a line of a storm is such a piece before an LF
record IsLine (text : List ℕ) : Type 0 where
  front : List ℕ
  is : text ≡ front ++ 10 ∷ []
  piece : IsPiece front 61

row_line : (n i f j k r : ℕ) → f < 1000 → j < 1000 → k < 1000 → IsLine (event_row n i f j k r)
unfolding event_row
row_line n i f j k r lf lj lk =
    let words = join_with_byte 44 (happening_words f j k (happening n f k r)) in
    record {
      front = stamp_text (second_of i) ++ 44 ∷ words;
      is = ap (λ z. z ++ 10 ∷ []) (words_behind (stamp_text (second_of i)) f j k (happening n f k r));
      piece = pair (stamp_text (second_of i)) words 20 40 (stamp (second_of i)) (happened f j k lf lj lk (happening n f k r));
    }

drawn_below : (x bound : ℕ) → 0 < bound → bound ≤ 100 → drawn x bound < 1000
unfolding drawn
drawn_below x bound l m = let below = mod_below (x / 2 ^ 33) bound l in omega arith

line_line : (n i : ℕ) → 1 ≤ n → n ≤ 100 → IsLine (event_line n i)
unfolding event_line event_after
line_line n i l m =
    row_line n i _ _ _ _ (drawn_below _ n l m) (drawn_below _ 50 (omega arith) (omega arith)) (drawn_below _ 20 (omega arith) (omega arith))

-- so many texts of one line have so many lines
line_more : (t front rest : List ℕ) → t ≡ front ++ 10 ∷ [] → IsPiece front 61 → length (lines (t ++ rest)) ≡ suc (length (lines rest))
line_more t front rest e p =
    ap (λ z. length (lines (z ++ rest))) e
    ∙ ap (λ z. length (lines z)) (append_assoc front (10 ∷ []) rest)
    ∙ ap length (lines-cut front rest p.no_lf)

each_lines : (text : ℕ → List ℕ) → ((i : ℕ) → IsLine (text i)) → (first count : ℕ) → length (lines (each text first count)) ≡ count
unfolding each lines
each_lines text h first zero = refl
each_lines text h first (suc count) =
    line_more (text first) (h first).front (each text (first + 1) count) (h first).is (h first).piece ∙ ap suc (each_lines text h (first + 1) count)

pub storm_lines : StormHasLines
unfolding event_text
storm_lines n l m = each_lines (event_line n) (λ i. line_line n i l m) 0 (10_000 * n)

-- so many texts of at most so many bytes
each_length : (text : ℕ → List ℕ) (most first count : ℕ) → ((i : ℕ) → first ≤ i → i < first + count → length (text i) ≤ most) → length (each text first count) ≤ count * most
unfolding each
each_length text most first zero h = omega arith
each_length text most first (suc count) h =
    let here = h first (omega arith) (omega arith) in
    let rest = each_length text most (first + 1) count (λ i l m. h i (omega arith) (omega arith)) in
    omega (arith, length-append (text first) (each text (first + 1) count))

line_length : (text : List ℕ) → IsLine text → length text ≤ 62
line_length text h = let s = h.piece.short in omega (arith, ap length h.is, length-append h.front (10 ∷ []))

device_length : (name kind from to state : List ℕ) → IsName name → IsPiece kind 12 → IsName from → IsName to → IsPiece state 6 → length (device_row name kind from to state) ≤ 70
device_length name kind from to state a b c d e =
    let whole = pair (codes "device") _ 6 60 (record { no_lf = refl; short = omega arith })
    (pair name _ 12 47 a (pair kind _ 12 34 b (pair from _ 12 21 c (pair to _ 12 8 d (pair state (codes "-") 6 1 e (record { no_lf = refl; short = omega arith })))))) in
    let s = whole.short in
    omega (arith, length-append (join_with_byte 44 (codes "device" ∷ name ∷ kind ∷ from ∷ to ∷ state ∷ codes "-" ∷ [])) (10 ∷ []))

source_length : (f : ℕ) → f < 1000 → length (source_row f) ≤ 20
source_length f lf =
    let whole = pair (codes "source") (source_name f) 6 12 (record { no_lf = refl; short = omega arith }) (source f lf) in
    let s = whole.short in
    omega (arith, length-append (join_with_byte 44 (codes "source" ∷ source_name f ∷ [])) (10 ∷ []))

meter_length : (f j k : ℕ) → f < 1000 → j < 1000 → k < 1000 → length (meter_row f j k) ≤ 70
meter_length f j k lf lj lk =
    let whole = pair (codes "meter") _ 5 29 (record { no_lf = refl; short = omega arith })
    (pair (meter_name f j k) _ 12 16 (meter f j k lf lj lk) (pair (service_name f j k) (decimal (1 + k % 3)) 12 3 (service f j k lf lj lk) (number (1 + k % 3) (omega arith)))) in
    let s = whole.short in
    omega (arith, length-append (join_with_byte 44 (codes "meter" ∷ meter_name f j k ∷ service_name f j k ∷ decimal (1 + k % 3) ∷ [])) (10 ∷ []))

closed : IsPiece (codes "closed") 6
closed = record { no_lf = refl; short = omega arith }

service_length : (f j k : ℕ) → f < 1000 → j < 1000 → k < 1000 → length (service_rows f j k) ≤ 140
service_length f j k lf lj lk =
    let a = device_length _ (codes "transformer") _ _ _ (transformer f j k lf lj lk) (record { no_lf = refl; short = omega arith }) (branch f j lf lj) (service f j k lf lj lk) closed in
    let b = meter_length f j k lf lj lk in
    omega (arith, length-append (transformer_row f j k) (meter_row f j k))

branch_length : (f j : ℕ) → f < 1000 → j < 1000 → length (branch_rows f j) ≤ 2870
unfolding branch_rows
branch_length f j lf lj =
    let a = device_length _ (codes "fuse") _ _ _ (fuse f j lf lj) (record { no_lf = refl; short = omega arith }) (place f j lf lj) (branch f j lf lj) closed in
    let b = each_length (service_rows f j) 140 0 20 (λ k l m. service_length f j k lf lj (omega arith)) in
    omega (arith, length-append (fuse_row f j) (each (service_rows f j) 0 20))

main_length : (f : ℕ) → f < 1000 → length (main_rows f) ≤ 3520
unfolding main_rows
main_length f lf =
    let a = source_length f lf in
    let b = device_length _ (codes "breaker") _ _ _ (breaker f lf) (record { no_lf = refl; short = omega arith }) (source f lf) (place f 0 lf (omega arith)) closed in
    let c = each_length (line_row f) 70 1 49
    (λ j l m. device_length _ (codes "line") _ _ _ (line f j lf (omega arith)) (record { no_lf = refl; short = omega arith }) (place f (j - 1) lf (omega arith)) (place f j lf (omega arith)) closed) in
    omega (arith, length-append (source_row f ++ breaker_row f) (each (line_row f) 1 49), length-append (source_row f) (breaker_row f))

feeder_length : (f : ℕ) → f < 1000 → length (feeder_rows f) ≤ 147_020
unfolding feeder_rows
feeder_length f lf =
    let a = main_length f lf in
    let b = each_length (branch_rows f) 2870 0 50 (λ j l m. branch_length f j lf (omega arith)) in
    omega (arith, length-append (main_rows f) (each (branch_rows f) 0 50))

tie_length : (f : ℕ) → f < 100 → length (tie_row f) ≤ 70
tie_length f lf =
    device_length (tie_name f) (codes "tie") (place_name f 49) (place_name (f + 1) 49) (codes "open") (tie f (omega arith)) (record { no_lf = refl; short = omega arith }) (place f 49 (omega arith) (omega arith)) (place (f + 1) 49 (omega arith) (omega arith))
    (record { no_lf = refl; short = omega arith })

network_length : (n : ℕ) → n ≤ 100 → length (network_text n) ≤ 15_000_000
unfolding network_text
network_length n m =
    let a = each_length feeder_rows 147_020 0 n (λ f l b. feeder_length f (omega arith)) in
    let b = each_length tie_row 70 0 (n - 1) (λ f l b. tie_length f (omega arith)) in
    omega (arith, length-append (each feeder_rows 0 n) (each tie_row 0 (n - 1)))

storm_length : (n : ℕ) → 1 ≤ n → n ≤ 100 → length (event_text n) ≤ 62_000_000
unfolding event_text
storm_length n l m =
    let a = each_length (event_line n) 62 0 (10_000 * n) (λ i b c. line_length (event_line n i) (line_line n i l m)) in
    omega arith

pub texts_short : TextsAreShort
texts_short n l m = (network_length n m, storm_length n l m)
