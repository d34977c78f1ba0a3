-- The lines that end in more bytes.
use Rattle.std.proofs.Common.{◌≡◌, ℕ, ◌+◌, ◌≤◌, Bool, true, false, cond, refl, sym, ap, ◌∙◌, arith, List, [], ◌∷◌, ◌++◌, length, append_assoc, Option}
use Rattle.std.specs.Prelude.{◌==◌}
use Rattle.std.proofs.lemmas.List.{length-append}
use Rattle.event_rules.specs.Lines.{lines}
use Rattle.line_text.specs.LineEnds.{without_cr}
use Rattle.line_text.specs.Cutting.{IsAtPart, line_ended, part_with, last_line, lines_from, ended_from, part_from}
use Rattle.line_text.specs.Laws.{LinesFromParts}
use Rattle.history_rules.specs.Run.{history_in}
use Rattle.history_rules.specs.Output.{entries}
use Rattle.outage_engine.specs.Engined.{Engined, IsEngineAfter}
use Rattle.event_run.specs.declared.run.Run.{Run}
use Rattle.event_run.specs.Pieces.{HasRead}
use Rattle.event_run.proofs.Written.{appends_none}

-- more bytes behind some
pub ended_append : (part xs ys : List ℕ) → ended_from part (xs ++ ys) ≡ ended_from part xs ++ ended_from (part_from part xs) ys
unfolding ended_from part_from
ended_append part [] ys = refl
ended_append part (b ∷ xs) ys =
    ap (λ z. line_ended part b ++ z) (ended_append (part_with part b) xs ys)
    ∙ sym (append_assoc (line_ended part b) (ended_from (part_with part b) xs) (ended_from (part_from (part_with part b) xs) ys))

pub part_append : (part xs ys : List ℕ) → part_from part (xs ++ ys) ≡ part_from (part_from part xs) ys
unfolding part_from
part_append part [] ys = refl
part_append part (b ∷ xs) ys = part_append (part_with part b) xs ys

-- all lines
lines_parted : (part xs : List ℕ) → lines_from part xs ≡ ended_from part xs ++ last_line (part_from part xs)
unfolding lines_from ended_from part_from
lines_parted part [] = refl
lines_parted part (b ∷ xs) =
    ap (λ z. line_ended part b ++ z) (lines_parted (part_with part b) xs)
    ∙ sym (append_assoc (line_ended part b) (ended_from (part_with part b) xs) (last_line (part_from (part_with part b) xs)))

pub lines_are : LinesFromParts → (bytes : List ℕ) → lines bytes ≡ ended_from [] bytes ++ last_line (part_from [] bytes)
lines_are law bytes = sym (law [] bytes refl) ∙ lines_parted [] bytes

-- no more lines end than there are bytes
ended_size : (part : List ℕ) (b n m : ℕ) → n ≤ m → length (line_ended part b) + n ≤ 1 + m
ended_size part b n m l = by_end (b == 10)
  where
    by_end : (end : Bool) → length (cond end (without_cr part ∷ []) []) + n ≤ 1 + m
    by_end true = omega arith
    by_end false = omega arith

pub ended_few : (part bytes : List ℕ) → length (ended_from part bytes) ≤ length bytes
unfolding ended_from
ended_few part [] = omega arith
ended_few part (b ∷ rest) =
    let later = ended_size part b (length (ended_from (part_with part b) rest)) (length rest) (ended_few (part_with part b) rest) in
    let size = length-append (line_ended part b) (ended_from (part_with part b) rest) in
    omega arith

-- and one line at most ends with the text
pub last_few : (part : List ℕ) → length (last_line part) ≤ 1
last_few [] = omega arith
last_few (b ∷ part) = omega arith

-- a run before the first byte
pub read_none : (run : Run) (e : Engined) (now : Option (List ℕ)) → run.taken.number ≡ 0 → run.taken.counted ≡ 0 → run.taken.entries.bytes.items ≡ [] → IsAtPart run.cutter [] → IsEngineAfter [] e
    → HasRead [] now now e.grid run e
unfolding ended_from part_from history_in entries
read_none run e now number count text part after = record {
  lines = record {
    has = record { numbers = number; counts = count; few = omega arith; engine = after; printed = text };
    written = appends_none now;
    grid = refl;
  };
  part = part;
}
