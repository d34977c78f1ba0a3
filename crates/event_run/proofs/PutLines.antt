-- Lines that were taken, and what becomes of their entries.
use Rattle.std.proofs.Common.{◌≡◌, true, false, refl, sym, ap, ◌∙◌, subst, arith, ℕ, List, [], ◌∷◌, ◌++◌, append-nil, append_assoc, Option, Result, Ok, Err}
use Rattle.std.specs.Prelude.{OnOk, OnErr, is_err}
use Rattle.std.specs.Result.{IsErrAnd}
use Rattle.std.specs.Io.KnownBytes.{Appends}
use Rattle.grid_model.specs.Parts.{Parts}
use Rattle.history_rules.specs.Output.{entries}
use Rattle.outage_engine.specs.Engined.{Engined}
use Rattle.outage_ports.specs.Bytes.{AppendsPrefix}
use Rattle.event_run.specs.declared.taken.Taken.{Taken}
use Rattle.event_run.specs.declared.taken.LineStop.{LineStop}
use Rattle.event_run.specs.declared.taken.LineStop.TheVariants as cut
use Rattle.event_run.specs.declared.reading.EventsStop.{EventsStop}
use Rattle.event_run.specs.declared.reading.EventsStop.TheVariants as ends
use Rattle.event_run.specs.Pieces.{HasTaken, HasPut, HasWritten, IsEmptied, IsOneTooMany, TakesNext, Writes, Enters, StopsAmong, MeetsOne, WritesPart, LeadsNext, LeadsAmong}
use Rattle.event_run.proofs.Written.{appends_both, appends_same, prefix_whole, prefix_of_more, prefix_behind}

-- what an answer says
pub done : {E : Type 0} (r : Result (Unit {0}) E) → is_err r ≡ false → r ≡ Ok tt
done (Ok tt) e = refl
done (Err x) e = cc

pub at_done : {E : Type 0} (r : Result (Unit {0}) E) (P : Type 0) → OnOk r P → r ≡ Ok tt → P
at_done r P h e = subst (λ x. OnOk x P) e h

pub at_failed : {E : Type 0} (r : Result (Unit {0}) E) (P : Type 0) → OnErr r P → is_err r ≡ true → P
at_failed (Ok tt) P h e = cc
at_failed (Err x) P h e = h

-- what stands where a call didn't fail, stands where a later one didn't
pub entered_on : (before now : Option (List ℕ)) (taken new : Taken) (answer : Result (Unit {0}) LineStop) (result : Result (Unit {0}) EventsStop) (P : Type 0) → Enters before now taken new answer result → OnOk answer P → OnOk result P
entered_on before now taken new answer (Ok tt) P enters ok = subst (λ r. OnOk r P) enters.0 ok
entered_on before now taken new answer (Err stop) P enters ok = tt

-- the entries of a line that was taken are written
pub entered_all : (before now : Option (List ℕ)) (taken new : Taken) (answer : Result (Unit {0}) LineStop) (result : Result (Unit {0}) EventsStop) → answer ≡ Ok tt → Writes before now taken new result → Enters before now taken new answer result
entered_all before now taken new answer (Ok tt) is writes = (is, writes.0, writes.1)
entered_all before now taken new answer (Err ends.WriteFailed) is part = (λ e. cc, part)
entered_all before now taken new answer (Err ends.TooManyLines) is none = absurd none
entered_all before now taken new answer (Err ends.Memory) is none = absurd none
entered_all before now taken new answer (Err ends.ReadFailed) is none = absurd none
entered_all before now taken new answer (Err ends.TooManyBytes) is none = absurd none

-- or their write stops at a line that is one too many
pub entered_part : (before now : Option (List ℕ)) (taken new : Taken) (answer : Result (Unit {0}) LineStop) (stop : EventsStop) (result : Result (Unit {0}) EventsStop) → answer ≡ Err cut.TooMany → IsErrAnd result (λ s. s ≡ stop)
    → Writes before now taken new (Err stop) → Enters before now taken new answer result
entered_part before now taken new answer stop (Ok tt) is passed writes = absurd passed
entered_part before now taken new answer stop (Err named) is passed writes = by_stop named (subst (λ s. Writes before now taken new (Err s)) (sym passed) writes)
  where
    by_stop : (s : EventsStop) → Writes before now taken new (Err s) → Enters before now taken new answer (Err s)
    by_stop ends.WriteFailed part = (λ e. cc, part)
    by_stop ends.TooManyLines none = absurd none
    by_stop ends.Memory none = absurd none
    by_stop ends.ReadFailed none = absurd none
    by_stop ends.TooManyBytes none = absurd none

-- what is printed of lines, by the network of an engine
pub printed_by : (lines : List (List ℕ)) (written : List ℕ) (taken : Taken) (e : Engined) (g : Parts) → HasTaken lines written taken e → e.grid ≡ g → written ++ taken.entries.bytes.items ≡ entries g 1 [] lines
printed_by lines written taken e g has grid = has.printed ∙ ap (λ p. entries p 1 [] lines) grid

-- the entries that were kept are written
pub put_written : (lines : List (List ℕ)) (before mid now : Option (List ℕ)) (taken new : Taken) (e : Engined) → HasPut lines before mid taken e → Appends mid now taken.entries.bytes.items → IsEmptied taken new
    → HasPut lines before now new e
put_written lines before mid now taken new e put more emptied = record {
  written = put.written ++ taken.entries.bytes.items;
  has = record {
    numbers = emptied.number ∙ put.has.numbers;
    counts = emptied.counted ∙ put.has.counts;
    few = put.has.few;
    engine = put.has.engine;
    printed = ap (λ xs. (put.written ++ taken.entries.bytes.items) ++ xs) emptied.entries ∙ append-nil (put.written ++ taken.entries.bytes.items) ∙ put.has.printed;
  };
  out = appends_both before mid now put.written taken.entries.bytes.items put.out more;
}

-- a front part of them is
pub part_put : (lines rest all : List (List ℕ)) (before mid now : Option (List ℕ)) (g : Parts) (taken : Taken) (e : Engined) → all ≡ lines ++ rest → e.grid ≡ g
    → HasPut lines before mid taken e → AppendsPrefix mid now taken.entries.bytes.items → WritesPart all before now g
part_put lines rest all before mid now g taken e are grid put part = record {
  first = lines;
  rest = rest;
  are = are;
  few = put.has.few;
  written = subst (AppendsPrefix before now) (printed_by lines put.written taken e g put.has grid) (prefix_behind before mid now put.written taken.entries.bytes.items put.out part);
}

-- none of them is
pub none_put : (lines rest all : List (List ℕ)) (before now : Option (List ℕ)) (g : Parts) (taken : Taken) (e : Engined) → all ≡ lines ++ rest → e.grid ≡ g → HasPut lines before now taken e → WritesPart all before now g
none_put lines rest all before now g taken e are grid put = record {
  first = lines;
  rest = rest;
  are = are;
  few = put.has.few;
  written = subst (AppendsPrefix before now) (printed_by lines put.written taken e g put.has grid) (prefix_of_more before now put.written taken.entries.bytes.items (prefix_whole before now put.written put.out));
}

-- lines whose entries are all written, and none is kept
pub all_put : (lines : List (List ℕ)) (before mid now : Option (List ℕ)) (g : Parts) (taken new : Taken) (e : Engined) → e.grid ≡ g → HasPut lines before mid taken e → Appends mid now taken.entries.bytes.items → IsEmptied taken new
    → HasWritten lines before now g new e
all_put lines before mid now g taken new e grid put more emptied =
    let printed = printed_by lines put.written taken e g put.has grid in record {
      has = record {
        numbers = emptied.number ∙ put.has.numbers;
        counts = emptied.counted ∙ put.has.counts;
        few = put.has.few;
        engine = put.has.engine;
        printed = ap (λ xs. entries g 1 [] lines ++ xs) emptied.entries ∙ append-nil (entries g 1 [] lines) ∙ ap (λ p. entries p 1 [] lines) (sym grid);
      };
      written = appends_same before now (put.written ++ taken.entries.bytes.items) (entries g 1 [] lines) printed (appends_both before mid now put.written taken.entries.bytes.items put.out more);
      grid = grid;
    }

-- and such lines are put
pub put_of : (lines : List (List ℕ)) (before now : Option (List ℕ)) (g : Parts) (taken : Taken) (e : Engined) → HasWritten lines before now g taken e → HasPut lines before now taken e
put_of lines before now g taken e has = record { written = entries g 1 [] lines; has = has.has; out = has.written }

-- behind the last line
pub last_put : (all : List (List ℕ)) (before mid now : Option (List ℕ)) (g : Parts) (taken new : Taken) (e : Engined) (result : Result (Unit {0}) EventsStop) → e.grid ≡ g → HasPut all before mid taken e
    → Enters mid now taken new (Ok tt) result → LeadsAmong all before now g new e result
last_put all before mid now g taken new e (Ok tt) grid put enters = all_put all before mid now g taken new e grid put enters.1 enters.2
last_put all before mid now g taken new e (Err ends.WriteFailed) grid put enters = part_put all [] all before mid now g taken e (sym (append-nil all)) grid put enters.1
last_put all before mid now g taken new e (Err ends.TooManyLines) grid put enters = (let none = enters.0 in cc)
last_put all before mid now g taken new e (Err ends.Memory) grid put enters = (let none = enters.0 in cc)
last_put all before mid now g taken new e (Err ends.ReadFailed) grid put enters = absurd enters
last_put all before mid now g taken new e (Err ends.TooManyBytes) grid put enters = absurd enters

-- one more line, of which this is the answer
module _ (lines : List (List ℕ)) (line : List ℕ) (before mid now : Option (List ℕ)) (g : Parts) (old taken new : Taken) (e more : Engined) (same : e.grid ≡ g) (grid : more.grid ≡ g) (put : HasPut lines before mid old e) where
  -- it was taken, and its entries are kept
  pub next_kept : HasTaken (lines ++ line ∷ []) put.written taken more → HasPut (lines ++ line ∷ []) before mid taken more
  next_kept has = record { written = put.written; has = has; out = put.out }

  -- a write failed
  next_failed : (answer : Result (Unit {0}) LineStop) → TakesNext lines line put.written old taken more answer → (answer ≡ Err cut.Memory → ⊥)
      → AppendsPrefix mid now taken.entries.bytes.items → WritesPart (lines ++ line ∷ []) before now g
  next_failed (Ok tt) has none part =
      part_put (lines ++ line ∷ []) [] (lines ++ line ∷ []) before mid now g taken more (sym (append-nil (lines ++ line ∷ []))) grid (next_kept has) part
  next_failed (Err cut.TooMany) many none part =
      part_put lines (line ∷ []) (lines ++ line ∷ []) before mid now g old e refl same put (subst (λ (t : Taken). AppendsPrefix mid now t.entries.bytes.items) many.1 part)
  next_failed (Err cut.Memory) takes none part = absurd (none refl)

  -- the line is one too many
  next_many : IsOneTooMany old line → taken ≡ old → Appends mid now taken.entries.bytes.items → MeetsOne (lines ++ line ∷ []) before now g
  next_many over kept out =
      let full = over.full in
      let counts = put.has.counts in
      let few = put.has.few in
      let printed = ap (λ (t : Taken). put.written ++ t.entries.bytes.items) kept ∙ printed_by lines put.written old e g put.has same in record {
        first = lines;
        line = line;
        rest = [];
        are = refl;
        full = omega arith;
        counts = over.counts;
        written = appends_same before now (put.written ++ taken.entries.bytes.items) (entries g 1 [] lines) printed (appends_both before mid now put.written taken.entries.bytes.items put.out out);
      }

  pub next_put : (answer : Result (Unit {0}) LineStop) (result : Result (Unit {0}) EventsStop) → TakesNext lines line put.written old taken more answer → Enters mid now taken new answer result
      → LeadsNext (lines ++ line ∷ []) before now g new more result
  next_put answer (Ok tt) takes enters =
      put_written (lines ++ line ∷ []) before mid now taken new more (next_kept (subst (TakesNext lines line put.written old taken more) enters.0 takes)) enters.1 enters.2
  next_put answer (Err ends.WriteFailed) takes enters = next_failed answer takes enters.0 enters.1
  next_put answer (Err ends.TooManyLines) takes enters = (let many = subst (TakesNext lines line put.written old taken more) enters.0 takes in next_many many.0 many.1 enters.1)
  next_put answer (Err ends.Memory) takes enters =
      none_put lines (line ∷ []) (lines ++ line ∷ []) before now g old e refl same (record { written = put.written; has = put.has; out = subst (λ (o : Option (List ℕ)). Appends before o put.written) (sym enters.1) put.out })
  next_put answer (Err ends.ReadFailed) takes enters = absurd enters
  next_put answer (Err ends.TooManyBytes) takes enters = absurd enters

-- where a run stops among lines, it stops among these and more
pub stops_more : (all more : List (List ℕ)) (before now : Option (List ℕ)) (g : Parts) (stop : EventsStop) → StopsAmong all before now g stop → StopsAmong (all ++ more) before now g stop
stops_more all more before now g ends.WriteFailed part = record {
  first = part.first;
  rest = part.rest ++ more;
  are = ap (λ z. z ++ more) part.are ∙ append_assoc part.first part.rest more;
  few = part.few;
  written = part.written;
}
stops_more all more before now g ends.Memory part = record {
  first = part.first;
  rest = part.rest ++ more;
  are = ap (λ z. z ++ more) part.are ∙ append_assoc part.first part.rest more;
  few = part.few;
  written = part.written;
}
stops_more all more before now g ends.TooManyLines met = record {
  first = met.first;
  line = met.line;
  rest = met.rest ++ more;
  are = ap (λ z. z ++ more) met.are ∙ append_assoc met.first (met.line ∷ met.rest) more;
  full = met.full;
  counts = met.counts;
  written = met.written;
}
stops_more all more before now g ends.ReadFailed none = absurd none
stops_more all more before now g ends.TooManyBytes none = absurd none
