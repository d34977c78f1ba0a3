-- The lines of a block.
use Rattle.std.proofs.Common.{◌≡◌, ◌≤◌, ◌+◌, ◌<◌, ◌++◌, ◌∷◌, [], ℕ, List, refl, sym, ap, ◌∙◌, subst, arith, Option, Some, Result, Err, length}
use Rattle.grid_model.specs.declared.history.Event.{Event}
use Rattle.event_reader.specs.declared.refusal.ReadRefusal.{ReadRefusal}
use Rattle.event_reader.specs.declared.refusal.ReadRefusal.TheVariants.{Memory}
use Rattle.std.proofs.lemmas.List.{length-append}
use Rattle.grid_model.specs.Parts.{Parts}
use Rattle.event_reader.specs.Reading.{IsReading}
use Rattle.line_text.specs.BlockReading.{lines_left}
use Rattle.run_rules.proofs.FaultsTold.{left_count}
use Rattle.event_run.specs.declared.reading.EventsStop.TheVariants.{WriteFailed}
use Rattle.event_run.specs.Pieces.{StopsAmong, LeadsAmong}
use Rattle.event_run.proofs.BlockLines.{front_none, next_of, none_of, front_more, front_stops, front_all}
use Rattle.event_run.proofs.PutLines.{last_put}
use Rattle.event_run.proofs.Told.{ok_is_no_stop, stop_passed, stays_on, goes_last, goes_passed}
use Rattle.event_run.proofs.taken.Taken.take_lines.Goals as goal

pub lines-init : goal.lines-init
lines-init g c = record {
  front = λ sofar all before p left has. front_none sofar all before (g.K.Sink.written c.args.out.now) p c.args.lines.now c.args.self.now c.args.engine.now left has;
  engine = record { grid = refl; engine = (_, c.requires.taken.3.has.engine) };
  out = refl;
}

pub take_next-requires-clause-taken : goal.take_next-requires-clause-taken
take_next-requires-clause-taken g c =
    let taken = c.requires.taken in
    let left = c.requires.left in
    let had = c.lines.invariant.front taken.0 left.0 taken.1 taken.2 left.1 taken.3 in
    (taken.0 ++ had.front, had.put.written, had.put.has)

pub take_next-requires-clause-read : goal.take_next-requires-clause-read
take_next-requires-clause-read g c =
    let taken = c.requires.taken in
    let left = c.requires.left in
    let had = c.lines.invariant.front taken.0 left.0 taken.1 taken.2 left.1 taken.3 in
    let next = next_of c.lines.lines c.grid.result.now c.next_event.result c.next_event.ensures.end c.next_event.ensures.read had.rest c.in-Some.read had.left c.in-Some.is in
    (next.line, subst (λ (p : Parts). IsReading p next.line c.in-Some.read) c.grid.ensures next.reading)

-- a line is left, so the number isn't yet that of all
line_room : (sofar all front rest behind : List (List ℕ)) (line : List ℕ) (before number : ℕ) → before + length all ≤ 4294967294 → before ≡ length sofar → number ≡ length (sofar ++ front) → all ≡ front ++ rest → rest ≡ line ∷ behind
    → number < 4294967295
line_room sofar all front rest behind line before number room first now are next =
    let whole = ap length are ∙ length-append front rest in
    let more = ap length next in
    let both = length-append sofar front in
    omega arith

pub take_next-requires-clause-room : goal.take_next-requires-clause-room
take_next-requires-clause-room g c =
    let taken = c.requires.taken in
    let left = c.requires.left in
    let had = c.lines.invariant.front taken.0 left.0 taken.1 taken.2 left.1 taken.3 in
    let next = next_of c.lines.lines c.grid.result.now c.next_event.result c.next_event.ensures.end c.next_event.ensures.read had.rest c.in-Some.read had.left c.in-Some.is in
    line_room taken.0 left.0 had.front had.rest next.behind next.line c.args.self.now.number c.lines.self.number left.2 taken.3.has.numbers had.put.has.numbers had.are next.are

some_kept : (found : Option (Result (Option Event) ReadRefusal)) (read : Result (Option Event) ReadRefusal) → found ≡ Some read → (read ≡ Err Memory → ⊥) → found ≡ Some (Err Memory) → ⊥
some_kept found read is kept e = kept cc

pub lines-preserved : goal.lines-preserved
lines-preserved g c =
    let inv = c.lines.invariant in record {
      front = λ sofar all before p left has.
          let had = inv.front sofar all before p left has in
          let next = next_of c.lines.lines c.grid.result.now c.next_event.result c.next_event.ensures.end c.next_event.ensures.read had.rest c.in-Some.read had.left c.in-Some.is in
          front_more sofar all before (g.K.Sink.written c.lines.out) (g.K.Sink.written c.take_next.new.out) c.lines.lines c.next_event.new.lines c.lines.self c.take_next.new.self c.lines.engine c.take_next.new.engine c.grid.result.now c.in-Some.read had next
          (λ line rest at. c.next_event.ensures.rest line rest at (some_kept c.next_event.result c.in-Some.read c.in-Some.is c.in_ok-take_next.ensures.memory))
          (λ lines line reading put. c.in_ok-take_next.ensures.leads lines line before (subst (λ (q : Parts). IsReading q line c.in-Some.read) c.grid.ensures reading) put);
      engine = stays_on c.args.engine.now c.lines.engine c.take_next.new.engine inv.engine.grid c.take_next.ensures.goes.engine;
      out = left_count (g.K.Sink.faults c.lines.out) (g.K.Sink.faults c.take_next.new.out) _ c.in_ok-take_next.ensures.goes.faults (λ e. ok_is_no_stop _ WriteFailed e) ∙ inv.out;
    }

one_less : (a b : ℕ) → a ≡ b + 1 → b < a
one_less a b e = omega arith

pub lines-smaller : goal.lines-smaller
lines-smaller g c = one_less (lines_left c.lines.lines) (lines_left c.next_event.new.lines) (c.in-Some.ensures.count c.in_ok-take_next.ensures.memory)

pub returns-in_err-take_next-clause-leads : goal.returns-in_err-take_next-clause-leads
returns-in_err-take_next-clause-leads g c = λ sofar all before p left has.
    let inv = c.lines.invariant in
    let had = inv.front sofar all before p left has in
    let next = next_of c.lines.lines c.grid.result.now c.next_event.result c.next_event.ensures.end c.next_event.ensures.read had.rest c.in-Some.read had.left c.in-Some.is in
    subst (LeadsAmong (sofar ++ all) before (g.K.Sink.written c.take_next.new.out) p c.take_next.new.self c.take_next.new.engine) (sym (stop_passed c.from_residual.result c.in_err-take_next.field-0.0 c.from_residual.ensures.1))
    (front_stops sofar all before (g.K.Sink.written c.lines.out) (g.K.Sink.written c.take_next.new.out) c.lines.lines c.lines.self c.lines.engine c.grid.result.now p c.in-Some.read c.in_err-take_next.field-0.0 had next
    (λ lines line reading put. subst (λ (q : Parts). StopsAmong (lines ++ line ∷ []) before (g.K.Sink.written c.take_next.new.out) q c.in_err-take_next.field-0.0) (inv.engine.grid ∙ has.grid)
    (c.in_err-take_next.ensures.leads lines line before (subst (λ (q : Parts). IsReading q line c.in-Some.read) c.grid.ensures reading) put)))

pub returns-in_err-take_next-clause-goes : goal.returns-in_err-take_next-clause-goes
returns-in_err-take_next-clause-goes g c =
    goes_last c.args.engine.now c.lines.engine c.take_next.new.engine _ _ _ _ c.lines.invariant.engine.grid c.lines.invariant.out
    (goes_passed c.lines.engine c.take_next.new.engine _ _ c.take_next.result c.from_residual.result c.in_err-take_next.field-0.0 WriteFailed c.in_err-take_next.was
    (stop_passed c.from_residual.result c.in_err-take_next.field-0.0 c.from_residual.ensures.1) c.take_next.ensures.goes)

pub returns-clause-leads : goal.returns-clause-leads
returns-clause-leads g c = λ sofar all before p left has.
    let inv = c.lines.invariant in
    let had = inv.front sofar all before p left has in
    last_put (sofar ++ all) before (g.K.Sink.written c.lines.out) (g.K.Sink.written c.put_entries.new.out) p c.lines.self c.put_entries.new.self c.lines.engine c.put_entries.result (inv.engine.grid ∙ has.grid)
    (front_all sofar all before (g.K.Sink.written c.lines.out) c.lines.lines c.lines.self c.lines.engine had (none_of c.lines.lines c.grid.result.now c.next_event.result c.next_event.ensures.read c.in_default.not-Some had.rest had.left))
    c.put_entries.ensures.entered

pub returns-clause-goes : goal.returns-clause-goes
returns-clause-goes g c =
    goes_last c.args.engine.now c.lines.engine c.lines.engine _ _ _ _ c.lines.invariant.engine.grid c.lines.invariant.out
    (record { engine = record { grid = refl; engine = c.lines.invariant.engine.engine }; faults = c.put_entries.ensures.faults })
