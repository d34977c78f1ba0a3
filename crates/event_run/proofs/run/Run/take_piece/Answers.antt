-- The lines that end in one more piece.
use Rattle.std.proofs.Common.{[], refl, sym, ◌∙◌, subst, arith}
use Rattle.line_text.specs.Cutting.{IsAtPart, ended_from, part_from}
use Rattle.event_run.specs.Pieces.{WritesPart}
use Rattle.event_run.specs.declared.run.Run.{Run}
use Rattle.event_run.proofs.PieceLines.{ended_append, part_append, ended_few}
use Rattle.event_run.proofs.PutLines.{at_done, done}
use Rattle.event_run.proofs.Told.{memory_is_no_write, goes_still}
use Rattle.event_run.proofs.EventsRead.{piece_leads, none_taken}
use Rattle.event_run.proofs.run.Run.take_piece.Goals as goal

pub take_lines-requires-clause-taken : goal.take_lines-requires-clause-taken
take_lines-requires-clause-taken g c =
    let read = c.requires.read in
    (ended_from [] read.0, read.1, read.2, read.3.lines)

pub take_lines-requires-clause-left : goal.take_lines-requires-clause-left
take_lines-requires-clause-left g c =
    let read = c.requires.read in
    let part = part_from [] read.0 in
    let few = ended_few part c.args.piece.now in
    let room = c.requires.room in
    let ok = done c.take_piece.result (sym c.is_err.ensures.value ∙ c.if-is_err.false) in
    (ended_from part c.args.piece.now, c.reader-lines.ensures.left (ended_from part c.args.piece.now) (at_done c.take_piece.result _ c.take_piece.ensures.held ok part [] read.3.part c.clear.ensures), omega arith)

-- memory ran out before any line was taken
pub returns-then-is_err-clause-leads : goal.returns-then-is_err-clause-leads
returns-then-is_err-clause-leads g c = λ bytes before p has.
    subst (λ ls. WritesPart ls before (g.K.Sink.written c.args.out.now) p) (sym (ended_append [] bytes c.args.piece.now))
    (none_taken (ended_from [] bytes) (ended_from (part_from [] bytes) c.args.piece.now) before (g.K.Sink.written c.args.out.now) p c.args.self.now.taken c.args.engine.now has.lines)

pub returns-then-is_err-clause-goes : goal.returns-then-is_err-clause-goes
returns-then-is_err-clause-goes g c = goes_still c.args.engine.now c.args.engine.now (g.K.Sink.faults c.args.out.now) _ (record { grid = refl; engine = (_, c.requires.read.3.lines.has.engine) }) (λ e. memory_is_no_write e)

pub returns-clause-leads : goal.returns-clause-leads
returns-clause-leads g c = λ bytes before p has.
    let part = part_from [] bytes in
    let ok = done c.take_piece.result (sym c.is_err.ensures.value ∙ c.if-is_err.false) in
    let left = c.reader-lines.ensures.left (ended_from part c.args.piece.now) (at_done c.take_piece.result _ c.take_piece.ensures.held ok part [] has.part c.clear.ensures) in
    let run : Run = record { cutter = c.take_piece.new.cutter; block = c.take_piece.new.self; taken = c.take_lines.new.self; at_once = c.args.self.now.at_once } in
    piece_leads bytes c.args.piece.now before (g.K.Sink.written c.take_lines.new.out) p run c.take_lines.new.engine c.take_lines.result
    (subst (IsAtPart c.take_piece.new.cutter) (sym (part_append [] bytes c.args.piece.now)) (at_done c.take_piece.result _ c.take_piece.ensures.part ok part has.part))
    (c.take_lines.ensures.leads (ended_from [] bytes) (ended_from part c.args.piece.now) before p left has.lines)

pub returns-clause-goes : goal.returns-clause-goes
returns-clause-goes g c = c.take_lines.ensures.goes
