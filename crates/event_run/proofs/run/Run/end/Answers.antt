-- The end of the text.
use Rattle.std.proofs.Common.{[], refl, sym, ◌∙◌, subst, arith}
use Rattle.line_text.specs.Cutting.{ended_from, part_from, last_line}
use Rattle.event_run.specs.Pieces.{WritesPart}
use Rattle.event_run.proofs.PieceLines.{lines_are, last_few}
use Rattle.event_run.proofs.PutLines.{at_done, done}
use Rattle.event_run.proofs.Told.{memory_is_no_write, goes_still}
use Rattle.event_run.proofs.EventsRead.{end_leads, none_taken}
use Rattle.event_run.proofs.run.Run.end.Goals as goal

pub take_lines-requires-clause-taken : goal.take_lines-requires-clause-taken
take_lines-requires-clause-taken g c =
    let read = c.requires.read in
    (ended_from [] read.0, read.1, read.2, read.3.lines)

pub take_lines-requires-clause-left : goal.take_lines-requires-clause-left
take_lines-requires-clause-left g c =
    let read = c.requires.read in
    let part = part_from [] read.0 in
    let few = last_few part in
    let room = c.requires.room in
    let ok = done c.take_end.result (sym c.is_err.ensures.value ∙ c.if-is_err.false) in
    (last_line part, c.reader-lines.ensures.left (last_line part) (at_done c.take_end.result _ c.take_end.ensures.held ok part [] read.3.part c.clear.ensures), omega arith)

-- memory ran out before a last line was taken
pub returns-then-is_err-clause-leads : goal.returns-then-is_err-clause-leads
returns-then-is_err-clause-leads g c = λ bytes before p has.
    subst (λ ls. WritesPart ls before (g.K.Sink.written c.args.out.now) p) (sym (lines_are c.lines_from_parts.ensures bytes))
    (none_taken (ended_from [] bytes) (last_line (part_from [] bytes)) before (g.K.Sink.written c.args.out.now) p c.args.self.now.taken c.args.engine.now has.lines)

pub returns-then-is_err-clause-goes : goal.returns-then-is_err-clause-goes
returns-then-is_err-clause-goes g c = goes_still c.args.engine.now c.args.engine.now (g.K.Sink.faults c.args.out.now) _ (record { grid = refl; engine = (_, c.requires.read.3.lines.has.engine) }) (λ e. memory_is_no_write e)

pub returns-clause-leads : goal.returns-clause-leads
returns-clause-leads g c = λ bytes before p has.
    let part = part_from [] bytes in
    let ok = done c.take_end.result (sym c.is_err.ensures.value ∙ c.if-is_err.false) in
    let left = c.reader-lines.ensures.left (last_line part) (at_done c.take_end.result _ c.take_end.ensures.held ok part [] has.part c.clear.ensures) in
    end_leads c.lines_from_parts.ensures bytes before (g.K.Sink.written c.take_lines.new.out) p c.take_lines.new.self c.take_lines.new.engine c.take_lines.result
    (c.take_lines.ensures.leads (ended_from [] bytes) (last_line part) before p left has.lines)

pub returns-clause-goes : goal.returns-clause-goes
returns-clause-goes g c = c.take_lines.ensures.goes
