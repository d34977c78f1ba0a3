-- The record that was found.
use Rattle.line_text.proofs.RecordsKept.{row_read, row_left}
use Rattle.line_text.proofs.block_reader.read_row.Goals as goal

pub returns-then-is_found-clause-fields : goal.returns-then-is_found-clause-fields
returns-then-is_found-clause-fields c = λ line rest e h.
    let found = c.is_found.ensures c.if-is_found.true in
    row_read c.args.records.now c.read_byte_record.new.self line rest _ e h ((rw found at c.read_byte_record.ensures.reads) h.trim h.ready)

pub returns-then-is_found-clause-rest : goal.returns-then-is_found-clause-rest
returns-then-is_found-clause-rest c = λ line rest e h.
    let found = c.is_found.ensures c.if-is_found.true in
    row_left c.args.records.now c.read_byte_record.new.self line rest _ e h ((rw found at c.read_byte_record.ensures.reads) h.trim h.ready) ((rw found at c.read_byte_record.ensures.ready) h.trim)
