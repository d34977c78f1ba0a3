-- A line without a record.
use Rattle.line_text.proofs.RecordsKept.{none_kept}
use Rattle.line_text.proofs.block_reader.read_as.Goals as goal

pub returns-in_default-clause-fields : goal.returns-in_default-clause-fields
returns-in_default-clause-fields c = λ line rest e h n. absurd (c.in_default.not-Row n)

pub returns-in_default-clause-rest : goal.returns-in_default-clause-rest
returns-in_default-clause-rest c = λ line rest e h. none_kept c.args.sort c.args.records.now line rest e c.in_default.not-Row h
