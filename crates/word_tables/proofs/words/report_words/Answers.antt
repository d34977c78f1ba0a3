-- The words of a report are distinct.
use Rattle.std.proofs.Common.{map, refl}
use Rattle.word_tables.specs.Words.{report_words}
use Rattle.word_tables.proofs.Places.{held, all-first_places}
use Rattle.word_tables.proofs.words.report_words.Goals as goal

pub returns-clause-distinct : goal.returns-clause-distinct
returns-clause-distinct c = rw c.new.ensures ((all-first_places (map held report_words)).0 refl)
