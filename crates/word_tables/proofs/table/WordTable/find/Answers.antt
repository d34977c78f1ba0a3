-- The first place in the list of the words.
use Rattle.std.proofs.Common.{ap, ◌∙◌}
use Rattle.word_tables.specs.Tables.{place_of}
use Rattle.word_tables.proofs.Places.{place_inside-words_of, place-found, place-first, place-none}
use Rattle.word_tables.proofs.table.WordTable.find.Goals as goal

pub returns-clause-place : goal.returns-clause-place
returns-clause-place g c =
    c.first_place.ensures
    ∙ place_inside-words_of c.self.inside.words.now c.args.text.now
    ∙ ap (λ words. place_of words c.args.text.now) c.self.view_is

pub returns-clause-found : goal.returns-clause-found
returns-clause-found g c = place-found c.args.self.now c.args.text.now c.first_place.result (returns-clause-place g c)

pub returns-clause-first : goal.returns-clause-first
returns-clause-first g c = place-first c.args.self.now c.args.text.now c.first_place.result (returns-clause-place g c)

pub returns-clause-none : goal.returns-clause-none
returns-clause-none g c = place-none c.args.self.now c.args.text.now c.first_place.result (returns-clause-place g c)
