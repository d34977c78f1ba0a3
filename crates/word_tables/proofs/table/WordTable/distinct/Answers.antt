-- Words are distinct exactly where each stands at its first place.
use Rattle.word_tables.proofs.Places.{all-first_places}
use Rattle.word_tables.proofs.table.WordTable.distinct.Goals as goal

pub returns : goal.returns
returns g c = rw (← c.self.view_is, c.are_first_places.ensures) (all-first_places c.self.inside.words.now)
