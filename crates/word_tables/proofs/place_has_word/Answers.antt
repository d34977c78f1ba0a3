-- What is found at a place is the word there.
use Rattle.word_tables.proofs.Places.{slice_get-place}
use Rattle.word_tables.proofs.place_has_word.Goals as goal

pub returns : goal.returns
returns c = slice_get-place
