-- Each word of a table is found at its place.
use Rattle.word_tables.proofs.Places.{place_of-slice_get}
use Rattle.word_tables.proofs.word_is_at_place.Goals as goal

pub returns : goal.returns
returns c = place_of-slice_get
