-- The bytes of a word that was matched make the word.
use Rattle.std.proofs.Common.{rules, ◌≡◌, arith, refl}
use Rattle.std.specs.Prelude.{codes}
use Rattle.std.proofs.lemmas.Slice.Eq.{text_from_reads}
use Rattle.grid_reader.proofs.words.state_named.Goals as goal

pub returns-in-closed : goal.returns-in-closed
returns-in-closed c =
    let e : c.args.word.now ≡ codes "closed" = text_from_reads c.args.word.now (codes "closed") (omega arith) (search rules) in
    rw e refl
