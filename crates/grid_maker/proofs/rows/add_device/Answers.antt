-- The pieces of the row.
use Rattle.std.proofs.lemmas.Result.{on_ok_weaker}
use Rattle.grid_maker.proofs.RowPieces.{row-pieces}
use Rattle.grid_maker.proofs.rows.add_device.Goals as goal

pub returns : goal.returns
returns c =
    on_ok_weaker c.end_row.result
    (λ last. row-pieces _ _ _ _ _ _ _ _ _ _ _ _ _ _ _ _
    c.in_ok-extend_from_slice.ensures.items c.in_ok-add_name.ensures c.in_ok-add_word.ensures c.in_ok-add_name-2.ensures
    c.in_ok-add_name-3.ensures c.in_ok-add_word-2.ensures c.in_ok-add_word-3.ensures last)
    c.end_row.ensures
