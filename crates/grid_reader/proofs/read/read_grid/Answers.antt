use Rattle.std.proofs.Common.{◌∙◌, sym}
use Rattle.grid_reader.proofs.ReadTexts.{text_started, text_complete, grid_is_read}
use Rattle.grid_reader.proofs.read.read_grid.Goals as goal

pub into_grid-requires : goal.into_grid-requires
into_grid-requires c = text_complete c.args.bytes.now c.in_ok-read_draft.field-0 c.in_ok-read_draft.ensures.draft

pub returns-clause-grid : goal.returns-clause-grid
returns-clause-grid c = grid_is_read c.into_grid.result c.args.bytes.now c.in_ok-read_draft.field-0 c.in_ok-read_draft.ensures.draft c.into_grid.ensures.grid

pub returns-clause-refused : goal.returns-clause-refused
returns-clause-refused c = λ line rule e.
    sym (text_started c.args.bytes.now c.in_ok-read_draft.field-0 c.in_ok-read_draft.ensures.draft) ∙ c.into_grid.ensures.refused line rule e
