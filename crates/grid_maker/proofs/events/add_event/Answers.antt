-- The pieces of the line.
use Rattle.std.proofs.Common.{rules, ◌≡◌, ◌+◌, ◌*◌}
use Rattle.std.proofs.lemmas.Result.{on_ok_weaker}
use Rattle.history_rules.specs.StampTexts.{stamp_text}
use Rattle.grid_maker.proofs.EventPieces.{event_pieces}
use Rattle.grid_maker.proofs.events.add_event.Goals as goal

pub returns : goal.returns
returns c =
    let at : c.second_text.result ≡ stamp_text (1_704_067_200 + 7 * c.args.line) = search rules in
    on_ok_weaker c.end_row.result
    (λ last. event_pieces _ _ _ _ _ _ _ _ _ _ _ _ at c.happening_of.ensures
    c.in_ok-extend_from_slice.ensures.items c.in_ok-add_happening.ensures last)
    c.end_row.ensures
