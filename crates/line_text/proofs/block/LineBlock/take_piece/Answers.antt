-- The line that began before the piece, those within it, and the part behind them.
use Rattle.std.proofs.Common.{[], ◌∷◌, ◌++◌, refl, ap, sym, ◌∙◌, append_assoc}
use Rattle.std.proofs.lemmas.List.{append-nil}
use Rattle.line_text.specs.LineEnds.{without_cr}
use Rattle.line_text.specs.Cutting.{ended_from, part_from}
use Rattle.line_text.proofs.PieceLines.{ended-cut, part-cut, ended-none, part-none}
use Rattle.line_text.proofs.block.LineBlock.take_piece.Goals as goal

pub returns-in_default-clause-held : goal.returns-in_default-clause-held
returns-in_default-clause-held c = λ part held at h.
    rw (ended-none part c.args.piece.now (c.in_default.ensures.none.0 refl), append-nil held) h

pub returns-in_default-clause-part : goal.returns-in_default-clause-part
returns-in_default-clause-part c = λ part at.
    rw (part-none part c.args.piece.now (c.in_default.ensures.none.0 refl)) (c.extend.ensures.part part at)

pub returns-clause-held : goal.returns-clause-held
returns-clause-held c = λ part held at h.
    let front = c.in-Some.front.now in
    let behind = c.in-Some.behind.now in
    let tells = c.push-cut.ensures.line (part ++ front) (c.extend-2.ensures.part part at) in
    let begun = c.in_ok-push_cut.ensures held (without_cr (part ++ front) ∷ []) tells h in
    let all = c.in_ok-part.ensures.held (held ++ without_cr (part ++ front) ∷ []) begun in
    rw (ap (ended_from part) c.in-Some.ensures.whole ∙ ended-cut part front behind c.in-Some.ensures.first)
    (rw (append_assoc held (without_cr (part ++ front) ∷ []) (ended_from [] behind)) at all)

pub returns-clause-part : goal.returns-clause-part
returns-clause-part c = λ part at.
    let front = c.in-Some.front.now in
    let at_lf = c.push-cut.ensures.part (part ++ front) (c.extend-2.ensures.part part at) in
    rw (ap (part_from part) c.in-Some.ensures.whole ∙ part-cut part front c.in-Some.behind.now c.in-Some.ensures.first ∙ sym c.in_ok-part.ensures.part)
    (c.extend-3.ensures.part [] at_lf)
