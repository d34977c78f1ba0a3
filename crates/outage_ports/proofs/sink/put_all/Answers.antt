use Rattle.std.proofs.Common.{◌∙◌, arith}
use Rattle.outage_ports.proofs.Pieces.{appends_slice, slice_bound}
use Rattle.outage_ports.proofs.sink.put_all.Goals as goal

pub loop-done-preserved : goal.loop-done-preserved
loop-done-preserved g c =
    let inv = c.loop-done.invariant in (
      slice_bound c.args.piece.now c.loop-done.done c.in_ok-done.field-0 inv.0 c.in_ok-done.ensures.bound,
      appends_slice (g.K.Sink.written c.args.out.now) (g.K.Sink.written c.loop-done.out) (g.K.Sink.written c.write.new.self) c.args.piece.now c.loop-done.done c.in_ok-done.field-0 inv.1 c.in_ok-done.ensures.bytes,
      λ none. absurd (omega (arith, c.in_ok-done.ensures.some)),
      c.in_ok-done.ensures.cause.kept ∙ inv.3,
    )
