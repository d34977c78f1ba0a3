use Rattle.std.proofs.Common.{◌≡◌, ◌<◌, ◌+◌, sym, ◌∙◌, subst, arith, List, length}
use Rattle.std.specs.Prelude.{◌==◌, ◌||◌}
use Rattle.grid_model.specs.Places.{node_of}
use Rattle.grid_model.specs.declared.parts.NodeId.{NodeId}
use Rattle.radial_forest.specs.Traversed.{node_at}
use Rattle.diagnosis.specs.Watched.{AreDifferences}
use Rattle.diagnosis.proofs.Watching.{differs_within}
use Rattle.outage_engine.specs.Recording.{stands_among, IsTold}
use Rattle.outage_engine.proofs.Telling.{some_more, untold_most, told_same, told_then, all_recorded}
use Rattle.outage_engine.proofs.recording.record_flipped.Goals as goal

pub record_node-requires-clause-node : goal.record_node-requires-clause-node
record_node-requires-clause-node c =
    let j = c.args.judged.now in
    let ns = c.flipped-n-items.result.now in
    let flipped = subst (λ (xs : List NodeId). AreDifferences j.dark_begun j.dark (length xs) (node_at xs)) (sym c.flipped-n-items.ensures.flipped) c.flipped-n-items.ensures.differences in
    subst (λ n. node_at ns c.loop-n.n-index < n) c.requires.sized
    (differs_within j.dark_begun j.dark (node_at ns c.loop-n.n-index) (c.requires.begun ∙ sym c.requires.sized) (flipped.each c.loop-n.n-index c.loop-n-test.true))

pub record_node-requires-clause-room : goal.record_node-requires-clause-room
record_node-requires-clause-room c =
    let a = untold_most c.args.grid.now c.args.judged.now c.args.ledger.now in
    let b = c.loop-n.invariant.spare in
    let r = c.requires.room in omega arith

pub loop-n-preserved : goal.loop-n-preserved
loop-n-preserved c =
    let g = c.args.grid.now in
    let j = c.args.judged.now in
    let t = c.args.at in
    let ns = c.flipped-n-items.result.now in
    let i = c.loop-n.n-index in
    let old = c.args.ledger.now in
    let mid = c.loop-n.ledger in
    let new = c.record_node.new.ledger in
    told_same g j t (λ m. stands_among g ns i m || (node_of g m == node_at ns i)) (stands_among g ns (i + 1)) old new (λ m _. sym (some_more i (λ k. node_of g m == node_at ns k)))
    (told_then g j t (stands_among g ns i) (λ m. node_of g m == node_at ns i) old mid new c.loop-n.invariant c.record_node.ensures)

pub returns : goal.returns
returns c =
    let g = c.args.grid.now in
    let j = c.args.judged.now in
    let t = c.args.at in
    let ns = c.flipped-n-items.result.now in
    let flipped = subst (λ (xs : List NodeId). AreDifferences j.dark_begun j.dark (length xs) (node_at xs)) (sym c.flipped-n-items.ensures.flipped) c.flipped-n-items.ensures.differences in
    let whole : c.loop-n.n-index ≡ length ns = omega arith in
    all_recorded g j t ns c.args.ledger.now c.loop-n.ledger flipped c.requires.flags
    (subst (λ i. IsTold g j t (stands_among g ns i) c.args.ledger.now c.loop-n.ledger) whole c.loop-n.invariant)
