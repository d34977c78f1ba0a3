use Rattle.std.proofs.Common.{◌∙◌, length, arith}
use Rattle.std.proofs.lemmas.List.{length-set}
use Rattle.radial_forest.specs.Traversed.{node_at}
use Rattle.diagnosis.proofs.Watching.{forgotten_none, forgotten_more, forgotten_all, differs_within}
use Rattle.diagnosis.proofs.node_flags.forget.Goals as goal

pub loop-n-init : goal.loop-n-init
loop-n-init c = record { each = c.requires.each; forgotten = forgotten_none c.args.begun.now c.args.now.now (length c.args.named.now) (node_at c.args.named.now) c.requires.named }

pub loop-n-preserved : goal.loop-n-preserved
loop-n-preserved c =
    let i = c.loop-n.n-index in
    let l = differs_within c.args.begun.now c.args.now.now (node_at c.args.named.now i) c.requires.each (c.requires.named.each i c.loop-n-test.true) in
    record {
      each = length-set c.loop-n.begun (node_at c.args.named.now i) _ ∙ c.loop-n.invariant.each;
      forgotten = forgotten_more c.loop-n.begun c.args.now.now i (length c.args.named.now) (node_at c.args.named.now) (let e = c.loop-n.invariant.each in omega arith) c.loop-n.invariant.forgotten;
    }

pub returns : goal.returns
returns c = forgotten_all c.loop-n.begun c.args.now.now c.loop-n.n-index (length c.args.named.now) (node_at c.args.named.now) c.loop-n-test.false c.loop-n.invariant.each c.loop-n.invariant.forgotten
