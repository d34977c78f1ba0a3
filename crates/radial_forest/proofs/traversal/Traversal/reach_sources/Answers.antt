use Rattle.std.proofs.Common.{◌+◌, false, None, refl, sym, ◌∙◌, subst, arith}
use Rattle.radial_forest.proofs.Reaching.{room}
use Rattle.radial_forest.proofs.Sources.{AreSourcesTo, sources_start, sources_other, sources_more, sources_are, only_sources, fresh, all_open}
use Rattle.radial_forest.proofs.traversal.Traversal.reach_sources.Goals as goal
use Rattle.radial_forest.proofs.traversal.Traversal.reach_sources.Goals.{then-is_source, else-is_source}

pub loop-n-init : goal.loop-n-init
loop-n-init c = subst (λ t. AreSourcesTo c.args.grid.now t 0) (sym c.requires.unreached) (sources_start c.args.grid.now)

pub reach-requires-clause-node : goal.reach-requires-clause-node
reach-requires-clause-node c =
    let partial = c.loop-n.invariant.partial (λ d. false) in
    let each = partial.depths_each in
    omega arith

pub reach-requires-clause-room : goal.reach-requires-clause-room
reach-requires-clause-room c =
    let g = c.args.grid.now in
    let partial = c.loop-n.invariant.partial (λ d. false) in
    let each = partial.depths_each in
    let less = room (all_open g) c.loop-n.self (record { 0 = c.loop-n.n }) None 0 partial (omega arith) (fresh g c.loop-n.self c.loop-n.n c.loop-n.invariant) in
    omega arith

pub loop-n-preserved : goal.loop-n-preserved
loop-n-preserved c =
    let g = c.args.grid.now in
    elim c.if-is_source.branch [
      | then-is_source w ↦
          subst (λ t. AreSourcesTo g t (c.loop-n.n + 1)) (sym (w.self-is ∙ w.reach.ensures))
          (sources_more g c.loop-n.self c.loop-n.n c.loop-n.invariant (record { 0 = c.loop-n.n }) refl (omega arith) (sym c.is_source.ensures ∙ w.if-is_source.true))
      | else-is_source w ↦
          subst (λ t. AreSourcesTo g t (c.loop-n.n + 1)) (sym w.self-is)
          (sources_other g c.loop-n.self c.loop-n.n c.loop-n.invariant (sym c.is_source.ensures ∙ w.if-is_source.false))
    ]

pub returns-clause-roots : goal.returns-clause-roots
returns-clause-roots c = sources_are c.args.grid.now c.loop-n.self c.loop-n.n c.nodes-n-end.ensures.sound (omega arith) c.loop-n.invariant

pub returns-clause-reached : goal.returns-clause-reached
returns-clause-reached c = only_sources c.args.grid.now c.loop-n.self c.loop-n.n c.nodes-n-end.ensures.sound (omega arith) c.loop-n.invariant
