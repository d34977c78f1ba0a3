use Rattle.std.proofs.Common.{◌+◌, ◌<◌, false, None, refl, sym, ◌∙◌, subst, arith, length, get_or}
use Rattle.radial_forest.specs.Spreading.{switched}
use Rattle.radial_forest.proofs.Reaching.{order_short, room}
use Rattle.radial_forest.proofs.Incident.{at_within, at_ends}
use Rattle.radial_forest.proofs.Around.{Along, sound_in, other_within, passed_over, went_along, node_done}
use Rattle.radial_forest.proofs.traversal.Traversal.go_around.Goals as goal
use Rattle.radial_forest.proofs.traversal.Traversal.go_around.Goals.{then-closed-d, else-closed-d}

pub depth_below-depth-requires-clause-shallow : goal.depth_below-depth-requires-clause-shallow
depth_below-depth-requires-clause-shallow c =
    let partial = c.requires.partial in
    let few = order_short (switched c.args.grid.now c.args.closed.now) c.args.self.now partial in
    let shallow = partial.shallow c.args.n.0 c.requires.node c.requires.reached in
    let nodes = c.requires.sound.few_nodes in
    omega arith

pub bounds-closed-d : goal.bounds-closed-d
bounds-closed-d c =
    let within = at_within c.args.grid.now c.args.n.0 c.incident-d-items.result.now c.incident-d-items.ensures c.loop-d.d-index (omega arith) in
    let states = c.requires.states in
    omega arith

pub hang-requires-clause-room : goal.hang-requires-clause-room
hang-requires-clause-room c = λ fresh.
    let g = c.args.grid.now in
    let partial = c.loop-d.invariant.partial in
    let each = partial.depths_each in
    let ld = at_within g c.args.n.0 c.incident-d-items.result.now c.incident-d-items.ensures c.loop-d.d-index (omega arith) in
    let sound = sound_in g (λ d. get_or c.args.closed.now d false) c.requires.sound in
    let lm = subst (λ x. x < length g.nodes) (sym c.other_end.ensures) (other_within (switched g c.args.closed.now) _ c.args.n.0 sound ld) in
    let less = room (switched g c.args.closed.now) c.loop-d.self c.other_end.result None 0 partial lm fresh in
    omega arith

pub loop-d-preserved : goal.loop-d-preserved
loop-d-preserved c =
    let g = c.args.grid.now in
    let net = switched g c.args.closed.now in
    let xs = c.incident-d-items.result.now in
    let ld = at_within g c.args.n.0 xs c.incident-d-items.ensures c.loop-d.d-index (omega arith) in
    let ends = at_ends g c.args.n.0 xs c.incident-d-items.ensures c.loop-d.d-index (omega arith) in
    let sound = sound_in g (λ d. get_or c.args.closed.now d false) c.requires.sound in
    elim c.if-closed-d.branch [
      | then-closed-d w ↦
          subst (λ t. Along net c.args.self.now t xs c.args.n.0 c.depth_below-depth.result (c.loop-d.d-index + 1)) (sym (w.self-is ∙ w.hang.ensures))
          (went_along net c.args.self.now c.loop-d.self xs c.args.n.0 c.depth_below-depth.result c.loop-d.d-index c.loop-d.invariant sound c.requires.node c.requires.reached
          w.other_end.result (get_or xs c.loop-d.d-index (record { 0 = 0 })) refl ld w.if-closed-d.true ends w.other_end.ensures)
      | else-closed-d w ↦
          subst (λ t. Along net c.args.self.now t xs c.args.n.0 c.depth_below-depth.result (c.loop-d.d-index + 1)) (sym w.self-is)
          (passed_over net c.args.self.now c.loop-d.self xs c.args.n.0 c.depth_below-depth.result c.loop-d.d-index c.loop-d.invariant w.if-closed-d.false)
    ]

pub returns-clause-done : goal.returns-clause-done
returns-clause-done c =
    node_done c.args.grid.now c.args.closed.now c.args.self.now c.loop-d.self c.incident-d-items.result.now c.args.n.0 c.depth_below-depth.result c.loop-d.d-index c.incident-d-items.ensures (omega arith) c.loop-d.invariant
