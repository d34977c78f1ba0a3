use Rattle.std.proofs.Common.{◌≡◌, ◌<◌, ◌+◌, None, Some, subst, sym, ap, set, get_or, length, arith}
use Rattle.outage_rules.specs.Certificate.{other_end}
use Rattle.grid_model.specs.declared.parts.DeviceId.{DeviceId}
use Rattle.grid_model.specs.Network.{network_of}
use Rattle.radial_forest.specs.Traversed.{parent_in, node_at}
use Rattle.outage_engine.proofs.Depths.{AreDeepBelow, deep_none, deep_next, deep_fits, deep_all}
use Rattle.outage_engine.proofs.bounds.note_depths.Goals as goal

pub loop-n-init : goal.loop-n-init
loop-n-init c = deep_none c.args.grid.now c.args.costs.now c.requires.costed c.args.depths.now c.requires.each c.requires.none

pub note_depth-requires-clause-fits : goal.note_depth-requires-clause-fits
note_depth-requires-clause-fits c d e =
    let k = c.args.costs.now in
    let i = c.loop-n.n-index in
    let within = subst (λ xs. i < length xs) c.order-n-items.ensures c.loop-n-test.true in
    let few = c.requires.costed.posed.sound.few_nodes in
    let each = c.requires.costed.order_each in
    subst (λ xs. parent_in k.forest.parents (node_at xs i) ≡ Some d → get_or c.loop-n.depths (other_end (network_of c.args.grid.now) d.0 (node_at xs i)) 0 < 4294967295) (sym c.order-n-items.ensures)
    (λ hangs. let less = deep_fits c.args.grid.now k c.requires.costed i within c.loop-n.depths c.loop-n.invariant d hangs in omega arith) e

pub loop-n-preserved : goal.loop-n-preserved
loop-n-preserved c =
    let g = c.args.grid.now in
    let k = c.args.costs.now in
    let i = c.loop-n.n-index in
    let old = c.loop-n.depths in
    let new = c.note_depth.new.depths in
    subst (λ xs. i < length xs → (parent_in k.forest.parents (node_at xs i) ≡ None → new ≡ old)
    → ((d : DeviceId) → parent_in k.forest.parents (node_at xs i) ≡ Some d → new ≡ set old (node_at xs i) (get_or old (other_end (network_of g) d.0 (node_at xs i)) 0 + 1))
    → AreDeepBelow g k (i + 1) new) (sym c.order-n-items.ensures)
    (λ l top below. deep_next g k c.requires.costed i l old c.loop-n.invariant new top below)
    c.loop-n-test.true c.note_depth.ensures.top c.note_depth.ensures.below

pub returns : goal.returns
returns c =
    deep_all c.args.grid.now c.args.costs.now c.requires.costed c.loop-n.depths
    (subst (λ k. AreDeepBelow c.args.grid.now c.args.costs.now k c.loop-n.depths) (let e = ap length c.order-n-items.ensures in omega arith) c.loop-n.invariant)
