use Rattle.std.proofs.Common.{arith, ◌≡◌, subst, ap, ◌∙◌, take, length, false, slice_index_or}
use Rattle.std.specs.Prelude.{◌&&◌, ◌↔◌, true}
use Rattle.outage_rules.specs.Network.{is_live, only}
use Rattle.radial_forest.specs.Lower.{IsAmong}
use Rattle.grid_model.specs.Network.{network_in}
use Rattle.grid_model.specs.Places.{node_of}
use Rattle.grid_model.specs.declared.history.What.TheVariants.{Restore}
use Rattle.history_rules.specs.State.{is_fed}
use Rattle.evidence.specs.Kept.{kept_of}
use Rattle.field_state.specs.Acted.{restored_if, is_brought, is_listed}
use Rattle.field_state.proofs.Lower.{listed_below, front_long, front_same}
use Rattle.field_state.proofs.Restoring.{kept_same}
use Rattle.field_state.proofs.Costing.{restores_same}
use Rattle.field_state.proofs.state.State.bring_back.Goals as goal

-- what the list has is what the device feeds
pub returns-clause-kept : goal.returns-clause-kept
returns-clause-kept g c =
    let grid = c.args.grid.now in
    let t = c.args.now.0 in
    let d = c.args.d in
    let f = c.args.self.now in
    let count = c.walk_below-count.result in
    let into = c.walk_below-count.new.into in
    let nodes = take count into in
    let net = network_in grid (λ e. slice_index_or f.forest.closed e false) in
    kept_same grid t (λ k. restored_if (is_listed nodes (length nodes) (node_of grid k) && is_fed net (node_of grid k)) t (kept_of f.evidence k))
    (λ k. restored_if (is_brought grid f.forest.closed k (Restore d)) t (kept_of f.evidence k)) f c.restore_nodes.new.self c.restore_nodes.ensures.kept
    (λ m lm. ap (λ b. restored_if b t (kept_of f.evidence m))
    (listed_below net d.0 (node_of grid m) count nodes into (front_long count into c.walk_below-count.ensures.count) (front_same count into)
    (subst (λ k. is_fed (network_in grid (λ e. slice_index_or k.closed e false)) (node_of grid m) ≡ true →
    IsAmong (node_of grid m) into count ↔ (is_live (network_in grid (λ e. slice_index_or k.closed e false)) (only d.0) (node_of grid m) ≡ false)) (c.forest.ensures ∙ ap (λ f. f.forest) c.self.view_is)
    (c.walk_below-count.ensures.below (node_of grid m) (c.requires.ready.sound.meters m lm).node))))

pub returns-clause-steps : goal.returns-clause-steps
returns-clause-steps g c reach at =
    let grid = c.args.grid.now in
    let t = c.args.now.0 in
    let d = c.args.d in
    let f = c.args.self.now in
    let count = c.walk_below-count.result in
    let into = c.walk_below-count.new.into in
    let nodes = take count into in
    let net = network_in grid (λ e. slice_index_or f.forest.closed e false) in
    let same = restores_same grid t reach (λ k. is_listed nodes (length nodes) (node_of grid k) && is_fed net (node_of grid k)) (λ k. is_brought grid f.forest.closed k (Restore d)) f
    (λ m lm. listed_below net d.0 (node_of grid m) count nodes into (front_long count into c.walk_below-count.ensures.count) (front_same count into)
    (subst (λ k. is_fed (network_in grid (λ e. slice_index_or k.closed e false)) (node_of grid m) ≡ true →
    IsAmong (node_of grid m) into count ↔ (is_live (network_in grid (λ e. slice_index_or k.closed e false)) (only d.0) (node_of grid m) ≡ false)) (c.forest.ensures ∙ ap (λ f. f.forest) c.self.view_is)
    (c.walk_below-count.ensures.below (node_of grid m) (c.requires.ready.sound.meters m lm).node))) in
    let taken = c.restore_nodes.ensures.steps reach at in
    omega arith
