use Rattle.std.proofs.Common.{◌≡◌, ◌<◌, ℕ, false, sym, ap, ◌∙◌, subst, length, get_or}
use Rattle.std.proofs.lemmas.List.{with_items_is}
use Rattle.radial_forest.specs.Forested.{HasRoots}
use Rattle.radial_forest.specs.Spreading.{switched, IsSettled}
use Rattle.radial_forest.specs.Rooting.{HasRootOfUpper}
use Rattle.radial_forest.proofs.Around.{sound_in}
use Rattle.radial_forest.proofs.ByParents.{radial_by_parents}
use Rattle.radial_forest.proofs.Climbing.{has_roots}
use Rattle.radial_forest.proofs.forest.Forest.grow.Goals as goal

pub returns : goal.returns
returns c =
    let g = c.args.grid.now in
    let closed = c.args.self.now.closed in
    let net = switched g closed in
    let t = c.walk_all.new.self in
    let roots = c.fill_roots.new.roots in
    let is_closed : c.self.inside.closed.items ≡ closed = ap (λ f. f.closed) c.self.view_is in
    let is_roots = with_items_is c.self.inside.roots roots (c.fill_roots.auto.roots ∙ c.deref_mut.ensures.len) in
    let sound = sound_in g (λ d. get_or closed d false) c.walk_all.ensures.sound in
    let settled = subst (λ xs. IsSettled (switched g xs) t) (c.deref.ensures.value ∙ is_closed) c.walk_all.ensures.settled in
    let parents = (radial_by_parents net t sound settled c.walk_all.ensures.all c.radial_is_forest.ensures c.forest_is_radial.ensures c.radial_by_roots.ensures).1 c.requires.radial in
    let rooted : (n : ℕ) → n < length g.nodes → HasRootOfUpper net t roots n =
    λ n l. let h = c.fill_roots.ensures n l (c.walk_all.ensures.all n l) in record { top = h.top; below = h.below } in
    record {
      states = is_closed;
      states_each = c.requires.states;
      parents_each = settled.partial.parents_each;
      roots_each = ap length is_roots ∙ c.fill_roots.auto.roots ∙ ap length c.deref_mut.ensures.value ∙ ap (λ f. length f.roots) c.self.view_is ∙ c.requires.each;
      sound = sound;
      radial = c.requires.radial;
      rooted = subst (HasRoots net t.parents) (sym is_roots) (has_roots net t roots sound settled rooted parents c.requires.radial c.live_is_a_walk.ensures);
    }
