use Rattle.std.proofs.Common.{refl, sym, ap, ◌∙◌}
use Rattle.std.specs.Prelude.{◌&&◌, ◌||◌}
use Rattle.outage_rules.specs.Network.{nothing, is_live}
use Rattle.radial_forest.specs.Spreading.{switched}
use Rattle.radial_forest.proofs.Looping.{loop_by_tests}
use Rattle.radial_forest.proofs.forest.Forest.would_loop.Goals as goal

pub returns-then-eq : goal.returns-then-eq
returns-then-eq c =
    let f = c.args.self.now in
    let net = switched c.args.grid.now f.closed in
    let r = c.requires.forest in
    let fed = is_live net nothing c.ends.result.0.0 && is_live net nothing c.ends.result.1.0 in
    c.if-eq.true ∙ sym (ap (λ b. b || fed) c.if-eq.true)
    ∙ loop_by_tests net f.parents f.roots r.sound r.rooted c.live_is_a_walk.ensures c.loop_is_a_walk.ensures c.args.d.0 c.requires.device _ _ _ _ c.eq.result _ _
    (ap (λ n. n.0) c.ends.ensures.from) (ap (λ n. n.0) c.ends.ensures.to) c.root_of.ensures c.root_of-2.ensures c.eq.ensures refl refl

pub returns-then-is_fed : goal.returns-then-is_fed
returns-then-is_fed c =
    let f = c.args.self.now in
    let net = switched c.args.grid.now f.closed in
    let r = c.requires.forest in
    sym (ap (λ b. b || (c.is_fed.result && c.is_fed-then-is_fed.result)) c.if-eq.false ∙ ap (λ b. b && c.is_fed-then-is_fed.result) c.if-is_fed.true)
    ∙ loop_by_tests net f.parents f.roots r.sound r.rooted c.live_is_a_walk.ensures c.loop_is_a_walk.ensures c.args.d.0 c.requires.device _ _ _ _ c.eq.result c.is_fed.result c.is_fed-then-is_fed.result
    (ap (λ n. n.0) c.ends.ensures.from) (ap (λ n. n.0) c.ends.ensures.to) c.root_of.ensures c.root_of-2.ensures c.eq.ensures c.is_fed.ensures c.is_fed-then-is_fed.ensures

pub returns-else-is_fed : goal.returns-else-is_fed
returns-else-is_fed c =
    let f = c.args.self.now in
    let net = switched c.args.grid.now f.closed in
    let r = c.requires.forest in
    let to = is_live net nothing c.ends.result.1.0 in
    c.if-is_fed.false ∙ sym (ap (λ b. b || (c.is_fed.result && to)) c.if-eq.false ∙ ap (λ b. b && to) c.if-is_fed.false)
    ∙ loop_by_tests net f.parents f.roots r.sound r.rooted c.live_is_a_walk.ensures c.loop_is_a_walk.ensures c.args.d.0 c.requires.device _ _ _ _ c.eq.result c.is_fed.result _
    (ap (λ n. n.0) c.ends.ensures.from) (ap (λ n. n.0) c.ends.ensures.to) c.root_of.ensures c.root_of-2.ensures c.eq.ensures c.is_fed.ensures refl
