use Rattle.std.proofs.Common.{◌+◌, ◌-◌, ◌/◌, false, sym, ◌∙◌, subst, ⊎_elim, arith, get_or}
use Rattle.std.proofs.lemmas.Bool.{cases_lt, false≢true}
use Rattle.outage_rules.specs.Network.{IsRadial}
use Rattle.radial_forest.specs.Spreading.{switched}
use Rattle.radial_forest.proofs.Around.{sound_in}
use Rattle.radial_forest.proofs.Halving.{kept_is, all_is, none_radial, first_is}
use Rattle.radial_forest.proofs.loops.halve.Goals as goal

pub loop-low-init : goal.loop-low-init
loop-low-init c =
    let g = c.args.grid.now in
    let closed = c.args.closed.now in
    let net = switched g closed in
    let sound = sound_in g (λ d. get_or closed d false) c.devices-high.ensures.sound in
    let count = c.devices-high.ensures.count in
    let states = c.requires.states in
    record {
      each = c.requires.each;
      apart = ⊎_elim (λ l. l) (λ l. absurd (c.requires.loops (λ d ld. absurd (omega arith)))) (cases_lt 0 c.devices-high.result);
      within = omega arith;
      radial = none_radial net sound c.radial_before.ensures;
      loops = subst (λ n. IsRadial n → ⊥) (sym (all_is g closed c.devices-high.result (omega arith))) c.requires.loops;
    }

pub loop-low-preserved-then-is_radial : goal.loop-low-preserved-then-is_radial
loop-low-preserved-then-is_radial c =
    let g = c.args.grid.now in
    let is = kept_is g c.args.closed.now c.keep_first.new.kept (c.loop-low.low + (c.loop-low.high - c.loop-low.low) / 2) c.keep_first.ensures in
    let apart = c.loop-low-test.true in
    record {
      each = c.is_radial.ensures.each;
      apart = omega arith;
      within = c.loop-low.invariant.within;
      radial = subst IsRadial is (c.is_radial.ensures.radial.0 c.if-is_radial.true);
      loops = c.loop-low.invariant.loops;
    }

pub loop-low-preserved : goal.loop-low-preserved
loop-low-preserved c =
    let g = c.args.grid.now in
    let is = kept_is g c.args.closed.now c.keep_first.new.kept (c.loop-low.low + (c.loop-low.high - c.loop-low.low) / 2) c.keep_first.ensures in
    let apart = c.loop-low-test.true in
    let within = c.loop-low.invariant.within in
    record {
      each = c.is_radial.ensures.each;
      apart = omega arith;
      within = omega arith;
      radial = c.loop-low.invariant.radial;
      loops = subst (λ n. IsRadial n → ⊥) is (λ r. false≢true (sym c.if-is_radial.false ∙ c.is_radial.ensures.radial.1 r));
    }

pub returns : goal.returns
returns c =
    let g = c.args.grid.now in
    let closed = c.args.closed.now in
    let sound = sound_in g (λ d. get_or closed d false) c.devices-high.ensures.sound in
    let last = c.loop-low-test.false in
    let i = c.loop-low.invariant in
    first_is (switched g closed) sound c.radial_before.ensures c.loop-low.low c.loop-low.high i.apart (omega arith) i.within i.radial i.loops
