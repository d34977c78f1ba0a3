use Rattle.std.proofs.Common.{◌≡◌, ◌<◌, ℕ, Bool, List, length, ap, ◌∙◌}
use Rattle.std.proofs.lemmas.Result.{IfOk-weaker}
use Rattle.outage_rules.specs.Network.{IsSoundNetwork, IsRadial}
use Rattle.grid_model.specs.Parts.{Parts}
use Rattle.grid_model.specs.Network.{network_of}
use Rattle.restore_plan.specs.Barred.{flagged, is_barred}
use Rattle.restore_plan.specs.States.{network_at}
use Rattle.restore_plan.specs.Restoring.{AreMoves}
use Rattle.restore_plan.specs.RestoringInside.{IsState}
use Rattle.restore_plan.proofs.Same.{moves_same}
use Rattle.restore_plan.proofs.Apart.{moves_apart}
use Rattle.restore_plan.proofs.Closing.{plan_within, plan_passes, plan_feeds, plan_radial, plan_barred, plan_fed}
use Rattle.restore_plan.proofs.planning.plan.Goals as goal

state : (g : Parts) (closed : List Bool) → length closed ≡ length g.devices → IsSoundNetwork (network_of g) → IsRadial (network_at g closed) → IsState g closed
state g closed each sound radial = record {
  each = each;
  sound = record { from = sound.from; to = sound.to; apart = sound.apart; sources = sound.sources };
  radial = radial;
}

same : (flags barred : List Bool) (test : ℕ → Bool) (n : ℕ) → barred ≡ flags → ((d : ℕ) → d < n → flagged flags d ≡ test d) → (d : ℕ) → d < n → flagged barred d ≡ test d
same flags barred test n e h d l = ap (λ x. flagged x d) e ∙ h d l

pub returns-clause-moves : goal.returns-clause-moves
returns-clause-moves c =
    let g = c.args.grid.now in
    let barred = is_barred g c.args.cuts.now c.args.fault.0 in
    let flags = c.deref.result.now in
    IfOk-weaker c.plan_around.result _ _
    (λ p h. moves_same g (flagged flags) barred (same c.in_ok-barred.barred.items flags barred (length g.devices) c.deref.ensures.value c.in_ok-barred.ensures.flags) c.args.closed.now p.moves h)
    c.plan_around.ensures.moves

pub returns-clause-devices : goal.returns-clause-devices
returns-clause-devices c =
    let g = c.args.grid.now in
    let barred = is_barred g c.args.cuts.now c.args.fault.0 in
    IfOk-weaker c.plan_around.result (λ p. AreMoves g barred c.args.closed.now p.moves) _
    (λ p h. plan_within g barred c.args.closed.now p.moves (state g c.args.closed.now c.requires.states (c.network_is_sound.ensures g c.in_ok-barred.ensures.sound) c.requires.radial) h)
    (returns-clause-moves c)

pub returns-clause-once : goal.returns-clause-once
returns-clause-once c =
    let g = c.args.grid.now in
    let barred = is_barred g c.args.cuts.now c.args.fault.0 in
    IfOk-weaker c.plan_around.result (λ p. AreMoves g barred c.args.closed.now p.moves) _
    (λ p h. moves_apart g barred c.args.closed.now p.moves (state g c.args.closed.now c.requires.states (c.network_is_sound.ensures g c.in_ok-barred.ensures.sound) c.requires.radial) h)
    (returns-clause-moves c)

pub returns-clause-pass : goal.returns-clause-pass
returns-clause-pass c =
    let g = c.args.grid.now in
    let barred = is_barred g c.args.cuts.now c.args.fault.0 in
    IfOk-weaker c.plan_around.result (λ p. AreMoves g barred c.args.closed.now p.moves) _
    (λ p h. plan_passes g barred c.args.closed.now p.moves (state g c.args.closed.now c.requires.states (c.network_is_sound.ensures g c.in_ok-barred.ensures.sound) c.requires.radial) h)
    (returns-clause-moves c)

pub returns-clause-feed : goal.returns-clause-feed
returns-clause-feed c =
    let g = c.args.grid.now in
    let barred = is_barred g c.args.cuts.now c.args.fault.0 in
    IfOk-weaker c.plan_around.result (λ p. AreMoves g barred c.args.closed.now p.moves) _
    (λ p h. plan_feeds g barred c.args.closed.now p.moves (state g c.args.closed.now c.requires.states (c.network_is_sound.ensures g c.in_ok-barred.ensures.sound) c.requires.radial) h)
    (returns-clause-moves c)

pub returns-clause-radial : goal.returns-clause-radial
returns-clause-radial c =
    let g = c.args.grid.now in
    let barred = is_barred g c.args.cuts.now c.args.fault.0 in
    IfOk-weaker c.plan_around.result (λ p. AreMoves g barred c.args.closed.now p.moves) _
    (λ p h. plan_radial g barred c.args.closed.now p.moves (state g c.args.closed.now c.requires.states (c.network_is_sound.ensures g c.in_ok-barred.ensures.sound) c.requires.radial) h)
    (returns-clause-moves c)

pub returns-clause-barred : goal.returns-clause-barred
returns-clause-barred c =
    let g = c.args.grid.now in
    let barred = is_barred g c.args.cuts.now c.args.fault.0 in
    IfOk-weaker c.plan_around.result (λ p. AreMoves g barred c.args.closed.now p.moves) _
    (λ p h. plan_barred g barred c.args.closed.now p.moves (state g c.args.closed.now c.requires.states (c.network_is_sound.ensures g c.in_ok-barred.ensures.sound) c.requires.radial) h)
    (returns-clause-moves c)

pub returns-clause-fed : goal.returns-clause-fed
returns-clause-fed c =
    let g = c.args.grid.now in
    let barred = is_barred g c.args.cuts.now c.args.fault.0 in
    IfOk-weaker c.plan_around.result (λ p. AreMoves g barred c.args.closed.now p.moves) _
    (λ p h. plan_fed g barred c.args.closed.now p.moves (state g c.args.closed.now c.requires.states (c.network_is_sound.ensures g c.in_ok-barred.ensures.sound) c.requires.radial) h)
    (returns-clause-moves c)
