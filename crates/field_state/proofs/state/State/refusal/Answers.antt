use Rattle.std.proofs.Common.{◌≡◌, ap, ◌∙◌, arith}
use Rattle.history_rules.specs.State.{now}
use Rattle.field_state.proofs.Ruling.{late, in_time}
use Rattle.field_state.proofs.state.State.refusal.Goals as goal

pub returns-then-event-self : goal.returns-then-event-self
returns-then-event-self c h field =
    let clock : c.self.inside.clock.0 ≡ now h = ap (λ f. f.now) c.self.view_is ∙ field.time in
    late c.args.grid.now h c.args.event (omega arith)

pub returns-else-event-self : goal.returns-else-event-self
returns-else-event-self c h field =
    let clock : c.self.inside.clock.0 ≡ now h = ap (λ f. f.now) c.self.view_is ∙ field.time in
    c.rule_against.ensures ∙ in_time c.args.grid.now h c.args.self.now.forest.closed c.args.event field.closed (omega arith)
