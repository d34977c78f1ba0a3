-- The engine's field is that of its events.
use Rattle.std.proofs.Common.{sym, subst}
use Rattle.history_rules.specs.Posed.{problem_after}
use Rattle.field_state.specs.Fielded.{IsFieldAfter}
use Rattle.field_state.specs.Without.{IsLeastWithout}
use Rattle.outage_engine.specs.Engined.{Engined}
use Rattle.outage_engine.proofs.engine.Engine.least_without.Goals as goal

pub returns-clause-least : goal.returns-clause-least
returns-clause-least g c = λ h is.
    subst (λ (e : Engined). IsLeastWithout (problem_after e.grid h) c.args.d.0 c.least_without.result) c.self.view_is
    (c.least_without.ensures.least h (subst (λ (e : Engined). IsFieldAfter e.grid h e.field) (sym c.self.view_is) is.field))
