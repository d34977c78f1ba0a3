use Rattle.std.proofs.Common.{sym, ap, subst, set}
use Rattle.outage_rules.specs.Network.{IsRadial}
use Rattle.radial_forest.specs.Spreading.{switched}
use Rattle.radial_forest.proofs.Own.{own_flags}
use Rattle.radial_forest.proofs.forest.Forest.rebuild.Goals as goal

pub grow-requires-clause-radial : goal.grow-requires-clause-radial
grow-requires-clause-radial c =
    subst (λ closed. IsRadial (switched c.args.grid.now (set closed c.args.d.0 c.args.closed))) (sym (ap (λ f. f.closed) c.self.view_is)) c.requires.radial

pub returns-clause-own : goal.returns-clause-own
returns-clause-own c = own_flags _ _ _ c.grow.ensures
