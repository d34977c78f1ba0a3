use Rattle.std.proofs.Common.{sym, subst}
use Rattle.outage_rules.specs.Network.{IsRadial}
use Rattle.radial_forest.specs.Spreading.{switched}
use Rattle.radial_forest.proofs.Own.{own_flags}
use Rattle.radial_forest.proofs.forest.Forest.new.Goals as goal

pub grow-requires-clause-radial : goal.grow-requires-clause-radial
grow-requires-clause-radial c =
    subst (λ closed. IsRadial (switched c.args.grid.now closed)) (sym (c.in_ok-to_vec.ensures.items_if_clones_equal (λ x y e. e))) c.requires.radial

pub returns-clause-own : goal.returns-clause-own
returns-clause-own c = own_flags _ _ _ c.grow.ensures
