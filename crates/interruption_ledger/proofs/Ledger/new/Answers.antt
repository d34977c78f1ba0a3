use Rattle.std.proofs.Common.{rules}
use Rattle.interruption_ledger.proofs.Meters.{first_meters}
use Rattle.interruption_ledger.proofs.Ledger.new.Goals as goal

pub returns : goal.returns
returns c =
    first_meters _ c.args.dark.now _ _ (c.in_ok-to_vec.ensures.items_if_clones_equal (λ y e h. h)) (c.in_ok-vec.ensures.items_if_clones_equal (λ y e. search rules)) c.new.ensures.items
