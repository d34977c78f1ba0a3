-- The pieces of the row.
use Rattle.std.proofs.Common.{rules, ◌≡◌}
use Rattle.bound_table.proofs.Pieces.{row-pieces}
use Rattle.bound_table.proofs.write.put_row.Goals as goal

pub returns : goal.returns
returns c =
    let depth : c.from.result ≡ c.args.row.now.depth = search rules in
    row-pieces _ _ _ _ _ _ _ _ _ _ _ _ _ _
    c.in_ok-put_word.ensures c.in_ok-put_node.ensures c.in_ok-push.ensures.items c.in_ok-put_parent.ensures
    (rw depth at c.in_ok-put_number.ensures) c.in_ok-put_number-2.ensures c.in_ok-put_number-3.ensures c.in_ok-push-2.ensures.items
