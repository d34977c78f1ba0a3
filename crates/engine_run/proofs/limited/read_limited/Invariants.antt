use Rattle.std.proofs.Common.{◌≡◌, ◌+◌, ◌-◌, true, vec_len}
use Rattle.run_rules.specs.Reading.{Took}
use Rattle.engine_run.proofs.limited.read_limited.Given as goal

-- what was taken is a prefix of the file, and the count stands
abbrev pub invariant-reads : goal.invariant-reads
invariant-reads g l =
    Took (g.S.Shelf.files l.fn.shelf) (g.S.Shelf.left l.shelf) l.name l.bytes.items
    × (g.S.Shelf.files l.shelf ≡ g.S.Shelf.files l.fn.shelf)
    × (g.S.Shelf.started l.shelf ≡ true)
    × (g.S.Shelf.faults l.shelf ≡ g.S.Shelf.faults l.fn.shelf)

abbrev pub decreases-reads : goal.decreases-reads
decreases-reads g l = (l.most + 1) - vec_len l.bytes
