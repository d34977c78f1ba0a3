use Rattle.std.proofs.Common.{rules, ◌≡◌, Some, drop, length, slice_get, map}
use Rattle.outage_ports.specs.MemoryShelf.{left_of, file_of}
use Rattle.outage_ports.proofs.Pieces.{next_piece, end_of_piece}
use Rattle.outage_ports.proofs.memory_shelf.MemoryShelfShelf.read.Goals as goal

pub returns-clause-bytes : goal.returns-clause-bytes
returns-clause-bytes c =
    let left : left_of c.args.self.now ≡ Some (drop c.unwrap-index.result.place c.file_at.result.1.now) = search rules in
    let there : slice_get (map file_of c.self.inside.files.items) c.unwrap-index.result.index ≡ Some (record { name = c.file_at.result.0.now; bytes = c.file_at.result.1.now }) = search rules in
    rw (left, there) (
      next_piece c.file_at.result.1.now c.copy_front-count.new.into c.unwrap-index.result.place c.copy_front-count.result c.copy_front-count.ensures.bytes,
      end_of_piece c.file_at.result.1.now c.unwrap-index.result.place (length c.args.into.now) c.self.inside.piece c.copy_front-count.result c.copy_front-count.ensures.count c.requires.room c.self.invariant.0,
    )
