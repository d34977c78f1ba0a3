use Rattle.std.proofs.Common.{◌≡◌, ◌≤◌, ◌+◌, length}
use Rattle.line_text.specs.BlockReading.{lines_left}
use Rattle.grid_reader.proofs.GridSteps.{TakesLines}
use Rattle.grid_reader.proofs.read.read_block.Given as goal

-- what is taken so far goes on with what is left, and each line has its number
abbrev pub invariant-lines : goal.invariant-lines
invariant-lines l = record {
  takes : TakesLines l.fn.block l.block l.first l.number l.fn.draft l.draft;
  count : l.number + lines_left l.block ≡ l.first + lines_left l.fn.block;
  few_nodes : length l.draft.nodes ≤ 200000;
}

abbrev pub decreases-lines : goal.decreases-lines
decreases-lines l = lines_left l.block
