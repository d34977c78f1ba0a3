use Rattle.std.proofs.Common.{◌≤◌, ◌+◌, length}
use Rattle.event_rules.specs.Lines.{lines}
use Rattle.grid_reader.specs.Reader.{Continues}
use Rattle.grid_reader.proofs.read.read_draft.Given as goal

-- what is read so far is what the text says, and each line has a byte
abbrev pub invariant-blocks-2 : goal.invariant-blocks-2
invariant-blocks-2 l = record {
  continues : Continues l.bytes (lines l.rest) l.number l.draft;
  few_lines : l.number + length l.rest ≤ length l.bytes + 1;
  few_nodes : length l.draft.nodes ≤ 200000;
}

abbrev pub decreases-blocks-2 : goal.decreases-blocks-2
decreases-blocks-2 l = length l.rest
