use Rattle.std.proofs.Common.{◌≤◌, length}
use Rattle.line_text.specs.Blocks.{HoldsFirst}
use Rattle.line_text.proofs.block.LineBlock.fill.Given as goal

abbrev pub invariant-lines : goal.invariant-lines
invariant-lines l = record {
  held : HoldsFirst l.self l.text l.rest;
  shorter : length l.rest ≤ length l.text;
}

abbrev pub decreases-lines : goal.decreases-lines
decreases-lines l = length l.rest
