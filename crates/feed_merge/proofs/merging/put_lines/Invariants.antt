use Rattle.std.proofs.Common.{◌≡◌, List, map}
use Rattle.feed_merge.specs.Merging.{Entry}
use Rattle.feed_merge.specs.Heads.{key_in, AreLeft, bytes_left}
use Rattle.feed_merge.proofs.TextSteps.{IsUnderWay}
use Rattle.feed_merge.proofs.merging.put_lines.Given as goal

abbrev pub invariant-lines : goal.invariant-lines
invariant-lines l = record {
  queue : l.queue ≡ map key_in l.heads;
  way : (parts : List (List Entry)) → AreLeft l.fn.heads parts → IsUnderWay l.fn.text.items parts l.text.items l.heads;
}

abbrev pub decreases-lines : goal.decreases-lines
decreases-lines l = bytes_left l.heads
