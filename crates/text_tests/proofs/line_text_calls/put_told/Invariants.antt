use Rattle.line_text.specs.BlockReading.{lines_left}
use Rattle.text_tests.proofs.line_text_calls.put_told.Given as goal

abbrev pub decreases-lines : goal.decreases-lines
decreases-lines l = lines_left l.lines
