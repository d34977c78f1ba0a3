-- One more line that is too long.
use Rattle.std.proofs.Common.{sym}
use Rattle.std.proofs.lemmas.List.{append-nil}
use Rattle.line_text.specs.declared.sorts.LineSort.TheVariants.{TooLong}
use Rattle.line_text.proofs.LinesKept.{holds_with, long_sort}
use Rattle.line_text.proofs.block.LineBlock.push_too_long.Goals as goal

pub returns : goal.returns
returns c = λ held line long h.
    holds_with _ c.args.self.now _ TooLong held line c.self.view_is (long_sort line long) c.in_ok-push.ensures.items (sym (append-nil c.self.inside.text.items)) h
