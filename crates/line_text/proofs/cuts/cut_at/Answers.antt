-- The first place of the byte.
use Rattle.std.proofs.Common.{rules, ◌==◌}
use Rattle.line_text.proofs.CutPlaces.{list_any-none, list_any-some, list_any-before, cut-whole}
use Rattle.line_text.proofs.cuts.cut_at.Goals as goal

pub returns-in_err-end-clause-none : goal.returns-in_err-end-clause-none
returns-in_err-end-clause-none c = let h = list_any-none (λ b. b == c.args.byte) c.args.text.now c.in_err-end.ensures in search rules

pub returns-clause-none : goal.returns-clause-none
returns-clause-none c = let h = list_any-some (λ b. b == c.args.byte) c.args.text.now c.in_ok-end.end c.in_ok-end.ensures in search rules

pub returns-clause-first : goal.returns-clause-first
returns-clause-first c = list_any-before (λ b. b == c.args.byte) c.args.text.now c.in_ok-end.end c.in_ok-end.ensures

pub returns-clause-whole : goal.returns-clause-whole
returns-clause-whole c = cut-whole c.args.byte c.args.text.now c.in_ok-end.end c.in_ok-end.ensures
