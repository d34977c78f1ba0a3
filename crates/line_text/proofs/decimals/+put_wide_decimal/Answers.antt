-- The last digit behind the others.
use Rattle.std.proofs.Common.{rules, ◌∙◌, arith}
use Rattle.line_text.proofs.DecimalSteps.{decimal-first, decimal-next_wide}
use Rattle.line_text.proofs.decimals.+put_wide_decimal.Goals as goal
use Rattle.line_text.proofs.decimals.+put_wide_decimal.Goals.{then-number-ge10+in_ok-put_wide_decimal, else-number-ge10}

pub returns : goal.returns
returns t c =
    elim c.if-number-ge10.branch [
      | then-number-ge10+in_ok-put_wide_decimal w ↦ c.in_ok-push.ensures.items ∙ decimal-next_wide _ _ _ (omega arith) (omega arith) (search rules)
      | else-number-ge10 w ↦ c.in_ok-push.ensures.items ∙ decimal-first _ _ _ (omega arith) (search rules)
    ]
