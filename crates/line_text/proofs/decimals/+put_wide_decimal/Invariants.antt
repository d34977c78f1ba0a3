use Rattle.line_text.proofs.decimals.+put_wide_decimal.Given as goal

abbrev pub decreases-put_wide_decimal : goal.decreases-put_wide_decimal
decreases-put_wide_decimal l = l.number
