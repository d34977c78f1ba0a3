use Rattle.std.proofs.Common.{◌≡◌, take}
use Rattle.event_rules.specs.Decimals.{value_of}
use Rattle.line_text.proofs.decimals.value_of_digits.Given as goal

abbrev pub invariant-loop-digit : goal.invariant-loop-digit
invariant-loop-digit l = l.value ≡ value_of (take l.digit-index l.digits)
