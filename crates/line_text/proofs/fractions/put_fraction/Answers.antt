-- The words one behind the other.
use Rattle.std.proofs.Common.{◌++◌, ◌∙◌, ap}
use Rattle.event_rules.specs.Fractions.{ratio_text}
use Rattle.line_text.specs.FractionInside.{ratio_in}
use Rattle.line_text.proofs.FractionTexts.{ratio_text-laid}
use Rattle.line_text.proofs.fractions.put_fraction.Goals as goal

pub returns : goal.returns
returns c =
    ratio_text-laid (ratio_in c.fraction.inside) c.new-text.result.items c.put_wide_decimal.new.text.items c.push.new.self.items c.put_wide_decimal-2.new.text.items
    c.push-2.new.self.items c.put_wide_decimal-3.new.text.items c.push-3.new.self.items c.extend_from_slice.new.self.items
    record {
      empty = c.new-text.ensures.items;
      top = c.in_ok-put_wide_decimal.ensures;
      slash = c.in_ok-push.ensures.items;
      under = c.in_ok-put_wide_decimal-2.ensures;
      comma = c.in_ok-push-2.ensures.items;
      whole = c.in_ok-put_wide_decimal-3.ensures;
      point = c.in_ok-push-3.ensures.items;
      decimals = c.in_ok-extend_from_slice.ensures.items ∙ ap (λ z. c.push-3.new.self.items ++ z) c.last_digits.ensures;
    }
    ∙ ap ratio_text c.fraction.view_is
