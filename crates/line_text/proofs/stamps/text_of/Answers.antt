-- The digits, two by two.
use Rattle.std.proofs.Common.{◌≡◌, unsigned_abs, refl, rules}
use Rattle.line_text.specs.StampText.{stamp_text}
use Rattle.line_text.proofs.stamps.text_of.Goals as goal

pub returns : goal.returns
unfolding stamp_text
returns c =
    let year : c.unsigned_abs-year.result ≡ unsigned_abs c.args.date.year = search rules in
    rw (c.digits_of.ensures, c.digits_of-2.ensures, c.digits_of-3.ensures, c.digits_of-4.ensures, c.digits_of-5.ensures, c.digits_of-6.ensures, c.digits_of-7.ensures, year)
    refl
