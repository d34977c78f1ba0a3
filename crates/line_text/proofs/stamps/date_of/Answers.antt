-- A day from 1970-01-01 on lies in a year from 1970 on.
use Rattle.std.proofs.Common.{◌≡◌, pos, ◌≤ℤ◌, rules, arith}
use Rattle.jiff_core.specs.Date.{epoch_day}
use Rattle.jiff_core.proofs.DateLemmas.{civil}
use Rattle.jiff_core.proofs.SignedLemmas.{signed_arith}
use Rattle.line_text.proofs.StampDays.{from_1970}
use Rattle.line_text.proofs.stamps.date_of.Goals as goal

pub returns-clause-year : goal.returns-clause-year
returns-clause-year c =
    let date = c.unwrap.result in
    let number : epoch_day date ≡ pos c.args.day = search rules in
    let late : pos 0 ≤ℤ epoch_day date = omega (arith, signed_arith, number) in
    from_1970 date.year date.month date.day (civil date) late
