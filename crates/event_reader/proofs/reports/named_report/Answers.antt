-- The report of a word and a name.
use Rattle.std.proofs.Common.{◌∙◌, sym, ap}
use Rattle.event_rules.specs.EventLines.{named_shape}
use Rattle.event_reader.specs.declared.words.EventWord.TheVariants.{Call, Gasp, Powerup, Restore, Open, Close}
use Rattle.event_reader.proofs.ShapesOfWords.{as_spelt, named_other, named_none}
use Rattle.event_reader.proofs.reports.named_report.Goals as goal

pub returns-in_default : goal.returns-in_default
returns-in_default c = sym (named_none c.args.word.now c.args.name.now c.in_default.ensures.none)

pub returns-in-Call : goal.returns-in-Call
unfolding named_shape
returns-in-Call c = as_spelt (λ w. named_shape w c.args.name.now) c.args.word.now c.in-Some.word Call c.in-Some.ensures.found c.in-Call.is

pub returns-in-Gasp : goal.returns-in-Gasp
unfolding named_shape
returns-in-Gasp c = as_spelt (λ w. named_shape w c.args.name.now) c.args.word.now c.in-Some.word Gasp c.in-Some.ensures.found c.in-Gasp.is

pub returns-in-Powerup : goal.returns-in-Powerup
unfolding named_shape
returns-in-Powerup c = as_spelt (λ w. named_shape w c.args.name.now) c.args.word.now c.in-Some.word Powerup c.in-Some.ensures.found c.in-Powerup.is

pub returns-in-Restore : goal.returns-in-Restore
unfolding named_shape
returns-in-Restore c = as_spelt (λ w. named_shape w c.args.name.now) c.args.word.now c.in-Some.word Restore c.in-Some.ensures.found c.in-Restore.is

pub returns-in-Open : goal.returns-in-Open
unfolding named_shape
returns-in-Open c = as_spelt (λ w. named_shape w c.args.name.now) c.args.word.now c.in-Some.word Open c.in-Some.ensures.found c.in-Open.is

pub returns-in-Close : goal.returns-in-Close
unfolding named_shape
returns-in-Close c = as_spelt (λ w. named_shape w c.args.name.now) c.args.word.now c.in-Some.word Close c.in-Some.ensures.found c.in-Close.is

pub returns-in_default-word : goal.returns-in_default-word
returns-in_default-word c =
    let h = c.in_default-word in
    sym (named_other c.in-Some.word c.args.name.now h.not-Call h.not-Gasp h.not-Powerup h.not-Restore h.not-Open h.not-Close)
    ∙ ap (λ w. named_shape w c.args.name.now) (sym c.in-Some.ensures.found)
