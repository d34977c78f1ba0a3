-- The report of a word alone.
use Rattle.std.proofs.Common.{◌∙◌, sym, ap}
use Rattle.event_rules.specs.EventLines.{lone_shape}
use Rattle.event_reader.specs.declared.words.EventWord.TheVariants.{Clock}
use Rattle.event_reader.proofs.ShapesOfWords.{as_spelt, lone_other, lone_none}
use Rattle.event_reader.proofs.reports.lone_report.Goals as goal

pub returns-in_default : goal.returns-in_default
returns-in_default c = sym (lone_none c.args.word.now c.in_default.ensures.none)

pub returns-in-Clock : goal.returns-in-Clock
unfolding lone_shape
returns-in-Clock c = as_spelt lone_shape c.args.word.now c.in-Some.word Clock c.in-Some.ensures.found c.in-Clock.is

pub returns-in_default-word : goal.returns-in_default-word
returns-in_default-word c = sym (lone_other c.in-Some.word c.in_default-word.not-Clock) ∙ ap lone_shape (sym c.in-Some.ensures.found)
