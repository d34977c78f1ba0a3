-- The report of a word, a name and a last field.
use Rattle.std.proofs.Common.{◌∙◌, sym, ap}
use Rattle.event_rules.specs.EventLines.{detailed_shape}
use Rattle.event_reader.specs.declared.words.EventWord.TheVariants.{Ping, Confirm}
use Rattle.event_reader.proofs.ShapesOfWords.{as_spelt, detailed_other, detailed_none}
use Rattle.event_reader.proofs.reports.detailed_report.Goals as goal

pub returns-in_default : goal.returns-in_default
returns-in_default c = sym (detailed_none c.args.word.now c.args.name.now c.args.detail.now c.in_default.ensures.none)

pub returns-in-Ping : goal.returns-in-Ping
unfolding detailed_shape
returns-in-Ping c =
    c.ping_report.ensures
    ∙ as_spelt (λ w. detailed_shape w c.args.name.now c.args.detail.now) c.args.word.now c.in-Some.word Ping c.in-Some.ensures.found c.in-Ping.is

pub returns-in-Confirm : goal.returns-in-Confirm
unfolding detailed_shape
returns-in-Confirm c =
    c.confirm_report.ensures
    ∙ as_spelt (λ w. detailed_shape w c.args.name.now c.args.detail.now) c.args.word.now c.in-Some.word Confirm c.in-Some.ensures.found c.in-Confirm.is

pub returns-in_default-word : goal.returns-in_default-word
returns-in_default-word c =
    sym (detailed_other c.in-Some.word c.args.name.now c.args.detail.now c.in_default-word.not-Ping c.in_default-word.not-Confirm)
    ∙ ap (λ w. detailed_shape w c.args.name.now c.args.detail.now) (sym c.in-Some.ensures.found)
