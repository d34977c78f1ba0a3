use Rattle.std.proofs.Common.{◌∙◌, ap, sym, subst, map, string_bytes, Option, List}
use Rattle.std.specs.Global.{Global}
use Rattle.clap.specs.Walk.{Row, Text}
use Rattle.command_words.specs.Matched.{IsKnown, command_by_name, own_reads}
use Rattle.command_words.specs.Seen.{command_view}
use Rattle.command_words.proofs.Feeders.{has_feeders}
use Rattle.command_words.proofs.Reading.{command_parsed, command_refused, known}
use Rattle.command_words.proofs.Spelled.{all_spelled, usage_again}
use Rattle.command_words.specs.declared.words.WordsFault.TheVariants as WordsFault
use Rattle.command_words.proofs.words.read_by.Goals as goal

pub read_matches-requires : goal.read_matches-requires
read_matches-requires c =
    let words = map (string_bytes {Z = Global}) c.args.words.now in
    subst (λ (o : Option (Text × List Row)). IsKnown o) (sym c.in-Ok.ensures.rows) (known words (all_spelled c.args.words.now) c.in-Ok.ensures.ok)

pub returns-in-Some-clause-command : goal.returns-in-Some-clause-command
returns-in-Some-clause-command c =
    let words = map (string_bytes {Z = Global}) c.args.words.now in
    sym (command_parsed words (all_spelled c.args.words.now) c.in-Ok.ensures.ok)
    ∙ ap (λ (o : Option (Text × List Row)). command_by_name own_reads o) (sym c.in-Ok.ensures.rows) ∙ sym c.in-Some.ensures

pub returns-in-Some-clause-feeders : goal.returns-in-Some-clause-feeders
returns-in-Some-clause-feeders c =
    has_feeders (map (string_bytes {Z = Global}) c.args.words.now) (command_view c.in-Some.command) (returns-in-Some-clause-command c)

pub returns-in-Ok-clause-usage : goal.returns-in-Ok-clause-usage
returns-in-Ok-clause-usage c = λ e.
    let words = map (string_bytes {Z = Global}) c.args.words.now in
    sym (command_parsed words (all_spelled c.args.words.now) c.in-Ok.ensures.ok)
    ∙ ap (λ (o : Option (Text × List Row)). command_by_name own_reads o) (sym c.in-Ok.ensures.rows) ∙ sym c.in-None.ensures

pub returns-clause-usage : goal.returns-clause-usage
returns-clause-usage c = λ e.
    command_refused (map (string_bytes {Z = Global}) c.args.words.now) (all_spelled c.args.words.now) (c.in-Err.ensures.usage (usage_again c.in-Err.fault WordsFault.Usage e))
