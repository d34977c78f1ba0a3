use Rattle.std.proofs.Common.{◌∙◌, codes}
use Rattle.std.specs.Option.{option_copied}
use Rattle.clap.specs.Words.{found_of, rows_of}
use Rattle.clap.proofs.WalkLemmas.{first_value-rows}
use Rattle.std.specs.Prelude.{option_map}
use Rattle.command_words.specs.Seen.{places_view}
use Rattle.command_words.proofs.ReadRows.{check_told}
use Rattle.command_words.proofs.matched.read_check.Goals as goal

pub returns : goal.returns
returns c =
    let f = found_of c.args.matches.now in
    c.check_of.ensures
    ∙ check_told (rows_of f) (option_map places_view c.places_of.result) (option_copied c.get_str-net.result) (option_copied c.get_str-events.result) (option_copied c.get_str-report.result)
    (c.get_str-net.ensures ∙ first_value-rows f (codes "net")) (c.get_str-events.ensures ∙ first_value-rows f (codes "events"))
    (c.get_str-report.ensures ∙ first_value-rows f (codes "report")) c.places_of.ensures
