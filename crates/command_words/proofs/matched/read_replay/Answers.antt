use Rattle.std.proofs.Common.{◌∙◌, ap, codes, Some}
use Rattle.std.specs.Prelude.{option_map}
use Rattle.std.specs.Option.{option_copied}
use Rattle.clap.specs.Words.{found_of, rows_of}
use Rattle.clap.specs.Matches.{one_text}
use Rattle.clap.proofs.WalkLemmas.{first_value-rows, one_text-rows}
use Rattle.command_words.specs.Matched.{flag_by}
use Rattle.command_words.specs.Seen.{places_view}
use Rattle.command_words.proofs.ReadRows.{flag_told, replay_told, wish_told}
use Rattle.command_words.proofs.matched.read_replay.Goals as goal

pub returns : goal.returns
returns c =
    let f = found_of c.args.matches.now in
    let told = ap flag_by (one_text-rows f (codes "bounds")) in
    let flag = flag_told (one_text f (codes "bounds")) c.get_flag-with_bounds.result c.requires.0 c.get_flag-with_bounds.ensures.none
    c.get_flag-with_bounds.ensures.value c.get_flag-with_bounds.ensures.other (told ∙ c.requires.1) ∙ told in
    c.replay_of.ensures
    ∙ replay_told (rows_of f) (option_map places_view c.places_of.result) c.read_wish.result (option_copied c.get_str-net.result) (option_copied c.get_str-events.result)
    (c.get_str-net.ensures ∙ first_value-rows f (codes "net")) (c.get_str-events.ensures ∙ first_value-rows f (codes "events")) c.places_of.ensures
    (c.read_wish.ensures
    ∙ wish_told (rows_of f) (Some c.get_flag-with_bounds.result) (option_copied c.get_str-from.result) (option_copied c.get_str-until.result) flag
    (c.get_str-from.ensures ∙ first_value-rows f (codes "from")) (c.get_str-until.ensures ∙ first_value-rows f (codes "to")))
