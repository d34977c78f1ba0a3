use Rattle.std.proofs.Common.{◌∙◌, codes}
use Rattle.std.specs.Option.{option_copied}
use Rattle.clap.specs.Words.{found_of, rows_of}
use Rattle.clap.proofs.WalkLemmas.{first_value-rows}
use Rattle.command_words.proofs.ReadRows.{follow_told}
use Rattle.command_words.proofs.matched.read_follow.Goals as goal

pub returns : goal.returns
returns c =
    let f = found_of c.args.matches.now in
    c.follow_of.ensures
    ∙ follow_told (rows_of f) (option_copied c.get_str.result) (c.get_str.ensures ∙ first_value-rows f (codes "net"))
