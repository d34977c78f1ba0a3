use Rattle.std.proofs.Common.{◌∙◌, ap, sym, subst, Option, List}
use Rattle.std.specs.Box.{box_value}
use Rattle.clap.specs.Words.{found_of, rows_of}
use Rattle.clap.specs.Walk.{Row, Text}
use Rattle.clap.specs.declared.parser.matches.ArgMatches.TheViews.{out-ArgMatches, out-SubCommand}
use Rattle.command_words.specs.Matched.{IsKnown, command_by_name, own_reads}
use Rattle.command_words.proofs.ReadRows.{told_together}
use Rattle.command_words.proofs.matched.read_matches.Goals as goal

pub read_named-requires : goal.read_named-requires
read_named-requires c =
    let told = told_together (λ b. (out-SubCommand (box_value b)).name.now) (λ b. rows_of (found_of (out-SubCommand (box_value b)).matches))
    (out-ArgMatches c.args.matches.now).subcommand c.in-Some.name.now (rows_of (found_of c.in-Some.inner.now)) c.in-Some.ensures.name c.in-Some.ensures.rows in
    subst (λ (o : Option (Text × List Row)). IsKnown o) told c.requires

pub returns-in-Some : goal.returns-in-Some
returns-in-Some c =
    let told = told_together (λ b. (out-SubCommand (box_value b)).name.now) (λ b. rows_of (found_of (out-SubCommand (box_value b)).matches))
    (out-ArgMatches c.args.matches.now).subcommand c.in-Some.name.now (rows_of (found_of c.in-Some.inner.now)) c.in-Some.ensures.name c.in-Some.ensures.rows in
    c.read_named.ensures ∙ sym (ap (λ (o : Option (Text × List Row)). command_by_name own_reads o) told)
