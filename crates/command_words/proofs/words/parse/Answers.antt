use Rattle.std.proofs.Common.{◌∙◌, ap, sym, map, string_bytes}
use Rattle.clap.specs.Words.{App, app_of, fault_of, subcommand_of, is_simple, is_simple_and_free, kind_of}
use Rattle.command_words.proofs.Spelled.{outage_simple_and_free, outage_simple, some_fault}
use Rattle.command_words.proofs.words.parse.Goals as goal

pub returns-in-Ok-clause-ok : goal.returns-in-Ok-clause-ok
returns-in-Ok-clause-ok c =
    ap (λ (a : App). fault_of a (map string_bytes c.args.words.now)) (sym c.requires)
    ∙ c.in-Ok.ensures.kinds (ap is_simple_and_free c.requires ∙ outage_simple_and_free)

pub returns-in-Ok-clause-usage : goal.returns-in-Ok-clause-usage
returns-in-Ok-clause-usage c = λ e. cc

pub returns-in-Ok-clause-rows : goal.returns-in-Ok-clause-rows
returns-in-Ok-clause-rows c =
    (c.in-Ok.ensures.matches (ap is_simple c.requires ∙ outage_simple)).1
    ∙ ap (λ (a : App). subcommand_of a (map string_bytes c.args.words.now)) c.requires

pub returns-in-OutOfMemory-clause-usage : goal.returns-in-OutOfMemory-clause-usage
returns-in-OutOfMemory-clause-usage c = λ e. cc

pub returns : goal.returns
returns c =
    let kinds = c.in-Err.ensures.kinds (ap is_simple_and_free c.requires ∙ outage_simple_and_free) in
    record {
      ok = tt;
      usage = λ _ e. some_fault (kind_of c.in-Err.error) (fault_of (app_of c.args.line) (map string_bytes c.args.words.now)) kinds (λ m. c.in_default.not-OutOfMemory (c.kind.ensures ∙ m)) (ap (λ (a : App). fault_of a (map string_bytes c.args.words.now)) c.requires ∙ e);
      rows = tt;
    }
