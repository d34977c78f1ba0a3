-- Before the first record.
use Rattle.std.proofs.Common.{rules, ◌≡◌, false, None}
use Rattle.csv.specs.Reading.{default_config, names_headers, reader_config, reader_trim}
use Rattle.csv.specs.declared.reader.Trim.TheVariants as trim
use Rattle.line_text.proofs.RecordsKept.{before_first}
use Rattle.line_text.proofs.block_reader.BlockReader.of.Goals as goal

pub returns-clause-held : goal.returns-clause-held
returns-clause-held c = λ held sorts text.
    let made = c.from_reader-records.ensures in
    let config : reader_config c.from_reader-records.result ≡ default_config = search rules in
    let trim : reader_trim c.from_reader-records.result ≡ trim.None = search rules in
    let named : names_headers c.from_reader-records.result ≡ false = search rules in
    record { sorts = sorts; text = before_first c.from_reader-records.result c.args.text held text config trim named made.headers made.state made.source }
