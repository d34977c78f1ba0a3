-- What a reader of a block has left.
use Rattle.std.specs.Prelude.{◌≡◌, ℕ, List, length, map, Some}
use Rattle.std.specs.Borrow.{Bor}
use Rattle.csv.specs.Reading.{default_config, source_of, reader_config, reader_state, reader_trim, Ready}
use Rattle.csv.specs.Records.{fields_of}
use Rattle.csv.specs.declared.parser.State.TheVariants as state
use Rattle.csv.specs.declared.reader.Reader.{Reader}
use Rattle.csv.specs.declared.reader.Trim.TheVariants as trim
use Rattle.line_text.specs.LineSorts.{sort_of}
use Rattle.line_text.specs.Blocks.{kept_text}
use Rattle.line_text.specs.declared.block_reader.BlockReader.{BlockReader}

-- `csv` stands before this text, and reads it record for record
pub record IsBefore (reader : Reader (Bor (List ℕ))) (text : List ℕ) : Type 0 where
  pub config : reader_config reader ≡ default_config
  pub trim : reader_trim reader ≡ trim.None
  pub ready : Ready reader
  pub state : reader_state reader ≡ state.StartRecord
  pub left : source_of (λ (s : Bor (List ℕ)). Some s.now) reader ≡ Some text

-- these lines of the block are left, in their order
pub record AreLeft (reader : BlockReader) (left : List (List ℕ)) : Type 0 where
  pub sorts : reader.sorts.now ≡ map sort_of left
  pub text : IsBefore reader.records (kept_text left)

-- how many lines are left
abbrev pub lines_left : BlockReader → ℕ
lines_left reader = length reader.sorts.now

-- the fields of the row that was read last
abbrev pub row_fields : BlockReader → List (List ℕ)
row_fields reader = fields_of reader.row
