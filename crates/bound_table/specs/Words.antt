-- The words with which the lines of a report begin.
use Rattle.std.specs.Prelude.{ℕ, Bool, List, codes}
use Rattle.std.specs.List.{list_any}
use Rattle.std.specs.Str.{bytes_eq}
use Rattle.word_tables.specs.Words.{report_words}
use Rattle.bound_table.specs.declared.words.ReportWord.{ReportWord}
use Rattle.bound_table.specs.declared.words.ReportWord.TheVariants.{Refused, Leaves, Enters, Cost, Report, Counts, Total, Outage, Crew, Unexplained, Line, Index, End, Bounds, Cut, Row, EndBounds}

-- the text of a word
abbrev pub spelling : ReportWord → List ℕ
spelling Refused = codes "refused"
spelling Leaves = codes "leaves"
spelling Enters = codes "enters"
spelling Cost = codes "cost"
spelling Report = codes "report"
spelling Counts = codes "counts"
spelling Total = codes "total"
spelling Outage = codes "outage"
spelling Crew = codes "crew"
spelling Unexplained = codes "unexplained"
spelling Line = codes "line"
spelling Index = codes "index"
spelling End = codes "end"
spelling Bounds = codes "bounds"
spelling Cut = codes "cut"
spelling Row = codes "row"
spelling EndBounds = codes "endbounds"

-- whether lines of this word exist
abbrev pub is_report_word : List ℕ → Bool
is_report_word text = list_any (bytes_eq text) report_words
