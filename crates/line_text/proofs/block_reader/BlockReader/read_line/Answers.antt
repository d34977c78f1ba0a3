-- The first sort is that of the first line.
use Rattle.std.proofs.Common.{◌≡◌, ◌∙◌, sym, subst, ℕ, List, ◌∷◌, Result, Ok, Err, OnErr}
use Rattle.line_text.specs.LineSorts.{sort_of, IsOfSort}
use Rattle.line_text.specs.declared.sorts.LineSort.{LineSort}
use Rattle.line_text.proofs.LinesKept.{of_its_sort}
use Rattle.line_text.proofs.block_reader.BlockReader.read_line.Goals as goal

same_first : (sorts rest others : List LineSort) (sort : LineSort) (line : List ℕ) → sorts ≡ sort ∷ rest → sorts ≡ sort_of line ∷ others → sort ≡ sort_of line
same_first sorts rest others sort line e f = cc

on_err : {P T E : Type 0} (r : Result T E) → P → OnErr r P
on_err (Ok x) p = tt
on_err (Err e) p = p

pub returns-clause-told : goal.returns-clause-told
returns-clause-told c = λ line rest h.
    let same = same_first _ _ _ _ line c.in-Some.ensures.cases.0 h.sorts in
    record {
      of_sort = subst (λ s. IsOfSort s line) (sym same) (of_its_sort line);
      between = c.in_ok-read_as.ensures.fields line rest same h.text;
    }

pub returns-in_err-read_as-clause-memory : goal.returns-in_err-read_as-clause-memory
returns-in_err-read_as-clause-memory c =
    on_err c.from_residual.result
    (λ line rest h.
    let same = same_first _ _ _ _ line c.in-Some.ensures.cases.0 h.sorts in
    subst (λ s. IsOfSort s line) (sym same ∙ c.in_err-read_as.ensures.memory) (of_its_sort line))
