-- The rows of indices, piece by piece.
use Rattle.std.proofs.Common.{◌≡◌, ℕ, ap, ◌∙◌, List, [], ◌∷◌, ◌++◌, Option, Some, None, append_assoc}
use Rattle.std.specs.Prelude.{codes}
use Rattle.grid_model.specs.Parts.{Parts}
use Rattle.grid_model.specs.declared.history.Line.{Line}
use Rattle.grid_model.specs.declared.history.Period.{Period}
use Rattle.event_rules.specs.Rows.{row}
use Rattle.event_rules.specs.Fractions.{Ratio, ratio_text}
use Rattle.history_rules.specs.Indices.{saifi, saidi, caidi}
use Rattle.history_rules.specs.Report.{index_row, index_rows}
use Rattle.report_text.specs.Rows.{value_text}

-- a name and a value are the words of the row
pub index_of : (name text : List ℕ) (value : Option Ratio) → text ≡ value_text value → row (codes "index" ∷ name ∷ text ∷ []) ≡ index_row name value
unfolding ratio_text
index_of name text None is = ap (λ t. row (codes "index" ∷ name ∷ t ∷ [])) is
index_of name text (Some r) is = ap (λ t. row (codes "index" ∷ name ∷ t ∷ [])) is

three : (t x y z : List ℕ) → ((t ++ x) ++ y) ++ z ≡ t ++ ((x ++ y) ++ z)
three t x y z = simp append_assoc

pub indices_added : (g : Parts) (period : Period) (now : ℕ) (lines : List Line) (t0 t1 t2 t3 : List ℕ) (a b c : Option Ratio)
    → a ≡ saifi g period now lines → b ≡ saidi g period now lines → c ≡ caidi g period now lines
    → t1 ≡ t0 ++ index_row (codes "saifi") a → t2 ≡ t1 ++ index_row (codes "saidi") b → t3 ≡ t2 ++ index_row (codes "caidi") c
    → t3 ≡ t0 ++ index_rows g period now lines
unfolding index_rows
indices_added g period now lines t0 t1 t2 t3 a b c a_is b_is c_is e1 e2 e3 =
    let first = index_row (codes "saifi") (saifi g period now lines) in
    let second = index_row (codes "saidi") (saidi g period now lines) in
    let third = index_row (codes "caidi") (caidi g period now lines) in
    e3
    ∙ ap (λ v. t2 ++ index_row (codes "caidi") v) c_is
    ∙ ap (λ t. t ++ third) (e2 ∙ ap (λ v. t1 ++ index_row (codes "saidi") v) b_is)
    ∙ ap (λ t. (t ++ second) ++ third) (e1 ∙ ap (λ v. t0 ++ index_row (codes "saifi") v) a_is)
    ∙ three t0 first second third
