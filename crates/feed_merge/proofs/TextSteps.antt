-- The text so far, and the lines that are left.
use Rattle.std.proofs.Common.{◌≡◌, ℕ, List, [], ◌++◌, ap, ◌∙◌, sym, append_assoc, Option}
use Rattle.std.proofs.lemmas.List.{append-nil}
use Rattle.feed_merge.specs.Merging.{Entry, joined, sorted, ended, text_of}
use Rattle.feed_merge.specs.Heads.{AreLeft, TakesFirst}
use Rattle.feed_merge.specs.declared.heads.Head.{Head}

-- with the lines that are left the text becomes what it had to become from the start
pub record IsUnderWay (start : List ℕ) (parts : List (List Entry)) (text : List ℕ) (heads : List (Option Head)) : Type 0 where
  pub rest : List (List Entry)
  pub left : AreLeft heads rest
  pub whole : text ++ text_of (sorted (joined rest)) ≡ start ++ text_of (sorted (joined parts))

pub put_first : (start : List ℕ) (parts : List (List Entry)) (text new line : List ℕ) (heads after : List (Option Head))
    → (way : IsUnderWay start parts text heads) → TakesFirst way.rest line after → new ≡ text ++ ended line → IsUnderWay start parts new after
put_first start parts text new line heads after way takes e = record {
  rest = takes.others;
  left = takes.left;
  whole =
      ap (λ t. t ++ text_of (sorted (joined takes.others))) e
      ∙ append_assoc text (ended line) (text_of (sorted (joined takes.others)))
      ∙ ap (λ l. text ++ (ended l ++ text_of (sorted (joined takes.others)))) (sym takes.is)
      ∙ ap (λ entries. text ++ text_of entries) (sym takes.least)
      ∙ way.whole;
}

pub put_all : (start : List ℕ) (parts : List (List Entry)) (text : List ℕ) (heads : List (Option Head))
    → (way : IsUnderWay start parts text heads) → joined way.rest ≡ [] → text ≡ start ++ text_of (sorted (joined parts))
unfolding sorted
put_all start parts text heads way none =
    sym (append-nil text) ∙ ap (λ entries. text ++ text_of (sorted entries)) (sym none) ∙ way.whole
