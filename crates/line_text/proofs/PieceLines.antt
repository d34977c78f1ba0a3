-- The lines that end in a piece of a text.
use Rattle.std.proofs.Common.{◌≡◌, ◌==◌, false, ℕ, List, [], ◌∷◌, ◌++◌, refl, ap, sym, ◌∙◌, append_assoc}
use Rattle.std.specs.List.{list_any}
use Rattle.std.proofs.lemmas.Bool.{or_parts}
use Rattle.std.proofs.lemmas.List.{append-nil}
use Rattle.line_text.specs.LineEnds.{without_cr}
use Rattle.line_text.specs.Blocks.{Kept, HoldsLines}
use Rattle.line_text.specs.Cutting.{ended_from, part_from}

-- where the piece has an LF, what stands before the first one ends a line
pub ended-cut : (part front behind : List ℕ) → list_any (λ b. b == 10) front ≡ false → ended_from part (front ++ 10 ∷ behind) ≡ without_cr (part ++ front) ∷ ended_from [] behind
unfolding ended_from
ended-cut part [] behind h = ap (λ z. without_cr z ∷ ended_from [] behind) (sym (append-nil part))
ended-cut part (b ∷ front) behind h =
    let parts = or_parts (b == 10) (list_any (λ b. b == 10) front) h in
    rw parts.0 (ended-cut (part ++ b ∷ []) front behind parts.1 ∙ ap (λ z. without_cr z ∷ ended_from [] behind) (append_assoc part (b ∷ []) front))

pub part-cut : (part front behind : List ℕ) → list_any (λ b. b == 10) front ≡ false → part_from part (front ++ 10 ∷ behind) ≡ part_from [] behind
unfolding part_from
part-cut part [] behind h = refl
part-cut part (b ∷ front) behind h =
    let parts = or_parts (b == 10) (list_any (λ b. b == 10) front) h in
    rw (parts.0, part_from) (part-cut (part ++ b ∷ []) front behind parts.1)

-- where it has none, all of it is more of the part at hand
pub ended-none : (part front : List ℕ) → list_any (λ b. b == 10) front ≡ false → ended_from part front ≡ []
unfolding ended_from
ended-none part [] h = refl
ended-none part (b ∷ front) h =
    let parts = or_parts (b == 10) (list_any (λ b. b == 10) front) h in
    rw parts.0 (ended-none (part ++ b ∷ []) front parts.1)

pub part-none : (part front : List ℕ) → list_any (λ b. b == 10) front ≡ false → part_from part front ≡ part ++ front
unfolding part_from
part-none part [] h = sym (append-nil part)
part-none part (b ∷ front) h =
    let parts = or_parts (b == 10) (list_any (λ b. b == 10) front) h in
    rw parts.0 (part-none (part ++ b ∷ []) front parts.1 ∙ append_assoc part (b ∷ []) front)

-- lines that ended in the front of a text were added, and the rest of the text ends the others
pub record HasAdded (before now : Kept) (text rest : List ℕ) : Type 0 where
  pub ended : List (List ℕ)
  pub holds : (held : List (List ℕ)) → HoldsLines before held → HoldsLines now (held ++ ended)
  pub lines : ended_from [] text ≡ ended ++ ended_from [] rest
  pub part : part_from [] text ≡ part_from [] rest

pub added_none : (block : Kept) (text : List ℕ) → HasAdded block block text text
added_none block text = record { ended = []; holds = λ held h. rw (append-nil held) h; lines = refl; part = refl }

pub added_line : (before now after : Kept) (text rest line behind cut : List ℕ) → HasAdded before now text rest → rest ≡ line ++ 10 ∷ behind → list_any (λ b. b == 10) line ≡ false
    → cut ≡ without_cr line → ((held : List (List ℕ)) → HoldsLines now held → HoldsLines after (held ++ cut ∷ [])) → HasAdded before after text behind
added_line before now after text rest line behind cut h whole first stripped more = record {
  ended = h.ended ++ cut ∷ [];
  holds = λ held before_holds. rw (← append_assoc held h.ended (cut ∷ [])) (more (held ++ h.ended) (h.holds held before_holds));
  lines =
      h.lines ∙ ap (λ z. h.ended ++ ended_from [] z) whole ∙ ap (λ z. h.ended ++ z) (ended-cut [] line behind first) ∙ ap (λ z. h.ended ++ z ∷ ended_from [] behind) (sym stripped)
      ∙ sym (append_assoc h.ended (cut ∷ []) (ended_from [] behind));
  part = h.part ∙ ap (part_from []) whole ∙ part-cut [] line behind first;
}

-- at the end of the text
pub added_all : (before now : Kept) (text rest : List ℕ) → HasAdded before now text rest → list_any (λ b. b == 10) rest ≡ false
    → (held : List (List ℕ)) → HoldsLines before held → HoldsLines now (held ++ ended_from [] text)
added_all before now text rest h none held holds =
    rw (h.lines ∙ ap (λ z. h.ended ++ z) (ended-none [] rest none) ∙ append-nil h.ended) (h.holds held holds)

pub rest_is_part : (before now : Kept) (text rest : List ℕ) → HasAdded before now text rest → list_any (λ b. b == 10) rest ≡ false → rest ≡ part_from [] text
rest_is_part before now text rest h none = sym (h.part ∙ part-none [] rest none)
