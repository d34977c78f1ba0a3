-- What a block keeps of its lines.
use Rattle.std.proofs.Common.{◌≡◌, ◌<◌, ◌≤◌, ◌+◌, ◌&&◌, ◌||◌, true, false, Bool, ℕ, List, [], ◌∷◌, ◌++◌, length, refl, ap, sym, ◌∙◌, append_assoc, inl, inr, arith}
use Rattle.std.specs.Prelude.{nat_le, nat_lt, map}
use Rattle.std.proofs.lemmas.Bool.{and_parts, cases_Bool, leb-true, ltb-true, ltb-false, lt-ltb}
use Rattle.std.proofs.lemmas.List.{append-nil, map_push, length-append}
use Rattle.event_rules.specs.Lines.{lines, is_empty, begins_with, is_skipped, most_line}
use Rattle.event_rules.specs.Fields.{has_no_fields}
use Rattle.line_text.specs.LineSorts.{sort_of, IsOfSort}
use Rattle.line_text.specs.Blocks.{Kept, kept_as, kept_text, HoldsLines, HoldsFirst}
use Rattle.line_text.specs.declared.sorts.LineSort.{LineSort}
use Rattle.line_text.specs.declared.sorts.LineSort.TheVariants.{Skipped, TooLong, NoFields, Row}

-- each line is of its sort
pub of_its_sort : (line : List ℕ) → IsOfSort (sort_of line) line
unfolding sort_of
of_its_sort line =
    elim (cases_Bool (is_skipped line)) [
      | inl skipped ↦ rw skipped skipped
      | inr said ↦
          elim (cases_Bool (nat_lt most_line (length line))) [
            | inl more ↦ let long = ltb-true most_line (length line) more in rw (said, more) (record { not_skipped = said; long = long })
            | inr less ↦
                let short : length line ≤ most_line = let h = ltb-false most_line (length line) less in omega arith in
                elim (cases_Bool (has_no_fields line)) [
                  | inl bare ↦ rw (said, less, bare) (record { not_skipped = said; short = short; bare = bare })
                  | inr row ↦ rw (said, less, row) (record { not_skipped = said; short = short; has_fields = row })
                ]
          ]
    ]

-- a line that is too long isn't skipped
long_is_said : (line : List ℕ) → most_line < length line → is_skipped line ≡ false
long_is_said [] h = absurd (omega arith)
long_is_said (b ∷ rest) h =
    elim (cases_Bool (begins_with 35 (b ∷ rest) && nat_le (length (b ∷ rest)) most_line)) [
      | inl both ↦ let short = leb-true (length (b ∷ rest)) most_line (and_parts (begins_with 35 (b ∷ rest)) (nat_le (length (b ∷ rest)) most_line) both).1 in absurd (omega arith)
      | inr other ↦ other
    ]

pub long_sort : (line : List ℕ) → most_line < length line → TooLong ≡ sort_of line
unfolding sort_of
long_sort line h = rw (long_is_said line h, lt-ltb most_line (length line) h) refl

-- one more line
kept_with : (held : List (List ℕ)) (line : List ℕ) → kept_text (held ++ line ∷ []) ≡ kept_text held ++ kept_as (sort_of line) line
unfolding kept_text
kept_with [] line = append-nil (kept_as (sort_of line) line)
kept_with (first ∷ held) line =
    ap (λ z. kept_as (sort_of first) first ++ z) (kept_with held line)
    ∙ sym (append_assoc (kept_as (sort_of first) first) (kept_text held) (kept_as (sort_of line) line))

pub holds_with : (seen before after : Kept) (sort : LineSort) (held : List (List ℕ)) (line : List ℕ) → seen ≡ before → sort ≡ sort_of line
    → after.sorts ≡ seen.sorts ++ sort ∷ [] → after.text ≡ seen.text ++ kept_as sort line
    → HoldsLines before held → HoldsLines after (held ++ line ∷ [])
holds_with seen before after sort held line v e sorts text holds =
    let h : HoldsLines seen held = rw v holds in
    record {
      sorts = sorts ∙ ap (λ z. seen.sorts ++ z ∷ []) e ∙ ap (λ z. z ++ sort_of line ∷ []) h.sorts ∙ sym (map_push sort_of held line);
      text = text ∙ ap (λ z. seen.text ++ kept_as z line) e ∙ ap (λ z. z ++ kept_as (sort_of line) line) h.text ∙ sym (kept_with held line);
    }

pub holds_none : (block : Kept) → block.sorts ≡ [] → block.text ≡ [] → HoldsLines block []
unfolding kept_text
holds_none block sorts text = record { sorts = sorts; text = text }

-- the first lines of a text
pub first_none : (block : Kept) (text : List ℕ) → HoldsLines block [] → HoldsFirst block text text
first_none block text h = record { held = []; holds = h; first = refl; few = omega arith }

pub first_with : (before after : Kept) (text rest behind line : List ℕ) → HoldsFirst before text rest → lines rest ≡ line ∷ lines behind → length behind < length rest
    → ((held : List (List ℕ)) → HoldsLines before held → HoldsLines after (held ++ line ∷ [])) → HoldsFirst after text behind
first_with before after text rest behind line h e less more = record {
  held = h.held ++ line ∷ [];
  holds = more h.held h.holds;
  first = h.first ∙ ap (λ z. h.held ++ z) e ∙ sym (append_assoc h.held (line ∷ []) (lines behind));
  few = let a = h.few in let b = length-append h.held (line ∷ []) in omega arith;
}
