-- The lines of the merged text.
use Rattle.std.proofs.Common.{◌≡◌, ◌+◌, ◌==◌, ◌&&◌, Bool, ℕ, List, [], ◌∷◌, ◌++◌, true, false, refl, ap, ◌∙◌, inl, inr, map, append_assoc}
use Rattle.std.specs.List.{All, list_any}
use Rattle.std.proofs.lemmas.Bool.{cases_Bool, or_parts, or_from}
use Rattle.std.proofs.lemmas.List.Elements.{All-cons, All-nil, All-append, All-head, All-tail}
use Rattle.event_rules.specs.Lines.{lines, lines_with, begins_with}
use Rattle.feed_merge.specs.Merging.{Entry, text_of, entry_behind, entries_behind, entries_of, entries_by_feed, all_entries, joined, merged_list, merged_text}
use Rattle.feed_merge.proofs.FirstOfAll.{All-sorted}

-- a line has no LF
abbrev IsWhole : List ℕ → Type 0
IsWhole line = list_any (λ b. b == 10) line ≡ false

whole_with : (is_lf is_cr : Bool) (b : ℕ) (behind : List (List ℕ)) → (b == 10) ≡ is_lf → All IsWhole behind → All IsWhole (lines_with is_lf is_cr b behind)
whole_with true is_cr b behind e all = All-cons IsWhole [] behind refl all
whole_with false true b behind e all = all
whole_with false false b [] e all = All-cons IsWhole (b ∷ []) [] (or_from (b == 10) false e refl) (All-nil IsWhole)
whole_with false false b (line ∷ behind) e all =
    All-cons IsWhole (b ∷ line) behind (or_from (b == 10) (list_any (λ c. c == 10) line) e (All-head IsWhole line behind all)) (All-tail IsWhole line behind all)

lines-whole : (text : List ℕ) → All IsWhole (lines text)
unfolding lines
lines-whole [] = All-nil IsWhole
lines-whole (b ∷ rest) = whole_with (b == 10) ((b == 13) && begins_with 10 rest) b (lines rest) refl (lines-whole rest)

-- so it is cut off again behind its end
lf_behind : (b : ℕ) (line rest : List ℕ) → (b == 10) ≡ false → IsWhole line → begins_with 10 (line ++ 13 ∷ 10 ∷ rest) ≡ false
lf_behind b [] rest e h = refl
lf_behind b (c ∷ line) rest e h = (or_parts (c == 10) (list_any (λ d. d == 10) line) h).0

lines-ended : (line rest : List ℕ) → IsWhole line → lines (line ++ 13 ∷ 10 ∷ rest) ≡ line ∷ lines rest
unfolding lines
lines-ended [] rest h = refl
lines-ended (b ∷ line) rest h =
    let parts = or_parts (b == 10) (list_any (λ c. c == 10) line) h in
    ap (λ z. lines_with (b == 10) ((b == 13) && z) b (lines (line ++ 13 ∷ 10 ∷ rest))) (lf_behind b line rest parts.0 parts.1)
    ∙ ap (λ z. lines_with (b == 10) ((b == 13) && false) b z) (lines-ended line rest parts.1)
    ∙ put_in_front b line (lines rest) parts.0
  where
    put_in_front : (b : ℕ) (line : List ℕ) (behind : List (List ℕ)) → (b == 10) ≡ false → lines_with (b == 10) ((b == 13) && false) b (line ∷ behind) ≡ (b ∷ line) ∷ behind
    put_in_front b line behind h =
        elim (cases_Bool (b == 13)) [
          | inl cr ↦ rw (h, cr) refl
          | inr other ↦ rw (h, other) refl
        ]

abbrev IsWholeEntry : Entry → Type 0
IsWholeEntry entry = IsWhole entry.line

lines-text_of : (entries : List Entry) → All IsWholeEntry entries → lines (text_of entries) ≡ map (λ entry. entry.line) entries
unfolding lines
lines-text_of [] all = refl
lines-text_of (entry ∷ entries) all =
    ap lines (append_assoc entry.line (13 ∷ 10 ∷ []) (text_of entries))
    ∙ lines-ended entry.line (text_of entries) (All-head IsWholeEntry entry entries all)
    ∙ ap (λ z. entry.line ∷ z) (lines-text_of entries (All-tail IsWholeEntry entry entries all))

whole_entries : (feed : ℕ) (before behind : List (List ℕ)) → All IsWhole behind → All IsWholeEntry (entries_behind feed before behind)
unfolding entries_behind
whole_entries feed before [] all = All-nil IsWholeEntry
whole_entries feed before (line ∷ behind) all =
    All-cons IsWholeEntry (entry_behind feed before line) (entries_behind feed (before ++ line ∷ []) behind)
    (All-head IsWhole line behind all)
    (whole_entries feed (before ++ line ∷ []) behind (All-tail IsWhole line behind all))

all_whole : (from : ℕ) (texts : List (List ℕ)) → All IsWholeEntry (joined (entries_by_feed from texts))
all_whole from [] = All-nil IsWholeEntry
all_whole from (text ∷ texts) =
    All-append IsWholeEntry (entries_of from text) (joined (entries_by_feed (from + 1) texts))
    (whole_entries from [] (lines text) (lines-whole text))
    (all_whole (from + 1) texts)

pub lines-merged : (feeds : List (List ℕ)) → lines (merged_text feeds) ≡ map (λ entry. entry.line) (merged_list feeds)
lines-merged feeds = lines-text_of (merged_list feeds) (All-sorted IsWholeEntry (all_entries feeds) (all_whole 0 feeds))
