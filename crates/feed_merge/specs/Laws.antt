-- What the merged list is, said of its lines.
use Rattle.std.specs.Prelude.{◌≡◌, ◌≤◌, ◌⊎◌, ◌==◌, ℕ, List, [], map, slice_index_or}
use Rattle.std.specs.List.{All, Contains, filter}
use Rattle.std.specs.List.Sorted.{IsPermutation}
use Rattle.event_rules.specs.Lines.{lines}
use Rattle.feed_merge.specs.Merging.{Entry, second_of, greatest_second, entries_of, all_entries, merged_list, merged_text}
use Rattle.feed_merge.specs.Order.{Ascends}

-- each line of each feed stands in the merged list exactly once, and no other line does
abbrev pub MergedHasEachLine : Type 0
MergedHasEachLine = (feeds : List (List ℕ)) → IsPermutation (all_entries feeds) (merged_list feeds)

-- and before all that come behind it
abbrev pub MergedAscends : Type 0
MergedAscends = (feeds : List (List ℕ)) → Ascends (merged_list feeds)

-- no other list has all lines, and in this order
abbrev pub MergedIsTheOnlyOne : Type 0
MergedIsTheOnlyOne =
    (feeds : List (List ℕ)) (entries : List Entry) → IsPermutation (all_entries feeds) entries → Ascends entries
    → entries ≡ merged_list feeds

-- the lines of a feed stand in the merged list in their order
abbrev pub FeedKeepsItsOrder : Type 0
FeedKeepsItsOrder =
    (feeds : List (List ℕ)) (feed : ℕ)
    → filter (λ entry. entry.feed == feed) (merged_list feeds) ≡ entries_of feed (slice_index_or feeds feed [])

-- the merged text is cut into exactly the merged lines
abbrev pub MergedIsCut : Type 0
MergedIsCut = (feeds : List (List ℕ)) → lines (merged_text feeds) ≡ map (λ entry. entry.line) (merged_list feeds)

-- no line has a second above the greatest, and it is 0 or that of a line
abbrev pub IsGreatest : List (List ℕ) → ℕ → Type 0
IsGreatest before second = All (λ line. second_of line ≤ second) before × ((second ≡ 0) ⊎ Contains (map second_of before) second)

abbrev pub KeyIsGreatest : Type 0
KeyIsGreatest = (before : List (List ℕ)) → IsGreatest before (greatest_second before)
