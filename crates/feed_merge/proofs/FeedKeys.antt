-- The keys and the numbers of a feed's lines: neither falls.
use Rattle.std.proofs.Common.{◌≡◌, ◌≤◌, ◌+◌, ℕ, List, [], ◌∷◌, ◌++◌, length, refl, ap, ◌∙◌, arith, length-append}
use Rattle.std.specs.Prelude.{max}
use Rattle.std.specs.List.{All}
use Rattle.std.proofs.Math.Nat.{le-max_left, max_comm}
use Rattle.std.proofs.lemmas.List.Elements.{All-cons, All-nil, All-weaker}
use Rattle.feed_merge.specs.Merging.{Entry, second_of, greatest_second, entry_behind, entries_behind}

max_swap : (a b c : ℕ) → max a (max b c) ≡ max (max a b) c
max_swap a b c = grind arith

pub greatest_second-push : (before : List (List ℕ)) (line : List ℕ) → greatest_second (before ++ line ∷ []) ≡ max (greatest_second before) (second_of line)
unfolding greatest_second
greatest_second-push [] line = max_comm (second_of line) 0
greatest_second-push (first ∷ before) line =
    ap (max (second_of first)) (greatest_second-push before line) ∙ max_swap (second_of first) (greatest_second before) (second_of line)

greatest_second-more : (before : List (List ℕ)) (line : List ℕ) → greatest_second before ≤ greatest_second (before ++ line ∷ [])
greatest_second-more before line =
    let e = greatest_second-push before line in
    let l = le-max_left (greatest_second before) (second_of line) in
    omega arith

-- a line of this feed that has at least this key and this number
pub record IsLater (key feed number : ℕ) (entry : Entry) : Type 0 where
  pub key_from : key ≤ entry.key
  pub in_feed : entry.feed ≡ feed
  pub number_from : number ≤ entry.number

later_from : (key low feed number least : ℕ) → low ≤ key → least ≤ number → (entry : Entry) → IsLater key feed number entry → IsLater low feed least entry
later_from key low feed number least k n entry h = record {
  key_from = let a = h.key_from in omega arith;
  in_feed = h.in_feed;
  number_from = let a = h.number_from in omega arith;
}

length-more : (before : List (List ℕ)) (line : List ℕ) → length (before ++ line ∷ []) ≡ length before + 1
length-more before line = length-append before (line ∷ [])

pub entries_behind-later : (feed : ℕ) (before behind : List (List ℕ)) → All (IsLater (greatest_second before) feed (length before)) (entries_behind feed before behind)
unfolding entries_behind
entries_behind-later feed before [] = All-nil (IsLater (greatest_second before) feed (length before))
entries_behind-later feed before (line ∷ behind) =
    let more = greatest_second-more before line in
    let longer = length-more before line in
    All-cons (IsLater (greatest_second before) feed (length before)) (entry_behind feed before line) (entries_behind feed (before ++ line ∷ []) behind)
    (record { key_from = more; in_feed = refl; number_from = omega arith })
    (All-weaker (IsLater (greatest_second (before ++ line ∷ [])) feed (length (before ++ line ∷ []))) (IsLater (greatest_second before) feed (length before))
    (later_from (greatest_second (before ++ line ∷ [])) (greatest_second before) feed (length (before ++ line ∷ [])) (length before) more (omega arith))
    (entries_behind feed (before ++ line ∷ []) behind)
    (entries_behind-later feed (before ++ line ∷ []) behind))

-- no line of a feed has a lesser key than its first
pub entries_behind-from_first : (feed : ℕ) (before : List (List ℕ)) (line : List ℕ) (behind : List (List ℕ))
    → All (IsLater (greatest_second (before ++ line ∷ [])) feed 0) (entries_behind feed before (line ∷ behind))
unfolding entries_behind
entries_behind-from_first feed before line behind =
    let key = greatest_second (before ++ line ∷ []) in
    All-cons (IsLater key feed 0) (entry_behind feed before line) (entries_behind feed (before ++ line ∷ []) behind)
    (record { key_from = omega arith; in_feed = refl; number_from = omega arith })
    (All-weaker (IsLater key feed (length (before ++ line ∷ []))) (IsLater key feed 0)
    (later_from key key feed (length (before ++ line ∷ [])) 0 (omega arith) (omega arith))
    (entries_behind feed (before ++ line ∷ []) behind)
    (entries_behind-later feed (before ++ line ∷ []) behind))
