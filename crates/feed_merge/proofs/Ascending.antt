-- The sorted lines: the same lines, in ascending order.
use Rattle.std.proofs.Common.{◌≡◌, ◌≤◌, ◌+◌, ◌⊎◌, ℕ, List, [], ◌∷◌, ◌++◌, false, inl, inr, arith}
use Rattle.std.specs.List.{All}
use Rattle.std.specs.List.Sorted.{IsPermutation}
use Rattle.std.specs.Prelude.{⊤}
use Rattle.std.proofs.lemmas.Bool.{cases_Bool, cases_order, both_ways}
use Rattle.std.proofs.lemmas.List.Elements.{All-cons, All-nil, All-append, All-head, All-tail, All-weaker}
use Rattle.std.proofs.lemmas.List.Sorted.{IsPermutation-refl, IsPermutation-cons, IsPermutation-trans, IsPermutation-middle}
use Rattle.event_rules.specs.Lines.{lines}
use Rattle.feed_merge.specs.Merging.{Entry, greatest_second, comes_before, put_in, sorted, entries_behind, entries_of, entries_by_feed, joined}
use Rattle.feed_merge.specs.Order.{ComesBefore, Ascends}
use Rattle.feed_merge.proofs.EntryOrder.{before-test, test-before, before-trans}
use Rattle.feed_merge.proofs.FirstOfAll.{All-put_in, All-sorted}
use Rattle.feed_merge.proofs.FeedKeys.{IsLater, entries_behind-later}
use Rattle.feed_merge.proofs.HeadSteps.{before_own}

-- one of two lines comes before the other
abbrev pub AreApart : Entry → Entry → Type 0
AreApart entry other = ComesBefore entry other ⊎ ComesBefore other entry

abbrev pub AreAllApart : List Entry → Type 0
AreAllApart [] = ⊤
AreAllApart (entry ∷ rest) = All (AreApart entry) rest × AreAllApart rest

-- a line before the first of an ascending list is before all of it
pub before_all : (entry first : Entry) (rest : List Entry) → ComesBefore entry first → Ascends (first ∷ rest) → All (ComesBefore entry) (first ∷ rest)
before_all entry first rest b up =
    All-cons (ComesBefore entry) first rest b
    (All-weaker (ComesBefore first) (ComesBefore entry) (λ other h. before-trans entry first other b h) rest up.0)

-- a line apart from another that it doesn't come before
other_way : (entry first : Entry) → AreApart entry first → comes_before entry first ≡ false → ComesBefore first entry
other_way entry first (inl b) e = absurd (both_ways (comes_before entry first) e (before-test entry first b))
other_way entry first (inr b) e = b

pub Ascends-put_in : (entry : Entry) (rest : List Entry) → All (AreApart entry) rest → Ascends rest → Ascends (put_in entry rest)
unfolding put_in
Ascends-put_in entry [] apart up = (All-nil (ComesBefore entry), tt)
Ascends-put_in entry (first ∷ rest) apart up =
    elim (cases_Bool (comes_before entry first)) [
      | inl before ↦ rw before (before_all entry first rest (test-before entry first before) up, up)
      | inr behind ↦
          let b = other_way entry first (All-head (AreApart entry) first rest apart) behind in
          rw behind (All-put_in (ComesBefore first) entry rest b up.0, Ascends-put_in entry rest (All-tail (AreApart entry) first rest apart) up.1)
    ]

pub Ascends-sorted : (entries : List Entry) → AreAllApart entries → Ascends (sorted entries)
unfolding sorted
Ascends-sorted [] apart = tt
Ascends-sorted (entry ∷ rest) apart = Ascends-put_in entry (sorted rest) (All-sorted (AreApart entry) rest apart.0) (Ascends-sorted rest apart.1)

-- the lines are the same
put_in-permutation : (entry : Entry) (rest : List Entry) → IsPermutation (entry ∷ rest) (put_in entry rest)
unfolding put_in
put_in-permutation entry [] = IsPermutation-refl (entry ∷ [])
put_in-permutation entry (first ∷ rest) =
    elim (cases_Bool (comes_before entry first)) [
      | inl before ↦ rw before (IsPermutation-refl (entry ∷ first ∷ rest))
      | inr behind ↦
          rw behind
          (IsPermutation-trans (entry ∷ first ∷ rest) (first ∷ entry ∷ rest) (first ∷ put_in entry rest)
          (IsPermutation-middle (entry ∷ []) first rest)
          (IsPermutation-cons first (entry ∷ rest) (put_in entry rest) (put_in-permutation entry rest)))
    ]

pub sorted-permutation : (entries : List Entry) → IsPermutation entries (sorted entries)
unfolding sorted
sorted-permutation [] = IsPermutation-refl []
sorted-permutation (entry ∷ rest) =
    IsPermutation-trans (entry ∷ rest) (entry ∷ sorted rest) (put_in entry (sorted rest))
    (IsPermutation-cons entry rest (sorted rest) (sorted-permutation rest))
    (put_in-permutation entry (sorted rest))

-- the lines of one feed ascend
pub Ascends-entries_behind : (feed : ℕ) (before behind : List (List ℕ)) → Ascends (entries_behind feed before behind)
unfolding entries_behind
Ascends-entries_behind feed before [] = tt
Ascends-entries_behind feed before (line ∷ behind) = (before_own feed before line behind, Ascends-entries_behind feed (before ++ line ∷ []) behind)

apart_from_ascends : (entries : List Entry) → Ascends entries → AreAllApart entries
apart_from_ascends [] up = tt
apart_from_ascends (entry ∷ rest) up =
    (All-weaker (ComesBefore entry) (AreApart entry) (λ other h. inl h) rest up.0, apart_from_ascends rest up.1)

-- lines of a feed, and lines of later ones
pub all_in_feed : (feed : ℕ) (text : List ℕ) → All (λ entry. entry.feed ≡ feed) (entries_of feed text)
all_in_feed feed text =
    All-weaker (IsLater (greatest_second []) feed 0) (λ entry. entry.feed ≡ feed) (λ entry later. later.in_feed) (entries_of feed text)
    (entries_behind-later feed [] (lines text))

from_weaker : (from : ℕ) (entry : Entry) → from + 1 ≤ entry.feed → from ≤ entry.feed
from_weaker from entry h = omega arith

from_same : (from : ℕ) (entry : Entry) → entry.feed ≡ from → from ≤ entry.feed
from_same from entry h = omega arith

pub all_from_feed : (from : ℕ) (texts : List (List ℕ)) → All (λ entry. from ≤ entry.feed) (joined (entries_by_feed from texts))
all_from_feed from [] = All-nil (λ entry. from ≤ entry.feed)
all_from_feed from (text ∷ texts) =
    All-append (λ entry. from ≤ entry.feed) (entries_of from text) (joined (entries_by_feed (from + 1) texts))
    (All-weaker (λ entry. entry.feed ≡ from) (λ entry. from ≤ entry.feed) (from_same from) (entries_of from text) (all_in_feed from text))
    (All-weaker (λ entry. from + 1 ≤ entry.feed) (λ entry. from ≤ entry.feed) (from_weaker from) (joined (entries_by_feed (from + 1) texts))
    (all_from_feed (from + 1) texts))

-- lines of different feeds are apart
feeds_apart : (from : ℕ) (entry other : Entry) → entry.feed ≡ from → from + 1 ≤ other.feed → AreApart entry other
feeds_apart from entry other here later =
    elim (cases_order entry.key other.key) [
      | inl same ↦ inl (inr (same, inl (omega arith)))
      | inr apart ↦ elim apart [ inl less ↦ inl (inl less) | inr more ↦ inr (inl more) ]
    ]

apart-append : (entries others : List Entry) → AreAllApart entries → AreAllApart others → All (λ entry. All (AreApart entry) others) entries
    → AreAllApart (entries ++ others)
apart-append [] others apart others_apart across = others_apart
apart-append (entry ∷ entries) others apart others_apart across = (
  All-append (AreApart entry) entries others apart.0 (All-head (λ e. All (AreApart e) others) entry entries across),
  apart-append entries others apart.1 others_apart (All-tail (λ e. All (AreApart e) others) entry entries across),
)

pub all_apart : (from : ℕ) (texts : List (List ℕ)) → AreAllApart (joined (entries_by_feed from texts))
all_apart from [] = tt
all_apart from (text ∷ texts) =
    let others = joined (entries_by_feed (from + 1) texts) in
    apart-append (entries_of from text) others
    (apart_from_ascends (entries_of from text) (Ascends-entries_behind from [] (lines text)))
    (all_apart (from + 1) texts)
    (All-weaker (λ entry. entry.feed ≡ from) (λ entry. All (AreApart entry) others)
    (λ entry here. All-weaker (λ other. from + 1 ≤ other.feed) (AreApart entry) (λ other later. feeds_apart from entry other here later) others
    (all_from_feed (from + 1) texts))
    (entries_of from text)
    (all_in_feed from text))
