-- The lines of one feed in the merged list.
use Rattle.std.proofs.Common.{◌≡◌, ◌<◌, ◌≤◌, ◌+◌, ◌==◌, Bool, ℕ, zero, suc, List, [], ◌∷◌, ◌++◌, get_or, true, false, refl, ap, ◌∙◌, sym, inl, inr, arith, cond}
use Rattle.std.specs.List.{All, filter}
use Rattle.std.proofs.lemmas.Bool.{cases_Bool, eq-eqb, ne_eqb}
use Rattle.std.proofs.lemmas.List.{append-nil}
use Rattle.std.proofs.lemmas.List.Elements.{All-head, All-tail, All-filter, All-weaker, filter-append}
use Rattle.event_rules.specs.Lines.{lines}
use Rattle.feed_merge.specs.Merging.{Entry, comes_before, put_in, sorted, entries_of, entries_by_feed, all_entries, joined, merged_list}
use Rattle.feed_merge.specs.Order.{ComesBefore, Ascends}
use Rattle.feed_merge.proofs.EntryOrder.{test-before}
use Rattle.feed_merge.proofs.FirstOfAll.{put_in-first}
use Rattle.feed_merge.proofs.HeadSteps.{none_of}
use Rattle.feed_merge.proofs.Ascending.{AreAllApart, before_all, Ascends-sorted, Ascends-entries_behind, all_in_feed, all_from_feed, all_apart}

-- a line that passes the test is put in among those that pass
filter-put_in : (p : Entry → Bool) (entry : Entry) (rest : List Entry) → p entry ≡ true → Ascends rest → filter p (put_in entry rest) ≡ put_in entry (filter p rest)
unfolding put_in
filter-put_in p entry [] passes up = rw passes refl
filter-put_in p entry (first ∷ rest) passes up =
    elim (cases_Bool (comes_before entry first)) [
      | inl before ↦
          rw (before, passes)
          (sym (put_in-first entry (filter p (first ∷ rest)) (All-filter p (ComesBefore entry) (first ∷ rest) (before_all entry first rest (test-before entry first before) up))))
      | inr behind ↦
          let step = filter-put_in p entry rest passes up.1 in
          elim (cases_Bool (p first)) [
            | inl too ↦ rw (behind, too, behind) (ap (λ z. first ∷ z) step)
            | inr gone ↦ rw (behind, gone) step
          ]
    ]

-- and one that doesn't is left out
filter-put_in_gone : (p : Entry → Bool) (entry : Entry) (rest : List Entry) → p entry ≡ false → filter p (put_in entry rest) ≡ filter p rest
unfolding put_in
filter-put_in_gone p entry [] gone = rw gone refl
filter-put_in_gone p entry (first ∷ rest) gone =
    elim (cases_Bool (comes_before entry first)) [
      | inl before ↦ rw (before, gone) refl
      | inr behind ↦ rw behind (ap (λ z. cond (p first) (first ∷ z) z) (filter-put_in_gone p entry rest gone))
    ]

filter-sorted : (p : Entry → Bool) (entries : List Entry) → AreAllApart entries → filter p (sorted entries) ≡ sorted (filter p entries)
unfolding sorted
filter-sorted p [] apart = refl
filter-sorted p (entry ∷ rest) apart =
    elim (cases_Bool (p entry)) [
      | inl passes ↦ rw passes (filter-put_in p entry (sorted rest) passes (Ascends-sorted rest apart.1) ∙ ap (put_in entry) (filter-sorted p rest apart.1))
      | inr gone ↦ rw gone (filter-put_in_gone p entry (sorted rest) gone ∙ filter-sorted p rest apart.1)
    ]

-- an ascending list is sorted already
sorted-ascending : (entries : List Entry) → Ascends entries → sorted entries ≡ entries
unfolding sorted
sorted-ascending [] up = refl
sorted-ascending (entry ∷ rest) up = ap (put_in entry) (sorted-ascending rest up.1) ∙ put_in-first entry rest up.0

-- the lines of all feeds, and those of one
filter-all : (p : Entry → Bool) (entries : List Entry) → All (λ entry. p entry ≡ true) entries → filter p entries ≡ entries
filter-all p [] all = refl
filter-all p (entry ∷ rest) all =
    rw (All-head (λ e. p e ≡ true) entry rest all) (ap (λ z. entry ∷ z) (filter-all p rest (All-tail (λ e. p e ≡ true) entry rest all)))

filter-none : (p : Entry → Bool) (entries : List Entry) → All (λ entry. p entry ≡ false) entries → filter p entries ≡ []
filter-none p [] all = refl
filter-none p (entry ∷ rest) all =
    rw (All-head (λ e. p e ≡ false) entry rest all) (filter-none p rest (All-tail (λ e. p e ≡ false) entry rest all))

abbrev is_of : ℕ → Entry → Bool
is_of feed entry = entry.feed == feed

later_is_not : (feed from : ℕ) → feed < from → (entry : Entry) → from ≤ entry.feed → is_of feed entry ≡ false
later_is_not feed from lt entry h = ne_eqb entry.feed feed (λ e. omega arith)

earlier_is_not : (feed from : ℕ) → from < feed → (entry : Entry) → entry.feed ≡ from → is_of feed entry ≡ false
earlier_is_not feed from lt entry h = ne_eqb entry.feed feed (λ e. omega arith)

filter-joined : (from : ℕ) (texts : List (List ℕ)) (at feed : ℕ) → feed ≡ from + at → filter (is_of feed) (joined (entries_by_feed from texts)) ≡ entries_of feed (get_or texts at [])
filter-joined from [] at feed e = sym (none_of feed)
filter-joined from (text ∷ texts) zero feed e =
    let here : feed ≡ from = omega arith in
    let others = joined (entries_by_feed (from + 1) texts) in
    filter-append (is_of feed) (entries_of from text) others
    ∙ ap (λ z. z ++ filter (is_of feed) others)
    (filter-all (is_of feed) (entries_of from text)
    (All-weaker (λ entry. entry.feed ≡ from) (λ entry. is_of feed entry ≡ true) (λ entry h. eq-eqb entry.feed feed (omega arith)) (entries_of from text) (all_in_feed from text)))
    ∙ ap (λ z. entries_of from text ++ z)
    (filter-none (is_of feed) others
    (All-weaker (λ entry. from + 1 ≤ entry.feed) (λ entry. is_of feed entry ≡ false) (later_is_not feed (from + 1) (omega arith)) others (all_from_feed (from + 1) texts)))
    ∙ append-nil (entries_of from text)
    ∙ ap (λ n. entries_of n text) (sym here)
filter-joined from (text ∷ texts) (suc at) feed e =
    let others = joined (entries_by_feed (from + 1) texts) in
    filter-append (is_of feed) (entries_of from text) others
    ∙ ap (λ z. z ++ filter (is_of feed) others)
    (filter-none (is_of feed) (entries_of from text)
    (All-weaker (λ entry. entry.feed ≡ from) (λ entry. is_of feed entry ≡ false) (earlier_is_not feed from (omega arith)) (entries_of from text) (all_in_feed from text)))
    ∙ filter-joined (from + 1) texts at feed (omega arith)

pub feed_in_merged : (feeds : List (List ℕ)) (feed : ℕ) → filter (is_of feed) (merged_list feeds) ≡ entries_of feed (get_or feeds feed [])
feed_in_merged feeds feed =
    filter-sorted (is_of feed) (all_entries feeds) (all_apart 0 feeds)
    ∙ ap sorted (filter-joined 0 feeds feed feed (omega arith))
    ∙ sorted-ascending (entries_of feed (get_or feeds feed [])) (Ascends-entries_behind feed [] (lines (get_or feeds feed [])))
