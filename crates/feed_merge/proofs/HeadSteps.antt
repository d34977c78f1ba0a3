-- The heads of the feeds, and the step from one head to the next.
use Rattle.std.proofs.Common.{◌≡◌, ◌<◌, ◌≤◌, ◌+◌, ℕ, suc, zero, List, [], ◌∷◌, ◌++◌, length, get_or, set, map, refl, ap, ◌∙◌, sym, subst, inl, inr, arith, get_or-set_same, get_or-set_other, length-set, length-append, Option, Some, None}
use Rattle.std.specs.Prelude.{max, ◌↔◌, IsNone, IfSome}
use Rattle.std.specs.List.{All}
use Rattle.std.proofs.Math.ListN.{get_or-map}
use Rattle.std.proofs.lemmas.Bool.{cases_eq, cases_lt}
use Rattle.std.proofs.lemmas.Option.{same_Some}
use Rattle.std.proofs.lemmas.List.{get_or_past, get_or_push, get_or_append_left}
use Rattle.std.proofs.lemmas.List.Elements.{All-nil, All-weaker}
use Rattle.due_queue.specs.Due.{IsFirstDue, ComesBefore as WaitsBefore}
use Rattle.event_rules.specs.Lines.{lines}
use Rattle.feed_merge.specs.Merging.{Entry, second_of, greatest_second, entry_behind, entries_behind, entries_of, entries_by_feed}
use Rattle.feed_merge.specs.Order.{ComesBefore}
use Rattle.feed_merge.specs.Heads.{last_second, key_in, IsRest, IsLeft, AreLeft, TakesFirst}
use Rattle.feed_merge.specs.declared.heads.Head.{Head}
use Rattle.feed_merge.proofs.FeedKeys.{greatest_second-push, IsLater, entries_behind-later, entries_behind-from_first}
use Rattle.feed_merge.proofs.FirstOfAll.{sorted-joined}

-- what a call of `head_of` says of its answer
pub record IsHeadOf (known : ℕ) (text : List ℕ) (next : Option Head) : Type 0 where
  pub none : IsNone next ↔ (text ≡ [])
  pub line : IfSome next (λ head. lines text ≡ head.line.now ∷ lines head.behind.now)
  pub key : IfSome next (λ head. head.key.0 ≡ max known (second_of head.line.now))
  pub in_time : known ≤ last_second → IfSome next (λ head. head.key.0 ≤ last_second)

-- it stands for the lines of the text
pub rest_of : (feed key : ℕ) (before : List (List ℕ)) (text : List ℕ) (next : Option Head) → key ≡ greatest_second before → key ≤ last_second → IsHeadOf key text next
    → IsLeft feed next (entries_behind feed before (lines text))
unfolding lines entries_behind
rest_of feed key before text None e known h = ap (λ t. entries_behind feed before (lines t)) (h.none.0 refl)
rest_of feed key before text (Some head) e known h = record {
  before = before;
  key = h.key ∙ ap (λ k. max k (second_of head.line.now)) e ∙ sym (greatest_second-push before head.line.now);
  known = h.in_time known;
  rest = ap (entries_behind feed before) h.line;
}

pub none_of : (feed : ℕ) → entries_of feed [] ≡ []
unfolding lines entries_behind
none_of feed = refl

-- the lines of one of the feeds
pub entries_by_feed-at : (from : ℕ) (texts : List (List ℕ)) (feed : ℕ) → get_or (entries_by_feed from texts) feed [] ≡ entries_of (from + feed) (get_or texts feed [])
entries_by_feed-at from [] feed = sym (none_of (from + feed))
entries_by_feed-at from (text ∷ texts) zero = let e : from ≡ from + 0 = omega arith in ap (λ n. entries_of n text) e
entries_by_feed-at from (text ∷ texts) (suc feed) =
    let e : (from + 1) + feed ≡ from + suc feed = omega arith in
    entries_by_feed-at (from + 1) texts feed ∙ ap (λ n. entries_of n (get_or texts feed [])) e

entries-at : (texts : List (List ℕ)) (feed : ℕ) → get_or (entries_by_feed 0 texts) feed [] ≡ entries_of feed (get_or texts feed [])
entries-at texts feed = let e : 0 + feed ≡ feed = omega arith in entries_by_feed-at 0 texts feed ∙ ap (λ n. entries_of n (get_or texts feed [])) e

length-entries_by_feed : (from : ℕ) (texts : List (List ℕ)) → length (entries_by_feed from texts) ≡ length texts
length-entries_by_feed from [] = refl
length-entries_by_feed from (text ∷ texts) = ap suc (length-entries_by_feed (from + 1) texts)

-- the heads of whole feeds
pub all_left : (heads : List (Option Head)) (texts : List (List ℕ)) → length heads ≡ length texts
    → ((feed : ℕ) → feed < length texts → IsLeft feed (get_or heads feed None) (entries_of feed (get_or texts feed [])))
    → AreLeft heads (entries_by_feed 0 texts)
all_left heads texts len each = record {
  each = length-entries_by_feed 0 texts ∙ sym len;
  left = λ feed.
      rw (entries-at texts feed)
      (elim (cases_lt feed (length texts)) [
        | inl within ↦ each feed within
        | inr past ↦ rw (get_or_past heads feed None (omega arith), get_or_past texts feed [] past) (none_of feed)
      ]);
}

waits_before : (key feed other number : ℕ) (line : List ℕ) (u k : ℕ) (entry : Entry) → u ≡ k → WaitsBefore key feed u other → IsLater k other 0 entry
    → ComesBefore (record { key = key; feed = feed; number = number; line = line }) entry
waits_before key feed other number line u k entry e (inl earlier) later = let a = later.key_from in inl (omega arith)
waits_before key feed other number line u k entry e (inr same) later =
    let a = later.key_from in
    let f = later.in_feed in
    let at = same.0 in
    let under = same.1 in
    elim (cases_lt key entry.key) [
      | inl less ↦ inl less
      | inr more ↦ inr (omega arith, inl (omega arith))
    ]

later_before : (feed : ℕ) (before : List (List ℕ)) (line : List ℕ) (entry : Entry)
    → IsLater (greatest_second (before ++ line ∷ [])) feed (length (before ++ line ∷ [])) entry → ComesBefore (entry_behind feed before line) entry
later_before feed before line entry later =
    let a = later.key_from in
    let n = later.number_from in
    let len = length-append before (line ∷ []) in
    elim (cases_lt (greatest_second (before ++ line ∷ [])) entry.key) [
      | inl less ↦ inl less
      | inr more ↦ inr (omega arith, inr (sym later.in_feed, omega arith))
    ]

-- the head of one more whole feed
pub head_pushed : (heads : List (Option Head)) (texts : List (List ℕ)) (count : ℕ) (head : Option Head) → length heads ≡ count
    → ((feed : ℕ) → feed < count → IsLeft feed (get_or heads feed None) (entries_of feed (get_or texts feed [])))
    → IsHeadOf 0 (get_or texts count []) head
    → (feed : ℕ) → feed < count + 1 → IsLeft feed (get_or (heads ++ head ∷ []) feed None) (entries_of feed (get_or texts feed []))
unfolding greatest_second
head_pushed heads texts count head len each h feed lt =
    elim (cases_eq feed count) [
      | inl same ↦ rw (same, get_or_push heads head None count len) (rest_of count 0 [] (get_or texts count []) head refl (omega arith) h)
      | inr ne ↦ rw (get_or_append_left heads (head ∷ []) None feed (omega arith)) (each feed (omega arith))
    ]

-- the line of a head that waits before another comes before all lines of the other's feed
before_other : (key feed other : ℕ) (number : ℕ) (line : List ℕ) (head : Option Head) (entries : List Entry) → IsLeft other head entries
    → ((u : ℕ) → key_in head ≡ Some u → WaitsBefore key feed u other)
    → All (ComesBefore (record { key = key; feed = feed; number = number; line = line })) entries
before_other key feed other number line None entries left waits =
    subst (All (ComesBefore (record { key = key; feed = feed; number = number; line = line }))) (sym left) (All-nil (ComesBefore (record { key = key; feed = feed; number = number; line = line })))
before_other key feed other number line (Some head) entries left waits =
    let w = waits head.key.0 refl in
    let first : Entry = record { key = key; feed = feed; number = number; line = line } in
    subst (All (ComesBefore first)) (sym left.rest)
    (All-weaker (IsLater (greatest_second (left.before ++ head.line.now ∷ [])) other 0) (ComesBefore first)
    (λ entry later. waits_before key feed other number line head.key.0 (greatest_second (left.before ++ head.line.now ∷ [])) entry left.key w later)
    (entries_behind other left.before (head.line.now ∷ lines head.behind.now))
    (entries_behind-from_first other left.before head.line.now (lines head.behind.now)))

-- and before the lines behind it in its own feed
pub before_own : (feed : ℕ) (before : List (List ℕ)) (line : List ℕ) (behind : List (List ℕ))
    → All (ComesBefore (entry_behind feed before line)) (entries_behind feed (before ++ line ∷ []) behind)
before_own feed before line behind =
    All-weaker (IsLater (greatest_second (before ++ line ∷ [])) feed (length (before ++ line ∷ []))) (ComesBefore (entry_behind feed before line))
    (λ entry later. later_before feed before line entry later)
    (entries_behind feed (before ++ line ∷ []) behind)
    (entries_behind-later feed (before ++ line ∷ []) behind)

waits_from : (t key feed u other : ℕ) → t ≡ key → WaitsBefore t feed u other → WaitsBefore key feed u other
waits_from t key feed u other e w = subst (λ k. WaitsBefore k feed u other) e w

-- by which key a feed waits
pub key_at : (heads : List (Option Head)) (feed : ℕ) → get_or (map key_in heads) feed None ≡ key_in (get_or heads feed None)
key_at heads feed = get_or-map key_in heads feed None

-- the feed that comes first gives its line, and its head stands for the lines behind that
pub taken : (heads : List (Option Head)) (queue : List (Option ℕ)) (parts : List (List Entry)) (feed now : ℕ) (head : Head) (next : Option Head)
    → queue ≡ map key_in heads → AreLeft heads parts → IsFirstDue queue now feed → get_or heads feed None ≡ Some head → feed < length heads
    → IsHeadOf head.key.0 head.behind.now next
    → TakesFirst parts head.line.now (set heads feed next)
unfolding entries_behind
taken heads queue parts feed now head next e left first_due is within h =
    let due = subst (λ q. IsFirstDue q now feed) e first_due in
    let rest : IsRest feed head (get_or parts feed []) = rw is at (left.left feed) in
    let line = head.line.now in
    let first = entry_behind feed rest.before line in
    let behind = entries_behind feed (rest.before ++ line ∷ []) (lines head.behind.now) in
    let next_left = rest_of feed head.key.0 (rest.before ++ line ∷ []) head.behind.now next rest.key rest.known h in
    let time : due.0 ≡ head.key.0 = same_Some due.0 head.key.0 (sym due.1 ∙ key_at heads feed ∙ ap key_in is) in
    record {
      first = first;
      others = set parts feed behind;
      is = refl;
      left = record {
        each = length-set parts feed behind ∙ left.each ∙ sym (length-set heads feed next);
        left = λ other.
            elim (cases_eq other feed) [
              | inl same ↦ rw (same, get_or-set_same heads feed next None within, get_or-set_same parts feed behind [] (omega (arith, left.each))) next_left
              | inr ne ↦ rw (get_or-set_other heads feed other next None ne, get_or-set_other parts feed other behind [] ne) (left.left other)
            ];
      };
      least = sorted-joined parts feed first behind rest.rest
          (before_own feed rest.before line (lines head.behind.now))
          (λ other ne. before_other first.key feed other first.number line (get_or heads other None) (get_or parts other []) (left.left other)
          (λ u e. waits_from due.0 first.key feed u other (time ∙ rest.key) (due.3 other u (key_at heads other ∙ e) ne)));
    }
