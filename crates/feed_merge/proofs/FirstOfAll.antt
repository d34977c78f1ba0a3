-- The first of several lists of lines, where no list has a line before it.
use Rattle.std.proofs.Common.{◌≡◌, ◌≢◌, ℕ, zero, suc, List, [], ◌∷◌, ◌++◌, get_or, set, refl, ap, ◌∙◌, arith}
use Rattle.std.specs.List.{All}
use Rattle.std.proofs.lemmas.List.Elements.{All-append, All-cons, All-head, All-tail, All-nil}
use Rattle.std.proofs.lemmas.Bool.{cond_both}
use Rattle.feed_merge.specs.Merging.{Entry, comes_before, put_in, sorted, joined}
use Rattle.feed_merge.specs.Order.{ComesBefore}
use Rattle.feed_merge.proofs.EntryOrder.{before-test, after-test}

-- what holds of all holds of the sorted
pub All-put_in : (P : Entry → Type 0) (entry : Entry) (rest : List Entry) → P entry → All P rest → All P (put_in entry rest)
unfolding put_in
All-put_in P entry [] one all = All-cons P entry [] one all
All-put_in P entry (first ∷ rest) one all =
    cond_both (comes_before entry first) (entry ∷ first ∷ rest) (first ∷ put_in entry rest) (All P)
    (λ _. All-cons P entry (first ∷ rest) one all)
    (λ _. All-cons P first (put_in entry rest) (All-head P first rest all) (All-put_in P entry rest one (All-tail P first rest all)))

pub All-sorted : (P : Entry → Type 0) (entries : List Entry) → All P entries → All P (sorted entries)
unfolding sorted
All-sorted P [] all = all
All-sorted P (entry ∷ rest) all = All-put_in P entry (sorted rest) (All-head P entry rest all) (All-sorted P rest (All-tail P entry rest all))

-- a line before all others is put in front of them
pub put_in-first : (entry : Entry) (rest : List Entry) → All (ComesBefore entry) rest → put_in entry rest ≡ entry ∷ rest
unfolding put_in
put_in-first entry [] all = refl
put_in-first entry (first ∷ rest) all = rw (before-test entry first (All-head (ComesBefore entry) first rest all)) refl

-- and another one behind it
pub put_in-behind : (first entry : Entry) (rest : List Entry) → ComesBefore first entry → put_in entry (first ∷ rest) ≡ first ∷ put_in entry rest
unfolding put_in
put_in-behind first entry rest h = rw (after-test first entry h) refl

pub sorted-first : (entry : Entry) (rest : List Entry) → All (ComesBefore entry) rest → sorted (entry ∷ rest) ≡ entry ∷ sorted rest
unfolding sorted
sorted-first entry rest all = put_in-first entry (sorted rest) (All-sorted (ComesBefore entry) rest all)

-- other lines in front of those that begin with it when sorted
sorted-behind : (first : Entry) (front rest others : List Entry) → All (ComesBefore first) front → sorted rest ≡ first ∷ sorted others
    → sorted (front ++ rest) ≡ first ∷ sorted (front ++ others)
unfolding sorted
sorted-behind first [] rest others all e = e
sorted-behind first (entry ∷ front) rest others all e =
    ap (put_in entry) (sorted-behind first front rest others (All-tail (ComesBefore first) entry front all) e)
    ∙ put_in-behind first entry (sorted (front ++ others)) (All-head (ComesBefore first) entry front all)

All-joined : (P : Entry → Type 0) (parts : List (List Entry)) → ((i : ℕ) → All P (get_or parts i [])) → All P (joined parts)
All-joined P [] all = All-nil P
All-joined P (part ∷ parts) all = All-append P part (joined parts) (all zero) (All-joined P parts (λ i. all (suc i)))

-- the first line of a part, before all others of this part and of the other parts
pub sorted-joined : (parts : List (List Entry)) (at : ℕ) (first : Entry) (rest : List Entry)
    → get_or parts at [] ≡ first ∷ rest → All (ComesBefore first) rest
    → ((other : ℕ) → other ≢ at → All (ComesBefore first) (get_or parts other []))
    → sorted (joined parts) ≡ first ∷ sorted (joined (set parts at rest))
sorted-joined [] at first rest e own others = cc
sorted-joined (part ∷ parts) zero first rest e own others =
    ap (λ p. sorted (p ++ joined parts)) e
    ∙ sorted-first first (rest ++ joined parts)
    (All-append (ComesBefore first) rest (joined parts) own (All-joined (ComesBefore first) parts (λ i. others (suc i) (omega arith))))
sorted-joined (part ∷ parts) (suc at) first rest e own others =
    sorted-behind first part (joined parts) (joined (set parts at rest))
    (others zero (omega arith))
    (sorted-joined parts at first rest e own (λ other ne. others (suc other) (λ same. ne (omega arith))))
