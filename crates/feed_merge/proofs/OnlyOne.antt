-- Two ascending lists of the same lines are one.
use Rattle.std.proofs.Common.{◌≡◌, ◌⊎◌, ℕ, zero, suc, List, [], ◌∷◌, refl, ap, ◌∙◌, sym, subst, inl, inr, arith}
use Rattle.std.specs.List.{Contains}
use Rattle.std.specs.List.Sorted.{IsPermutation}
use Rattle.std.proofs.lemmas.List.Elements.{All-contains}
use Rattle.std.proofs.lemmas.List.Sorted.{Contains-permutation, IsPermutation-sym}
use Rattle.feed_merge.specs.Merging.{Entry, all_entries, merged_list}
use Rattle.feed_merge.specs.Order.{ComesBefore, Ascends}
use Rattle.feed_merge.proofs.EntryOrder.{before-trans}
use Rattle.feed_merge.proofs.Ascending.{Ascends-sorted, sorted-permutation, all_apart}

not_before_itself : (entry : Entry) → ComesBefore entry entry → ⊥
not_before_itself entry h = grind arith

abbrev HaveSame : List Entry → List Entry → Type 0
HaveSame entries others = (entry : Entry) → Contains entries entry → Contains others entry

first_in : (entry : Entry) (rest : List Entry) → Contains (entry ∷ rest) entry
first_in entry rest = (zero, omega arith, refl)

rest_in : (first entry : Entry) (rest : List Entry) → Contains rest entry → Contains (first ∷ rest) entry
rest_in first entry rest (k, lt, e) = (suc k, omega arith, e)

in_cases : (first entry : Entry) (rest : List Entry) → Contains (first ∷ rest) entry → (first ≡ entry) ⊎ Contains rest entry
in_cases first entry rest (zero, lt, e) = inl e
in_cases first entry rest (suc k, lt, e) = inr (k, omega arith, e)

none_in : (entry : Entry) → Contains [] entry → ⊥
none_in entry (k, lt, e) = absurd (omega arith)

same_first : (first other : Entry) (rest others : List Entry) → Ascends (first ∷ rest) → Ascends (other ∷ others)
    → HaveSame (first ∷ rest) (other ∷ others) → HaveSame (other ∷ others) (first ∷ rest) → first ≡ other
same_first first other rest others up other_up there back =
    elim (in_cases other first others (there first (first_in first rest))) [
      | inl same ↦ sym same
      | inr behind ↦
          elim (in_cases first other rest (back other (first_in other others))) [
            | inl same ↦ same
            | inr too ↦
                absurd (not_before_itself first
                (before-trans first other first (All-contains (ComesBefore first) rest other up.0 too) (All-contains (ComesBefore other) others first other_up.0 behind)))
          ]
    ]

same_rest : (first : Entry) (rest others : List Entry) → Ascends (first ∷ rest) → HaveSame (first ∷ rest) (first ∷ others) → HaveSame rest others
same_rest first rest others up there = λ entry h.
    elim (in_cases first entry others (there entry (rest_in first entry rest h))) [
      | inl same ↦ absurd (not_before_itself first (subst (ComesBefore first) (sym same) (All-contains (ComesBefore first) rest entry up.0 h)))
      | inr behind ↦ behind
    ]

only_one : (entries others : List Entry) → Ascends entries → Ascends others → HaveSame entries others → HaveSame others entries → entries ≡ others
only_one [] [] up other_up there back = refl
only_one [] (other ∷ others) up other_up there back = absurd (none_in other (back other (first_in other others)))
only_one (first ∷ rest) [] up other_up there back = absurd (none_in first (there first (first_in first rest)))
only_one (first ∷ rest) (other ∷ others) up other_up there back =
    let e = same_first first other rest others up other_up there back in
    let up_there = subst (λ o. Ascends (o ∷ others)) (sym e) other_up in
    let to = subst (λ o. HaveSame (first ∷ rest) (o ∷ others)) (sym e) there in
    let from = subst (λ o. HaveSame (o ∷ others) (first ∷ rest)) (sym e) back in
    ap (λ z. first ∷ z) (only_one rest others up.1 up_there.1 (same_rest first rest others up to) (same_rest first others rest up_there from))
    ∙ ap (λ o. o ∷ others) e

pub merged-only_one : (feeds : List (List ℕ)) (entries : List Entry) → IsPermutation (all_entries feeds) entries → Ascends entries → entries ≡ merged_list feeds
merged-only_one feeds entries p up =
    let q = sorted-permutation (all_entries feeds) in
    only_one entries (merged_list feeds) up (Ascends-sorted (all_entries feeds) (all_apart 0 feeds))
    (λ entry h. Contains-permutation (all_entries feeds) (merged_list feeds) entry q (Contains-permutation entries (all_entries feeds) entry (IsPermutation-sym (all_entries feeds) entries p) h))
    (λ entry h. Contains-permutation (all_entries feeds) entries entry p (Contains-permutation (merged_list feeds) (all_entries feeds) entry (IsPermutation-sym (all_entries feeds) (merged_list feeds) q) h))
