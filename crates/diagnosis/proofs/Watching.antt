-- Flags that are watched: one is written, and the list of those that differ follows.
use Rattle.std.proofs.Common.{◌≡◌, ◌≢◌, ℕ, ◌+◌, ◌-◌, ◌<◌, ◌≤◌, Bool, true, false, refl, sym, ap, ◌∙◌, subst, inl, inr, ⊎_elim, arith, List, length, set, take, get_or}
use Rattle.std.specs.Prelude.{◌⊎◌}
use mathlib.Core.Bool.{beq}
use Rattle.std.proofs.lemmas.Bool.{cases_Bool, cases_eq, cases_lt, false≢true}
use Rattle.std.proofs.lemmas.List.{get_or-set_same, get_or-set_other, get_or_past, ext_get_or, length-set, length-take-le, get_or-take}
use Rattle.radial_forest.proofs.Fitting.{fewer}
use Rattle.diagnosis.specs.Judgement.{flag_in, differ}
use Rattle.diagnosis.specs.Watched.{differ_at, AreDifferences}
use Rattle.diagnosis.specs.Places.{HavePlaces}
use Rattle.diagnosis.proofs.Places.{places_apart, kept_more, kept_less}

-- a flag that is written, and was at first so, or not
was_differing : (now begun b : Bool) → beq now b ≡ false → beq begun b ≡ true → (differ begun now ≡ true) × (differ begun b ≡ false)
was_differing true true true e f = absurd (false≢true (sym e))
was_differing true true false e f = absurd (false≢true f)
was_differing true false true e f = absurd (false≢true f)
was_differing true false false e f = (refl, refl)
was_differing false true true e f = (refl, refl)
was_differing false true false e f = absurd (false≢true f)
was_differing false false true e f = absurd (false≢true f)
was_differing false false false e f = absurd (false≢true (sym e))

is_differing : (now begun b : Bool) → beq now b ≡ false → beq begun b ≡ false → (differ begun now ≡ false) × (differ begun b ≡ true)
is_differing true true true e f = absurd (false≢true (sym e))
is_differing true true false e f = (refl, refl)
is_differing true false true e f = absurd (false≢true (sym e))
is_differing true false false e f = absurd (false≢true (sym f))
is_differing false true true e f = absurd (false≢true (sym f))
is_differing false true false e f = absurd (false≢true (sym e))
is_differing false false true e f = (refl, refl)
is_differing false false false e f = absurd (false≢true (sym e))

-- flags that don't differ are the same
pub same_flags : (a b : Bool) → differ a b ≡ false → a ≡ b
same_flags true true e = refl
same_flags true false e = absurd (false≢true (sym e))
same_flags false true e = absurd (false≢true (sym e))
same_flags false false e = refl

pub no_difference : (a : Bool) → differ a a ≡ false
no_difference true = refl
no_difference false = refl

-- a written flag that was so already
pub unwritten : (flags : List Bool) (k : ℕ) (b : Bool) → k < length flags → beq (flag_in flags k) b ≡ true → set flags k b ≡ flags
unwritten flags k b l e = ext_get_or false (set flags k b) flags (length-set flags k b) (λ i li. ⊎_elim
    (λ s. ap (flag_in (set flags k b)) s ∙ get_or-set_same flags k b false l ∙ sym (same (flag_in flags k) b e) ∙ ap (flag_in flags) (sym s))
    (λ ne. get_or-set_other flags k i b false ne)
    (cases_eq i k))
  where
    same : (a c : Bool) → beq a c ≡ true → a ≡ c
    same true true x = refl
    same true false x = absurd (false≢true x)
    same false true x = absurd (false≢true x)
    same false false x = refl

-- what differs has a number below the length
pub differs_within : (begun flags : List Bool) (k : ℕ) → length begun ≡ length flags → differ_at begun flags k ≡ true → k < length flags
differs_within begun flags k each t =
    ⊎_elim
    (λ l. l)
    (λ l. absurd (false≢true (sym (ap (λ x. differ x (flag_in flags k)) (get_or_past begun k false (omega arith)) ∙ get_or_past flags k false l) ∙ t)))
    (cases_lt k (length flags))

module _ {X : Type 0} (number : X → ℕ) (none : X) (begun flags : List Bool) (named : List X) (places : List ℕ) (count : ℕ) where
  abbrev pub numbers : List X → ℕ → ℕ
  numbers xs i = number (get_or xs i none)

  abbrev pub AreKept : Type 0
  AreKept = HavePlaces (differ_at begun flags) count (numbers named) (λ k. get_or places k 0)

  module _ (kept : AreKept) (begun_each : length begun ≡ length flags) where
    pub kept_once : (i j : ℕ) → i < j → j < count → numbers named i ≢ numbers named j
    kept_once i j l lj = places_apart (differ_at begun flags) count (numbers named) (λ k. get_or places k 0) kept i j (omega arith) lj (λ e. absurd (omega arith))

    pub kept_within : (i : ℕ) → i < count → numbers named i < length flags
    kept_within i l = differs_within begun flags (numbers named i) begun_each (kept.each i l).0

    -- the list names what differs
    pub kept_differences : AreDifferences begun flags count (numbers named)
    kept_differences = record { each = λ i l. (kept.each i l).0; all = λ k t. let a = kept.all k t in (get_or places k 0, a.0, a.1); once = kept_once }

    pub kept_taken : count ≤ length named → AreDifferences begun flags (length (take count named)) (numbers (take count named))
    kept_taken few =
        let long : length (take count named) ≡ count = length-take-le count named few in
        let d = kept_differences in
        record {
          each = λ i l. let li : i < count = omega arith in subst (λ x. differ_at begun flags x ≡ true) (sym (taken i li)) (d.each i li);
          all = λ k t. let a = d.all k t in let la = a.1 in (a.0, omega arith, taken a.0 la ∙ a.2);
          once = λ i j l lj e. let li : i < count = omega arith in let lc : j < count = omega arith in d.once i j l lc (sym (taken i li) ∙ e ∙ taken j lc);
        }
      where
        taken : (i : ℕ) → i < count → numbers (take count named) i ≡ numbers named i
        taken i l = ap number (get_or-take count named i none l)

    module _ (x : X) (b : Bool) (l : number x < length flags) (written : beq (flag_in flags (number x)) b ≡ false) where
      abbrev k : ℕ
      k = number x

      here : differ_at begun (set flags k b) k ≡ differ (flag_in begun k) b
      here = ap (differ (flag_in begun k)) (get_or-set_same flags k b false l)

      other : (m : ℕ) → m ≢ k → differ_at begun (set flags k b) m ≡ differ_at begun flags m
      other m ne = ap (differ (flag_in begun m)) (get_or-set_other flags k m b false ne)

      module _ (named_each : length named ≡ length flags) (places_each : length places ≡ length flags) where
        -- it differs now
        pub kept_room : beq (flag_in begun k) b ≡ false → count < length flags
        kept_room e =
            let d = is_differing (flag_in flags k) (flag_in begun k) b written e in
            fewer (numbers named) count (length flags) k kept_within kept_once l
            (λ i li s. false≢true (sym d.0 ∙ ap (differ_at begun flags) (sym s) ∙ (kept.each i li).0))

        pub kept_put : beq (flag_in begun k) b ≡ false → HavePlaces (differ_at begun (set flags k b)) (count + 1) (numbers (set named count x)) (λ m. get_or (set places k count) m 0)
        kept_put e =
            let d = is_differing (flag_in flags k) (flag_in begun k) b written e in
            let room = kept_room e in
            kept_more (differ_at begun flags) count (numbers named) (λ m. get_or places m 0) kept k (differ_at begun (set flags k b)) other
            d.0 (here ∙ d.1) (numbers (set named count x)) (λ m. get_or (set places k count) m 0)
            (ap number (get_or-set_same named count x none (omega arith)))
            (λ i ne. ap number (get_or-set_other named count i x none ne))
            (get_or-set_same places k count 0 (omega arith))
            (λ m ne. get_or-set_other places k m count 0 ne)

        -- it is what it was at first
        module _ (e : beq (flag_in begun k) b ≡ true) where
          pub kept_some : get_or places k 0 < count
          kept_some = (kept.all k (was_differing (flag_in flags k) (flag_in begun k) b written e).0).0

          pub kept_out : count ≤ length flags → HavePlaces (differ_at begun (set flags k b)) (count - 1) (numbers (set named (get_or places k 0) (get_or named (count - 1) none)))
              (λ m. get_or (set places (numbers named (count - 1)) (get_or places k 0)) m 0)
          kept_out few =
              let d = was_differing (flag_in flags k) (flag_in begun k) b written e in
              let some = kept_some in
              let last = kept_within (count - 1) (omega arith) in
              kept_less (differ_at begun flags) count (numbers named) (λ m. get_or places m 0) kept k (differ_at begun (set flags k b)) other
              d.0 (here ∙ d.1) (count - 1) (omega arith)
              (numbers (set named (get_or places k 0) (get_or named (count - 1) none)))
              (λ m. get_or (set places (numbers named (count - 1)) (get_or places k 0)) m 0)
              (ap number (get_or-set_same named (get_or places k 0) (get_or named (count - 1) none) none (omega arith)))
              (λ i ne. ap number (get_or-set_other named (get_or places k 0) i (get_or named (count - 1) none) none ne))
              (get_or-set_same places (numbers named (count - 1)) (get_or places k 0) 0 (omega arith))
              (λ m ne. get_or-set_other places (numbers named (count - 1)) m (get_or places k 0) 0 ne)

-- flags that are forgotten one by one: each is as at first, or named from here on
abbrev pub AreForgotten : List Bool → List Bool → ℕ → ℕ → (ℕ → ℕ) → Type 0
AreForgotten begun now place count number = (m : ℕ) → (differ_at begun now m ≡ false) ⊎ ((j : ℕ) × (place ≤ j) × (j < count) × (number j ≡ m))

pub forgotten_none : (begun now : List Bool) (count : ℕ) (number : ℕ → ℕ) → AreDifferences begun now count number → AreForgotten begun now 0 count number
forgotten_none begun now count number d m =
    ⊎_elim
    (λ t. let a = d.all m t in inr (a.0, omega arith, a.1, a.2))
    (λ f. inl f)
    (cases_Bool (differ_at begun now m))

pub forgotten_more : (begun now : List Bool) (place count : ℕ) (number : ℕ → ℕ) → number place < length begun → AreForgotten begun now place count number
    → AreForgotten (set begun (number place) (flag_in now (number place))) now (place + 1) count number
forgotten_more begun now place count number l before m =
    ⊎_elim
    (λ e. inl (ap (λ x. differ x (flag_in now m)) (ap (flag_in (set begun (number place) (flag_in now (number place)))) e ∙ get_or-set_same begun (number place) (flag_in now (number place)) false l ∙ ap (flag_in now) (sym e)) ∙ no_difference (flag_in now m)))
    (λ ne. ⊎_elim
    (λ f. inl (ap (λ x. differ x (flag_in now m)) (get_or-set_other begun (number place) m (flag_in now (number place)) false ne) ∙ f))
    (λ a. let la = a.1 in let apart : place ≢ a.0 = λ e. ne (sym a.3 ∙ ap number (sym e)) in inr (a.0, omega arith, a.2, a.3))
    (before m))
    (cases_eq m (number place))

pub forgotten_all : (begun now : List Bool) (place count : ℕ) (number : ℕ → ℕ) → count ≤ place → length begun ≡ length now → AreForgotten begun now place count number → begun ≡ now
forgotten_all begun now place count number end each before = ext_get_or false begun now each (λ i l.
    ⊎_elim
    (λ f. same_flags (flag_in begun i) (flag_in now i) f)
    (λ a. let x = a.1 in let y = a.2 in absurd (omega arith))
    (before i))

-- flags that are the same differ nowhere
pub none_differ : (flags : List Bool) (number : ℕ → ℕ) (place : ℕ → ℕ) → HavePlaces (differ_at flags flags) 0 number place
none_differ flags number place = record {
  all = λ k t. absurd (false≢true (sym (no_difference (flag_in flags k)) ∙ t));
  each = λ i l. absurd (omega arith);
}
