-- A list of the numbers that pass a test, as one more passes and as one passes no longer.
use Rattle.std.proofs.Common.{◌≡◌, ◌≢◌, ℕ, ◌+◌, ◌<◌, Bool, true, false, sym, ap, ◌∙◌, ⊎_elim, arith, below_more}
use Rattle.std.proofs.lemmas.Bool.{cases_eq, false≢true}
use Rattle.diagnosis.specs.Places.{HavePlaces}

module _ (p : ℕ → Bool) (count : ℕ) (number place : ℕ → ℕ) (kept : HavePlaces p count number place) where
  -- no two places have the same number
  pub places_apart : (i j : ℕ) → i < count → j < count → i ≢ j → number i ≢ number j
  places_apart i j li lj ne e = ne (sym (kept.each i li).1 ∙ ap place e ∙ (kept.each j lj).1)

  module _ (k : ℕ) (p' : ℕ → Bool) (other : (m : ℕ) → m ≢ k → p' m ≡ p m) where
    -- one more passes, and stands behind the others
    pub kept_more : p k ≡ false → p' k ≡ true → (number' place' : ℕ → ℕ)
        → number' count ≡ k → ((i : ℕ) → i ≢ count → number' i ≡ number i)
        → place' k ≡ count → ((m : ℕ) → m ≢ k → place' m ≡ place m)
        → HavePlaces p' (count + 1) number' place'
    kept_more was is number' place' last rest at others = record {
      all = λ m t. ⊎_elim
          (λ e. let x = ap place' e ∙ at in (omega arith, ap number' x ∙ last ∙ sym e))
          (λ ne. let a = kept.all m (sym (other m ne) ∙ t) in
          let x = others m ne in
          let y = a.0 in
          (omega arith, ap number' x ∙ rest (place m) (λ e. absurd (omega arith)) ∙ a.1))
          (cases_eq m k);
      each = below_more (λ i. (p' (number' i) ≡ true) × (place' (number' i) ≡ i)) count
          (λ i l. let e = kept.each i l in
          let n = rest i (λ x. absurd (omega arith)) in
          let ne : number i ≢ k = λ x. false≢true (sym was ∙ ap p (sym x) ∙ e.0) in
          (ap p' n ∙ other (number i) ne ∙ e.0, ap place' n ∙ others (number i) ne ∙ e.1))
          (ap p' last ∙ is, ap place' last ∙ at);
    }

    -- one passes no longer, and the last takes its place
    pub kept_less : p k ≡ true → p' k ≡ false → (c : ℕ) → count ≡ c + 1 → (number' place' : ℕ → ℕ)
        → number' (place k) ≡ number c → ((i : ℕ) → i ≢ place k → number' i ≡ number i)
        → place' (number c) ≡ place k → ((m : ℕ) → m ≢ number c → place' m ≡ place m)
        → HavePlaces p' c number' place'
    kept_less was is c more number' place' moved rest at others = record { all = all; each = each }
      where
        here : (place k < count) × (number (place k) ≡ k)
        here = kept.all k was

        last : (p (number c) ≡ true) × (place (number c) ≡ c)
        last = kept.each c (omega arith)

        all : (m : ℕ) → p' m ≡ true → (place' m < c) × (number' (place' m) ≡ m)
        all m t =
            let ne : m ≢ k = λ e. false≢true (sym is ∙ ap p' (sym e) ∙ t) in
            let a = kept.all m (sym (other m ne) ∙ t) in
            let la = a.0 in
            let lh = here.0 in
            ⊎_elim
            (λ e. let x = ap place' e ∙ at in
            let apart : place k ≢ c = λ y. ne (e ∙ ap number (sym y) ∙ here.1) in
            (omega arith, ap number' x ∙ moved ∙ sym e))
            (λ e. let x = others m e in
            let apart : place m ≢ c = λ y. e (sym a.1 ∙ ap number y) in
            (omega arith, ap number' x ∙ rest (place m) (λ y. ne (sym a.1 ∙ ap number y ∙ here.1)) ∙ a.1))
            (cases_eq m (number c))

        each : (i : ℕ) → i < c → (p' (number' i) ≡ true) × (place' (number' i) ≡ i)
        each i l =
            let a = kept.each i (omega arith) in
            ⊎_elim
            (λ e. let x = ap number' e ∙ moved in
            let ne : number c ≢ k = λ y. let z = sym last.1 ∙ ap place y in absurd (omega arith) in
            (ap p' x ∙ other (number c) ne ∙ last.0, ap place' x ∙ at ∙ sym e))
            (λ e. let x = rest i e in
            let ne : number i ≢ k = λ y. e (sym a.1 ∙ ap place y) in
            let apart : number i ≢ number c = λ y. let z = sym a.1 ∙ ap place y ∙ last.1 in absurd (omega arith) in
            (ap p' x ∙ other (number i) ne ∙ a.0, ap place' x ∙ others (number i) apart ∙ a.1))
            (cases_eq i (place k))
