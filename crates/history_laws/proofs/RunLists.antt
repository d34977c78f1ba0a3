-- The maximal runs of a test of numbers, the last one first.
use Rattle.std.proofs.Common.{◌≡◌, ℕ, zero, suc, ◌<◌, ◌≤◌, Bool, true, false, List, [], ◌∷◌, ◌++◌, All, Contains, refl, sym, ap, ◌∙◌, subst, ⊎_elim, arith}
use Rattle.std.specs.Prelude.{◌-◌, AllPairs, slice_index_or, if◌then◌else◌}
use Rattle.std.proofs.lemmas.Bool.{false≢true, cases_lt}
use Rattle.std.proofs.lemmas.List.Elements.{All-nil, All-cons, All-append, Contains-append_left, Contains-append_right}
use Rattle.std.proofs.lemmas.List.Kept.{AllPairs-cons}
use Rattle.history_laws.specs.Runs.{Run, IsRun}

abbrev pub run_of : ℕ → ℕ → Run
run_of first last = record { first = first; last = last }

-- a run, where the test holds and didn't hold before
abbrev pub run_begun : ℕ → ℕ → Bool → Bool → List Run
run_begun first last true false = run_of first last ∷ []
run_begun first last _ _ = []

-- the runs that begin by n; `last` is where a run ends that holds at n
abbrev pub runs_to : (ℕ → Bool) → ℕ → ℕ → List Run
runs_to dark last zero = []
runs_to dark last (suc n) = run_begun (suc n) last (dark (suc n)) (dark n) ++ runs_to dark (if dark (suc n) then last else n) n

abbrev pub Follows : Run → Run → Type 0
Follows a b = b.last < a.first

module _ (dark : ℕ → Bool) (count : ℕ) where
  -- what holds at n holds up to `last`, and not after it
  pub record Reaches (n last : ℕ) : Type 0 where
    pub low : n ≤ last
    pub high : last ≤ count
    pub inside : (i : ℕ) → n ≤ i → i ≤ last → dark i ≡ true
    pub after : last < count → dark (suc last) ≡ false

  from_here : (n last : ℕ) → dark n ≡ true → ((i : ℕ) → suc n ≤ i → i ≤ last → dark i ≡ true) → (i : ℕ) → n ≤ i → i ≤ last → dark i ≡ true
  from_here n last on rest i a b =
      ⊎_elim
      (λ l. rest i (omega arith) b)
      (λ l. let same : n ≡ i = omega arith in subst (λ x. dark x ≡ true) same on)
      (cases_lt n i)

  reaches_before : (n last : ℕ) (b : Bool) → dark (suc n) ≡ b → (dark (suc n) ≡ true → Reaches (suc n) last) → suc n ≤ count → dark n ≡ true → Reaches n (if b then last else n)
  reaches_before n last true e reaches within on =
      let r = reaches e in
      let low = r.low in
      record { low = omega arith; high = r.high; inside = from_here n last on r.inside; after = r.after }
  reaches_before n last false e reaches within on =
      record { low = omega arith; high = omega arith; inside = λ i a b. let same : n ≡ i = omega arith in subst (λ x. dark x ≡ true) same on; after = λ l. e }

  begun_is_run : (n last : ℕ) (a b : Bool) → dark (suc n) ≡ a → dark n ≡ b → (dark (suc n) ≡ true → Reaches (suc n) last) → All (IsRun dark count) (run_begun (suc n) last a b)
  begun_is_run n last true false on off reaches =
      let r = reaches on in
      let same : n ≡ suc n - 1 = omega arith in
      All-cons (IsRun dark count) (run_of (suc n) last) []
      (record { begins = omega arith; ordered = r.low; within = r.high; before = subst (λ x. dark x ≡ false) same off; inside = r.inside; after = r.after })
      (All-nil (IsRun dark count))
  begun_is_run n last true true on off reaches = All-nil (IsRun dark count)
  begun_is_run n last false b on off reaches = All-nil (IsRun dark count)

  pub all_are_runs : (n last : ℕ) → n ≤ count → (dark n ≡ true → Reaches n last) → All (IsRun dark count) (runs_to dark last n)
  all_are_runs zero last within reaches = All-nil (IsRun dark count)
  all_are_runs (suc n) last within reaches =
      All-append (IsRun dark count) (run_begun (suc n) last (dark (suc n)) (dark n)) (runs_to dark (if dark (suc n) then last else n) n)
      (begun_is_run n last (dark (suc n)) (dark n) refl refl reaches)
      (all_are_runs n (if dark (suc n) then last else n) (omega arith) (reaches_before n last (dark (suc n)) refl reaches within))

  begun_first : (n last : ℕ) (a b : Bool) → All (λ r. r.first ≤ suc n) (run_begun (suc n) last a b)
  begun_first n last true false = All-cons (λ r. r.first ≤ suc n) (run_of (suc n) last) [] (omega arith) (All-nil (λ r. r.first ≤ suc n))
  begun_first n last true true = All-nil (λ r. r.first ≤ suc n)
  begun_first n last false b = All-nil (λ r. r.first ≤ suc n)

  first_by : (n last : ℕ) → All (λ r. r.first ≤ n) (runs_to dark last n)
  first_by zero last = All-nil (λ r. r.first ≤ zero)
  first_by (suc n) last =
      let rest = runs_to dark (if dark (suc n) then last else n) n in
      let before = first_by n (if dark (suc n) then last else n) in
      All-append (λ r. r.first ≤ suc n) (run_begun (suc n) last (dark (suc n)) (dark n)) rest
      (begun_first n last (dark (suc n)) (dark n))
      (λ k d l. let by : (slice_index_or rest k d).first ≤ n = before k d l in omega arith)

  -- a run that begins by n ends before n where the test fails at n
  ends_before : (n : ℕ) (r : Run) → dark n ≡ false → r.first ≤ n → IsRun dark count r → r.last < suc n
  ends_before n r off by is =
      ⊎_elim
      (λ l. l)
      (λ l. absurd (false≢true (sym off ∙ is.inside n by (omega arith))))
      (cases_lt r.last (suc n))

  begun_follows : (n last : ℕ) (a b : Bool) (rest : List Run) → dark n ≡ b → All (λ r. r.first ≤ n) rest → All (IsRun dark count) rest → AllPairs Follows rest → AllPairs Follows (run_begun (suc n) last a b ++ rest)
  begun_follows n last true false rest off by are follow =
      AllPairs-cons Follows (run_of (suc n) last) rest (λ k d l. ends_before n (slice_index_or rest k d) off (by k d l) (are k d l)) follow
  begun_follows n last true true rest off by are follow = follow
  begun_follows n last false b rest off by are follow = follow

  pub all_follow : (n last : ℕ) → n ≤ count → (dark n ≡ true → Reaches n last) → AllPairs Follows (runs_to dark last n)
  all_follow zero last within reaches = λ i j d a l. absurd (omega arith)
  all_follow (suc n) last within reaches =
      let next = if dark (suc n) then last else n in
      let reaches' = reaches_before n last (dark (suc n)) refl reaches within in
      begun_follows n last (dark (suc n)) (dark n) (runs_to dark next n) refl (first_by n next)
      (all_are_runs n next (omega arith) reaches') (all_follow n next (omega arith) reaches')

  begun_holds : (first last : ℕ) (a b : Bool) → a ≡ true → b ≡ false → Contains (run_begun first last a b) (run_of first last)
  begun_holds first last true false x y = (0, omega arith, refl)
  begun_holds first last true true x y = absurd (false≢true (sym y))
  begun_holds first last false b x y = absurd (false≢true x)

  same_last : (n last : ℕ) (r : Run) → IsRun dark count r → r.first ≡ suc n → Reaches (suc n) last → r.last ≡ last
  same_last n last r is at reaches =
      let ordered = is.ordered in
      let within = is.within in
      let low = reaches.low in
      let high = reaches.high in
      ⊎_elim
      (λ l. absurd (false≢true (sym (is.after (omega arith)) ∙ reaches.inside (suc r.last) (omega arith) (omega arith))))
      (λ l. ⊎_elim
      (λ k. absurd (false≢true (sym (reaches.after (omega arith)) ∙ is.inside (suc last) (omega arith) (omega arith))))
      (λ k. omega arith)
      (cases_lt last r.last))
      (cases_lt r.last last)

  pub all_runs : (n last : ℕ) → n ≤ count → (dark n ≡ true → Reaches n last) → (r : Run) → IsRun dark count r → r.first ≤ n → Contains (runs_to dark last n) r
  all_runs zero last within reaches r is by = let begins = is.begins in absurd (omega arith)
  all_runs (suc n) last within reaches r is by =
      ⊎_elim
      (λ l. Contains-append_right begun rest r (all_runs n next (omega arith) (reaches_before n last (dark (suc n)) refl reaches within) r is (omega arith)))
      (λ l. here (omega arith))
      (cases_lt r.first (suc n))
    where
      next : ℕ
      next = if dark (suc n) then last else n

      begun : List Run
      begun = run_begun (suc n) last (dark (suc n)) (dark n)

      rest : List Run
      rest = runs_to dark (if dark (suc n) then last else n) n

      here : r.first ≡ suc n → Contains (runs_to dark last (suc n)) r
      here at =
          let ordered = is.ordered in
          let on : dark (suc n) ≡ true = is.inside (suc n) (omega arith) (omega arith) in
          let before : r.first - 1 ≡ n = omega arith in
          let off : dark n ≡ false = subst (λ x. dark x ≡ false) before is.before in
          let same : r ≡ run_of (suc n) last = ap (λ x. run_of x r.last) at ∙ ap (run_of (suc n)) (same_last n last r is at (reaches on)) in
          Contains-append_left (run_begun (suc n) last (dark (suc n)) (dark n)) (runs_to dark (if dark (suc n) then last else n) n) r
          (subst (Contains (run_begun (suc n) last (dark (suc n)) (dark n))) (sym same) (begun_holds (suc n) last (dark (suc n)) (dark n) on off))
