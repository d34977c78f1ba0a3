-- The lines of a meter are those of its runs.
use Rattle.std.proofs.Common.{◌≡◌, ℕ, suc, ◌<◌, ◌≤◌, Bool, true, false, List, [], ◌∷◌, ◌++◌, length, map, reverse, Contains, refl, sym, ap, ◌∙◌, subst, arith}
use Rattle.std.specs.Prelude.{◌-◌, ◌↔◌, AllPairs, slice_index_or, Some, None, if◌then◌else◌}
use Rattle.std.proofs.lemmas.Bool.{le-leb, lt-leb, lt-ltb, le-ltb}
use Rattle.std.proofs.lemmas.List.{map-append, reverse-append, reverse-reverse, length-reverse, get_or-reverse}
use Rattle.std.proofs.lemmas.List.Elements.{All-contains}
use Rattle.std.proofs.lemmas.List.Sorted.{Contains-permutation, IsPermutation-reverse}
use Rattle.grid_model.specs.Parts.{Parts}
use Rattle.grid_model.specs.declared.history.Event.{Event}
use Rattle.grid_model.specs.declared.history.Stamp.{Stamp}
use Rattle.history_rules.specs.State.{now}
use Rattle.history_rules.specs.Ledger.{is_judged_dark, line_of, begun, lines_before}
use Rattle.history_laws.specs.Runs.{first_events, judged_at, time_at, Run, IsRun, end_at, line_of_run, LinesAreRuns}
use Rattle.history_laws.proofs.RunLists.{run_begun, runs_to, Follows, Reaches, all_are_runs, all_follow, all_runs}

-- all events are the first so many
whole : (h : List Event) → first_events (length h) h ≡ h
whole [] = refl
whole (e ∷ h) = ap (λ b. if b then first_events (suc (length h)) h else e ∷ h) (lt-leb (suc (length h)) (length h) (omega arith))

shorter : (e : Event) (h : List Event) (k : ℕ) → k ≤ length h → first_events k (e ∷ h) ≡ first_events k h
shorter e h k l = ap (λ b. if b then first_events k h else e ∷ h) (le-leb k (length h) l)

-- the list in front of which later events stand
abbrev Agree : List Event → List Event → Type 0
Agree all h = (k : ℕ) → k ≤ length h → first_events k all ≡ first_events k h

module _ (g : Parts) (m : ℕ) (all : List Event) where
  judged_here : (h : List Event) → Agree all h → is_judged_dark g m h ≡ judged_at g m all (length h)
  judged_here h agree = ap (is_judged_dark g m) (sym (whole h) ∙ sym (agree (length h) (omega arith)))

  agree_before : (e : Event) (h : List Event) → Agree all (e ∷ h) → Agree all h
  agree_before e h agree k l = agree k (omega arith) ∙ shorter e h k l

  time_here : (e : Event) (h : List Event) → Agree all (e ∷ h) → e.time ≡ time_at all (suc (length h))
  time_here e h agree =
      let at : now (e ∷ h) ≡ now (first_events (suc (length h)) all) = ap now (sym (whole (e ∷ h)) ∙ sym (agree (suc (length h)) (omega arith))) in
      stamp_is e.time (now (first_events (suc (length h)) all)) at
    where
      stamp_is : (t : Stamp) (n : ℕ) → t.0 ≡ n → t ≡ record { 0 = n }
      stamp_is t n e = let f : ℕ → Stamp = λ x. record { 0 = x } in ap f e

  begun_same : (start : Stamp) (first last : ℕ) (a b : Bool) → start ≡ time_at all first →
      begun m start (end_at all last) a b ≡ map (line_of_run m all) (run_begun first last a b)
  begun_same start first last true false e = ap (λ t. line_of m t (end_at all last) ∷ []) e
  begun_same start first last true true e = refl
  begun_same start first last false b e = refl

  next_end : (b : Bool) (time : Stamp) (n last : ℕ) → n < length all → time ≡ time_at all (suc n) →
      (if b then end_at all last else Some time) ≡ end_at all (if b then last else n)
  next_end true time n last l e = refl
  next_end false time n last l e = ap Some e ∙ sym (ap (λ b. if b then Some (time_at all (suc n)) else None) (lt-ltb n (length all) l))

  lines_by_runs : (h : List Event) (last : ℕ) → length h ≤ length all → Agree all h →
      lines_before m (is_judged_dark g m) (end_at all last) h ≡ map (line_of_run m all) (runs_to (judged_at g m all) last (length h))
  lines_by_runs [] last l agree = refl
  lines_by_runs (e ∷ h) last l agree =
      let n = length h in
      let dark = judged_at g m all in
      let time = time_here e h agree in
      let next = λ (b : Bool). if b then last else n in
      let rest = λ (b : Bool). lines_before m (is_judged_dark g m) (if b then end_at all last else Some e.time) h in
      ap (λ b. begun m e.time (end_at all last) b (is_judged_dark g m h) ++ rest b) (judged_here (e ∷ h) agree)
      ∙ ap (λ b. begun m e.time (end_at all last) (dark (suc n)) b ++ rest (dark (suc n))) (judged_here h (agree_before e h agree))
      ∙ ap (λ xs. xs ++ rest (dark (suc n))) (begun_same e.time (suc n) last (dark (suc n)) (dark n) time)
      ∙ ap (λ t. map (line_of_run m all) (run_begun (suc n) last (dark (suc n)) (dark n)) ++ lines_before m (is_judged_dark g m) t h)
      (next_end (dark (suc n)) e.time n last (omega arith) time)
      ∙ ap (λ xs. map (line_of_run m all) (run_begun (suc n) last (dark (suc n)) (dark n)) ++ xs) (lines_by_runs h (next (dark (suc n))) (omega arith) (agree_before e h agree))
      ∙ sym (map-append (line_of_run m all) (run_begun (suc n) last (dark (suc n)) (dark n)) (runs_to dark (next (dark (suc n))) n))

map_reverse : {A B : Type 0} (f : A → B) (xs : List A) → reverse (map f xs) ≡ map f (reverse xs)
map_reverse f [] = refl
map_reverse f (x ∷ xs) =
    reverse-append (f x ∷ []) (map f xs)
    ∙ ap (λ ys. ys ++ f x ∷ []) (map_reverse f xs)
    ∙ sym (map-append f (reverse xs) (x ∷ []))
    ∙ ap (map f) (sym (reverse-append (x ∷ []) xs))

forward : (xs : List Run) → AllPairs Follows xs → AllPairs (λ a b. a.last < b.first) (reverse xs)
forward xs follow i j d l k =
    let long : length (reverse xs) ≡ length xs = length-reverse xs in
    let first = get_or-reverse xs i d (omega arith) in
    let second = get_or-reverse xs j d (omega arith) in
    let apart : (slice_index_or xs (length xs - 1 - i) d).last < (slice_index_or xs (length xs - 1 - j) d).first = follow (length xs - 1 - j) (length xs - 1 - i) d (omega arith) (omega arith) in
    let apart' = subst (λ x. x.last < (slice_index_or xs (length xs - 1 - j) d).first) (sym first) apart in
    subst (λ x. (slice_index_or (reverse xs) i d).last < x.first) (sym second) apart'

module _ (g : Parts) (m : ℕ) (h : List Event) where
  reaches : judged_at g m h (length h) ≡ true → Reaches (judged_at g m h) (length h) (length h) (length h)
  reaches on = record {
    low = omega arith;
    high = omega arith;
    inside = λ i a b. let same : length h ≡ i = omega arith in subst (λ x. judged_at g m h x ≡ true) same on;
    after = λ l. absurd (omega arith);
  }

  backward : List Run
  backward = runs_to (judged_at g m h) (length h) (length h)

  no_end : end_at h (length h) ≡ None
  no_end = ap (λ b. if b then Some (time_at h (suc (length h))) else None) (le-ltb (length h) (length h) (omega arith))

  each_run : (r : Run) → Contains (reverse backward) r ↔ IsRun (judged_at g m h) (length h) r
  unfolding backward
  each_run r =
      let runs = runs_to (judged_at g m h) (length h) (length h) in (
        λ c. All-contains (IsRun (judged_at g m h) (length h)) runs r (all_are_runs (judged_at g m h) (length h) (length h) (length h) (omega arith) reaches)
            (subst (λ xs. Contains xs r) (reverse-reverse runs) (Contains-permutation (reverse runs) (reverse (reverse runs)) r (IsPermutation-reverse (reverse runs)) c)),
        λ is. Contains-permutation runs (reverse runs) r (IsPermutation-reverse runs)
            (all_runs (judged_at g m h) (length h) (length h) (length h) (omega arith) reaches r is (let ordered = is.ordered in let within = is.within in omega arith)),
      )

  pub lines_are_runs : LinesAreRuns g m h
  unfolding backward
  lines_are_runs = record {
    runs = reverse (runs_to (judged_at g m h) (length h) (length h));
    each = each_run;
    in_order = forward (runs_to (judged_at g m h) (length h) (length h)) (all_follow (judged_at g m h) (length h) (length h) (length h) (omega arith) reaches);
    lines =
        ap (λ t. reverse (lines_before m (is_judged_dark g m) t h)) (sym no_end)
        ∙ ap reverse (lines_by_runs g m h h (length h) (omega arith) (λ k l. refl))
        ∙ map_reverse (line_of_run m h) (runs_to (judged_at g m h) (length h) (length h));
  }
