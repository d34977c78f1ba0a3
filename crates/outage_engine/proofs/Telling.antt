-- The ledger is told of the meters at the nodes that flipped.
use Rattle.std.proofs.Common.{◌≡◌, ◌≢◌, ℕ, suc, ◌+◌, ◌<◌, ◌≤◌, Bool, true, false, cond, refl, sym, ap, ◌∙◌, subst, ⊎_elim, arith, List, length}
use Rattle.std.specs.Prelude.{◌==◌, ◌||◌, slice_index_or}
use Rattle.std.proofs.lemmas.Bool.{cases_Bool, cases_eq, false≢true, eq-eqb, ne_eqb}
use Rattle.std.proofs.lemmas.List.{get_or-set_same, get_or-set_other, length-set}
use Rattle.outage_rules.specs.Sum.{some_below}
use Rattle.outage_rules.proofs.Sums.{total_le, total_lt, total_ones}
use Rattle.grid_model.specs.Parts.{Parts}
use Rattle.grid_model.specs.Places.{node_of}
use Rattle.grid_model.specs.declared.history.Stamp.{Stamp}
use Rattle.grid_model.specs.declared.parts.NodeId.{NodeId}
use Rattle.history_rules.specs.Ledger.{Interrupted, interrupted_first, interrupted_by}
use Rattle.radial_forest.specs.Traversed.{node_at}
use Rattle.diagnosis.specs.Judgement.{Judgement, flag_in, differ}
use Rattle.diagnosis.specs.Watched.{differ_at, AreDifferences}
use Rattle.diagnosis.proofs.Watching.{same_flags}
use Rattle.field_state.proofs.Standing.{some_passes}
use Rattle.interruption_ledger.specs.Ledgered.{Ledgered, interrupted_at, with_meter}
use Rattle.outage_engine.specs.Recording.{is_meter_dark, recorded, untold, stands_among, AreFlagsOf, IsTold, IsRecorded}

-- a meter that is told has the flag that it is told
by_dark : (m : ℕ) (t : Stamp) (d b : Bool) (k : Interrupted) → k.dark ≡ b → (interrupted_by m t d b k).dark ≡ d
by_dark m t true true k e = e
by_dark m t true false k e = refl
by_dark m t false true k e = refl
by_dark m t false false k e = e

recorded_dark : (m : ℕ) (t : Stamp) (d : Bool) (k : Interrupted) → (recorded m t d k).dark ≡ d
recorded_dark m t d k = by_dark m t d k.dark k refl

-- one that has the flag already stays as it is
by_same : (m : ℕ) (t : Stamp) (d b : Bool) (k : Interrupted) → b ≡ d → interrupted_by m t d b k ≡ k
by_same m t true true k e = refl
by_same m t true false k e = absurd (false≢true e)
by_same m t false true k e = absurd (false≢true (sym e))
by_same m t false false k e = refl

pub recorded_same : (m : ℕ) (t : Stamp) (d : Bool) (k : Interrupted) → k.dark ≡ d → recorded m t d k ≡ k
recorded_same m t d k e = by_same m t d k.dark k e

recorded_twice : (m : ℕ) (t : Stamp) (d : Bool) (k : Interrupted) → recorded m t d (recorded m t d k) ≡ recorded m t d k
recorded_twice m t d k = recorded_same m t d (recorded m t d k) (recorded_dark m t d k)

-- what passes one of two tests is told once
more_told : (a b : Bool) (m : ℕ) (t : Stamp) (d : Bool) (old mid new : Interrupted) → mid ≡ cond a (recorded m t d old) old → new ≡ cond b (recorded m t d mid) mid
    → new ≡ cond (a || b) (recorded m t d old) old
more_told true true m t d old mid new first then = then ∙ ap (recorded m t d) first ∙ recorded_twice m t d old
more_told true false m t d old mid new first then = then ∙ first
more_told false true m t d old mid new first then = then ∙ ap (recorded m t d) first
more_told false false m t d old mid new first then = then ∙ first

-- the same flags, or other ones
no_difference : (a b : Bool) → a ≡ b → differ a b ≡ false
no_difference true true e = refl
no_difference true false e = absurd (false≢true (sym e))
no_difference false true e = absurd (false≢true e)
no_difference false false e = refl

-- by what the flags are
pub differ_by : (a b x y : Bool) → a ≡ x → b ≡ y → differ a b ≡ differ x y
differ_by a b x y e f = ap (λ c. differ c b) e ∙ ap (differ x) f

pub recorded_by : (m : ℕ) (t : Stamp) (d x y : Bool) (k : Interrupted) → d ≡ x → k.dark ≡ y → recorded m t d k ≡ interrupted_by m t x y k
recorded_by m t d x y k e f = ap (λ b. interrupted_by m t b k.dark k) e ∙ ap (λ b. interrupted_by m t x b k) f

one_or_none : (b : Bool) → cond b 1 0 ≤ 1
one_or_none true = omega arith
one_or_none false = omega arith

pub some_more : (n : ℕ) (test : ℕ → Bool) → some_below (n + 1) test ≡ (some_below n test || test n)
some_more n test = ap (λ k. some_below k test) (let e : n + 1 ≡ suc n = omega arith in e)

module _ (g : Parts) (j : Judgement) where
  abbrev is_untold : Ledgered → ℕ → ℕ
  is_untold l m = cond (differ (interrupted_at l m).dark (is_meter_dark g j m)) 1 0

  pub untold_most : (l : Ledgered) → untold g j l ≤ length g.meters
  untold_most l = let a = total_le (length g.meters) (is_untold l) (λ k. 1) (λ k _. one_or_none (differ (interrupted_at l k).dark (is_meter_dark g j k))) in
      let b = total_ones (length g.meters) in omega arith

  pub untold_some : (l : Ledgered) (m : ℕ) → m < length g.meters → differ (interrupted_at l m).dark (is_meter_dark g j m) ≡ true → 1 ≤ untold g j l
  untold_some l m within t =
      let e : is_untold l m ≡ 1 = ap (λ b. cond b 1 0) t in
      let a = total_lt (length g.meters) (λ k. 0) (is_untold l) m within (λ k _. omega arith) (omega arith) in
      omega arith

  module _ (t : Stamp) where
    pub told_none : (l : Ledgered) → IsTold g j t (λ m. false) l l
    told_none l = record { each = refl; meters = λ m _. refl; spare = omega arith }

    pub told_same : (a b : ℕ → Bool) (old new : Ledgered) → ((m : ℕ) → m < length g.meters → a m ≡ b m) → IsTold g j t a old new → IsTold g j t b old new
    told_same a b old new same told = record {
      each = told.each;
      meters = λ m within. told.meters m within ∙ ap (λ x. cond x (recorded m t (is_meter_dark g j m) (interrupted_at old m)) (interrupted_at old m)) (same m within);
      spare = told.spare;
    }

    pub told_then : (a b : ℕ → Bool) (old mid new : Ledgered) → IsTold g j t a old mid → IsTold g j t b mid new → IsTold g j t (λ m. a m || b m) old new
    told_then a b old mid new first then = record {
      each = then.each ∙ first.each;
      meters = λ m within. more_told (a m) (b m) m t (is_meter_dark g j m) (interrupted_at old m) (interrupted_at mid m) (interrupted_at new m) (first.meters m within) (then.meters m within);
      spare = (let x = first.spare in let y = then.spare in omega arith);
    }

    module _ (m : ℕ) (old new : Ledgered) (within : m < length old.meters)
        (is : new.meters ≡ with_meter old m (recorded m t (is_meter_dark g j m) (interrupted_at old m))) where
      here : interrupted_at new m ≡ recorded m t (is_meter_dark g j m) (interrupted_at old m)
      here = ap (λ ks. slice_index_or ks m (interrupted_first false)) is
          ∙ get_or-set_same old.meters m (recorded m t (is_meter_dark g j m) (interrupted_at old m)) (interrupted_first false) within

      elsewhere : (k : ℕ) → k ≢ m → interrupted_at new k ≡ interrupted_at old k
      elsewhere k ne = ap (λ ks. slice_index_or ks k (interrupted_first false)) is
          ∙ get_or-set_other old.meters m k (recorded m t (is_meter_dark g j m) (interrupted_at old m)) (interrupted_first false) ne

      told_now : is_untold new m ≡ 0
      told_now = ap (λ b. cond b 1 0) (no_difference (interrupted_at new m).dark (is_meter_dark g j m) (ap (λ k. k.dark) here ∙ recorded_dark m t (is_meter_dark g j m) (interrupted_at old m)))

      no_more : (k : ℕ) → k < length g.meters → is_untold new k ≤ is_untold old k
      no_more k _ = ⊎_elim
          (λ e. let x : is_untold new k ≡ 0 = ap (is_untold new) e ∙ told_now in omega arith)
          (λ ne. let x : is_untold new k ≡ is_untold old k = ap (λ (i : Interrupted). cond (differ i.dark (is_meter_dark g j k)) 1 0) (elsewhere k ne) in omega arith)
          (cases_eq k m)

      -- room is taken where the meter wasn't told before
      pub told_spare : m < length g.meters → old.spare ≤ new.spare + 1 → (differ (interrupted_at old m).dark (is_meter_dark g j m) ≡ false → old.spare ≤ new.spare)
          → old.spare + untold g j new ≤ new.spare + untold g j old
      told_spare inside one none =
          ⊎_elim
          (λ d. let e : is_untold old m ≡ 1 = ap (λ b. cond b 1 0) d in
          let z = told_now in
          let a = total_lt (length g.meters) (is_untold new) (is_untold old) m inside no_more (omega arith) in omega arith)
          (λ d. let s = none d in let a = total_le (length g.meters) (is_untold new) (is_untold old) no_more in omega arith)
          (cases_Bool (differ (interrupted_at old m).dark (is_meter_dark g j m)))

      -- one meter is told
      pub told_meter : old.spare + untold g j new ≤ new.spare + untold g j old → IsTold g j t (λ k. k == m) old new
      told_meter spare = record {
        each = ap length is ∙ length-set old.meters m (recorded m t (is_meter_dark g j m) (interrupted_at old m));
        meters = λ k _. ⊎_elim
            (λ e. subst (λ x. interrupted_at new x ≡ recorded x t (is_meter_dark g j x) (interrupted_at old x)) (sym e) here
            ∙ sym (ap (λ x. cond x (recorded k t (is_meter_dark g j k) (interrupted_at old k)) (interrupted_at old k)) (eq-eqb k m e)))
            (λ ne. elsewhere k ne ∙ sym (ap (λ x. cond x (recorded k t (is_meter_dark g j k) (interrupted_at old k)) (interrupted_at old k)) (ne_eqb k m ne)))
            (cases_eq k m);
        spare = spare;
      }

    -- those at the nodes that flipped are all of which the ledger is to be told
    pub all_recorded : (nodes : List NodeId) (old new : Ledgered) → AreDifferences j.dark_begun j.dark (length nodes) (node_at nodes) → AreFlagsOf g j.dark_begun old
        → IsTold g j t (stands_among g nodes (length nodes)) old new → IsRecorded g j t old new
    all_recorded nodes old new flipped flags told = record {
      each = told.each;
      spare = (let a = untold_most old in let b = told.spare in omega arith);
      done = λ m within. told.meters m within ∙ ⊎_elim
          (λ s. ap (λ x. cond x (recorded m t (is_meter_dark g j m) (interrupted_at old m)) (interrupted_at old m)) s)
          (λ s. ap (λ x. cond x (recorded m t (is_meter_dark g j m) (interrupted_at old m)) (interrupted_at old m)) s
          ∙ sym (recorded_same m t (is_meter_dark g j m) (interrupted_at old m) (flags m within ∙ same_flags (flag_in j.dark_begun (node_of g m)) (is_meter_dark g j m) (kept m s))))
          (cases_Bool (stands_among g nodes (length nodes) m));
    }
      where
        kept : (m : ℕ) → stands_among g nodes (length nodes) m ≡ false → differ_at j.dark_begun j.dark (node_of g m) ≡ false
        kept m s = ⊎_elim
            (λ d. let a = flipped.all (node_of g m) d in
            absurd (false≢true (sym s ∙ some_passes (length nodes) (λ i. node_of g m == node_at nodes i) a.0 a.1 (eq-eqb (node_of g m) (node_at nodes a.0) (sym a.2)))))
            (λ d. d)
            (cases_Bool (differ_at j.dark_begun j.dark (node_of g m)))
