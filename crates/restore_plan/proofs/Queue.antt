-- The queue of the ready devices.
use Rattle.std.proofs.Common.{◌≡◌, ◌≢◌, ℕ, ◌+◌, ◌<◌, ◌≤◌, Bool, true, false, List, length, refl, sym, ap, ◌∙◌, subst, inl, inr, ⊎_elim, arith, get_or, set, take}
use Rattle.std.specs.Prelude.{◌⊎◌, ◌↔◌, ◌&&◌, ◌||◌, not, ◌==◌, Option, Some, None, IsNone}
use Rattle.std.proofs.lemmas.Bool.{cases_Bool, cases_eq, eq-eqb, or_left, or_right, false_from_ne_true}
use Rattle.std.proofs.lemmas.List.{get_or-set_same, get_or-set_other, length-set, length-take-le, get_or-take}
use Rattle.outage_rules.specs.Network.{only, is_live}
use Rattle.outage_rules.specs.Loops.{first_below}
use Rattle.outage_rules.proofs.FirstBelow.{first_at, none_below}
use Rattle.grid_model.specs.declared.parts.NodeId.{NodeId}
use Rattle.grid_model.specs.Parts.{Parts}
use Rattle.grid_model.specs.Places.{device_at, touches}
use Rattle.radial_forest.specs.Traversed.{node_at}
use Rattle.radial_forest.specs.Lower.{IsAmong}
use Rattle.due_queue.specs.Due.{IsNothingDue, IsFirstDue}
use Rattle.restore_plan.specs.States.{network_at, is_fed}
use Rattle.restore_plan.specs.Restoring.{has_one_fed_end, is_ready}
use Rattle.restore_plan.specs.RestoringInside.{IsState}
use Rattle.restore_plan.specs.Queueing.{entry_of, IsRight, IsQueued, IsQueuedBut}
use Rattle.restore_plan.proofs.Feeding.{fed_before, end_gets_fed, by_it_alone}

entry_ready : (b : Bool) (t : ℕ) → entry_of b ≡ Some t → b ≡ true
entry_ready true t e = refl
entry_ready false t e = absurd (let x : ⊥ = cc in x)

pub not_some : (o : Option ℕ) → ((k : ℕ) → o ≡ Some k → ⊥) → IsNone o
not_some None h = refl
not_some (Some k) h = absurd (h k refl)

module _ (g : Parts) (barred : ℕ → Bool) (closed : List Bool) where
  -- an entry that is written is right, and the right ones stay so
  right_here : (queue : List (Option ℕ)) (d : ℕ) → d < length queue → IsRight g barred closed (set queue d (entry_of (is_ready g barred closed d))) d
  right_here queue d l = get_or-set_same queue d (entry_of (is_ready g barred closed d)) None l

  right_kept : (queue : List (Option ℕ)) (d e : ℕ) → d < length queue → IsRight g barred closed queue e → IsRight g barred closed (set queue d (entry_of (is_ready g barred closed d))) e
  right_kept queue d e l r =
      ⊎_elim
      (λ q. subst (IsRight g barred closed (set queue d (entry_of (is_ready g barred closed d)))) (sym q) (right_here queue d l))
      (λ q. get_or-set_other queue d e (entry_of (is_ready g barred closed d)) None q ∙ r)
      (cases_eq e d)

  -- one device more got its entry
  module _ (queue queue' : List (Option ℕ)) (d : ℕ) (each : length queue ≡ length g.devices) (ld : d < length g.devices) (written : queue' ≡ set queue d (entry_of (is_ready g barred closed d))) where
    within : d < length queue
    within = subst (λ n. d < n) (sym each) ld

    pub each_written : length queue' ≡ length g.devices
    each_written = ap length written ∙ length-set queue d (entry_of (is_ready g barred closed d)) ∙ each

    pub kept_written : (e : ℕ) → IsRight g barred closed queue e → IsRight g barred closed queue' e
    kept_written e r = subst (λ q. IsRight g barred closed q e) (sym written) (right_kept queue d e within r)

    here_written : (e : ℕ) → e ≡ d → IsRight g barred closed queue' e
    here_written e q = subst (λ x. IsRight g barred closed x e) (sym written) (subst (IsRight g barred closed (set queue d (entry_of (is_ready g barred closed d)))) (sym q) (right_here queue d within))

    pub right_more : (number : ℕ → ℕ) (i : ℕ) → number i ≡ d → ((k : ℕ) → k < i → IsRight g barred closed queue (number k)) → (k : ℕ) → k < i + 1 → IsRight g barred closed queue' (number k)
    right_more number i q right k l =
        ⊎_elim
        (λ e. here_written (number k) (ap number e ∙ q))
        (λ ne. kept_written (number k) (right k (omega arith)))
        (cases_eq k i)

  module _ (queue : List (Option ℕ)) (queued : IsQueued g barred closed queue) where
    -- the first entry is that of the ready device of least number
    pub first_due : (d : ℕ) → IsFirstDue queue 0 d → d < length queue → first_below (length g.devices) (is_ready g barred closed) ≡ Some d
    first_due d f l =
        let ld : d < length g.devices = subst (λ n. d < n) queued.each l in
        first_at (length g.devices) d (is_ready g barred closed) ld (entry_ready (is_ready g barred closed d) f.0 (sym (queued.right d ld) ∙ f.1))
        (λ j lj. false_from_ne_true (is_ready g barred closed j) (λ e. not_before j lj e))
      where
        not_before : (j : ℕ) → j < d → is_ready g barred closed j ≡ true → ⊥
        not_before j lj e =
            let ld : d < length g.devices = subst (λ n. d < n) queued.each l in
            let other : j ≢ d = omega arith in
            ⊎_elim
            (λ a. absurd (omega arith))
            (λ a. let x = a.1 in absurd (omega arith))
            (f.3 j 0 (queued.right j (omega arith) ∙ ap entry_of e) other)

    -- where nothing is due no device is ready
    pub none_due : IsNothingDue queue 0 → first_below (length g.devices) (is_ready g barred closed) ≡ None
    none_due h =
        none_below (length g.devices) (is_ready g barred closed)
        (λ k l. false_from_ne_true (is_ready g barred closed k) (λ e. h k (0, queued.right k l ∙ ap entry_of e, omega arith)))

  module _ (d : ℕ) (state : IsState g closed) (ld : d < length g.devices) (one_end : has_one_fed_end g closed d ≡ true) where
    -- a node is fed as before, or gets fed
    changes : (n : ℕ) → n < length g.nodes → (is_fed g (set closed d true) n ≡ is_fed g closed n) ⊎ ((is_fed g closed n ≡ false) × (is_fed g (set closed d true) n ≡ true))
    changes n l =
        ⊎_elim
        (λ was. inl (fed_before g closed state.sound d ld state.each n l was ∙ sym was))
        (λ was. ⊎_elim
        (λ is. inr (was, is))
        (λ is. inl (is ∙ sym was))
        (cases_Bool (is_fed g (set closed d true) n)))
        (cases_Bool (is_fed g closed n))

    -- what isn't at a node that gets fed is as ready as before
    same_ready : (e : ℕ) → e ≢ d → is_fed g (set closed d true) (device_at g e).from.0 ≡ is_fed g closed (device_at g e).from.0
        → is_fed g (set closed d true) (device_at g e).to.0 ≡ is_fed g closed (device_at g e).to.0 → is_ready g barred (set closed d true) e ≡ is_ready g barred closed e
    same_ready e ne from to =
        ap (λ b. (not (barred e) && not b) && has_one_fed_end g (set closed d true) e) (get_or-set_other closed d e true false ne)
        ∙ ap (λ b. (not (barred e) && not (get_or closed e false)) && ((b && not (is_fed g (set closed d true) (device_at g e).to.0)) || (is_fed g (set closed d true) (device_at g e).to.0 && not b))) from
        ∙ ap (λ b. (not (barred e) && not (get_or closed e false)) && ((is_fed g closed (device_at g e).from.0 && not b) || (b && not (is_fed g closed (device_at g e).from.0)))) to

    module _ (list : List NodeId) (count : ℕ) (queue queue' : List (Option ℕ))
        (among : (n : ℕ) → n < length g.nodes → is_fed g closed n ≡ false → is_fed g (set closed d true) n ≡ true → IsAmong n list count)
        (but : IsQueuedBut g barred closed queue d)
        (kept : (e : ℕ) → IsRight g barred (set closed d true) queue e → IsRight g barred (set closed d true) queue' e)
        (around : (k e : ℕ) → k < count → e < length g.devices → touches g e (node_at list k) ≡ true → IsRight g barred (set closed d true) queue' e) where
      at_new : (n e : ℕ) → n < length g.nodes → e < length g.devices → touches g e n ≡ true → (is_fed g closed n ≡ false) × (is_fed g (set closed d true) n ≡ true) → IsRight g barred (set closed d true) queue' e
      at_new n e l le t f =
          let a = among n l f.0 f.1 in
          around a.0 e a.1 le (ap (touches g e) a.2 ∙ t)

      from_touches : (e : ℕ) → touches g e (device_at g e).from.0 ≡ true
      from_touches e = or_left ((device_at g e).from.0 == (device_at g e).from.0) ((device_at g e).to.0 == (device_at g e).from.0) (eq-eqb (device_at g e).from.0 (device_at g e).from.0 refl)

      to_touches : (e : ℕ) → touches g e (device_at g e).to.0 ≡ true
      to_touches e = or_right ((device_at g e).from.0 == (device_at g e).to.0) ((device_at g e).to.0 == (device_at g e).to.0) (eq-eqb (device_at g e).to.0 (device_at g e).to.0 refl)

      itself : (e : ℕ) → e < length g.devices → e ≡ d → IsRight g barred (set closed d true) queue' e
      itself e le q =
          let from = ap (λ x. (device_at g x).from.0) q in
          let to = ap (λ x. (device_at g x).to.0) q in
          ⊎_elim
          (λ f. at_new (device_at g e).from.0 e (state.sound.from e le) le (from_touches e) (ap (is_fed g closed) from ∙ f.0, ap (is_fed g (set closed d true)) from ∙ f.1))
          (λ f. at_new (device_at g e).to.0 e (state.sound.to e le) le (to_touches e) (ap (is_fed g closed) to ∙ f.0, ap (is_fed g (set closed d true)) to ∙ f.1))
          (end_gets_fed g closed state.sound d ld state.each one_end)

      another : (e : ℕ) → e < length g.devices → e ≢ d → IsRight g barred (set closed d true) queue' e
      another e le ne =
          ⊎_elim
          (λ from. ⊎_elim
          (λ to. kept e (but.right e le ne ∙ ap entry_of (sym (same_ready e ne from to))))
          (λ f. at_new (device_at g e).to.0 e (state.sound.to e le) le (to_touches e) f)
          (changes (device_at g e).to.0 (state.sound.to e le)))
          (λ f. at_new (device_at g e).from.0 e (state.sound.from e le) le (from_touches e) f)
          (changes (device_at g e).from.0 (state.sound.from e le))

      right_after : (e : ℕ) → e < length g.devices → IsRight g barred (set closed d true) queue' e
      right_after e le = ⊎_elim (λ q. itself e le q) (λ ne. another e le ne) (cases_eq e d)

    -- the queue after the device was closed, and what is at the nodes that it feeds was queued
    pub queued_after : (closed' : List Bool) (list : List NodeId) (count : ℕ) (queue queue' : List (Option ℕ)) → closed' ≡ set closed d true → IsQueuedBut g barred closed queue d → count ≤ length list
        → ((n : ℕ) → n < length g.nodes → is_fed g closed' n ≡ true → IsAmong n list count ↔ (is_live (network_at g closed') (only d) n ≡ false))
        → length queue' ≡ length g.devices
        → ((e : ℕ) → IsRight g barred closed' queue e → IsRight g barred closed' queue' e)
        → ((k e : ℕ) → k < length (take count list) → e < length g.devices → touches g e (node_at (take count list) k) ≡ true → IsRight g barred closed' queue' e)
        → IsQueued g barred closed' queue'
    queued_after closed' list count queue queue' same but lc below each kept around = after_it closed' same below kept around
      where
        after_it : (closed' : List Bool) → closed' ≡ set closed d true
            → ((n : ℕ) → n < length g.nodes → is_fed g closed' n ≡ true → IsAmong n list count ↔ (is_live (network_at g closed') (only d) n ≡ false))
            → ((e : ℕ) → IsRight g barred closed' queue e → IsRight g barred closed' queue' e)
            → ((k e : ℕ) → k < length (take count list) → e < length g.devices → touches g e (node_at (take count list) k) ≡ true → IsRight g barred closed' queue' e)
            → IsQueued g barred closed' queue'
        after_it closed' same =
            subst (λ s. ((n : ℕ) → n < length g.nodes → is_fed g s n ≡ true → IsAmong n list count ↔ (is_live (network_at g s) (only d) n ≡ false))
            → ((e : ℕ) → IsRight g barred s queue e → IsRight g barred s queue' e)
            → ((k e : ℕ) → k < length (take count list) → e < length g.devices → touches g e (node_at (take count list) k) ≡ true → IsRight g barred s queue' e)
            → IsQueued g barred s queue') (sym same)
            (λ below kept around. record {
              each = each;
              right = right_after list count queue queue'
                  (λ n l was is. (below n l is).1 (by_it_alone g closed state.sound d ld n l was))
                  but kept
                  (λ k e l le t. around k e (subst (λ x. k < x) (sym (length-take-le count list lc)) l) le (ap (λ x. touches g e x.0) (get_or-take count list k (record { 0 = 0 }) l) ∙ t));
            })
