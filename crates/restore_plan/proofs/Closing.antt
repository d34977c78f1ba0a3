-- The closings, and the whole plan.
use Rattle.std.proofs.Common.{◌≡◌, ◌≢◌, ℕ, ◌+◌, ◌<◌, Bool, true, false, cond, List, [], ◌∷◌, ◌++◌, length, refl, sym, ap, ◌∙◌, subst, arith, get_or, set}
use Rattle.std.specs.Prelude.{◌↔◌, ◌&&◌, not, Some, None, Ok}
use Rattle.std.proofs.lemmas.Bool.{and_parts, false≢true, not-true}
use Rattle.std.proofs.lemmas.Option.{same_Some}
use Rattle.std.proofs.lemmas.List.{get_or-set_other, append-nil, append_assoc}
use Rattle.std.proofs.lemmas.List.Sums.{sum_by-set}
use Rattle.std.specs.List.{count_by}
use Rattle.grid_model.specs.declared.parts.DeviceId.{DeviceId}
use Rattle.outage_rules.specs.Network.{IsLive, IsRadial, nothing}
use Rattle.outage_rules.specs.Loops.{first_below, would_loop}
use Rattle.outage_rules.proofs.FirstBelow.{first_is, fails_below}
use Rattle.grid_model.specs.declared.history.Want.{Want}
use Rattle.grid_model.specs.declared.history.Want.TheVariants.{Closed}
use Rattle.grid_model.specs.Parts.{Parts}
use Rattle.grid_model.specs.Network.{network_in}
use Rattle.switching.specs.Decision.{decision}
use Rattle.restore_plan.specs.declared.moves.Move.{Move}
use Rattle.restore_plan.specs.States.{network_at, is_fed, state_of, after_move, after, before, move_at, change_of, Passes, Feeds}
use Rattle.restore_plan.specs.Restoring.{has_one_fed_end, is_ready, openings, AreClosings, AreMoves}
use Rattle.restore_plan.specs.RestoringInside.{IsState, IsRestored, IsRestoring}
use Rattle.restore_plan.proofs.Feeding.{closes_no_loop, gets_fed, all_fed, fed_by_others}
use Rattle.restore_plan.proofs.Legal.{IsLegal, AreLegal, after_append, legal_append, legal_at, state_after, states_after}
use Rattle.restore_plan.proofs.Opening.{opened_barred, legal_openings}

-- an order to close a ready device
pub record IsReady (g : Parts) (barred : ℕ → Bool) (closed : List Bool) (d : ℕ) : Type 0 where
  pub unbarred : barred d ≡ false
  pub opened : get_or closed d false ≡ false
  pub one_end : has_one_fed_end g closed d ≡ true

pub ready_parts : (g : Parts) (barred : ℕ → Bool) (closed : List Bool) (d : ℕ) → is_ready g barred closed d ≡ true → IsReady g barred closed d
ready_parts g barred closed d e =
    let a = and_parts (not (barred d) && not (get_or closed d false)) (has_one_fed_end g closed d) e in
    let b = and_parts (not (barred d)) (not (get_or closed d false)) a.0 in
    record { unbarred = not-true (barred d) b.0; opened = not-true (get_or closed d false) b.1; one_end = a.1 }

module _ (g : Parts) (barred : ℕ → Bool) where
  legal_want : (closed : List Bool) (m : Move) (w : Want) → m.want ≡ w → w ≡ Closed → IsState g closed → m.device.0 < length g.devices → IsReady g barred closed m.device.0 → IsLegal g closed m
  legal_want closed m w e f state l r = record {
    within = l;
    passes = subst (λ x. decision x (get_or closed m.device.0 false) (would_loop (network_at g closed) m.device.0) ≡ Ok (change_of x)) (sym (e ∙ f))
        (ap (λ b. decision Closed b (would_loop (network_at g closed) m.device.0)) r.opened
        ∙ ap (λ b. decision Closed false b) (closes_no_loop g closed state.sound m.device.0 l r.one_end));
    feeds = λ q. subst (λ x. (n : ℕ) × (n < length g.nodes) × (is_fed g closed n ≡ false) × (is_fed g (set closed m.device.0 (state_of x)) n ≡ true)) (sym (e ∙ f))
        (gets_fed g closed state.sound m.device.0 l state.each r.one_end);
  }

  legal_closing : (closed : List Bool) (m : Move) → m.want ≡ Closed → IsState g closed → first_below (length g.devices) (is_ready g barred closed) ≡ Some m.device.0 → IsLegal g closed m
  legal_closing closed m e state f =
      let k = first_is (length g.devices) m.device.0 (is_ready g barred closed) f in
      legal_want closed m Closed e refl state k.0 (ready_parts g barred closed m.device.0 k.1)

  legal_closings : (closed : List Bool) (moves : List Move) → IsState g closed → AreClosings g barred closed moves → AreLegal g closed moves
  legal_closings closed [] state h = tt
  legal_closings closed (m ∷ moves) state h =
      let legal = legal_closing closed m h.1 state h.0 in
      (legal, legal_closings (after_move closed m) moves (state_after g closed m state legal.within legal.passes) h.2)

  -- fewer devices are open
  fewer_open : (closed : List Bool) (d : ℕ) → d < length closed → get_or closed d false ≡ false → count_by not (set closed d true) < count_by not closed
  fewer_open closed d l e =
      let sums : count_by not (set closed d true) + cond (not (get_or closed d false)) 1 0 ≡ count_by not closed + 0 = sum_by-set (λ b. cond (not b) 1 0) closed d true false l in
      let was : cond {A = ℕ} (not (get_or closed d false)) 1 0 ≡ 1 = ap (λ b. cond {A = ℕ} (not b) 1 0) e in omega arith

  -- what closing the first ready device comes to
  pub record IsNext (closed : List Bool) (m : Move) : Type 0 where
    pub within : m.device.0 < length g.devices
    pub passes : Passes g closed m
    pub one_end : has_one_fed_end g closed m.device.0 ≡ true
    pub fewer : count_by not (after_move closed m) < count_by not closed

  pub next_closing : (closed : List Bool) (d : DeviceId) → IsState g closed → Some d.0 ≡ first_below (length g.devices) (is_ready g barred closed) → IsNext closed (record { device = d; want = Closed })
  next_closing closed d state e =
      let legal = legal_closing closed (record { device = d; want = Closed }) refl state (sym e) in
      let k = first_is (length g.devices) d.0 (is_ready g barred closed) (sym e) in
      record {
        within = legal.within;
        passes = legal.passes;
        one_end = (ready_parts g barred closed d.0 k.1).one_end;
        fewer = fewer_open closed d.0 (let x = state.each in let y = legal.within in omega arith) (ready_parts g barred closed d.0 k.1).opened;
      }

  pub restoring_start : (closed : List Bool) (moves : List Move) → IsRestoring g barred closed moves closed moves
  restoring_start closed moves = record { closings = []; added = sym (append-nil moves); states = refl; leads = λ rest h. h }

  pub restoring_more : (closed closed1 closed2 : List Bool) (moves moves1 moves2 : List Move) (d : DeviceId) → IsRestoring g barred closed moves closed1 moves1
      → Some d.0 ≡ first_below (length g.devices) (is_ready g barred closed1) → closed2 ≡ set closed1 d.0 true → moves2 ≡ moves1 ++ (record { device = d; want = Closed }) ∷ []
      → IsRestoring g barred closed moves closed2 moves2
  restoring_more closed closed1 closed2 moves moves1 moves2 d h first states added = record {
    closings = h.closings ++ (record { device = d; want = Closed }) ∷ [];
    added = added ∙ ap (λ m. m ++ (record { device = d; want = Closed }) ∷ []) h.added ∙ append_assoc moves h.closings ((record { device = d; want = Closed }) ∷ []);
    states = states ∙ ap (λ c. set c d.0 true) h.states ∙ sym (after_append closed h.closings ((record { device = d; want = Closed }) ∷ []));
    leads = λ rest r.
        subst (AreClosings g barred closed) (sym (append_assoc h.closings ((record { device = d; want = Closed }) ∷ []) rest))
        (h.leads ((record { device = d; want = Closed }) ∷ rest) (sym first, refl, subst (λ c. AreClosings g barred c rest) states r));
  }

  pub restoring_end : (closed closed1 : List Bool) (moves moves1 : List Move) → IsRestoring g barred closed moves closed1 moves1
      → None ≡ first_below (length g.devices) (is_ready g barred closed1) → IsRestored g barred closed moves closed1 moves1
  restoring_end closed closed1 moves moves1 h none = record {
    closings = h.closings;
    added = h.added;
    states = h.states;
    all = subst (AreClosings g barred closed) (append-nil h.closings) (h.leads [] (sym none));
  }

  -- no barred device is closed
  closings_keep : (closed : List Bool) (moves : List Move) (d : ℕ) → AreClosings g barred closed moves → barred d ≡ true → get_or closed d false ≡ false → get_or (after closed moves) d false ≡ false
  closings_keep closed [] d h b o = o
  closings_keep closed (m ∷ moves) d h b o =
      let k = first_is (length g.devices) m.device.0 (is_ready g barred closed) h.0 in
      let r = ready_parts g barred closed m.device.0 k.1 in
      let other : d ≢ m.device.0 = λ q. false≢true (sym r.unbarred ∙ ap barred (sym q) ∙ b) in
      closings_keep (after_move closed m) moves d h.2 b (get_or-set_other closed m.device.0 d (state_of m.want) false other ∙ o)

  -- none is ready in the end
  closings_end : (closed : List Bool) (moves : List Move) → AreClosings g barred closed moves → first_below (length g.devices) (is_ready g barred (after closed moves)) ≡ None
  closings_end closed [] h = h
  closings_end closed (m ∷ moves) h = closings_end (after_move closed m) moves h.2

  module _ (closed : List Bool) (moves : List Move) (state : IsState g closed) (are : AreMoves g barred closed moves) where
    first_legal : AreLegal g closed (openings g barred closed)
    first_legal = legal_openings barred closed g (length g.devices) (omega arith)

    end_is : after closed moves ≡ after (after closed (openings g barred closed)) are.0
    end_is = ap (after closed) are.1 ∙ after_append closed (openings g barred closed) are.0

    all_legal : AreLegal g closed moves
    all_legal =
        subst (AreLegal g closed) (sym are.1)
        (legal_append g closed (openings g barred closed) are.0 first_legal
        (legal_closings (after closed (openings g barred closed)) are.0 (states_after g closed (openings g barred closed) state first_legal) are.2))

    pub plan_within : (k : ℕ) → k < length moves → (move_at moves k).device.0 < length g.devices
    plan_within k l = (legal_at g closed moves all_legal k l).within

    pub plan_passes : (k : ℕ) → k < length moves → Passes g (before closed moves k) (move_at moves k)
    plan_passes k l = (legal_at g closed moves all_legal k l).passes

    pub plan_feeds : (k : ℕ) → k < length moves → (move_at moves k).want ≡ Closed → Feeds g (before closed moves k) (move_at moves k)
    plan_feeds k l = (legal_at g closed moves all_legal k l).feeds

    end_state : IsState g (after closed moves)
    end_state = states_after g closed moves state all_legal

    pub plan_radial : IsRadial (network_at g (after closed moves))
    plan_radial = end_state.radial

    pub plan_barred : (d : ℕ) → d < length g.devices → barred d ≡ true → get_or (after closed moves) d false ≡ false
    plan_barred d l b =
        ap (λ c. get_or c d false) end_is
        ∙ closings_keep (after closed (openings g barred closed)) are.0 d are.2 b
        (opened_barred barred closed (length g.devices) d (let x = state.each in omega arith) l b)

    pub plan_fed : (n : ℕ) → n < length g.nodes → (is_fed g (after closed moves) n ≡ true) ↔ IsLive (network_in g (λ d. not (barred d))) nothing n
    plan_fed n l = (
      fed_by_others g (after closed moves) end_state.sound barred plan_barred n,
      all_fed g (after closed moves) end_state.sound barred
          (fails_below (length g.devices) (is_ready g barred (after closed moves))
          (subst (λ c. first_below (length g.devices) (is_ready g barred c) ≡ None) (sym end_is) (closings_end (after closed (openings g barred closed)) are.0 are.2)))
          n l,
    )

-- the openings and the closings are a plan's moves
pub all_moves : (g : Parts) (barred : ℕ → Bool) (closed closed0 closed1 closed2 : List Bool) (moves1 moves2 : List Move) → closed0 ≡ closed → closed1 ≡ after closed0 (openings g barred closed0)
    → moves1 ≡ openings g barred closed0 → IsRestored g barred closed1 moves1 closed2 moves2 → AreMoves g barred closed moves2 × (closed2 ≡ after closed moves2)
all_moves g barred closed closed0 closed1 closed2 moves1 moves2 start states moves h =
    let states' = states ∙ ap (λ c. after c (openings g barred c)) start in
    let moves' = h.added ∙ ap (λ m. m ++ h.closings) (moves ∙ ap (openings g barred) start) in (
      (h.closings, moves', subst (λ c. AreClosings g barred c h.closings) states' h.all),
      h.states ∙ ap (λ c. after c h.closings) states' ∙ sym (ap (after closed) moves' ∙ after_append closed (openings g barred closed) h.closings),
    )

same_move : (m n : Move) → m.device.0 ≡ n.device.0 → m.want ≡ n.want → m ≡ n
same_move m n d w = ap (λ x. record { device = record { 0 = x }; want = m.want }) d ∙ ap (λ x. record { device = n.device; want = x }) w

-- there is one list of closings
one_list : (g : Parts) (barred : ℕ → Bool) (closed : List Bool) (a b : List Move) → AreClosings g barred closed a → AreClosings g barred closed b → a ≡ b
one_list g barred closed [] [] h k = refl
one_list g barred closed [] (n ∷ b) h k = absurd (let x = sym h ∙ k.0 in let y : ⊥ = cc in y)
one_list g barred closed (m ∷ a) [] h k = absurd (let x = sym k ∙ h.0 in let y : ⊥ = cc in y)
one_list g barred closed (m ∷ a) (n ∷ b) h k =
    let e = same_move m n (same_Some m.device.0 n.device.0 (sym h.0 ∙ k.0)) (h.1 ∙ sym k.1) in
    ap (λ xs. m ∷ xs) (one_list g barred (after_move closed m) a b h.2 (subst (λ x. AreClosings g barred (after_move closed x) b) (sym e) k.2)) ∙ ap (λ x. x ∷ b) e

pub one_list_of_moves : (g : Parts) (barred : ℕ → Bool) (closed : List Bool) (a b : List Move) → AreMoves g barred closed a → AreMoves g barred closed b → a ≡ b
one_list_of_moves g barred closed a b h k =
    h.1 ∙ ap (λ xs. openings g barred closed ++ xs) (one_list g barred (after closed (openings g barred closed)) h.0 k.0 h.2 k.2) ∙ sym k.1
