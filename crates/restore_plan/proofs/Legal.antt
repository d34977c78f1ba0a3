-- Moves that the switching rule lets pass, one after the other.
use Rattle.std.proofs.Common.{◌≡◌, ℕ, zero, suc, ◌<◌, Bool, true, false, List, [], ◌∷◌, ◌++◌, length, refl, ◌∙◌, arith, get_or, set}
use Rattle.std.specs.Prelude.{Ok}
use Rattle.std.proofs.lemmas.List.{length-set}
use Rattle.outage_rules.specs.Network.{IsRadial}
use Rattle.outage_rules.specs.Loops.{would_loop}
use Rattle.outage_rules.proofs.Loops.{looped_by_walks}
use Rattle.outage_rules.proofs.Closing.{radial_stays}
use Rattle.grid_model.specs.declared.history.Want.{Want}
use Rattle.grid_model.specs.declared.history.Want.TheVariants.{Opened, Closed}
use Rattle.grid_model.specs.Parts.{Parts}
use Rattle.radial_forest.specs.Forested.{Forested, IsForestOf}
use Rattle.switching.specs.Decision.{decision}
use Rattle.switching.proofs.Switched.{opened_is_radial, closed_is_radial}
use Rattle.restore_plan.specs.declared.moves.Move.{Move}
use Rattle.restore_plan.specs.RestoringInside.{IsState}
use Rattle.restore_plan.specs.States.{network_at, state_of, after_move, after, before, move_at, change_of, Passes, Feeds}

pub forest_state : (g : Parts) (closed : List Bool) (f : Forested) → IsForestOf g closed f → IsState g closed
forest_state g closed f h = record { each = h.states_each; sound = h.sound; radial = h.radial }

-- the move passes in these states, and feeds a node if it closes a device
pub record IsLegal (g : Parts) (closed : List Bool) (m : Move) : Type 0 where
  pub within : m.device.0 < length g.devices
  pub passes : Passes g closed m
  pub feeds : m.want ≡ Closed → Feeds g closed m

-- so does each move in its turn
abbrev pub AreLegal : Parts → List Bool → List Move → Type 0
AreLegal g closed [] = Unit {0}
AreLegal g closed (m ∷ moves) = IsLegal g closed m × AreLegal g (after_move closed m) moves

pub after_append : (closed : List Bool) (xs ys : List Move) → after closed (xs ++ ys) ≡ after (after closed xs) ys
after_append closed [] ys = refl
after_append closed (m ∷ xs) ys = after_append (after_move closed m) xs ys

pub legal_append : (g : Parts) (closed : List Bool) (xs ys : List Move) → AreLegal g closed xs → AreLegal g (after closed xs) ys → AreLegal g closed (xs ++ ys)
legal_append g closed [] ys a b = b
legal_append g closed (m ∷ xs) ys a b = (a.0, legal_append g (after_move closed m) xs ys a.1 b)

pub legal_at : (g : Parts) (closed : List Bool) (moves : List Move) → AreLegal g closed moves → (k : ℕ) → k < length moves → IsLegal g (before closed moves k) (move_at moves k)
legal_at g closed [] a k l = absurd (omega arith)
legal_at g closed (m ∷ moves) a zero l = a.0
legal_at g closed (m ∷ moves) a (suc k) l = legal_at g (after_move closed m) moves a.1 k (omega arith)

-- an order to open passes where the device is closed, and one to close where it is open and closes no loop
pub passed_open : (b loops : Bool) → decision Opened b loops ≡ Ok (change_of Opened) → b ≡ true
passed_open true loops e = refl
passed_open false loops e = absurd (let x : ⊥ = cc in x)

passed_closed : (b loops : Bool) → decision Closed b loops ≡ Ok (change_of Closed) → loops ≡ false
passed_closed true loops e = absurd (let x : ⊥ = cc in x)
passed_closed false true e = absurd (let x : ⊥ = cc in x)
passed_closed false false e = refl

module _ (g : Parts) (closed : List Bool) (state : IsState g closed) (d : ℕ) (ld : d < length g.devices) where
  with_state : (b : Bool) → IsRadial (network_at g (set closed d b)) → IsState g (set closed d b)
  with_state b radial = record {
    each = length-set closed d b ∙ state.each;
    sound = record { from = state.sound.from; to = state.sound.to; apart = state.sound.apart; sources = state.sound.sources };
    radial = radial;
  }

  state_after_want : (w : Want) → decision w (get_or closed d false) (would_loop (network_at g closed) d) ≡ Ok (change_of w) → IsState g (set closed d (state_of w))
  state_after_want Opened e = with_state false (opened_is_radial g closed d state.each ld state.radial)
  state_after_want Closed e =
      with_state true (closed_is_radial g closed d state.each ld state.radial state.sound (λ n e s l. looped_by_walks n s e l) radial_stays
      (passed_closed (get_or closed d false) (would_loop (network_at g closed) d) e))

pub state_after : (g : Parts) (closed : List Bool) (m : Move) → IsState g closed → m.device.0 < length g.devices → Passes g closed m → IsState g (after_move closed m)
state_after g closed m state l p = state_after_want g closed state m.device.0 l m.want p

pub states_after : (g : Parts) (closed : List Bool) (moves : List Move) → IsState g closed → AreLegal g closed moves → IsState g (after closed moves)
states_after g closed [] state a = state
states_after g closed (m ∷ moves) state a = states_after g (after_move closed m) moves (state_after g closed m state a.0.within a.0.passes) a.1
