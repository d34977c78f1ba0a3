-- The rules that refuse an event, by the states of the devices.
use Rattle.std.proofs.Common.{◌≡◌, ℕ, ◌<◌, ◌≤◌, Bool, true, false, refl, sym, ap, ◌∙◌, List}
use Rattle.std.specs.Prelude.{◌&&◌, not, nat_lt, slice_index_or, Option, Some, None, if◌then◌else◌}
use Rattle.std.specs.Result.{result_err}
use Rattle.std.proofs.Math.Path.{fun_ext}
use Rattle.std.proofs.lemmas.Bool.{lt-ltb, le-ltb, ltb-false}
use Rattle.outage_rules.specs.Loops.{would_loop}
use Rattle.grid_model.specs.Parts.{Parts}
use Rattle.grid_model.specs.Network.{network_in}
use Rattle.grid_model.specs.declared.history.Event.{Event}
use Rattle.grid_model.specs.declared.history.What.{What}
use Rattle.grid_model.specs.declared.history.What.TheVariants.{Call, Gasp, PingDown, PingUp, Powerup, Confirm, Restore, Order, Clock}
use Rattle.grid_model.specs.declared.history.Want.{Want}
use Rattle.grid_model.specs.declared.history.Want.TheVariants as want
use Rattle.grid_model.specs.declared.history.Refusal.{Refusal}
use Rattle.grid_model.specs.declared.history.Refusal.TheVariants.{Backwards, NotClosed, Loop}
use Rattle.switching.specs.Decision.{decision}
use Rattle.history_rules.specs.State.{now, is_closed}
use Rattle.history_rules.specs.Posed.{names_open, loops, loops_by, refusal_of}
use Rattle.field_state.specs.Acted.{stands_open, closes_loop, closes_loop_by, rule_in}

module _ (g : Parts) (h : List Event) (closed : List Bool) (same : (d : ℕ) → slice_index_or closed d false ≡ is_closed g h d) where
  same_open : (w : What) → stands_open closed w ≡ names_open g h w
  same_open (Confirm x c) = ap not (same x.0)
  same_open (Restore x) = ap not (same x.0)
  same_open (Call m) = refl
  same_open (Gasp m) = refl
  same_open (PingDown m) = refl
  same_open (PingUp m) = refl
  same_open (Powerup m) = refl
  same_open (Order x w) = refl
  same_open Clock = refl

  same_loop_by : (d : ℕ) (w : Want) → closes_loop_by g closed d w ≡ loops_by g h d w
  same_loop_by d want.Opened = refl
  same_loop_by d want.Closed = ap (λ states. not (states d) && would_loop (network_in g states) d) (fun_ext same)

  same_loop : (w : What) → closes_loop g closed w ≡ loops g h w
  same_loop (Order x w) = same_loop_by x.0 w
  same_loop (Confirm x c) = refl
  same_loop (Restore x) = refl
  same_loop (Call m) = refl
  same_loop (Gasp m) = refl
  same_loop (PingDown m) = refl
  same_loop (PingUp m) = refl
  same_loop (Powerup m) = refl
  same_loop Clock = refl

  -- the rules are those of the events
  pub same_rule : (e : Event) → (if nat_lt e.time.0 (now h) then Some Backwards else rule_in g closed e.what) ≡ refusal_of g h e
  unfolding refusal_of
  same_rule e =
      ap (λ b. if nat_lt e.time.0 (now h) then Some Backwards else (if b then Some NotClosed else (if closes_loop g closed e.what then Some Loop else None))) (same_open e.what)
      ∙ ap (λ b. if nat_lt e.time.0 (now h) then Some Backwards else (if names_open g h e.what then Some NotClosed else (if b then Some Loop else None))) (same_loop e.what)

not_late : (late : Bool) (rule : Option Refusal) → (if late then Some Backwards else rule) ≡ None → (late ≡ false) × (rule ≡ None)
not_late true rule q = cc
not_late false rule q = (refl, q)

-- no rule refuses an event that is applied, and it isn't late
pub applied_by : (g : Parts) (h : List Event) (closed : List Bool) (e : Event) → ((d : ℕ) → slice_index_or closed d false ≡ is_closed g h d) →
    refusal_of g h e ≡ None → (nat_lt e.time.0 (now h) ≡ false) × (rule_in g closed e.what ≡ None)
applied_by g h closed e same q = not_late (nat_lt e.time.0 (now h)) (rule_in g closed e.what) (same_rule g h closed same e ∙ q)

opening_rule : (state loop : Bool) → result_err (decision want.Opened state loop) ≡ None
opening_rule true loop = refl
opening_rule false loop = refl

closing_rule : (state loop : Bool) → result_err (decision want.Closed state loop) ≡ (if not state && loop then Some Loop else None)
closing_rule true loop = refl
closing_rule false true = refl
closing_rule false false = refl

-- the rule that refuses an order
pub order_rule : (g : Parts) (closed : List Bool) (d : ℕ) (w : Want) →
    result_err (decision w (slice_index_or closed d false) (would_loop (network_in g (λ e. slice_index_or closed e false)) d))
    ≡ (if closes_loop_by g closed d w then Some Loop else None)
order_rule g closed d want.Opened = opening_rule (slice_index_or closed d false) (would_loop (network_in g (λ e. slice_index_or closed e false)) d)
order_rule g closed d want.Closed = closing_rule (slice_index_or closed d false) (would_loop (network_in g (λ e. slice_index_or closed e false)) d)

-- an event before the last one is late, and another one isn't
pub late : (g : Parts) (h : List Event) (e : Event) → e.time.0 < now h → Some Backwards ≡ refusal_of g h e
unfolding refusal_of
late g h e l = ap (λ b. if b then Some Backwards else (if names_open g h e.what then Some NotClosed else (if loops g h e.what then Some Loop else None))) (sym (lt-ltb e.time.0 (now h) l))

pub in_time : (g : Parts) (h : List Event) (closed : List Bool) (e : Event) → ((d : ℕ) → slice_index_or closed d false ≡ is_closed g h d) →
    now h ≤ e.time.0 → rule_in g closed e.what ≡ refusal_of g h e
in_time g h closed e same l = ap (λ b. if b then Some Backwards else rule_in g closed e.what) (sym (le-ltb e.time.0 (now h) l)) ∙ same_rule g h closed same e

-- an event that is applied isn't late
pub not_late_after : (g : Parts) (h : List Event) (e : Event) → refusal_of g h e ≡ None → now h ≤ e.time.0
unfolding refusal_of
not_late_after g h e q =
    ltb-false e.time.0 (now h) (not_late (nat_lt e.time.0 (now h)) (if names_open g h e.what then Some NotClosed else (if loops g h e.what then Some Loop else None)) q).0
