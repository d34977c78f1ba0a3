-- A report changes what is kept of the meter that it names, and of no other.
use Rattle.std.proofs.Common.{◌≡◌, ◌≢◌, ℕ, ◌<◌, Bool, true, false, refl, ap, ◌∙◌, sym, arith, length, List}
use Rattle.std.specs.Prelude.{◌||◌, ◌==◌, slice_set, option_map, if◌then◌else◌}
use Rattle.std.proofs.lemmas.Bool.{eq-eqb, ne_eqb}
use Rattle.grid_model.specs.Parts.{Parts}
use Rattle.grid_model.specs.declared.parts.MeterId.{MeterId}
use Rattle.grid_model.specs.declared.history.Event.{Event}
use Rattle.grid_model.specs.declared.history.Stamp.{Stamp}
use Rattle.grid_model.specs.declared.history.What.TheVariants.{Call}
use Rattle.history_rules.specs.Slots.{Slots, slots_after, slots_restored}
use Rattle.evidence.specs.Kept.{Kept, Evident, kept_of, keeping, pull_by, sign_what}
use Rattle.evidence.specs.declared.Pull.{Pull}
use Rattle.evidence.specs.declared.slot.Sign.{Sign}
use Rattle.evidence.specs.declared.slot.Sign.TheVariants as sign
use Rattle.subtree_costs.specs.Costed.{IsCosted}
use Rattle.field_state.specs.Fielded.{Fielded}
use Rattle.field_state.specs.Placed.{NotesChanges}
use Rattle.field_state.specs.Weighed.{IsWeighed, KeepsRest}
use Rattle.field_state.specs.Acted.{is_told, is_brought, kept_after, restored_if, IsReady, IsKeptBy}
use Rattle.field_state.proofs.Tallied.{due_here}
use Rattle.field_state.proofs.Naming.{is_named}
use Rattle.field_state.proofs.Doing.{kept_by}

-- what a report leaves of the field
module _ (g : Parts) (m t : ℕ) (slots : Slots) (f new : Fielded) (e : Evident) (after : Pull) (kept : ℕ → Kept) (ready : IsReady g t f) (lm : m < length g.meters)
    (keeps : e ≡ keeping f.evidence m slots t) (pull : after ≡ pull_by g m (kept_of e m)) (weighed : IsWeighed g new.evidence new.dark new.live)
    (due : new.due ≡ slice_set f.due m (option_map (λ t. t.0) after.due)) (rest : KeepsRest (record f { evidence = e }) new) (costed : IsCosted g new.costs) (notes : NotesChanges g f.costs new.costs f.places new.places) where
  pub taken_by : record { slots = slots; at = t } ≡ kept m → ((k : ℕ) → k ≢ m → kept_of f.evidence k ≡ kept k) → IsKeptBy g t kept f new
  taken_by one others =
      kept_by g m t slots f new kept ready lm (rest.evidence ∙ keeps) weighed
      (due ∙ ap (slice_set f.due m) (due_here g m t slots f.evidence e after (omega (arith, ready.tallied.evidence.each)) keeps pull))
      one others costed rest.now rest.applied rest.forest rest.marks notes

told : (m : ℕ) (e : Event) (k : Kept) → is_told m e.what false ≡ true → record { slots = slots_after m e false k.slots; at = e.time.0 } ≡ kept_after m e false k
told m e k told_of = ap (λ b. if b then record { slots = slots_after m e false k.slots; at = e.time.0 } else k) (sym told_of)

untold : (m : ℕ) (e : Event) (k : Kept) → is_told m e.what false ≡ false → k ≡ kept_after m e false k
untold m e k none = ap (λ b. if b then record { slots = slots_after m e false k.slots; at = e.time.0 } else k) (sym none)

here : (x : ℕ) → (x == x) ≡ true
here x = eq-eqb x x refl

signal_told : (s : Sign) (x : MeterId) (m : ℕ) (b : Bool) → (x.0 == m) ≡ b → is_told m (sign_what s x) false ≡ (false || b || false)
signal_told sign.Gasp x m b q = ap (λ b. false || b || false) q
signal_told sign.PingDown x m b q = ap (λ b. false || b || false) q
signal_told sign.PingUp x m b q = ap (λ b. false || b || false) q
signal_told sign.Powerup x m b q = ap (λ b. false || b || false) q

pub call_here : (x : MeterId) (t : Stamp) (k : Kept) →
    record { slots = slots_after x.0 (record { time = t; what = Call x }) false k.slots; at = t.0 } ≡ kept_after x.0 (record { time = t; what = Call x }) false k
call_here x t k = told x.0 (record { time = t; what = Call x }) k (ap (λ b. b || false || false) (here x.0))

pub call_there : (x : MeterId) (t : Stamp) (m : ℕ) (k : Kept) → m ≢ x.0 → k ≡ kept_after m (record { time = t; what = Call x }) false k
call_there x t m k ne = untold m (record { time = t; what = Call x }) k (ap (λ b. b || false || false) (ne_eqb x.0 m (λ q. ne (sym q))))

pub signal_here : (s : Sign) (x : MeterId) (t : Stamp) (k : Kept) →
    record { slots = slots_after x.0 (record { time = t; what = sign_what s x }) false k.slots; at = t.0 }
    ≡ kept_after x.0 (record { time = t; what = sign_what s x }) false k
signal_here s x t k = told x.0 (record { time = t; what = sign_what s x }) k (signal_told s x x.0 true (here x.0))

pub signal_there : (s : Sign) (x : MeterId) (t : Stamp) (m : ℕ) (k : Kept) → m ≢ x.0 → k ≡ kept_after m (record { time = t; what = sign_what s x }) false k
signal_there s x t m k ne = untold m (record { time = t; what = sign_what s x }) k (signal_told s x m false (ne_eqb x.0 m (λ q. ne (sym q))))

pub restored_here : (m t : ℕ) (k : Kept) → record { slots = slots_restored t k.slots; at = t } ≡ restored_if (m == m) t k
restored_here m t k = ap (λ b. restored_if b t k) (sym (here m))

pub restored_there : (m x t : ℕ) (k : Kept) → m ≢ x → k ≡ restored_if (m == x) t k
restored_there m x t k ne = ap (λ b. restored_if b t k) (sym (ne_eqb m x ne))

-- a signal names no device
pub signal_unnamed : (s : Sign) (x : MeterId) (d : ℕ) → is_named (sign_what s x) d ≡ false
signal_unnamed sign.Gasp x d = refl
signal_unnamed sign.PingDown x d = refl
signal_unnamed sign.PingUp x d = refl
signal_unnamed sign.Powerup x d = refl

pub signal_brings_none : (g : Parts) (closed : List Bool) (m : ℕ) (s : Sign) (x : MeterId) → is_brought g closed m (sign_what s x) ≡ false
signal_brings_none g closed m sign.Gasp x = refl
signal_brings_none g closed m sign.PingDown x = refl
signal_brings_none g closed m sign.PingUp x = refl
signal_brings_none g closed m sign.Powerup x = refl
