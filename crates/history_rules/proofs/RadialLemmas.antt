-- A history leaves a radial network radial.
use Rattle.std.proofs.Common.{◌≡◌, ℕ, ◌<◌, Bool, true, false, cond, List, [], ◌∷◌, refl, sym, ◌∙◌, subst, inl, inr}
use Rattle.std.specs.Prelude.{◌⊎◌, ◌==◌, ◌||◌, ◌&&◌, not, None}
use Rattle.std.proofs.lemmas.Bool.{false≢true, eq-eqb, eqb-true, or_left, or_right}
use Rattle.outage_rules.specs.Network.{Network, IsSoundNetwork, IsRadial}
use Rattle.outage_rules.specs.Laws.{with_closed}
use Rattle.outage_rules.specs.Loops.{would_loop}
use Rattle.outage_rules.proofs.Closing.{radial_stays, radial_with_fewer}
use Rattle.outage_rules.proofs.Loops.{looped_by_walks}
use Rattle.grid_model.specs.Parts.{Parts}
use Rattle.grid_model.specs.Sound.{IsSoundParts}
use Rattle.grid_model.specs.Network.{network_in}
use Rattle.grid_model.proofs.SoundParts.{sound_network}
use Rattle.grid_model.specs.declared.history.Event.{Event}
use Rattle.grid_model.specs.declared.history.Want.TheVariants as want
use Rattle.grid_model.specs.declared.history.What.{What}
use Rattle.grid_model.specs.declared.history.What.TheVariants.{Order}
use Rattle.history_rules.specs.State.{is_closed, closed_by, network_after}
use Rattle.history_rules.specs.Posed.{loops, refusal_of, IsOfGrid, IsHistory}
use Rattle.history_rules.proofs.TimelyLemmas.{no_rule_fits}

-- which devices are closed doesn't matter to whether a network is sound
pub sound_after : (g : Parts) (h : List Event) → IsSoundParts g → IsSoundNetwork (network_after g h)
sound_after g h s = let net = sound_network g s in record { from = net.from; to = net.to; apart = net.apart; sources = net.sources }

closed_well : (net : Network) (d : ℕ) → IsSoundNetwork net → IsRadial net → d < net.devices → would_loop net d ≡ false → IsRadial (with_closed net d)
closed_well net d sound radial l no_loop =
    let loops = (looped_by_walks net sound d l).1 in
    radial_stays net d radial l (λ k w. false≢true (sym no_loop ∙ loops (inl (k, w)))) (λ a b. false≢true (sym no_loop ∙ loops (inr (a, b))))

-- an order changes one device
ordered_opens : (b before : Bool) → cond b false before ≡ true → before ≡ true
ordered_opens true before e = absurd (false≢true e)
ordered_opens false before e = e

ordered_closes : (b c before : Bool) → (b ≡ true → c ≡ true) → cond b true before ≡ true → (c || before) ≡ true
ordered_closes true c before same e = or_left c before (same refl)
ordered_closes false c before same e = or_right c before e

already : (b before : Bool) → (b ≡ true → before ≡ true) → cond b true before ≡ true → before ≡ true
already true before same e = same refl
already false before same e = e

no_loop_of : (closed loop : Bool) → (not closed && loop) ≡ false → (closed ≡ true) ⊎ (loop ≡ false)
no_loop_of true loop e = inl refl
no_loop_of false loop e = inr e

after_what : (g : Parts) (h : List Event) (w : What) → IsSoundParts g → IsOfGrid g w → loops g h w ≡ false → IsRadial (network_after g h) → IsRadial (network_in g (λ d. closed_by w d (is_closed g h d)))
after_what g h (Order x want.Opened) sound l none radial = radial_with_fewer (network_after g h) (λ d. cond (x.0 == d) false (is_closed g h d)) (λ d k e. ordered_opens (x.0 == d) (is_closed g h d) e) radial
after_what g h (Order x want.Closed) sound l none radial = ordered (no_loop_of (is_closed g h x.0) (would_loop (network_after g h) x.0) none)
  where
    ordered : (is_closed g h x.0 ≡ true) ⊎ (would_loop (network_after g h) x.0 ≡ false) → IsRadial (network_in g (λ d. cond (x.0 == d) true (is_closed g h d)))
    ordered (inl c) =
        radial_with_fewer (network_after g h) (λ d. cond (x.0 == d) true (is_closed g h d))
        (λ d k e. already (x.0 == d) (is_closed g h d) (λ s. subst (λ v. is_closed g h v ≡ true) (eqb-true x.0 d s) c) e) radial
    ordered (inr c) =
        radial_with_fewer (with_closed (network_after g h) x.0) (λ d. cond (x.0 == d) true (is_closed g h d))
        (λ d k e. ordered_closes (x.0 == d) (d == x.0) (is_closed g h d) (λ s. eq-eqb d x.0 (sym (eqb-true x.0 d s))) e)
        (closed_well (network_after g h) x.0 (sound_after g h sound) radial l c)
after_what g h _ sound l none radial = radial

pub applied_stays_radial : (g : Parts) (h : List Event) (e : Event) → IsSoundParts g → IsRadial (network_after g h) → IsOfGrid g e.what → refusal_of g h e ≡ None → IsRadial (network_after g (e ∷ h))
applied_stays_radial g h e sound radial l fits = after_what g h e.what sound l (no_rule_fits g h e fits).2 radial

pub stays_radial : (g : Parts) (h : List Event) → IsSoundParts g → IsHistory g h → IsRadial (network_after g h)
stays_radial g [] sound a = sound.radial
stays_radial g (e ∷ h) sound a = applied_stays_radial g h e sound (stays_radial g h sound a.2) a.0 a.1

pub history_is_radial : (g : Parts) (h : List Event) → IsSoundParts g → IsHistory g h → IsSoundNetwork (network_after g h) × IsRadial (network_after g h)
history_is_radial g h sound a = (sound_after g h sound, stays_radial g h sound a)
