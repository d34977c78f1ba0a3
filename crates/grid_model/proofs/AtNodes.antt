-- What is at a node, by the keys that the places have.
use Rattle.std.proofs.Common.{◌≡◌, ◌≢◌, ◌<◌, ◌==◌, ◌||◌, ℕ, List, length, map, filter, get_or, All, ap, sym, ◌∙◌, arith}
use Rattle.std.specs.List.{range_with_len}
use Rattle.std.proofs.Math.ListN.{get_or-map}
use Rattle.std.proofs.lemmas.List.{length-map}
use Rattle.std.proofs.lemmas.List.Elements.{filter_agree, All-map}
use Rattle.grid_model.specs.declared.parts.Device.{Device}
use Rattle.grid_model.specs.declared.parts.Meter.{Meter}
use Rattle.grid_model.specs.Places.{no_device, no_meter}
use Rattle.grid_model.specs.Groups.{places_with, places_with_either, AreApart}
use Rattle.grid_model.specs.Indexed.{places_ending, places_standing}

-- what holds of the key of each holds of the list of keys
pub keys_below : {X : Type 0} (key : X → ℕ) (xs : List X) (keys : List ℕ) (n : ℕ) → keys ≡ map key xs → All (λ x. key x < n) xs → All (λ k. k < n) keys
keys_below key xs keys n e h = rw e (All-map (λ k. k < n) key xs h)

-- the ends of each device differ
pub ends_apart : (devices : List Device) (from to : List ℕ) → from ≡ map (λ d. d.from.0) devices → to ≡ map (λ d. d.to.0) devices → All (λ d. d.from.0 ≢ d.to.0) devices → AreApart from to
ends_apart devices from to e f h = λ i l same.
    let n : length from ≡ length devices = ap length e ∙ length-map devices (λ d. d.from.0) in
    h i no_device (omega arith)
    (sym (get_or-map (λ d. d.from.0) devices i no_device) ∙ sym (ap (λ xs. get_or xs i 0) e) ∙ same ∙ ap (λ xs. get_or xs i 0) f ∙ get_or-map (λ d. d.to.0) devices i no_device)

-- devices by either of their ends
pub places_either-ends : (devices : List Device) (n : ℕ) → places_with_either (map (λ d. d.from.0) devices) (map (λ d. d.to.0) devices) n ≡ places_ending devices n
places_either-ends devices n =
    filter_agree (λ i. (get_or (map (λ d. d.from.0) devices) i 0 == n) || (get_or (map (λ d. d.to.0) devices) i 0 == n)) (λ i. ((get_or devices i no_device).from.0 == n) || ((get_or devices i no_device).to.0 == n))
    (λ i. ap (λ k. (k == n) || (get_or (map (λ d. d.to.0) devices) i 0 == n)) (get_or-map (λ d. d.from.0) devices i no_device)
    ∙ ap (λ k. ((get_or devices i no_device).from.0 == n) || (k == n)) (get_or-map (λ d. d.to.0) devices i no_device))
    (range_with_len 0 (length (map (λ d. d.from.0) devices)))
    ∙ ap (λ k. filter (λ i. ((get_or devices i no_device).from.0 == n) || ((get_or devices i no_device).to.0 == n)) (range_with_len 0 k)) (length-map devices (λ d. d.from.0))

-- meters by their node
pub places_with-nodes : (meters : List Meter) (n : ℕ) → places_with (map (λ m. m.node.0) meters) n ≡ places_standing meters n
places_with-nodes meters n =
    filter_agree (λ i. get_or (map (λ m. m.node.0) meters) i 0 == n) (λ i. (get_or meters i no_meter).node.0 == n)
    (λ i. ap (λ k. k == n) (get_or-map (λ m. m.node.0) meters i no_meter))
    (range_with_len 0 (length (map (λ m. m.node.0) meters)))
    ∙ ap (λ k. filter (λ i. (get_or meters i no_meter).node.0 == n) (range_with_len 0 k)) (length-map meters (λ m. m.node.0))
