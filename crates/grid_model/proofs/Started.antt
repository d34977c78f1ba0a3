-- A network in other starting states is the same but for them.
use Rattle.std.proofs.Common.{◌≡◌, ◌<◌, ◌+◌, ◌==◌, ◌||◌, ℕ, zero, suc, Bool, true, false, List, [], ◌∷◌, length, take, get_or, set, map, All, refl, sym, ap, ◌∙◌, subst, arith, add-one}
use Rattle.std.specs.Prelude.{filter}
use Rattle.std.specs.List.{range_with_len}
use Rattle.std.proofs.Math.Path.{fun_ext}
use Rattle.std.proofs.lemmas.List.Elements.{All-from_get_or, filter_agree}
use Rattle.outage_rules.specs.Network.{Network, IsRadial}
use Rattle.grid_model.specs.declared.parts.Device.{Device}
use Rattle.grid_model.specs.Name.{is_name}
use Rattle.grid_model.specs.Names.{AreDistinct}
use Rattle.grid_model.specs.Parts.{Parts}
use Rattle.grid_model.specs.Places.{no_device, device_at, is_source, touches, devices_at}
use Rattle.grid_model.specs.Network.{network_in, network_of}
use Rattle.grid_model.specs.Sound.{IsSoundDevice, IsSoundParts}
use Rattle.grid_model.specs.Indexed.{Lists, IsIndexed}
use Rattle.grid_model.specs.Started.{started}

-- a device that starts so
abbrev pub starts : Bool → Device → Device
starts closed d = record d { starts_closed = closed }

-- the parts with their devices started so
abbrev pub started_parts : Parts → List Bool → Parts
started_parts g closed = record g { devices = started g.devices closed }

pub started_length : (devices : List Device) (closed : List Bool) → length (started devices closed) ≡ length devices
started_length [] closed = refl
started_length (d ∷ devices) [] = refl
started_length (d ∷ devices) (c ∷ closed) = ap suc (started_length devices closed)

pub started_names : (devices : List Device) (closed : List Bool) → map (λ d. d.name) (started devices closed) ≡ map (λ d. d.name) devices
started_names [] closed = refl
started_names (d ∷ devices) [] = refl
started_names (d ∷ devices) (c ∷ closed) = ap (λ names. d.name ∷ names) (started_names devices closed)

-- no flag starts no device
pub started_none : (devices : List Device) → started devices [] ≡ devices
started_none [] = refl
started_none (d ∷ devices) = refl

-- with one flag a device, each device is as it was but for its flag, and so is what stands past the last
pub started_at : (devices : List Device) (closed : List Bool) (i : ℕ) → length closed ≡ length devices → get_or (started devices closed) i no_device ≡ starts (get_or closed i false) (get_or devices i no_device)
started_at [] [] i e = refl
started_at [] (c ∷ closed) i e = absurd (omega (arith, e))
started_at (d ∷ devices) [] i e = absurd (omega (arith, e))
started_at (d ∷ devices) (c ∷ closed) zero e = refl
started_at (d ∷ devices) (c ∷ closed) (suc i) e = started_at devices closed i (omega (arith, e))

-- one more flag starts one more device
pub started_more : (devices : List Device) (closed : List Bool) (i : ℕ) (x : Device) → i < length devices → i < length closed
    → set (started devices (take i closed)) i (starts (get_or closed i false) (get_or (started devices (take i closed)) i x)) ≡ started devices (take (i + 1) closed)
started_more [] closed i x l m = absurd (omega (arith, l))
started_more (d ∷ devices) [] i x l m = absurd (omega (arith, m))
started_more (d ∷ devices) (c ∷ closed) zero x l m = ap (λ ds. starts c d ∷ ds) (sym (started_none devices))
started_more (d ∷ devices) (c ∷ closed) (suc i) x l m = rw add-one (ap (λ ds. starts c d ∷ ds) (started_more devices closed i x (omega (arith, l)) (omega (arith, m)) ∙ rw add-one refl))

-- a network by its parts
network_by : Parts → ℕ → (ℕ → ℕ) → (ℕ → ℕ) → (ℕ → Bool) → Network
network_by g devices from to closed = record { nodes = length g.nodes; devices = devices; from = from; to = to; is_source = is_source g; is_closed = closed }

-- the network is the one where the flags say which devices are closed
pub starting_network : (g : Parts) (closed : List Bool) → length closed ≡ length g.devices → network_of (started_parts g closed) ≡ network_in g (λ d. get_or closed d false)
unfolding network_by
starting_network g closed e =
    let at = λ (d : ℕ). started_at g.devices closed d e in
    ap (λ n. network_by g n (λ d. (device_at (started_parts g closed) d).from.0) (λ d. (device_at (started_parts g closed) d).to.0) (λ d. (device_at (started_parts g closed) d).starts_closed)) (started_length g.devices closed)
    ∙ ap (λ f. network_by g (length g.devices) f (λ d. (device_at (started_parts g closed) d).to.0) (λ d. (device_at (started_parts g closed) d).starts_closed)) (fun_ext (λ d. ap (λ x. x.from.0) (at d)))
    ∙ ap (λ f. network_by g (length g.devices) (λ d. (device_at g d).from.0) f (λ d. (device_at (started_parts g closed) d).starts_closed)) (fun_ext (λ d. ap (λ x. x.to.0) (at d)))
    ∙ ap (λ f. network_by g (length g.devices) (λ d. (device_at g d).from.0) (λ d. (device_at g d).to.0) f) (fun_ext (λ d. ap (λ x. x.starts_closed) (at d)))

-- devices that are sound stay so
device_stays : (g : Parts) (closed : List Bool) (d : Device) (c : Bool) → IsSoundDevice g d → IsSoundDevice (started_parts g closed) (starts c d)
device_stays g closed d c s = record { from = s.from; to = s.to; apart = s.apart; weight = s.weight; most_weight = s.most_weight }

devices_stay : (g : Parts) (closed : List Bool) → length closed ≡ length g.devices → IsSoundParts g → (d : ℕ) → d < length (started g.devices closed) → IsSoundDevice (started_parts g closed) (device_at (started_parts g closed) d)
devices_stay g closed e s d l =
    let n = started_length g.devices closed in
    subst (IsSoundDevice (started_parts g closed)) (sym (started_at g.devices closed d e))
    (device_stays g closed (device_at g d) (get_or closed d false) (s.devices d (omega arith)))

-- a fact of names holds as before
names_stay : (P : List ℕ → Type 0) (devices : List Device) (closed : List Bool) → length closed ≡ length devices → All (λ d. P d.name) devices → All (λ d. P d.name) (started devices closed)
names_stay P devices closed e h =
    All-from_get_or (λ d. P d.name) (started devices closed) no_device
    (λ d l. let n = started_length devices closed in subst (λ x. P x.name) (sym (started_at devices closed d e)) (h d no_device (omega arith)))

-- sound parts stay sound where the devices that start closed close no loop
pub started_sound : (g : Parts) (closed : List Bool) → length closed ≡ length g.devices → IsRadial (network_in g (λ d. get_or closed d false)) → IsSoundParts g → IsSoundParts (started_parts g closed)
started_sound g closed e radial s = record {
  names = record { nodes = s.names.nodes; devices = names_stay (λ name. is_name name ≡ true) g.devices closed e s.names.devices; meters = s.names.meters };
  node_names = s.node_names;
  device_names = subst AreDistinct (sym (started_names g.devices closed)) s.device_names;
  meter_names = s.meter_names;
  sources_apart = s.sources_apart;
  sources = s.sources;
  devices = devices_stay g closed e s;
  meters = λ m l. let was = s.meters m l in record { node = was.node; customers = was.customers; most_customers = was.most_customers };
  settings = s.settings;
  few_nodes = s.few_nodes;
  few_devices = let n = started_length g.devices closed in let few = s.few_devices in omega arith;
  few_meters = s.few_meters;
  radial = subst IsRadial (sym (starting_network g closed e)) radial;
}

-- the devices at a node are the same
devices_at-started : (g : Parts) (closed : List Bool) (n : ℕ) → length closed ≡ length g.devices → devices_at (started_parts g closed) n ≡ devices_at g n
devices_at-started g closed n e =
    filter_agree (λ d. touches (started_parts g closed) d n) (λ d. touches g d n) (λ d. ap (λ x. (x.from.0 == n) || (x.to.0 == n)) (started_at g.devices closed d e)) (range_with_len 0 (length (started g.devices closed)))
    ∙ ap (λ k. filter (λ d. touches g d n) (range_with_len 0 k)) (started_length g.devices closed)

-- and what is looked up agrees with the parts as before
started_indexed : (g : Parts) (closed flags : List Bool) (device_names meter_names : List (List ℕ)) (there : Lists) (served : ℕ) → length closed ≡ length g.devices
    → IsRadial (network_in g (λ d. get_or closed d false)) → IsIndexed g flags device_names meter_names there served → IsIndexed (started_parts g closed) flags device_names meter_names there served
started_indexed g closed flags device_names meter_names there served e radial is = record {
  sound = started_sound g closed e radial is.sound;
  flag_count = is.flag_count;
  source_flags = is.source_flags;
  devices = is.devices ∙ sym (started_names g.devices closed);
  meters = is.meters;
  lists = record {
    incident_count = is.lists.incident_count;
    incident = λ n l. is.lists.incident n l ∙ sym (devices_at-started g closed n e);
    standing_count = is.lists.standing_count;
    standing = is.lists.standing;
  };
  customers = is.customers;
}

-- the same of a list that holds the started devices
pub devices_started : (g : Parts) (closed : List Bool) (devices : List Device) (flags : List Bool) (device_names meter_names : List (List ℕ)) (there : Lists) (served : ℕ) → devices ≡ started g.devices closed → length closed ≡ length g.devices
    → IsRadial (network_in g (λ d. get_or closed d false)) → IsIndexed g flags device_names meter_names there served → IsIndexed (record g { devices = devices }) flags device_names meter_names there served
devices_started g closed devices flags device_names meter_names there served same e radial is =
    subst (λ ds. IsIndexed (record g { devices = ds }) flags device_names meter_names there served) (sym same) (started_indexed g closed flags device_names meter_names there served e radial is)
