-- A device and a node are found by their names.
use Rattle.std.proofs.Common.{◌≡◌, ◌<◌, true, false, Bool, ℕ, List, length, get_or, map, Some, None, Ok, ltb, cond, refl, ap, sym, arith}
use Rattle.std.specs.Prelude.{position}
use Rattle.std.specs.List.{position_or_len}
use Rattle.std.proofs.lemmas.Bool.{lt-ltb, false_from_ne_true}
use Rattle.std.proofs.lemmas.List.{get_or-map, length-map}
use Rattle.std.proofs.lemmas.List.Sums.{position_or_len_is}
use Rattle.std.proofs.lemmas.Slice.Eq.{bytes_eq-Decides}
use Rattle.grid_model.specs.Parts.{Parts}
use Rattle.grid_model.specs.Names.{name_eq}
use Rattle.grid_model.specs.Places.{no_device, device_at}
use Rattle.grid_model.specs.Sound.{IsSoundParts}
use Rattle.grid_model.specs.declared.parts.NodeId.{NodeId}
use Rattle.grid_model.specs.declared.parts.DeviceId.{DeviceId}
use Rattle.bound_table.specs.Printed.{device_name, node_name}
use Rattle.bound_table.specs.BoundLines.{device_by, device_of, node_by, node_of}

name_eq-same : (name : List ℕ) → name_eq name name ≡ true
name_eq-same name = (bytes_eq-Decides name name).1 refl

name_eq-swap : (a b : List ℕ) → name_eq a b ≡ false → name_eq b a ≡ false
name_eq-swap a b h =
    false_from_ne_true (name_eq b a)
    (λ e. let same : b ≡ a = (bytes_eq-Decides b a).0 e in let here : name_eq a b ≡ true = (bytes_eq-Decides a b).1 (sym same) in cc)

-- the first place that passes
position-is : {X : Type 0} (p : X → Bool) (xs : List X) (i : ℕ) (d : X) → i < length xs → ((k : ℕ) → k < i → p (get_or xs k d) ≡ false) → p (get_or xs i d) ≡ true → position p xs ≡ Some i
position-is p xs i d less before here =
    let place : position_or_len p xs ≡ i = position_or_len_is p xs i d (omega arith) before (λ l. here) in
    let within : ltb (position_or_len p xs) (length xs) ≡ true = lt-ltb (position_or_len p xs) (length xs) (omega arith) in
    taken (ltb (position_or_len p xs) (length xs)) (position_or_len p xs) i within place
  where
    taken : (b : Bool) (k i : ℕ) → b ≡ true → k ≡ i → cond b (Some k) None ≡ Some i
    taken b k i hb hk = rw hb (ap (λ x. Some x) hk)

pub device_of-name : (g : Parts) (d : DeviceId) → IsSoundParts g → d.0 < length g.devices → device_of g (device_name g d) ≡ Ok d
device_of-name g d s less =
    ap device_by
    (position-is (λ x. name_eq (device_name g d) x.name) g.devices d.0 no_device less
    (λ k before. name_eq-swap (device_at g k).name (device_name g d) (apart k before)) (name_eq-same (device_name g d)))
  where
    apart : (k : ℕ) → k < d.0 → name_eq (device_at g k).name (device_name g d) ≡ false
    apart k before =
        let count : length (map (λ x. x.name) g.devices) ≡ length g.devices = length-map g.devices (λ x. x.name) in
        let pair = s.device_names k d.0 no_device.name before (omega arith) in
        let less_k : k < length g.devices = omega arith in
        rw (get_or-map (λ x. x.name) g.devices k no_device no_device.name less_k, get_or-map (λ x. x.name) g.devices d.0 no_device no_device.name less) at pair

pub node_of-name : (g : Parts) (n : NodeId) → IsSoundParts g → n.0 < length g.nodes → node_of g (node_name g n) ≡ Ok n
node_of-name g n s less =
    ap node_by
    (position-is (name_eq (node_name g n)) g.nodes n.0 no_device.name less
    (λ k before. name_eq-swap (get_or g.nodes k no_device.name) (node_name g n) (s.node_names k n.0 no_device.name before less)) (name_eq-same (node_name g n)))
