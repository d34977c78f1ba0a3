-- How the sums by node change where the weight of one meter does.
use Rattle.std.proofs.Common.{◌≡◌, ◌≢◌, ℕ, zero, suc, ◌+◌, ◌-◌, ◌*◌, ◌<◌, ◌≤◌, Bool, true, false, cond, List, length, set, get_or, Option, Some, None, refl, sym, ap, ◌∙◌, subst, ⊎_elim, arith, get_or-set_same, get_or-set_other}
use Rattle.std.specs.Prelude.{◌==◌}
use Rattle.std.proofs.lemmas.Bool.{cases_eq, eq-eqb, ne_eqb}
use Rattle.outage_rules.specs.Sum.{total}
use Rattle.grid_model.specs.Parts.{Parts}
use Rattle.grid_model.specs.Places.{node_of}
use Rattle.grid_model.specs.Sound.{AreSoundSettings}
use Rattle.grid_model.specs.declared.history.Event.{Event}
use Rattle.grid_model.specs.declared.history.What.{What}
use Rattle.grid_model.specs.declared.history.What.TheVariants.{Call, Gasp, PingDown, PingUp, Powerup, Confirm, Restore, Order, Clock}
use Rattle.history_rules.specs.Evidence.{weight_of, weight_in}
use Rattle.history_rules.specs.Posed.{at_node}
use Rattle.history_rules.specs.Slots.{dark_signal_in, live_signal_in}
use Rattle.evidence.specs.Kept.{Evident, kept_of}
use Rattle.field_state.specs.FieldKept.{dark_kept, live_kept}

-- a sum of which one term changes
pub total_moved : (n m : ℕ) (f v : ℕ → ℕ) → m < n → ((k : ℕ) → k ≢ m → v k ≡ f k) → total n v + f m ≡ total n f + v m
total_moved zero m f v l h = absurd (omega arith)
total_moved (suc n) m f v l h =
    ⊎_elim
    (λ e. let e' : n ≡ m = e in
    let rest = total_unmoved n m f v (omega arith) h in
    let a = ap f e' in let b = ap v e' in omega arith)
    (λ ne. let ne' : n ≢ m = ne in
    let rest = total_moved n m f v (omega arith) h in
    let here = h n ne in omega arith)
    (cases_eq n m)
  where
    total_unmoved : (n m : ℕ) (f v : ℕ → ℕ) → n ≤ m → ((k : ℕ) → k ≢ m → v k ≡ f k) → total n v ≡ total n f
    total_unmoved zero m f v l h = refl
    total_unmoved (suc n) m f v l h =
        let rest = total_unmoved n m f v (omega arith) h in
        let here = h n (λ e. absurd (let e' : n ≡ m = e in omega arith)) in omega arith

pub total_part : (n m : ℕ) (f : ℕ → ℕ) → m < n → f m ≤ total n f
total_part zero m f l = absurd (omega arith)
total_part (suc n) m f l =
    ⊎_elim
    (λ e. let e' : n ≡ m = e in let a = ap f e' in omega arith)
    (λ ne. let ne' : n ≢ m = ne in let rest = total_part n m f (omega arith) in omega arith)
    (cases_eq n m)

pub total_most : (n : ℕ) (f : ℕ → ℕ) (b : ℕ) → ((k : ℕ) → f k ≤ b) → total n f ≤ n * b
total_most zero f b h = omega arith
total_most (suc n) f b h =
    let rest = total_most n f b h in
    let here = h n in omega arith

-- the sum of the meter's own node
pub node_moved : (g : Parts) (m : ℕ) (w v : ℕ → ℕ) → m < length g.meters → ((k : ℕ) → k ≢ m → v k ≡ w k)
    → at_node g v (node_of g m) + w m ≡ at_node g w (node_of g m) + v m
node_moved g m w v l h =
    let n = node_of g m in
    let moved = total_moved (length g.meters) m (λ k. cond (node_of g k == n) (w k) 0) (λ k. cond (node_of g k == n) (v k) 0) l (λ k ne. ap (λ x. cond (node_of g k == n) x 0) (h k ne)) in
    let self = eq-eqb n n refl in
    let a = ap (λ b. cond b (w m) 0) self in
    let b = ap (λ b. cond b (v m) 0) self in
    omega arith

-- the sums of other nodes
pub node_unmoved : (g : Parts) (m n : ℕ) (w v : ℕ → ℕ) → m < length g.meters → n ≢ node_of g m → ((k : ℕ) → k ≢ m → v k ≡ w k)
    → at_node g v n ≡ at_node g w n
node_unmoved g m n w v l ne h =
    let moved = total_moved (length g.meters) m (λ k. cond (node_of g k == n) (w k) 0) (λ k. cond (node_of g k == n) (v k) 0) l (λ k ne. ap (λ x. cond (node_of g k == n) x 0) (h k ne)) in
    let other = ne_eqb (node_of g m) n (λ e. ne (sym e)) in
    let a = ap (λ b. cond b (w m) 0) other in
    let b = ap (λ b. cond b (v m) 0) other in
    omega arith

-- a meter's weight is part of the sum of its node
pub weight_part : (g : Parts) (m : ℕ) (w : ℕ → ℕ) → m < length g.meters → w m ≤ at_node g w (node_of g m)
weight_part g m w l =
    let n = node_of g m in
    let part = total_part (length g.meters) m (λ k. cond (node_of g k == n) (w k) 0) l in
    let a = ap (λ b. cond b (w m) 0) (eq-eqb n n refl) in
    omega arith

-- a list of the sums, where the sum of the meter's node is changed
pub sums_moved : (g : Parts) (m : ℕ) (w v : ℕ → ℕ) (sums : List ℕ) → m < length g.meters → node_of g m < length sums → ((k : ℕ) → k ≢ m → v k ≡ w k)
    → ((n : ℕ) → get_or sums n 0 ≡ at_node g w n)
    → (n : ℕ) → get_or (set sums (node_of g m) ((get_or sums (node_of g m) 0 - w m) + v m)) n 0 ≡ at_node g v n
sums_moved g m w v sums l inside h before n =
    ⊎_elim
    (λ e. let e' : n ≡ node_of g m = e in
    subst (λ k. get_or (set sums (node_of g m) x) k 0 ≡ at_node g v k) (sym e') here)
    (λ ne. get_or-set_other sums (node_of g m) n x 0 ne ∙ before n ∙ sym (node_unmoved g m n w v l ne h))
    (cases_eq n (node_of g m))
  where
    x : ℕ
    x = (get_or sums (node_of g m) 0 - w m) + v m

    here : get_or (set sums (node_of g m) ((get_or sums (node_of g m) 0 - w m) + v m)) (node_of g m) 0 ≡ at_node g v (node_of g m)
    here =
        let moved = node_moved g m w v l h in
        let same = get_or-set_same sums (node_of g m) ((get_or sums (node_of g m) 0 - w m) + v m) 0 inside in
        let old = before (node_of g m) in
        let part = weight_part g m w l in
        omega arith

-- how much a sum may be
pub node_most : (g : Parts) (w : ℕ → ℕ) (b n : ℕ) → ((k : ℕ) → w k ≤ b) → at_node g w n ≤ length g.meters * b
node_most g w b n h = total_most (length g.meters) (λ k. cond (node_of g k == n) (w k) 0) b (λ k. at (node_of g k == n) k)
  where
    at : (t : Bool) (k : ℕ) → cond t (w k) 0 ≤ b
    at true k = h k
    at false k = omega arith

pub weight_most : (g : Parts) (x : What) → AreSoundSettings g.settings → weight_of g x ≤ 1000000
weight_most g (Call x) s = s.most_weights 0 (omega arith)
weight_most g (Gasp x) s = s.most_weights 1 (omega arith)
weight_most g (PingDown x) s = s.most_weights 2 (omega arith)
weight_most g (PingUp x) s = s.most_weights 3 (omega arith)
weight_most g (Powerup x) s = s.most_weights 4 (omega arith)
weight_most g (Confirm x y) s = omega arith
weight_most g (Restore x) s = omega arith
weight_most g (Order x y) s = omega arith
weight_most g Clock s = omega arith

pub weight_in_most : (g : Parts) (e : Option Event) → AreSoundSettings g.settings → weight_in g e ≤ 1000000
weight_in_most g None s = omega arith
weight_in_most g (Some e) s = weight_most g e.what s

pub dark_most : (g : Parts) (e : Evident) (m : ℕ) → AreSoundSettings g.settings → dark_kept g e m ≤ 2000000
dark_most g e m s =
    let k = kept_of e m in
    let a = weight_in_most g k.slots.call s in
    let b = weight_in_most g (dark_signal_in g m k.at k.slots) s in
    omega arith

pub live_most : (g : Parts) (e : Evident) (m : ℕ) → AreSoundSettings g.settings → live_kept g e m ≤ 2000000
live_most g e m s =
    let k = kept_of e m in
    let a = weight_in_most g (live_signal_in g m k.at k.slots) s in
    omega arith
