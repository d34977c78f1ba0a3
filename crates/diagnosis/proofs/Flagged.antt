-- Flags of nodes and devices, from the first node of an order to the last.
use Rattle.std.proofs.Common.{◌≡◌, ◌≢◌, ℕ, ◌+◌, ◌<◌, ◌≤◌, Bool, false, cond, refl, sym, ap, ◌∙◌, subst, inl, inr, ⊎_elim, arith, below_more, List, length, set, Option, Some, None}
use Rattle.std.specs.Prelude.{◌||◌, ◌⊎◌, not}
use Rattle.std.proofs.lemmas.Bool.{eq-eqb, ne_eqb, false≢true}
use Rattle.std.proofs.lemmas.List.{get_or-set_same, get_or-set_other, length-set}
use Rattle.outage_rules.specs.Network.{Network, Cut}
use Rattle.outage_rules.specs.Certificate.{other_end}
use Rattle.grid_model.specs.declared.parts.DeviceId.{DeviceId}
use Rattle.grid_model.specs.Parts.{Parts}
use Rattle.grid_model.specs.Places.{is_source, device_at}
use Rattle.grid_model.specs.Network.{network_of}
use Rattle.grid_model.specs.Problem.{mark_at}
use Rattle.radial_forest.specs.Traversed.{parent_in, node_at}
use Rattle.radial_forest.specs.Forested.{IsParentOf}
use Rattle.subtree_costs.specs.Shares.{row_at}
use Rattle.subtree_costs.specs.Costed.{Costed, IsCosted, problem_in}
use Rattle.diagnosis.specs.Judgement.{Agree, AgreeAt, flag_in, opens}
use Rattle.diagnosis.specs.Judging.{IsNext}

-- the nodes below place k of the order and their parent devices are flagged, and no other device is opened
pub record AreFlagged (g : Parts) (c : Costed) (k : ℕ) (opened dark : List Bool) : Type 0 where
  pub opened_each : length opened ≡ length g.devices
  pub dark_each : length dark ≡ length g.nodes
  pub at : (j : ℕ) → j < k → AgreeAt g c (flag_in opened) (flag_in dark) (node_at c.order j)
  pub open_ones : (d : ℕ) → d < length g.devices → flag_in c.forest.closed d ≡ false → flag_in opened d ≡ false

pub none_some : (o : Option DeviceId) (d : DeviceId) → o ≡ None → o ≡ Some d → ⊥
none_some o d a b = cc

pub same_some : (a b : DeviceId) → Some a ≡ Some b → a ≡ b
same_some a b e = cc

pub either_parent : (o : Option DeviceId) → (o ≡ None) ⊎ ((d : DeviceId) × (o ≡ Some d))
either_parent None = inl refl
either_parent (Some d) = inr (d, refl)

-- of a device with two different ends each is the other end of the other
ends_cross : (net : Network) (d m n : ℕ) → m ≢ n → (net.from d ≡ m) ⊎ (net.to d ≡ m) → (net.from d ≡ n) ⊎ (net.to d ≡ n) → other_end net d m ≡ n
ends_cross net d m n ne (inl a) (inl b) = absurd (ne (sym a ∙ b))
ends_cross net d m n ne (inl a) (inr b) = ap (λ x. cond x (net.from d) (net.to d)) (ne_eqb (net.to d) m (λ e. ne (sym e ∙ b))) ∙ b
ends_cross net d m n ne (inr a) (inl b) = ap (λ x. cond x (net.from d) (net.to d)) (eq-eqb (net.to d) m a) ∙ b
ends_cross net d m n ne (inr a) (inr b) = absurd (ne (sym a ∙ b))

-- flags stay right where none that they speak of changed
pub agree_still : (g : Parts) (c : Costed) (cut cut' : Cut) (dark dark' : ℕ → Bool) (m : ℕ) → AgreeAt g c cut dark m → dark' m ≡ dark m
    → ((d : DeviceId) → parent_in c.forest.parents m ≡ Some d → (cut' d.0 ≡ cut d.0) × (dark' (other_end (network_of g) d.0 m) ≡ dark (other_end (network_of g) d.0 m)))
    → AgreeAt g c cut' dark' m
agree_still g c cut cut' dark dark' m before same above = record {
  top = λ e. same ∙ before.top e;
  opened = λ d e. let s = above d e in
      s.0 ∙ before.opened d e
      ∙ ap (λ b. opens (mark_at c.marks d.0) b ((device_at g d.0).weight + (row_at c.rows m).dark) (row_at c.rows m).live) (sym s.1);
  below = λ d e. let s = above d e in
      same ∙ before.below d e ∙ ap (λ b. b || cut d.0) (sym s.1) ∙ ap (λ b. dark' (other_end (network_of g) d.0 m) || b) (sym s.0);
}

module _ (g : Parts) (c : Costed) (costed : IsCosted g c) where
  abbrev net : Network
  net = (problem_in g c).net

  module _ (k : ℕ) (l : k < length c.order) where
    -- an earlier node is another one, and so is the node above it
    apart : (j : ℕ) → j < k → node_at c.order j ≢ node_at c.order k
    apart j lj = costed.order.once j k lj l

    above_apart : (j : ℕ) → j ≤ k → (d : DeviceId) → parent_in c.forest.parents (node_at c.order j) ≡ Some d → other_end (network_of g) d.0 (node_at c.order j) ≢ node_at c.order k
    above_apart j le d e s =
        let b = costed.order.behind j d (omega arith) e in
        costed.order.once b.0 k (let x = b.1 in omega arith) l (b.2 ∙ s)

    -- and it hangs from another device
    device_apart : (j : ℕ) → j < k → (d e : DeviceId) → parent_in c.forest.parents (node_at c.order j) ≡ Some d → parent_in c.forest.parents (node_at c.order k) ≡ Some e → d.0 ≢ e.0
    device_apart j lj d e is_d is_e s =
        let h = costed.posed.forest.rooted.parent (node_at c.order j) d (costed.order.within j (omega arith)) is_d in
        let i = costed.posed.forest.rooted.parent (node_at c.order k) e (costed.order.within k l) is_e in
        above_apart j (omega arith) d is_d
        (ends_cross (network_of g) d.0 (node_at c.order j) (node_at c.order k) (apart j lj) h.ends
        (subst (λ x. ((network_of g).from x ≡ node_at c.order k) ⊎ ((network_of g).to x ≡ node_at c.order k)) (sym s) i.ends))

    module _ (opened dark opened' dark' : List Bool) (before : AreFlagged g c k opened dark) (next : IsNext g c (node_at c.order k) opened dark opened' dark') where
      abbrev n : ℕ
      n = node_at c.order k

      within : n < length g.nodes
      within = costed.order.within k l

      -- the node is a root
      at_top : parent_in c.forest.parents n ≡ None → AreFlagged g c (k + 1) opened' dark'
      at_top e =
          let is = next.top e in
          subst (λ xs. AreFlagged g c (k + 1) xs dark') (sym is.0)
          (subst (λ xs. AreFlagged g c (k + 1) opened xs) (sym is.1) flagged)
        where
          flagged : AreFlagged g c (k + 1) opened (set dark n (not (is_source g n)))
          flagged = record {
            opened_each = before.opened_each;
            dark_each = length-set dark n (not (is_source g n)) ∙ before.dark_each;
            at = below_more _ _
                (λ j lj. agree_still g c (flag_in opened) (flag_in opened) (flag_in dark) (flag_in (set dark n (not (is_source g n)))) (node_at c.order j) (before.at j lj)
                (get_or-set_other dark n (node_at c.order j) (not (is_source g n)) false (apart j lj))
                (λ d is_d. (refl, get_or-set_other dark n (other_end (network_of g) d.0 (node_at c.order j)) (not (is_source g n)) false (above_apart j (omega arith) d is_d))))
                (record {
                  top = λ s. get_or-set_same dark n (not (is_source g n)) false (let a = within in let b = before.dark_each in omega arith);
                  opened = λ d s. absurd (none_some (parent_in c.forest.parents n) d e s);
                  below = λ d s. absurd (none_some (parent_in c.forest.parents n) d e s);
                });
            open_ones = before.open_ones;
          }

      -- the node hangs from a device
      at_device : (d : DeviceId) → parent_in c.forest.parents n ≡ Some d → AreFlagged g c (k + 1) opened' dark'
      at_device d e = record {
        opened_each = ap length (next.opened d e) ∙ length-set opened d.0 _ ∙ before.opened_each;
        dark_each = ap length (next.dark d e) ∙ length-set dark n _ ∙ before.dark_each;
        at = below_more _ _
            (λ j lj. agree_still g c (flag_in opened) (flag_in opened') (flag_in dark) (flag_in dark') (node_at c.order j) (before.at j lj)
            (dark_kept (node_at c.order j) (apart j lj))
            (λ x is_x. (opened_kept x.0 (device_apart j lj x d is_x e), dark_kept (other_end (network_of g) x.0 (node_at c.order j)) (above_apart j (omega arith) x is_x))))
            (record {
              top = λ s. absurd (none_some (parent_in c.forest.parents n) d s e);
              opened = λ x is_x. subst (λ y. flag_in opened' y.0 ≡ opens (mark_at c.marks y.0) (flag_in dark' (other_end (network_of g) y.0 n)) ((device_at g y.0).weight + (row_at c.rows n).dark) (row_at c.rows n).live)
                  (same_some d x (sym e ∙ is_x)) opened_here;
              below = λ x is_x. subst (λ y. flag_in dark' n ≡ (flag_in dark' (other_end (network_of g) y.0 n) || flag_in opened' y.0)) (same_some d x (sym e ∙ is_x)) dark_here;
            });
        open_ones = λ x lx u. opened_kept x (λ s. false≢true (sym u ∙ ap (flag_in c.forest.closed) s ∙ hung.closed)) ∙ before.open_ones x lx u;
      }
        where
          hung : IsParentOf net c.forest.roots n d.0
          hung = costed.posed.forest.rooted.parent n d within e

          dark_kept : (m : ℕ) → m ≢ n → flag_in dark' m ≡ flag_in dark m
          dark_kept m ne = ap (λ xs. flag_in xs m) (next.dark d e) ∙ get_or-set_other dark n m _ false ne

          opened_kept : (x : ℕ) → x ≢ d.0 → flag_in opened' x ≡ flag_in opened x
          opened_kept x ne = ap (λ xs. flag_in xs x) (next.opened d e) ∙ get_or-set_other opened d.0 x _ false ne

          above_kept : flag_in dark' (other_end (network_of g) d.0 n) ≡ flag_in dark (other_end (network_of g) d.0 n)
          above_kept = dark_kept (other_end (network_of g) d.0 n) (above_apart k (omega arith) d e)

          opened_here : flag_in opened' d.0 ≡ opens (mark_at c.marks d.0) (flag_in dark' (other_end (network_of g) d.0 n)) ((device_at g d.0).weight + (row_at c.rows n).dark) (row_at c.rows n).live
          opened_here =
              ap (λ xs. flag_in xs d.0) (next.opened d e)
              ∙ get_or-set_same opened d.0 _ false (let a = hung.within in let b = before.opened_each in omega arith)
              ∙ ap (λ b. opens (mark_at c.marks d.0) b ((device_at g d.0).weight + (row_at c.rows n).dark) (row_at c.rows n).live) (sym above_kept)

          dark_here : flag_in dark' n ≡ (flag_in dark' (other_end (network_of g) d.0 n) || flag_in opened' d.0)
          dark_here =
              ap (λ xs. flag_in xs n) (next.dark d e)
              ∙ get_or-set_same dark n _ false (let a = within in let b = before.dark_each in omega arith)
              ∙ ap (λ b. b || flag_in opened' d.0) (sym above_kept)

      pub flagged_next : AreFlagged g c (k + 1) opened' dark'
      flagged_next = ⊎_elim at_top (λ s. at_device s.0 s.1) (either_parent (parent_in c.forest.parents n))

  -- before the first node
  pub flagged_none : (opened dark : List Bool) → length opened ≡ length g.devices → length dark ≡ length g.nodes → ((d : ℕ) → flag_in opened d ≡ false) → AreFlagged g c 0 opened dark
  flagged_none opened dark opened_each dark_each none = record {
    opened_each = opened_each;
    dark_each = dark_each;
    at = λ j l. absurd (omega arith);
    open_ones = λ d l u. none d;
  }

  -- after the last one
  pub flagged_all : (opened dark : List Bool) → AreFlagged g c (length c.order) opened dark → Agree g c (flag_in opened) (flag_in dark)
  flagged_all opened dark all = record {
    at = λ n l. let a = costed.order.all n l in subst (AgreeAt g c (flag_in opened) (flag_in dark)) a.2 (all.at a.0 a.1);
    open_ones = all.open_ones;
  }
