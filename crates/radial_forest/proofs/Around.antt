-- The steps of a walk around a node, and of a walk along the order.
use Rattle.std.proofs.Common.{◌≡◌, ℕ, ◌+◌, ◌<◌, ◌≤◌, Bool, true, false, cond, refl, sym, ap, ◌∙◌, subst, inl, inr, ⊎_elim, arith, List, length, get_or, map, take, below_more}
use Rattle.std.specs.Prelude.{◌==◌, ◌⊎◌}
use Rattle.std.proofs.lemmas.Bool.{cases_Bool, false≢true}
use Rattle.std.proofs.lemmas.List.{get_or-take, get_or_read}
use Rattle.outage_rules.specs.Network.{Network, IsSoundNetwork, Joins, nothing}
use Rattle.outage_rules.specs.Certificate.{other_end, IsWhole}
use Rattle.grid_model.specs.declared.parts.NodeId.{NodeId}
use Rattle.grid_model.specs.declared.parts.DeviceId.{DeviceId}
use Rattle.grid_model.specs.Parts.{Parts}
use Rattle.grid_model.specs.Places.{devices_at}
use Rattle.grid_model.specs.Sound.{IsSoundParts}
use Rattle.grid_model.specs.Network.{network_in}
use Rattle.grid_model.proofs.SoundParts.{sound_network}
use Rattle.radial_forest.specs.Traversed.{Traversed, node_at, table_of}
use Rattle.radial_forest.specs.Spreading.{switched, hanging, is_reached, IsPartial, Grows, AreBothReached, IsDone, AreDone}
use Rattle.radial_forest.proofs.Hanging.{same_grows, grows_on, joins_other, hanging_partial, hanging_grows, hanging_levels, hanging_reached}
use Rattle.radial_forest.proofs.Incident.{number_at, place_of}

-- sound parts make a sound network, whatever is closed
pub sound_in : (g : Parts) (closed : ℕ → Bool) → IsSoundParts g → IsSoundNetwork (network_in g closed)
sound_in g closed s = let n = sound_network g s in record { from = n.from; to = n.to; apart = n.apart; sources = n.sources }

pub other_within : (g : Network) (d n : ℕ) → IsSoundNetwork g → d < g.devices → other_end g d n < g.nodes
other_within g d n sound l =
    ⊎_elim
    (λ b. subst (λ x. x < g.nodes) (sym (ap (λ y. cond y (g.from d) (g.to d)) b)) (sound.from d l))
    (λ b. subst (λ x. x < g.nodes) (sym (ap (λ y. cond y (g.from d) (g.to d)) b)) (sound.to d l))
    (cases_Bool (g.to d == n))

both_kept : (g : Network) (t t' : Traversed) (d : ℕ) → Grows t t' → AreBothReached g t d → AreBothReached g t' d
both_kept g t t' d grows both = record { from = grows.reached (g.from d) both.from; to = grows.reached (g.to d) both.to }

-- what the first j devices of a list lead to from a node of this depth is reached
pub record Along (g : Network) (first t : Traversed) (xs : List DeviceId) (n depth j : ℕ) : Type 0 where
  pub partial : IsPartial g t
  pub grows : Grows first t
  pub deep : depth ≡ (table_of t).depth n + 1
  pub done : (i : ℕ) → i < j → g.is_closed (number_at xs i) ≡ true → AreBothReached g t (number_at xs i)

pub along_start : (g : Network) (t : Traversed) (xs : List DeviceId) (n depth : ℕ) → IsPartial g t → depth ≡ (table_of t).depth n + 1 → Along g t t xs n depth 0
along_start g t xs n depth partial deep = record { partial = partial; grows = same_grows t; deep = deep; done = λ i l. absurd (omega arith) }

module _ (g : Network) (first t : Traversed) (xs : List DeviceId) (n depth j : ℕ) (along : Along g first t xs n depth j) where
  -- an open device leads nowhere
  pub passed_over : g.is_closed (number_at xs j) ≡ false → Along g first t xs n depth (j + 1)
  passed_over e = record {
    partial = along.partial;
    grows = along.grows;
    deep = along.deep;
    done = below_more (λ i. g.is_closed (number_at xs i) ≡ true → AreBothReached g t (number_at xs i)) j along.done (λ c. absurd (false≢true (sym e ∙ c)));
  }

  -- and a closed one to its other end
  module _ (sound : IsSoundNetwork g) (ln : n < g.nodes) (on : is_reached first n ≡ true) (m : NodeId) (d : DeviceId) (is_d : d.0 ≡ number_at xs j) (ld : d.0 < g.devices) (closed : g.is_closed d.0 ≡ true)
      (ends : (g.from d.0 ≡ n) ⊎ (g.to d.0 ≡ n)) (is_m : m.0 ≡ other_end g d.0 n) where
    joins : Joins g nothing d.0 n m.0
    joins = subst (Joins g nothing d.0 n) (sym is_m) (joins_other g d.0 n ld closed ends)

    lm : m.0 < g.nodes
    lm = subst (λ x. x < g.nodes) (sym is_m) (other_within g d.0 n sound ld)

    still : is_reached t n ≡ true
    still = along.grows.reached n on

    grows : Grows t (hanging t m d depth)
    grows = hanging_grows g t m d depth n sound along.partial lm joins ln still along.deep

    both : AreBothReached g (hanging t m d depth) d.0
    both =
        ⊎_elim
        (λ e. record { from = ap (is_reached (hanging t m d depth)) e.0 ∙ near; to = ap (is_reached (hanging t m d depth)) e.1 ∙ far })
        (λ e. record { from = ap (is_reached (hanging t m d depth)) e.0 ∙ far; to = ap (is_reached (hanging t m d depth)) e.1 ∙ near })
        joins.ends
      where
        near : is_reached (hanging t m d depth) n ≡ true
        near = grows.reached n still

        far : is_reached (hanging t m d depth) m.0 ≡ true
        far = hanging_reached g t m d depth n sound along.partial lm joins ln still along.deep

    pub went_along : Along g first (hanging t m d depth) xs n depth (j + 1)
    went_along = record {
      partial = hanging_partial g t m d depth n sound along.partial lm joins ln still along.deep;
      grows = grows_on first t (hanging t m d depth) along.grows grows;
      deep = along.deep ∙ ap (λ k. k + 1) (sym (hanging_levels g t m d depth n sound along.partial lm joins ln still along.deep n still));
      done = below_more (λ i. g.is_closed (number_at xs i) ≡ true → AreBothReached g (hanging t m d depth) (number_at xs i)) j
          (λ i l c. both_kept g t (hanging t m d depth) (number_at xs i) grows (along.done i l c))
          (λ c. subst (AreBothReached g (hanging t m d depth)) is_d both);
    }

-- after all devices of the list the node is done
pub node_done : (g : Parts) (closed : List Bool) (first t : Traversed) (xs : List DeviceId) (n depth j : ℕ) → map (λ d. d.0) xs ≡ devices_at g n → length xs ≤ j → Along (switched g closed) first t xs n depth j → IsDone (switched g closed) t n
node_done g closed first t xs n depth j listed le along d l c ends =
    let p = place_of g n xs listed d l ends in
    subst (AreBothReached (switched g closed) t) p.2 (along.done p.0 (let lp = p.1 in omega arith) (ap (switched g closed).is_closed p.2 ∙ c))

-- a node that is read among the first ones of the order
pub node_read : (order : List NodeId) (reached i : ℕ) (n : NodeId) → i < reached → reached ≤ length order → n ≡ get_or order i n → node_at (take reached order) i ≡ n.0
node_read order reached i n l le read =
    ap (λ x. x.0) (get_or-take reached order i (record { 0 = 0 }) l ∙ sym (get_or_read order i n (omega arith) read (record { 0 = 0 })))

-- one more node of the order is done
pub done_more : (g : Network) (t t' : Traversed) (i : ℕ) → i < length t.order → Grows t t' → AreDone g t i → IsDone g t' (node_at t.order i) → AreDone g t' (i + 1)
done_more g t t' i l grows done here =
    below_more (λ j. IsDone g t' (node_at t'.order j)) i
    (λ j lj. subst (IsDone g t') (sym (grows.places j (omega arith))) (λ d ld c ends. both_kept g t t' d grows (done j lj d ld c ends)))
    (subst (IsDone g t') (sym (grows.places i l)) here)

-- where the whole order is done, no closed device leads out
pub whole_from_done : (g : Network) (t : Traversed) (i : ℕ) → length t.order ≤ i → IsSoundNetwork g → IsPartial g t → AreDone g t i → IsWhole g (table_of t)
whole_from_done g t i le sound partial done d l c =
    ⊎_elim
    (λ a. a ∙ sym (across (g.from d) (sound.from d l) a (inl refl)).to)
    (λ a. ⊎_elim
    (λ b. absurd (false≢true (sym a ∙ (across (g.to d) (sound.to d l) b (inr refl)).from)))
    (λ b. a ∙ sym b)
    (cases_Bool (is_reached t (g.to d))))
    (cases_Bool (is_reached t (g.from d)))
  where
    across : (n : ℕ) → n < g.nodes → is_reached t n ≡ true → (g.from d ≡ n) ⊎ (g.to d ≡ n) → AreBothReached g t d
    across n ln on ends =
        let q = partial.all n ln on in
        let lq : q.0 < i = let lt = q.1 in omega arith in
        subst (IsDone g t) q.2 (done q.0 lq) d l c ends
