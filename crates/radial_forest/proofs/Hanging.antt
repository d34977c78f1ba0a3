-- A node is hung from a device at a reached node, unless it is reached already.
use Rattle.std.proofs.Common.{◌≡◌, ℕ, suc, ◌+◌, ◌<◌, Bool, true, false, cond, refl, sym, ap, ◌∙◌, subst, inl, inr, ⊎_elim, arith, length, Some, is_some, add-one}
use Rattle.std.specs.Prelude.{◌==◌, ◌&&◌, not, ◌⊎◌}
use Rattle.std.proofs.lemmas.Bool.{cases_Bool, cases_eq, cases_lt, and_left, eq-eqb, ne_eqb, false≢true, eqb-true}
use Rattle.std.proofs.lemmas.List.{length_push}
use Rattle.outage_rules.specs.Network.{Network, IsSoundNetwork, Joins, nothing}
use Rattle.outage_rules.specs.Certificate.{HasParent, other_end, upper}
use Rattle.grid_model.specs.declared.parts.NodeId.{NodeId}
use Rattle.grid_model.specs.declared.parts.DeviceId.{DeviceId}
use Rattle.radial_forest.specs.Traversed.{Traversed, node_at, number_of_device, table_of}
use Rattle.radial_forest.specs.Spreading.{reaching, hanging, is_reached, hangs, is_root, IsPartial, Grows}
use Rattle.radial_forest.proofs.Reaching.{apart, kept, reached_here, reached_other, parent_here, parent_other, level_here, level_other, place_before, place_last, partial_more, longer}

pub same_grows : (t : Traversed) → Grows t t
same_grows t = record { reached = λ n e. e; long = omega arith; places = λ k l. refl; roots = λ n. refl; behind = λ k l m. absurd (omega arith) }

pub grows_on : (a b c : Traversed) → Grows a b → Grows b c → Grows a c
grows_on a b c g h = record {
  reached = λ n e. h.reached n (g.reached n e);
  long = let p = g.long in let q = h.long in omega arith;
  places = λ k l. h.places k (let p = g.long in omega arith) ∙ g.places k l;
  roots = λ n. h.roots n ∙ g.roots n;
  behind = λ k l m. ⊎_elim
      (λ early. ap (is_root c) (h.places k early) ∙ h.roots (node_at b.order k) ∙ g.behind k l early)
      (λ late. h.behind k late m)
      (cases_lt k (length b.order));
}

-- the other end of a device that joins two nodes
pub other_is : (g : Network) (d n m : ℕ) → IsSoundNetwork g → Joins g nothing d n m → other_end g d m ≡ n
other_is g d n m sound joins =
    ⊎_elim
    (λ e. ap (λ b. cond b (g.from d) (g.to d)) (eq-eqb (g.to d) m e.1) ∙ e.0)
    (λ e. ap (λ b. cond b (g.from d) (g.to d)) (ne_eqb (g.to d) m (λ x. sound.apart d joins.within (e.0 ∙ sym x))) ∙ e.1)
    joins.ends

-- a closed device at a node joins it to the other end
pub joins_other : (g : Network) (d n : ℕ) → d < g.devices → g.is_closed d ≡ true → (g.from d ≡ n) ⊎ (g.to d ≡ n) → Joins g nothing d n (other_end g d n)
joins_other g d n l c ends = record {
  within = l;
  closed = c;
  uncut = refl;
  ends = ⊎_elim
      (λ b. inr (sym (ap (λ x. cond x (g.from d) (g.to d)) b), eqb-true (g.to d) n b))
      (λ b. inl (⊎_elim (λ e. e) (λ e. absurd (false≢true (sym b ∙ eq-eqb (g.to d) n e))) ends, sym (ap (λ x. cond x (g.from d) (g.to d)) b)))
      (cases_Bool (g.to d == n));
}

module _ (g : Network) (t : Traversed) (m : NodeId) (d : DeviceId) (k n : ℕ) (sound : IsSoundNetwork g) (partial : IsPartial g t) (lm : m.0 < g.nodes)
    (joins : Joins g nothing d.0 n m.0) (ln : n < g.nodes) (on : is_reached t n ≡ true) (deep : k ≡ (table_of t).depth n + 1) where
  module _ (fresh : is_reached t m.0 ≡ false) where
    number_is : (table_of (reaching t m (Some d) k)).parent m.0 ≡ d.0
    number_is = ap number_of_device (parent_here g t m (Some d) k partial lm)

    upper_is : upper g (table_of (reaching t m (Some d) k)) m.0 ≡ n
    upper_is = ap (λ x. other_end g x m.0) number_is ∙ other_is g d.0 n m.0 sound joins

    has_parent : HasParent g (table_of (reaching t m (Some d) k)) m.0
    has_parent = record {
      within = subst (λ x. x < g.devices) (sym number_is) joins.within;
      closed = ap g.is_closed number_is ∙ joins.closed;
      ends = subst (λ x. (g.from x ≡ m.0) ⊎ (g.to x ≡ m.0)) (sym number_is) (⊎_elim (λ e. inr e.1) (λ e. inl e.0) joins.ends);
      listed = ap (is_reached (reaching t m (Some d) k)) upper_is ∙ kept g t m (Some d) k partial lm fresh n on;
      deeper = level_here g t m (Some d) k partial lm ∙ deep ∙ add-one ((table_of t).depth n)
          ∙ ap suc (sym (ap (table_of (reaching t m (Some d) k)).depth upper_is ∙ level_other g t m (Some d) k partial lm n (apart g t m (Some d) k partial lm fresh n on)));
    }

    hung_partial : IsPartial g (reaching t m (Some d) k)
    hung_partial =
        partial_more g t m (Some d) k partial lm fresh (λ e. has_parent) (λ e. absurd (false≢true (sym e)))
        (let a = partial.shallow n ln on in omega arith)
        (λ e. (subst (λ x. x < g.nodes) (sym upper_is) ln, ap (is_reached t) upper_is ∙ on))

    roots : (v : ℕ) → is_root (reaching t m (Some d) k) v ≡ is_root t v
    roots v =
        ⊎_elim
        (λ e. ap (is_root (reaching t m (Some d) k)) e
        ∙ ap (λ b. b && not (hangs (reaching t m (Some d) k) m.0)) (reached_here g t m (Some d) k partial lm)
        ∙ ap (λ o. not (is_some o)) (parent_here g t m (Some d) k partial lm)
        ∙ sym (ap (is_root t) e ∙ ap (λ b. b && not (hangs t m.0)) fresh))
        (λ ne. ap (λ b. b && not (hangs (reaching t m (Some d) k) v)) (reached_other g t m (Some d) k partial lm v ne)
        ∙ ap (λ o. is_reached t v && not (is_some o)) (parent_other g t m (Some d) k partial lm v ne))
        (cases_eq v m.0)

    hung_grows : Grows t (reaching t m (Some d) k)
    hung_grows = record {
      reached = kept g t m (Some d) k partial lm fresh;
      long = longer g t m (Some d) k partial lm;
      places = place_before g t m (Some d) k partial lm;
      roots = roots;
      behind = λ j l lj. let n = length_push t.order m in
          ap (is_root (reaching t m (Some d) k)) (place_last g t m (Some d) k partial lm j (omega arith)) ∙ roots m.0 ∙ and_left (is_reached t m.0) (not (hangs t m.0)) fresh;
    }

    levels : (v : ℕ) → is_reached t v ≡ true → (table_of (reaching t m (Some d) k)).depth v ≡ (table_of t).depth v
    levels v e = level_other g t m (Some d) k partial lm v (apart g t m (Some d) k partial lm fresh v e)

  -- whether it was reached before or not
  pub hanging_partial : IsPartial g (hanging t m d k)
  hanging_partial = go (is_reached t m.0) refl
    where
      go : (b : Bool) → is_reached t m.0 ≡ b → IsPartial g (cond b t (reaching t m (Some d) k))
      go true e = partial
      go false e = hung_partial e

  pub hanging_grows : Grows t (hanging t m d k)
  hanging_grows = go (is_reached t m.0) refl
    where
      go : (b : Bool) → is_reached t m.0 ≡ b → Grows t (cond b t (reaching t m (Some d) k))
      go true e = same_grows t
      go false e = hung_grows e

  pub hanging_levels : (v : ℕ) → is_reached t v ≡ true → (table_of (hanging t m d k)).depth v ≡ (table_of t).depth v
  hanging_levels v on' = go (is_reached t m.0) refl
    where
      go : (b : Bool) → is_reached t m.0 ≡ b → (table_of (cond b t (reaching t m (Some d) k))).depth v ≡ (table_of t).depth v
      go true e = refl
      go false e = levels e v on'

  pub hanging_reached : is_reached (hanging t m d k) m.0 ≡ true
  hanging_reached = go (is_reached t m.0) refl
    where
      go : (b : Bool) → is_reached t m.0 ≡ b → is_reached (cond b t (reaching t m (Some d) k)) m.0 ≡ true
      go true e = e
      go false e = reached_here g t m (Some d) k partial lm
