-- What is below a closed device: nodes hang from nodes that it cuts off, down from the one that hangs by it.
use Rattle.std.proofs.Common.{◌≡◌, ◌≢◌, ℕ, zero, suc, ◌<◌, ◌≤◌, true, false, cond, refl, sym, ap, ◌∙◌, subst, inl, inr, ⊎_elim, arith, List, Option, Some, None}
use Rattle.std.specs.Prelude.{◌⊎◌, ◌↔◌}
use Rattle.std.proofs.lemmas.Bool.{cases_eq, eq-eqb, ne_eqb, false≢true, false_from_ne_true}
use Rattle.outage_rules.specs.Network.{Network, Cut, IsSoundNetwork, IsRadial, Joins, Walk, IsLive, only, nothing, is_live}
use Rattle.outage_rules.specs.Certificate.{other_end}
use Rattle.outage_rules.specs.Laws.{LiveIsAWalk}
use Rattle.outage_rules.proofs.Closing.{Path, then_to, one, back}
use Rattle.grid_model.specs.declared.parts.NodeId.{NodeId}
use Rattle.grid_model.specs.declared.parts.DeviceId.{DeviceId}
use Rattle.radial_forest.specs.Traversed.{parent_in, node_at, number_of_device}
use Rattle.radial_forest.specs.Forested.{Forested, root_in, IsParentOf, HasRoots}
use Rattle.radial_forest.specs.Lower.{IsAmong, IsCutOff, IsChild, IsListing}
use Rattle.radial_forest.proofs.Hanging.{other_is, joins_other}

-- the other end of a device with two different ends
pub ends_other : (g : Network) (d n m : ℕ) → (g.from d ≡ n) ⊎ (g.to d ≡ n) → (g.from d ≡ m) ⊎ (g.to d ≡ m) → n ≢ m → other_end g d n ≡ m
ends_other g d n m a b apart =
    ⊎_elim
    (λ e. ⊎_elim
    (λ f. absurd (apart (sym e ∙ f)))
    (λ f. ap (λ x. cond x (g.from d) (g.to d)) (ne_eqb (g.to d) n (λ x. apart (sym x ∙ f))) ∙ f)
    b)
    (λ e. ap (λ x. cond x (g.from d) (g.to d)) (eq-eqb (g.to d) n e) ∙ ⊎_elim (λ f. f) (λ f. absurd (apart (sym e ∙ f))) b)
    a

-- the other end of the other end is the end itself
pub other_again : (g : Network) (d n : ℕ) → IsSoundNetwork g → d < g.devices → (g.from d ≡ n) ⊎ (g.to d ≡ n) → other_end g d (other_end g d n) ≡ n
other_again g d n sound l ends =
    ⊎_elim
    (λ x. let o = ends_other g d n (g.to d) ends (inr refl) (λ y. sound.apart d l (x ∙ y)) in
    ap (other_end g d) o ∙ ends_other g d (g.to d) n (inr refl) ends (λ y. sound.apart d l (x ∙ sym y)))
    (λ x. let o = ends_other g d n (g.from d) ends (inl refl) (λ y. sound.apart d l (sym y ∙ sym x)) in
    ap (other_end g d) o ∙ ends_other g d (g.from d) n (inl refl) ends (λ y. sound.apart d l (y ∙ sym x)))
    ends

-- a walk that avoids a device is a walk
pub any_walk : (g : Network) (d k a b : ℕ) → Walk g (only d) k a b → Walk g nothing k a b
any_walk g d zero a b w = w
any_walk g d (suc k) a b w = (w.0, w.1, any_walk g d k a w.0 w.2, record { within = w.3.within; closed = w.3.closed; uncut = refl; ends = w.3.ends })

-- two nodes that a device joins, the other way round
pub turned : (g : Network) (cut : Cut) (d a b : ℕ) → Joins g cut d a b → Joins g cut d b a
turned g cut d a b j = record { within = j.within; closed = j.closed; uncut = j.uncut; ends = ⊎_elim (λ e. inr e) (λ e. inl e) j.ends }

-- a node that a device joins to another, by a walk of this device
pub step_without : (g : Network) (d e a b : ℕ) → e ≢ d → Joins g nothing e a b → Path g (only d) a b
step_without g d e a b apart j = one g (only d) e a b (record { within = j.within; closed = j.closed; uncut = ne_eqb e d apart; ends = j.ends })

module _ (g : Network) (f : Forested) (sound : IsSoundNetwork g) (rooted : HasRoots g f.parents f.roots) where
  -- the device by which a node hangs
  hung : (n d : ℕ) → n < g.nodes → parent_in f.parents n ≡ Some (record { 0 = d }) → IsParentOf g f.roots n d
  hung n d l e = rooted.parent n (record { 0 = d }) l e

  pub joins_up : (n d : ℕ) → n < g.nodes → parent_in f.parents n ≡ Some (record { 0 = d }) → Joins g nothing d n (other_end g d n)
  joins_up n d l e = let p = hung n d l e in joins_other g d n p.within p.closed p.ends

  -- what hangs by a device is cut off by it
  pub hung_is_cut : (n d : ℕ) → n < g.nodes → parent_in f.parents n ≡ Some (record { 0 = d }) → IsCutOff g f.roots d n
  hung_is_cut n d l e = (hung n d l e).needed

  -- and the node above isn't
  pub upper_is_joined : (n d : ℕ) → n < g.nodes → parent_in f.parents n ≡ Some (record { 0 = d }) → IsCutOff g f.roots d (other_end g d n) → ⊥
  upper_is_joined n d l e cut =
      let p = hung n d l e in
      cut p.upper.0 (subst (Walk g (only d) p.upper.0 (other_end g d n)) (sym p.same_root) p.upper.1)

  -- one node hangs by a device
  pub one_hangs : (n m d : ℕ) → n < g.nodes → m < g.nodes → parent_in f.parents n ≡ Some (record { 0 = d }) → parent_in f.parents m ≡ Some (record { 0 = d }) → n ≡ m
  one_hangs n m d ln lm en em =
      ⊎_elim
      (λ e. e)
      (λ ne. absurd (upper_is_joined n d ln en (subst (IsCutOff g f.roots d) (sym (ends_other g d n m (hung n d ln en).ends (hung m d lm em).ends ne)) (hung_is_cut m d lm em))))
      (cases_eq n m)

  -- what hangs from a node that is cut off is cut off
  pub child_is_cut : (d n e m : ℕ) → m < g.nodes → IsChild g f.parents n e m → IsCutOff g f.roots d n → IsCutOff g f.roots d m
  child_is_cut d n e m l child cut k w =
      ⊎_elim
      (λ same. upper_is_joined m d l (subst (λ x. parent_in f.parents m ≡ Some (record { 0 = x })) same child.parent)
      (subst (IsCutOff g f.roots d) (sym child.upper ∙ ap (λ x. other_end g x m) same) cut))
      (λ apart.
      let j = subst (Joins g nothing e m) child.upper (joins_up m e l child.parent) in
      let up = step_without g d e n m apart (turned g nothing e m n j) in
      let whole = then_to g (only d) n m (root_in f.roots m) up (k, w) in
      let same : root_in f.roots m ≡ root_in f.roots n = sym (hung m e l child.parent).same_root ∙ ap (root_in f.roots) child.upper in
      cut whole.0 (subst (Walk g (only d) whole.0 n) same whole.1))
      (cases_eq e d)

  -- an end of a closed device hangs by it from the other
  pub some_hangs : (e a b : ℕ) → Joins g nothing e a b → IsChild g f.parents a e b ⊎ IsChild g f.parents b e a
  some_hangs e a b j =
      ⊎_elim
      (λ p. ⊎_elim
      (λ x. inr (record { parent = subst (λ v. parent_in f.parents v ≡ Some (record { 0 = e })) x.0 p; upper = other_is g e b a sound (turned g nothing e a b j) }))
      (λ x. inl (record { parent = subst (λ v. parent_in f.parents v ≡ Some (record { 0 = e })) x.0 p; upper = other_is g e a b sound j }))
      j.ends)
      (λ p. ⊎_elim
      (λ x. inl (record { parent = subst (λ v. parent_in f.parents v ≡ Some (record { 0 = e })) x.1 p; upper = other_is g e a b sound j }))
      (λ x. inr (record { parent = subst (λ v. parent_in f.parents v ≡ Some (record { 0 = e })) x.1 p; upper = other_is g e b a sound (turned g nothing e a b j) }))
      j.ends)
      (rooted.closed e j.within j.closed)

  module _ (d place count : ℕ) (list : List NodeId) (listing : IsListing g f d list count place) (end : count ≤ place) where
    low_within : node_at list 0 < g.nodes
    low_within = listing.lower.within 0 listing.lower.some

    -- the node from which a listed node hangs is listed, but for the first
    upper_listed : (e a b : ℕ) → e ≢ d → IsChild g f.parents b e a → IsAmong a list count → IsAmong b list count
    upper_listed e a b apart child (zero, l, is) =
        absurd (apart (ap number_of_device (sym child.parent ∙ (ap (parent_in f.parents) (sym is) ∙ listing.lower.first))))
    upper_listed e a b apart child (suc k, l, is) =
        let h = listing.behind (suc k) (omega arith) l in
        let lj = h.2 in
        let same : h.0 ≡ e = ap number_of_device (sym h.3.parent ∙ (ap (parent_in f.parents) is ∙ child.parent)) in
        (h.1, omega arith, sym h.3.upper ∙ (ap (λ x. other_end g x (node_at list (suc k))) same ∙ (ap (other_end g e) is ∙ child.upper)))

    -- an end of another device is listed where the other end is
    listed_across : (e a b : ℕ) → e ≢ d → b < g.nodes → Joins g nothing e a b → IsAmong a list count → IsAmong b list count
    listed_across e a b apart lb j among =
        ⊎_elim
        (λ child. let lk = among.1 in listing.done among.0 (omega arith) e b lb (subst (λ x. IsChild g f.parents x e b) (sym among.2) child))
        (λ child. upper_listed e a b apart child among)
        (some_hangs e a b j)

    module _ (r : ℕ) (lr : r < g.nodes) (own : root_in f.roots r ≡ r) where
      -- an end of the device itself
      at_device : (b : ℕ) → b < g.nodes → (g.from d ≡ b) ⊎ (g.to d ≡ b) → ((k : ℕ) × Walk g nothing k r b) → IsAmong b list count ⊎ Path g (only d) r b
      at_device b lb end walk =
          ⊎_elim
          (λ e. inl (0, listing.lower.some, e))
          (λ ne.
          let p = hung (node_at list 0) d low_within listing.lower.first in
          let is : other_end g d (node_at list 0) ≡ b = ends_other g d (node_at list 0) b p.ends end ne in
          let same : r ≡ root_in f.roots (node_at list 0) = sym own ∙ ((rooted.same_root r b lr lb).1 walk ∙ (ap (root_in f.roots) (sym is) ∙ p.same_root)) in
          let up = back g (only d) p.upper.0 (other_end g d (node_at list 0)) (root_in f.roots (node_at list 0)) p.upper.1 in
          inr (subst (Path g (only d) r) is (subst (λ x. Path g (only d) x (other_end g d (node_at list 0))) (sym same) up)))
          (cases_eq (node_at list 0) b)

      -- each node that a walk joins to the root is listed, or joined to it without the device
      listed_or_joined : (k b : ℕ) → b < g.nodes → Walk g nothing k r b → IsAmong b list count ⊎ Path g (only d) r b
      listed_or_joined zero b lb w = inr (0, w)
      listed_or_joined (suc k) b lb w =
          ⊎_elim
          (λ e. at_device b lb (subst (λ x. (g.from x ≡ b) ⊎ (g.to x ≡ b)) e (⊎_elim (λ x. inr x.1) (λ x. inl x.0) w.3.ends)) (suc k, w))
          (λ ne. ⊎_elim
          (λ among. inl (listed_across w.1 w.0 b ne lb w.3 among))
          (λ p. inr (then_to g (only d) r w.0 b p (step_without g d w.1 w.0 b ne w.3)))
          (listed_or_joined k w.0 la w.2))
          (cases_eq w.1 d)
        where
          la : w.0 < g.nodes
          la = ⊎_elim (λ x. subst (λ v. v < g.nodes) x.0 (sound.from w.1 w.3.within)) (λ x. subst (λ v. v < g.nodes) x.1 (sound.to w.1 w.3.within)) w.3.ends

    -- what is listed is what is cut off
    pub listed_is_cut : (n : ℕ) → n < g.nodes → IsAmong n list count ↔ IsCutOff g f.roots d n
    listed_is_cut n l = (
      λ among. subst (IsCutOff g f.roots d) among.2 (listing.lower.cut_off among.0 among.1),
      λ cut.
          let p = rooted.joined n l in
          let lr = rooted.within n l in
          let r = root_in f.roots n in
          let own : root_in f.roots r ≡ r = sym ((rooted.same_root n r l lr).1 p) in
          let down = back g nothing p.0 n r p.1 in
          ⊎_elim
          (λ among. among)
          (λ q. let up = back g (only d) q.0 r n q.1 in absurd (cut up.0 up.1))
          (listed_or_joined r lr own down.0 n l down.1),
    )

  module _ (radial : IsRadial g) (live : LiveIsAWalk) where
    -- a source is its own root
    source_own : (s : ℕ) → g.is_source s ≡ true → root_in f.roots s ≡ s
    source_own s source = go (parent_in f.parents s) refl
      where
        l : s < g.nodes
        l = sound.sources s source

        root_source : g.is_source (root_in f.roots s) ≡ true
        root_source = rooted.fed s l ∙ (live g nothing s sound l).1 (s, 0, source, refl)

        go : (o : Option DeviceId) → parent_in f.parents s ≡ o → root_in f.roots s ≡ s
        go None e = (rooted.top s l).0 e
        go (Some e) is =
            let p = rooted.parent s e l is in
            let j = joins_up s e.0 l is in
            let up = back g (only e.0) p.upper.0 (other_end g e.0 s) (root_in f.roots s) p.upper.1 in
            let here : IsLive g (only e.0) s = (s, 0, source, refl) in
            let above : IsLive g (only e.0) (other_end g e.0 s) = (root_in f.roots s, up.0, root_source, up.1) in
            let apart = (radial e.0 p.within p.closed).1 in
            absurd (⊎_elim
            (λ x. apart (subst (IsLive g (only e.0)) (sym x.0) here) (subst (IsLive g (only e.0)) (sym x.1) above))
            (λ x. apart (subst (IsLive g (only e.0)) (sym x.0) above) (subst (IsLive g (only e.0)) (sym x.1) here))
            j.ends)

    -- a fed node is dark where the device is open exactly if it is cut off
    pub cut_is_dark : (d n : ℕ) → n < g.nodes → is_live g nothing n ≡ true → IsCutOff g f.roots d n ↔ (is_live g (only d) n ≡ false)
    cut_is_dark d n l fed = (
      λ cut. false_from_ne_true (is_live g (only d) n) (λ t.
          let v = (live g (only d) n sound l).0 t in
          let same : v.0 ≡ root_in f.roots n = sym (source_own v.0 v.2) ∙ (rooted.same_root v.0 n (sound.sources v.0 v.2) l).1 (v.1, any_walk g d v.1 v.0 n v.3) in
          let up = back g (only d) v.1 v.0 n v.3 in
          cut up.0 (subst (Walk g (only d) up.0 n) same up.1)),
      λ dark k w.
          let down = back g (only d) k n (root_in f.roots n) w in
          false≢true (sym dark ∙ (live g (only d) n sound l).1 (root_in f.roots n, down.0, rooted.fed n l ∙ fed, down.1)),
    )
