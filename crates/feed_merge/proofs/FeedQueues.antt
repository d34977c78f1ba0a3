-- The queue of the feeds, by the keys of their heads.
use Rattle.std.proofs.Common.{◌≡◌, ◌<◌, ◌≤◌, ℕ, suc, zero, List, [], ◌∷◌, ◌++◌, length, get_or, set, map, refl, ap, ◌∙◌, sym, arith, subst, Option, Some, None}
use Rattle.std.proofs.lemmas.List.{ext_get_or, set-set, map-set, length-map}
use Rattle.due_queue.specs.Due.{IsNothingDue}
use Rattle.feed_merge.specs.Merging.{Entry, joined}
use Rattle.feed_merge.specs.Heads.{last_second, key_in, IsLeft, AreLeft}
use Rattle.feed_merge.specs.declared.heads.Head.{Head}
use Rattle.feed_merge.proofs.HeadSteps.{key_at}

-- a feed that doesn't wait has no line left
none_at : (feed : ℕ) (head : Option Head) (entries : List Entry) → IsLeft feed head entries → ((u : ℕ) → key_in head ≡ Some u → u ≤ last_second → ⊥) → entries ≡ []
none_at feed None entries left never = left
none_at feed (Some head) entries left never = absurd (never head.key.0 refl left.known)

joined-none : (parts : List (List Entry)) → ((feed : ℕ) → get_or parts feed [] ≡ []) → joined parts ≡ []
joined-none [] none = refl
joined-none (part ∷ parts) none = ap (λ p. p ++ joined parts) (none zero) ∙ joined-none parts (λ feed. none (suc feed))

pub nothing_left : (heads : List (Option Head)) (queue : List (Option ℕ)) (parts : List (List Entry)) (now : ℕ) → last_second ≤ now
    → queue ≡ map key_in heads → AreLeft heads parts → IsNothingDue queue now → joined parts ≡ []
nothing_left heads queue parts now late e left nothing_in =
    let nothing = subst (λ q. IsNothingDue q now) e nothing_in in
    joined-none parts
    (λ feed. none_at feed (get_or heads feed None) (get_or parts feed []) (left.left feed)
    (λ u e known. nothing feed (u, key_at heads feed ∙ e, omega arith)))

-- a feed that was taken out of the queue waits by its next head
pub requeued : (heads : List (Option Head)) (feed : ℕ) (next : Option Head) (old mid new : List (Option ℕ)) → old ≡ map key_in heads
    → mid ≡ set old feed None → new ≡ set mid feed (key_in next) → new ≡ map key_in (set heads feed next)
requeued heads feed next old mid new before out in_again =
    in_again
    ∙ ap (λ q. set q feed (key_in next)) out
    ∙ set-set old feed None (key_in next)
    ∙ ap (λ q. set q feed (key_in next)) before
    ∙ sym (map-set key_in heads feed next)

-- the first so many feeds wait by their heads
pub record AreQueued (heads : List (Option Head)) (queue : List (Option ℕ)) (count : ℕ) : Type 0 where
  pub each : length queue ≡ length heads
  pub queued : (feed : ℕ) → feed < count → get_or queue feed None ≡ key_in (get_or heads feed None)

pub all_queued : (heads : List (Option Head)) (queue : List (Option ℕ)) (count : ℕ) → AreQueued heads queue count → count ≡ length heads → queue ≡ map key_in heads
all_queued heads queue count q all =
    ext_get_or None queue (map key_in heads)
    (q.each ∙ sym (length-map heads key_in))
    (λ feed lt. q.queued feed (omega (arith, q.each)) ∙ sym (key_at heads feed))
