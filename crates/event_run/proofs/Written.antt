-- What is written grows.
use Rattle.std.proofs.Common.{◌≡◌, ℕ, ◌+◌, refl, sym, ap, ◌∙◌, subst, arith, List, [], ◌++◌, length, take, append_assoc, append-nil, Option, Some, None}
use Rattle.std.specs.Io.KnownBytes.{Appends}
use Rattle.std.proofs.lemmas.List.{length-append, take_at, take-append-le}
use Rattle.std.proofs.Math.Seq.{take-append-add}
use Rattle.outage_ports.specs.Bytes.{AppendsPrefix}

pub appends_none : (now : Option (List ℕ)) → Appends now now []
appends_none None = tt
appends_none (Some xs) = sym (append-nil xs)

pub appends_both : (a b c : Option (List ℕ)) (xs ys : List ℕ) → Appends a b xs → Appends b c ys → Appends a c (xs ++ ys)
appends_both None b c xs ys h k = tt
appends_both (Some a) None c xs ys h k = absurd h
appends_both (Some a) (Some b) None xs ys h k = absurd k
appends_both (Some a) (Some b) (Some c) xs ys h k = k ∙ ap (λ z. z ++ ys) h ∙ append_assoc a xs ys

pub appends_same : (a b : Option (List ℕ)) (xs ys : List ℕ) → xs ≡ ys → Appends a b xs → Appends a b ys
appends_same a b xs ys e h = subst (Appends a b) e h

pub prefix_whole : (a b : Option (List ℕ)) (xs : List ℕ) → Appends a b xs → AppendsPrefix a b xs
prefix_whole a b xs h = (length xs, omega arith, appends_same a b xs (take (length xs) xs) (sym (take_at xs [] (length xs) refl) ∙ ap (take (length xs)) (append-nil xs)) h)

pub prefix_of_more : (a b : Option (List ℕ)) (xs ys : List ℕ) → AppendsPrefix a b xs → AppendsPrefix a b (xs ++ ys)
prefix_of_more a b xs ys h =
    let size = length-append xs ys in
    let most = h.1 in
    (h.0, omega arith, appends_same a b (take h.0 xs) (take h.0 (xs ++ ys)) (sym (take-append-le h.0 xs ys h.1)) h.2)

pub prefix_behind : (a b c : Option (List ℕ)) (xs ys : List ℕ) → Appends a b xs → AppendsPrefix b c ys → AppendsPrefix a c (xs ++ ys)
prefix_behind a b c xs ys h k =
    let size = length-append xs ys in
    let most = k.1 in (
      length xs + k.0,
      omega arith,
      appends_same a c (xs ++ take k.0 ys) (take (length xs + k.0) (xs ++ ys)) (sym (take-append-add xs ys k.0)) (appends_both a b c xs (take k.0 ys) h k.2),
    )

-- all that was written before a call that writes no more
pub prefix_still : (a b c : Option (List ℕ)) (xs : List ℕ) → Appends a b xs → c ≡ b → AppendsPrefix a c xs
prefix_still a b c xs h e = subst (λ (o : Option (List ℕ)). AppendsPrefix a o xs) (sym e) (prefix_whole a b xs h)
