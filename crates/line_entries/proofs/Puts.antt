-- Texts that are put one behind the other.
use Rattle.std.proofs.Common.{◌≡◌, ℕ, ◌+◌, refl, sym, ap, ◌∙◌, subst, arith, List, [], ◌∷◌, ◌++◌, length, take, append_assoc, append-nil, Option, Some, None, Result, Ok, Err}
use Rattle.std.specs.Prelude.{IsErr, IsErrOf}
use Rattle.std.specs.Io.KnownBytes.{Appends}
use Rattle.std.proofs.lemmas.Bool.{false≢true}
use Rattle.std.proofs.lemmas.List.{length-append, take_at, take-append-le}
use Rattle.std.proofs.Math.Seq.{take-append-add}
use Rattle.outage_ports.specs.Bytes.{AppendsPrefix}
use Rattle.outage_ports.specs.Causes.{HasCause}
use Rattle.event_rules.specs.Rows.{row}
use Rattle.line_entries.specs.Putting.{DidPut, PutsText}
use Rattle.line_entries.specs.declared.fault.PutFault.{PutFault}
use Rattle.line_entries.specs.declared.fault.PutFault.TheVariants.{Write}

appends_none : (now : Option (List ℕ)) → Appends now now []
appends_none None = tt
appends_none (Some xs) = sym (append-nil xs)

pub appends_both : (a b c : Option (List ℕ)) (xs ys : List ℕ) → Appends a b xs → Appends b c ys → Appends a c (xs ++ ys)
appends_both None b c xs ys h k = tt
appends_both (Some a) None c xs ys h k = absurd h
appends_both (Some a) (Some b) None xs ys h k = absurd k
appends_both (Some a) (Some b) (Some c) xs ys h k = k ∙ ap (λ z. z ++ ys) h ∙ append_assoc a xs ys

pub appends_same : (a b : Option (List ℕ)) (xs ys : List ℕ) → xs ≡ ys → Appends a b xs → Appends a b ys
appends_same a b xs ys e h = subst (Appends a b) e h

-- a whole text is a prefix of itself
pub prefix_whole : (a b : Option (List ℕ)) (xs : List ℕ) → Appends a b xs → AppendsPrefix a b xs
prefix_whole a b xs h = (length xs, omega arith, appends_same a b xs (take (length xs) xs) (sym (take_at xs [] (length xs) refl) ∙ ap (take (length xs)) (append-nil xs)) h)

-- a prefix of a text is one of a longer text
prefix_of_more : (a b : Option (List ℕ)) (xs ys : List ℕ) → AppendsPrefix a b xs → AppendsPrefix a b (xs ++ ys)
prefix_of_more a b xs ys h =
    let size = length-append xs ys in
    let most = h.1 in
    (h.0, omega arith, appends_same a b (take h.0 xs) (take h.0 (xs ++ ys)) (sym (take-append-le h.0 xs ys h.1)) h.2)

-- a text and a prefix of the next
prefix_behind : (a b c : Option (List ℕ)) (xs ys : List ℕ) → Appends a b xs → AppendsPrefix b c ys → AppendsPrefix a c (xs ++ ys)
prefix_behind a b c xs ys h k =
    let size = length-append xs ys in
    let most = k.1 in (
      length xs + k.0,
      omega arith,
      appends_same a c (xs ++ take k.0 ys) (take (length xs + k.0) (xs ++ ys)) (sym (take-append-add xs ys k.0)) (appends_both a b c xs (take k.0 ys) h k.2),
    )

-- nothing is put
pub put_none : {T E : Type 0} (a : Option (List ℕ)) (i : ℕ) (v : T) → DidPut {E = E} a a i i (Ok v) []
put_none a i v = record { whole = appends_none a; part = tt; cause = record { later = omega arith; kept = refl; failed = tt } }

-- a text was put, and then another
pub put_behind : {T E : Type 0} (a b c : Option (List ℕ)) (i j k : ℕ) (xs ys : List ℕ) (r : Result T E) → Appends a b xs → j ≡ i → DidPut b c j k r ys → DidPut a c i k r (xs ++ ys)
put_behind {T} {E} a b c i j k xs ys (Ok v) first same did = record {
  whole = appends_both a b c xs ys first did.whole;
  part = tt;
  cause = subst (λ n. HasCause {T = T} {E = E} n k (Ok v)) same did.cause;
}
put_behind {T} {E} a b c i j k xs ys (Err e) first same did = record {
  whole = tt;
  part = prefix_behind a b c xs ys first did.part;
  cause = subst (λ n. HasCause {T = T} {E = E} n k (Err e)) same did.cause;
}

-- the sink fails at a text, and the next one isn't put
pub put_stops : {T E : Type 0} (a b : Option (List ℕ)) (i j : ℕ) (xs ys : List ℕ) (e : E) (r : Result T E) → IsErr r → DidPut {T = T} a b i j (Err e) xs → DidPut a b i j r (xs ++ ys)
put_stops a b i j xs ys e (Ok v) failed did = absurd (false≢true failed)
put_stops a b i j xs ys e (Err f) failed did = record {
  whole = tt;
  part = prefix_of_more a b xs ys did.part;
  cause = record { later = did.cause.later; kept = tt; failed = did.cause.failed };
}

-- a text by another name
pub put_same : {T E : Type 0} (a b : Option (List ℕ)) (i j : ℕ) (r : Result T E) (xs ys : List ℕ) → xs ≡ ys → DidPut a b i j r xs → DidPut a b i j r ys
put_same a b i j r xs ys e did = subst (DidPut a b i j r) e did

-- a row of three words, field by field
pub row_fields : (a b c : List ℕ) → (a ++ 44 ∷ []) ++ ((b ++ 44 ∷ []) ++ (c ++ 10 ∷ [])) ≡ row (a ∷ b ∷ c ∷ [])
row_fields a b c = simp append_assoc

-- a text that was put by an object that counted no fault
pub put_done : {T E : Type 0} (a b : Option (List ℕ)) (i j : ℕ) (v : T) (xs : List ℕ) → Appends a b xs → j ≡ i → DidPut {E = E} a b i j (Ok v) xs
put_done a b i j v xs whole same = record { whole = whole; part = tt; cause = record { later = omega arith; kept = same; failed = tt } }

not_write : {V : Type 0} (w : V) → IsErrOf (Ok w) Write → ⊥
not_write w is = cc

-- a sink's answer by the name of a fault
pub puts_ok : {T E V : Type 0} (a b : Option (List ℕ)) (i j : ℕ) (v : T) (w : V) (xs : List ℕ) → DidPut {E = E} a b i j (Ok v) xs → PutsText a b i j (Ok w) xs
puts_ok a b i j v w xs did = let later = did.cause.later in let kept = did.cause.kept in record {
  whole = did.whole;
  part = prefix_whole a b xs did.whole;
  later = did.cause.later;
  failed = λ is. absurd (not_write w is);
  only_failed = λ rose. absurd (omega arith);
}

pub puts_err : {T E V : Type 0} (a b : Option (List ℕ)) (i j : ℕ) (e : E) (xs : List ℕ) → DidPut {T = T} a b i j (Err e) xs → PutsText {T = V} a b i j (Err Write) xs
puts_err a b i j e xs did = record {
  whole = tt;
  part = did.part;
  later = did.cause.later;
  failed = λ is. did.cause.failed;
  only_failed = λ rose. refl;
}

-- a text by another name
pub puts_same : {T : Type 0} (a b : Option (List ℕ)) (i j : ℕ) (r : Result T PutFault) (xs ys : List ℕ) → xs ≡ ys → PutsText a b i j r xs → PutsText a b i j r ys
puts_same a b i j r xs ys e told = subst (PutsText a b i j r) e told
