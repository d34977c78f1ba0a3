-- A list that is in order has its only order.
use Rattle.std.proofs.Common.{◌≡◌, ℕ, zero, suc, ◌+◌, ◌<◌, Bool, true, false, List, [], ◌∷◌, length, map, get_or, refl, sym, ap, ◌∙◌, arith}
use Rattle.std.specs.Prelude.{⊤}
use Rattle.std.specs.List.{All, Contains}
use Rattle.std.proofs.lemmas.Bool.{cond-true, cond-false}
use Rattle.std.proofs.lemmas.List.Elements.{All-nil, All-cons, All-head, All-tail, All-map, All-from_get_or}
use Rattle.grid_model.specs.declared.history.Outage.{Outage}
use Rattle.history_rules.specs.Crew.{placed, in_order}

abbrev Before : Type 0
Before = Outage → Outage → Bool

-- one comes before the other, and not behind it
pub record IsFirst (before : Before) (x y : Outage) : Type 0 where
  pub first : before x y ≡ true
  pub not_behind : before y x ≡ false

-- each comes before all behind it
abbrev pub IsRising : Before → List Outage → Type 0
IsRising before [] = ⊤
IsRising before (y ∷ ys) = All (IsFirst before y) ys × IsRising before ys

pub rising_from : {X : Type 0} (before : Before) (f : X → Outage) (xs : List X) (d : X)
    → ((i j : ℕ) → i < j → j < length xs → IsFirst before (f (get_or xs i d)) (f (get_or xs j d))) → IsRising before (map f xs)
rising_from before f [] d each = tt
rising_from before f (x ∷ xs) d each = (
  All-map (IsFirst before (f x)) f xs (All-from_get_or (λ y. IsFirst before (f x) (f y)) xs d (λ j l. each 0 (suc j) (omega arith) (omega arith))),
  rising_from before f xs d (λ i j l m. each (suc i) (suc j) (omega arith) (omega arith)),
)

-- the list but for the element at a place
abbrev pub without : List Outage → ℕ → List Outage
without [] k = []
without (y ∷ ys) zero = ys
without (y ∷ ys) (suc k) = y ∷ without ys k

length_without : (ys : List Outage) (k : ℕ) → k < length ys → length (without ys k) + 1 ≡ length ys
length_without [] k lt = absurd (omega arith)
length_without (y ∷ ys) zero lt = omega arith
length_without (y ∷ ys) (suc k) lt = let e = length_without ys k (omega arith) in omega arith

All_without : (P : Outage → Type 0) (ys : List Outage) (k : ℕ) → All P ys → All P (without ys k)
All_without P [] k all = All-nil P
All_without P (y ∷ ys) zero all = All-tail P y ys all
All_without P (y ∷ ys) (suc k) all = All-cons P y (without ys k) (All-head P y ys all) (All_without P ys k (All-tail P y ys all))

rising_without : (before : Before) (ys : List Outage) (k : ℕ) → IsRising before ys → IsRising before (without ys k)
rising_without before [] k rising = tt
rising_without before (y ∷ ys) zero rising = rising.1
rising_without before (y ∷ ys) (suc k) rising = (All_without (IsFirst before y) ys k rising.0, rising_without before ys k rising.1)

put_first : (before : Before) (x : Outage) (ys : List Outage) → All (IsFirst before x) ys → placed before x ys ≡ x ∷ ys
unfolding placed
put_first before x [] all = refl
put_first before x (y ∷ ys) all = cond-true (before x y) (x ∷ y ∷ ys) (y ∷ placed before x ys) (All-head (IsFirst before x) y ys all).first

-- what is taken out of an ordered list goes back to its place
put_back : (before : Before) (x : Outage) (ys : List Outage) (k : ℕ) → k < length ys → get_or ys k x ≡ x → IsRising before ys → placed before x (without ys k) ≡ ys
unfolding placed
put_back before x [] k lt is rising = absurd (omega arith)
put_back before x (y ∷ ys) zero lt is rising =
    ap (λ z. placed before z ys) (sym is) ∙ put_first before y ys rising.0
put_back before x (y ∷ ys) (suc k) lt is rising =
    let behind : before x y ≡ false = ap (λ z. before z y) (sym is) ∙ (rising.0 k x (omega arith)).not_behind in
    cond-false (before x y) (x ∷ y ∷ without ys k) (y ∷ placed before x (without ys k)) behind
    ∙ ap (λ zs. y ∷ zs) (put_back before x ys k (omega arith) is rising.1)

still_there : (x z : Outage) (ys : List Outage) (k m : ℕ) → k < length ys → get_or ys k x ≡ x → (x ≡ z → ⊥) → m < length ys → get_or ys m z ≡ z → Contains (without ys k) z
still_there x z [] k m lt is ne l at = absurd (omega arith)
still_there x z (y ∷ ys) zero zero lt is ne l at = absurd (ne (sym is ∙ at))
still_there x z (y ∷ ys) zero (suc m) lt is ne l at = (m, omega arith, at)
still_there x z (y ∷ ys) (suc k) zero lt is ne l at = (0, omega arith, at)
still_there x z (y ∷ ys) (suc k) (suc m) lt is ne l at =
    let c = still_there x z ys k m (omega arith) is ne (omega arith) at in
    let inside : c.0 < length (without ys k) = c.1 in
    (suc c.0, omega arith, c.2)

-- outages that differ by their places
abbrev pub AreApart : List Outage → Type 0
AreApart xs = (i j : ℕ) (d : Outage) → i < j → j < length xs → get_or xs i d ≡ get_or xs j d → ⊥

-- a list that is in order is the order of each list of the same outages
pub sorts : (before : Before) (xs ys : List Outage) → AreApart xs → IsRising before ys → All (Contains ys) xs → length ys ≡ length xs → in_order before xs ≡ ys
unfolding in_order
sorts before [] [] apart rising all e = refl
sorts before [] (y ∷ ys) apart rising all e = absurd (omega arith)
sorts before (x ∷ xs) ys apart rising all e =
    let c : Contains ys x = All-head (Contains ys) x xs all in
    let fewer = length_without ys c.0 c.1 in
    ap (placed before x)
    (sorts before xs (without ys c.0) (λ i j d l m. apart (suc i) (suc j) d (omega arith) (omega arith)) (rising_without before ys c.0 rising)
    (λ k d l. still_there x (get_or xs k d) ys c.0 (all (suc k) d (omega arith)).0 c.1 c.2 (apart 0 (suc k) d (omega arith) (omega arith)) (all (suc k) d (omega arith)).1 (all (suc k) d (omega arith)).2)
    (omega arith))
    ∙ put_back before x ys c.0 c.1 c.2 rising
