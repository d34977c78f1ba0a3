-- One more child in the sums at the nodes above, and one more parent device.
use Rattle.std.proofs.Common.{◌≡◌, ℕ, ◌+◌, ◌<◌, Bool, true, false, cond, List, length, get_or, set, refl, sym, ap, ◌∙◌, ⊎_elim, arith, add-one, get_or-set_same, get_or-set_other}
use Rattle.std.specs.Prelude.{◌&&◌, ◌||◌, ◌==◌}
use Rattle.std.proofs.lemmas.Bool.{cases_Bool, cases_eq, eq-eqb, ne_eqb}
use Rattle.outage_rules.specs.Sum.{total, some_below}
use Rattle.outage_rules.specs.Network.{Network}
use Rattle.outage_rules.specs.Certificate.{Table, has_parent, upper, is_child}

-- what the nodes before m add at a node
abbrev pub added : Network → Table → (ℕ → ℕ) → ℕ → ℕ → ℕ
added g t adds n m = total m (λ m. cond (is_child g t n m) (adds m) 0)

pub add_child : (g : Network) (t : Table) (adds : ℕ → ℕ) (m n : ℕ) (sums new : List ℕ) → n < length sums →
    (has_parent g t m ≡ true → new ≡ set sums (upper g t m) (get_or sums (upper g t m) 0 + adds m)) →
    (has_parent g t m ≡ false → new ≡ sums) →
    get_or sums n 0 ≡ added g t adds n m → get_or new n 0 ≡ added g t adds n (m + 1)
add_child g t adds m n sums new l child other so_far =
    let more : added g t adds n (m + 1) ≡ added g t adds n m + cond (is_child g t n m) (adds m) 0 = ap (λ k. added g t adds n k) (add-one m) in
    let u = upper g t m in
    ⊎_elim
    (λ h. let is_new = ap (λ xs. get_or xs n 0) (child h) in
    ⊎_elim
    (λ e. let here : cond (is_child g t n m) (adds m) 0 ≡ adds m = ap (λ b. cond (b && (u == n)) (adds m) 0) h ∙ ap (λ b. cond b (adds m) 0) (eq-eqb u n e) in
    let at : get_or (set sums u (get_or sums u 0 + adds m)) n 0 ≡ get_or sums n 0 + adds m = ap (λ k. get_or (set sums k (get_or sums k 0 + adds m)) n 0) e ∙ get_or-set_same sums n (get_or sums n 0 + adds m) 0 l in
    omega arith)
    (λ ne. let here : cond (is_child g t n m) (adds m) 0 ≡ 0 = ap (λ b. cond (b && (u == n)) (adds m) 0) h ∙ ap (λ b. cond b (adds m) 0) (ne_eqb u n ne) in
    let at : get_or (set sums u (get_or sums u 0 + adds m)) n 0 ≡ get_or sums n 0 = get_or-set_other sums u n (get_or sums u 0 + adds m) 0 (λ e. ne (sym e)) in
    omega arith)
    (cases_eq u n))
    (λ h. let is_new = ap (λ xs. get_or xs n 0) (other h) in
    let here : cond (is_child g t n m) (adds m) 0 ≡ 0 = ap (λ b. cond (b && (u == n)) (adds m) 0) h in
    omega arith)
    (cases_Bool (has_parent g t m))

or_true : (b : Bool) → (b || true) ≡ true
or_true true = refl
or_true false = refl

or_false : (b : Bool) → (b || false) ≡ b
or_false true = refl
or_false false = refl

-- a node without a parent flags nothing
pub flag_none : (g : Network) (t : Table) (flags : List Bool) (n d : ℕ) → has_parent g t n ≡ false →
    get_or flags d false ≡ some_below n (λ n. has_parent g t n && (t.parent n == d)) →
    get_or flags d false ≡ some_below (n + 1) (λ n. has_parent g t n && (t.parent n == d))
flag_none g t flags n d h so_far =
    let some = some_below n (λ n. has_parent g t n && (t.parent n == d)) in
    so_far ∙ sym (or_false some) ∙ ap (λ b. some || (b && (t.parent n == d))) (sym h) ∙ ap (λ k. some_below k (λ n. has_parent g t n && (t.parent n == d))) (sym (add-one n))

-- and another flags its parent device
pub flag_one : (g : Network) (t : Table) (flags : List Bool) (n d : ℕ) → t.parent n < length flags → has_parent g t n ≡ true →
    get_or flags d false ≡ some_below n (λ n. has_parent g t n && (t.parent n == d)) →
    get_or (set flags (t.parent n) true) d false ≡ some_below (n + 1) (λ n. has_parent g t n && (t.parent n == d))
flag_one g t flags n d l h so_far =
    let p = t.parent n in
    let some = some_below n (λ n. has_parent g t n && (t.parent n == d)) in
    let more : (some || (p == d)) ≡ some_below (n + 1) (λ n. has_parent g t n && (t.parent n == d)) = ap (λ b. some || (b && (p == d))) (sym h) ∙ ap (λ k. some_below k (λ n. has_parent g t n && (t.parent n == d))) (sym (add-one n)) in
    ⊎_elim
    (λ e. ap (λ k. get_or (set flags k true) d false) e ∙ get_or-set_same flags d true false (let e' : p ≡ d = e in omega arith) ∙ sym (or_true some) ∙ ap (λ b. some || b) (sym (eq-eqb p d e)) ∙ more)
    (λ ne. get_or-set_other flags p d true false (λ e. ne (sym e)) ∙ so_far ∙ sym (or_false some) ∙ ap (λ b. some || b) (sym (ne_eqb p d ne)) ∙ more)
    (cases_eq p d)
