-- The outages of a cut, listed by rising device number.
use Rattle.std.proofs.Common.{◌≡◌, ◌≢◌, ℕ, zero, suc, ◌+◌, ◌*◌, ◌<◌, ◌≤◌, Bool, true, false, cond, refl, sym, ap, ◌∙◌, ⊎_elim, arith, List, [], ◌∷◌, ◌++◌, length, Option, Some, None, is_some, All}
use Rattle.std.specs.Prelude.{◌==◌, ◌||◌, slice_index_or}
use Rattle.std.specs.List.{find, filter, filter_map, cons_option, list_any, range_with_len, sum_by}
use Rattle.std.proofs.lemmas.Bool.{cases_eq, eq-eqb, eqb-true, ne_eqb, false≢true}
use Rattle.std.proofs.lemmas.List.Elements.{All-nil, All-cons}
use Rattle.std.proofs.lemmas.List.Sums.{sum_by-cons, sum_by_push}
use Rattle.outage_rules.specs.Sum.{total}
use Rattle.outage_rules.proofs.Sums.{total_same, total_zero, total_add, total_at_most_one, total_le_times}
use Rattle.grid_model.specs.declared.history.Outage.{Outage}
use Rattle.history_rules.specs.Crew.{is_device_of}
use Rattle.history_rules.specs.Outages.{is_at}

-- the items of the numbers that pass, from a on
abbrev pub listed : (ℕ → Bool) → (ℕ → Outage) → ℕ → ℕ → List Outage
listed cut item a n = filter_map (λ d. cond (cut d) (Some (item d)) None) (range_with_len a n)

-- one item, where it is there, before others
abbrev before : Bool → Outage → List Outage → List Outage
before b o rest = cons_option (cond b (Some o) None) rest

abbrev is_of : ℕ → Outage → Bool
is_of d o = o.device.0 == d

all_step : (P : Outage → Type 0) (b : Bool) (o : Outage) (rest : List Outage) → (b ≡ true → P o) → All P rest → All P (before b o rest)
all_step P true o rest here later = All-cons P o rest (here refl) later
all_step P false o rest here later = later

-- what holds of each item holds of all that are listed
pub all_listed : (P : Outage → Type 0) (cut : ℕ → Bool) (item : ℕ → Outage) (a n : ℕ) → ((d : ℕ) → a ≤ d → d < a + n → cut d ≡ true → P (item d)) → All P (listed cut item a n)
all_listed P cut item a zero holds = All-nil P
all_listed P cut item a (suc n) holds =
    all_step P (cut a) (item a) (listed cut item (a + 1) n) (holds a (omega arith) (omega arith))
    (all_listed P cut item (a + 1) n (λ d l m. holds d (omega arith) (omega arith)))

found_here : (d : ℕ) (b : Bool) (o : Outage) (rest : List Outage) → b ≡ true → is_of d o ≡ true → find (is_of d) (before b o rest) ≡ Some o
found_here d b o rest there same = ap (λ x. find (is_of d) (before x o rest)) there ∙ ap (λ x. cond x (Some o) (find (is_of d) rest)) same

found_later : (d : ℕ) (b : Bool) (o : Outage) (rest : List Outage) → is_of d o ≡ false → find (is_of d) (before b o rest) ≡ find (is_of d) rest
found_later d true o rest other = ap (λ x. cond x (Some o) (find (is_of d) rest)) other
found_later d false o rest other = refl

-- the item of a number that passes is found by its device
pub find_listed : (cut : ℕ → Bool) (item : ℕ → Outage) → ((d : ℕ) → (item d).device.0 ≡ d) → (d a n : ℕ) → a ≤ d → d < a + n → cut d ≡ true → find (is_of d) (listed cut item a n) ≡ Some (item d)
find_listed cut item named d a zero l m c = absurd (omega arith)
find_listed cut item named d a (suc n) l m c =
    ⊎_elim
    (λ is. found_here d (cut a) (item a) (listed cut item (a + 1) n) (ap cut is ∙ c) (eq-eqb (item a).device.0 d (named a ∙ is)) ∙ ap (λ x. Some (item x)) is)
    (λ ne. found_later d (cut a) (item a) (listed cut item (a + 1) n) (ne_eqb (item a).device.0 d (λ e. ne (sym (named a) ∙ e)))
    ∙ find_listed cut item named d (a + 1) n (omega (arith, ne)) (omega arith) c)
    (cases_eq a d)

any_found : (test : Outage → Bool) (xs : List Outage) (o : Outage) → find test xs ≡ Some o → list_any test xs ≡ true
any_found test [] o e = absurd (false≢true (ap is_some e))
any_found test (x ∷ xs) o e = by (test x) e (any_found test xs o)
  where
    by : (b : Bool) → cond b (Some x) (find test xs) ≡ Some o → (find test xs ≡ Some o → list_any test xs ≡ true) → (b || list_any test xs) ≡ true
    by true e rest = refl
    by false e rest = rest e

-- so it is the device of an outage
pub device_listed : (cut : ℕ → Bool) (item : ℕ → Outage) → ((d : ℕ) → (item d).device.0 ≡ d) → (d n : ℕ) → d < n → cut d ≡ true → is_device_of (listed cut item 0 n) d ≡ true
device_listed cut item named d n l c = any_found (is_of d) (listed cut item 0 n) (item d) (find_listed cut item named d 0 n (omega arith) (omega arith) c)

-- no device stands twice
abbrev pub AreApart : List Outage → Type 0
AreApart all = (i j : ℕ) (x : Outage) → i < j → j < length all → (slice_index_or all i x).device.0 ≢ (slice_index_or all j x).device.0

apart_step : (b : Bool) (o : Outage) (rest : List Outage) → All (λ q. o.device.0 < q.device.0) rest → AreApart rest → AreApart (before b o rest)
apart_step false o rest later apart i j x l m = apart i j x l m
apart_step true o rest later apart i zero x l m = absurd (omega arith)
apart_step true o rest later apart zero (suc j) x l m = λ e. absurd (let a = later j x (omega arith) in omega arith)
apart_step true o rest later apart (suc i) (suc j) x l m = apart i j x (omega arith) (omega arith)

pub apart_listed : (cut : ℕ → Bool) (item : ℕ → Outage) → ((d : ℕ) → (item d).device.0 ≡ d) → (a n : ℕ) → AreApart (listed cut item a n)
apart_listed cut item named a zero = λ i j x l m. absurd (omega arith)
apart_listed cut item named a (suc n) =
    apart_step (cut a) (item a) (listed cut item (a + 1) n)
    (all_listed (λ q. (item a).device.0 < q.device.0) cut item (a + 1) n (λ d l m c. let here = named a in
    let there = named d in omega arith))
    (apart_listed cut item named (a + 1) n)

-- sums over the numbers from 0 on
range_more : (a n : ℕ) → range_with_len a (suc n) ≡ range_with_len a n ++ (a + n) ∷ []
range_more a zero = ap (λ x. x ∷ []) (let e : a ≡ a + 0 = omega arith in e)
range_more a (suc n) = ap (λ x. a ∷ x) (range_more (a + 1) n ∙ ap (λ x. range_with_len (a + 1) n ++ x ∷ []) (let e : (a + 1) + n ≡ a + suc n = omega arith in e))

sum_range : (f : ℕ → ℕ) (n : ℕ) → sum_by f (range_with_len 0 n) ≡ total n f
sum_range f zero = refl
sum_range f (suc n) =
    let more = ap (sum_by f) (range_more 0 n) ∙ sum_by_push f (range_with_len 0 n) (0 + n) in
    let last = ap f (let e : 0 + n ≡ n = omega arith in e) in
    let rest = sum_range f n in omega arith

-- the sum of what each number of a range has, where none has more than b
pub sum_at_most : (f : ℕ → ℕ) (n b : ℕ) → ((k : ℕ) → k < n → f k ≤ b) → sum_by f (range_with_len 0 n) ≤ n * b
sum_at_most f n b each = let whole = sum_range f n in let most = total_le_times n f b each in omega arith

customers_step : (b : Bool) (o : Outage) (rest : List Outage) (s : ℕ) → sum_by (λ q. q.customers) rest ≤ s → sum_by (λ q. q.customers) (before b o rest) ≤ o.customers + s
customers_step true o rest s l = let more = sum_by-cons (λ q. q.customers) o rest in omega arith
customers_step false o rest s l = omega arith

customers_listed : (cut : ℕ → Bool) (item : ℕ → Outage) (a n : ℕ) → sum_by (λ o. o.customers) (listed cut item a n) ≤ sum_by (λ d. (item d).customers) (range_with_len a n)
customers_listed cut item a zero = omega arith
customers_listed cut item a (suc n) =
    let here = customers_step (cut a) (item a) (listed cut item (a + 1) n) (sum_by (λ d. (item d).customers) (range_with_len (a + 1) n)) (customers_listed cut item (a + 1) n) in
    let more = sum_by-cons (λ d. (item d).customers) a (range_with_len (a + 1) n) in omega arith

-- the shares of the numbers, where each element belongs to one of them at most
abbrev share : (ℕ → ℕ) → (ℕ → Option ℕ) → List ℕ → ℕ → ℕ
share f owner ms d = sum_by f (filter (λ m. is_at d (owner m)) ms)

one_owner : (o : Option ℕ) (i j : ℕ) → is_at i o ≡ true → is_at j o ≡ true → i ≡ j
one_owner None i j a b = absurd (false≢true a)
one_owner (Some e) i j a b = sym (eqb-true e i a) ∙ eqb-true e j b

share_step : (f : ℕ → ℕ) (b : Bool) (m : ℕ) (xs : List ℕ) → sum_by f (cond b (m ∷ xs) xs) ≡ sum_by f xs + cond b (f m) 0
share_step f true m xs = let more = sum_by-cons f m xs in omega arith
share_step f false m xs = omega arith

shares_at_most : (f : ℕ → ℕ) (owner : ℕ → Option ℕ) (n : ℕ) (ms : List ℕ) → total n (share f owner ms) ≤ sum_by f ms
shares_at_most f owner n [] = let none = total_zero n (share f owner []) (λ k l. refl) in omega arith
shares_at_most f owner n (m ∷ ms) =
    let rest = shares_at_most f owner n ms in
    let split = total_same n (share f owner (m ∷ ms)) (λ d. share f owner ms d + cond (is_at d (owner m)) (f m) 0) (λ d l. share_step f (is_at d (owner m)) m (filter (λ k. is_at d (owner k)) ms)) in
    let both = total_add n (share f owner ms) (λ d. cond (is_at d (owner m)) (f m) 0) in
    let own = total_at_most_one n (λ d. is_at d (owner m)) (f m) (λ i j l k a b. one_owner (owner m) i j a b) in
    let whole = sum_by-cons f m ms in omega arith

-- the customers of all outages are at most those of the meters, where each meter belongs to one outage at most
pub customers_at_most : (cut : ℕ → Bool) (item : ℕ → Outage) (f : ℕ → ℕ) (owner : ℕ → Option ℕ) (ms : List ℕ) (n : ℕ) → ((d : ℕ) → (item d).customers ≡ share f owner ms d)
    → sum_by (λ o. o.customers) (listed cut item 0 n) ≤ sum_by f ms
customers_at_most cut item f owner ms n each =
    let some = customers_listed cut item 0 n in
    let sums = sum_range (λ d. (item d).customers) n in
    let same = total_same n (λ d. (item d).customers) (share f owner ms) (λ d l. each d) in
    let most = shares_at_most f owner n ms in omega arith
