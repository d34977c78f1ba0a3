-- The greatest common divisor, and fractions in lowest terms.
use Rattle.std.proofs.Common.{◌≡◌, ◌≢◌, ◌*◌, ◌/◌, ◌%◌, ◌<◌, ◌≤◌, ◌&&◌, true, false, Bool, ℕ, zero, suc, refl, ap, sym, subst, ◌∙◌, arith}
use Rattle.std.specs.Prelude.{if◌then◌else◌}
use Rattle.std.specs.Int.{IsGcd, ◌∣◌}
use Rattle.std.proofs.Math.Nat.{mod-lt, one-dvd, div-le_self, div-mul_cancel, mul-dvd-mul_right, dvd_of_mul-dvd-mul_right}
use Rattle.std.proofs.lemmas.Bool.{and_parts, and_from, eq-eqb, eqb-true, false≢true}
use Rattle.std.proofs.lemmas.Nat.{le-div}
use Rattle.std.proofs.lemmas.Nat.Gcd.{IsGcd-from_zero, IsGcd-from_mod, le_of_dvd, dvd_of_mod-eq-zero, mod-eq-zero_of_dvd}
use Rattle.event_rules.specs.Fractions.{Ratio, IsLowestOf, divides, divisor_upto, lowest}

divides-true : (d n : ℕ) → d ∣ n → divides d n ≡ true
divides-true d n h = eq-eqb (n % d) 0 (mod-eq-zero_of_dvd d h)

true-divides : (d n : ℕ) → divides d n ≡ true → d ∣ n
true-divides d n h = dvd_of_mod-eq-zero d (eqb-true (n % d) 0 h)

-- the greatest common divisor is not 0
pub gcd_some : (a b g : ℕ) → 0 < b → IsGcd a b g → 0 < g
gcd_some a zero g some h = omega arith
gcd_some a (suc b) zero some h = let e : suc b % 0 ≡ 0 = mod-eq-zero_of_dvd 0 h.1 in omega (arith, e)
gcd_some a (suc b) (suc g) some h = omega arith

-- one step down: the next number is the divisor where it divides both, and else the divisor lies below it
upto_step : (c : Bool) (m g rest : ℕ) → (c ≡ true → suc m ≡ g) → (c ≡ false → rest ≡ g) → (if c then suc m else rest) ≡ g
upto_step true m g rest h k = h refl
upto_step false m g rest h k = k refl

-- a number that divides both is the greatest common divisor where that isn't greater
next-is : (m a b g : ℕ) → IsGcd a b g → 0 < g → g ≤ suc m → (divides (suc m) a && divides (suc m) b) ≡ true → suc m ≡ g
next-is m a b g h some most e =
    let parts = and_parts (divides (suc m) a) (divides (suc m) b) e in
    let low : suc m ≤ g = le_of_dvd some (h.2 (suc m) (true-divides (suc m) a parts.0) (true-divides (suc m) b parts.1)) in
    omega arith

-- a number that doesn't divide both isn't the greatest common divisor
next-is_not : (m a b g : ℕ) → IsGcd a b g → (divides (suc m) a && divides (suc m) b) ≡ false → g ≢ suc m
next-is_not m a b g h e same =
    let left : suc m ∣ a = subst (λ n. n ∣ a) same h.0 in
    let right : suc m ∣ b = subst (λ n. n ∣ b) same h.1 in
    false≢true (sym e ∙ and_from (divides (suc m) a) (divides (suc m) b) (divides-true (suc m) a left) (divides-true (suc m) b right))

-- the greatest number that divides both is the greatest common divisor
pub divisor_upto-is : (most a b g : ℕ) → IsGcd a b g → 0 < g → g ≤ most → divisor_upto most a b ≡ g
unfolding divisor_upto
divisor_upto-is zero a b g h some most = omega arith
divisor_upto-is (suc m) a b g h some most =
    upto_step (divides (suc m) a && divides (suc m) b) m g (divisor_upto m a b) (next-is m a b g h some most)
    (λ e. let other : g ≢ suc m = next-is_not m a b g h e in divisor_upto-is m a b g h some (omega arith))

-- so it is up to the second number
pub divisor-is : (a b g : ℕ) → 0 < b → IsGcd a b g → divisor_upto b a b ≡ g
divisor-is a b g some h = divisor_upto-is b a b g h (gcd_some a b g some h) (le_of_dvd some h.1)

-- a number over a divisor is still some number, and isn't greater
pub quotient_some : (under g : ℕ) → 0 < under → 0 < g → g ∣ under → 0 < under / g
quotient_some under g some positive h =
    let low : 1 * g ≤ under = omega (arith, le_of_dvd some h) in
    le-div 1 under g positive low

pub quotient-le : (under g most : ℕ) → under ≤ most → under / g ≤ most
quotient-le under g most h = omega (arith, div-le_self under g)

-- two numbers have a greatest common divisor
gcd_upto : (most a b : ℕ) → b ≤ most → (g : ℕ) × IsGcd a b g
gcd_upto zero a b h = (a, IsGcd-from_zero a b (omega arith))
gcd_upto (suc most) a zero h = (a, IsGcd-from_zero a 0 refl)
gcd_upto (suc most) a (suc b) h =
    let less : a % suc b < suc b = mod-lt a (omega arith) in
    let below = gcd_upto most (suc b) (a % suc b) (omega arith) in
    (below.0, IsGcd-from_mod a (suc b) below.0 below.1)

-- both numbers over their greatest common divisor have no common divisor but 1
apart-is : (x y g : ℕ) → 0 < g → IsGcd (x * g) (y * g) g → IsGcd x y 1
apart-is x y g some h = (
  one-dvd x,
  one-dvd y,
  λ d p q.
      let both : d * g ∣ g = h.2 (d * g) (mul-dvd-mul_right d p g) (mul-dvd-mul_right d q g) in
      dvd_of_mul-dvd-mul_right d some (subst (λ n. d * g ∣ n) (omega arith) both),
)

lowest_by : (top under g : ℕ) → 0 < under → IsGcd top under g → divisor_upto under top under ≡ g → IsLowestOf top under (lowest top under)
lowest_by top under g some h e =
    let t : top / g * g ≡ top = div-mul_cancel g h.0 in
    let u : under / g * g ≡ under = div-mul_cancel g h.1 in
    let whole : IsGcd (top / g * g) (under / g * g) g = rw (t, u) h in
    rw e record {
      same = ap (λ n. top / g * n) (sym u) ∙ omega arith ∙ ap (λ n. n * (under / g)) t;
      apart = apart-is (top / g) (under / g) g (gcd_some top under g some h) whole;
    }

-- what is called lowest is the same quotient, without a common divisor
pub lowest-is : (top under : ℕ) → 0 < under → IsLowestOf top under (lowest top under)
lowest-is top under some =
    let g = gcd_upto under top under (omega arith) in
    lowest_by top under g.0 some g.1 (divisor-is top under g.0 some g.1)

abbrev ratio : ℕ → ℕ → Ratio
ratio top under = record { top = top; under = under }

-- both parts over the greatest common divisor are what is called lowest
pub lowest-over : (top under g : ℕ) → 0 < under → IsGcd top under g → ratio (top / g) (under / g) ≡ lowest top under
lowest-over top under g some h = rw (divisor-is top under g some h) refl

-- so no number but 1 divides both of these
pub over-apart : (top under g : ℕ) → 0 < under → IsGcd top under g → IsGcd (top / g) (under / g) 1
over-apart top under g some h =
    subst (λ r. IsGcd r.top r.under 1) (sym (lowest-over top under g some h)) (lowest-is top under some).apart
