-- What holds of each word of an event and of each other word holds of all.
use Rattle.std.proofs.Common.{◌≡◌, ℕ, Bool, true, false, List, refl, sym, subst, ⊎_elim}
use Rattle.std.specs.Prelude.{◌||◌, codes}
use Rattle.std.specs.Str.{bytes_eq}
use Rattle.std.proofs.lemmas.Bool.{false≢true, cases_Bool}
use Rattle.std.proofs.lemmas.Slice.Eq.{bytes_eq-Decides}
use Rattle.event_rules.specs.EventLines.{is_event_word}

-- the word is none of an event
pub record IsOther (word : List ℕ) : Type 0 where
  pub call : bytes_eq word (codes "call") ≡ false
  pub gasp : bytes_eq word (codes "gasp") ≡ false
  pub ping : bytes_eq word (codes "ping") ≡ false
  pub powerup : bytes_eq word (codes "powerup") ≡ false
  pub confirm : bytes_eq word (codes "confirm") ≡ false
  pub restore : bytes_eq word (codes "restore") ≡ false
  pub opens : bytes_eq word (codes "open") ≡ false
  pub closes : bytes_eq word (codes "close") ≡ false
  pub clock : bytes_eq word (codes "clock") ≡ false

pub record IsOfWords (P : List ℕ → Type 0) : Type 0 where
  pub call : P (codes "call")
  pub gasp : P (codes "gasp")
  pub ping : P (codes "ping")
  pub powerup : P (codes "powerup")
  pub confirm : P (codes "confirm")
  pub restore : P (codes "restore")
  pub opens : P (codes "open")
  pub closes : P (codes "close")
  pub clock : P (codes "clock")
  pub other : (word : List ℕ) → IsOther word → P word

pub is_word : (P : List ℕ → Type 0) (word known : List ℕ) → P known → (bytes_eq word known ≡ false → P word) → P word
is_word P word known holds other =
    ⊎_elim
    (λ e. subst P (sym ((bytes_eq-Decides word known).0 e)) holds)
    other
    (cases_Bool (bytes_eq word known))

pub by_word : (P : List ℕ → Type 0) → IsOfWords P → (word : List ℕ) → P word
by_word P each word =
    is_word P word (codes "call") each.call (λ a.
    is_word P word (codes "gasp") each.gasp (λ b.
    is_word P word (codes "ping") each.ping (λ c.
    is_word P word (codes "powerup") each.powerup (λ d.
    is_word P word (codes "confirm") each.confirm (λ e.
    is_word P word (codes "restore") each.restore (λ f.
    is_word P word (codes "open") each.opens (λ i.
    is_word P word (codes "close") each.closes (λ j.
    is_word P word (codes "clock") each.clock (λ k.
    each.other word (record { call = a; gasp = b; ping = c; powerup = d; confirm = e; restore = f; opens = i; closes = j; clock = k }))))))))))

pub falls : (a b : Bool) → a ≡ false → b ≡ false → (a || b) ≡ false
falls true b x y = absurd (false≢true (sym x))
falls false b x y = y

pub no_word : (word : List ℕ) → IsOther word → is_event_word word ≡ false
no_word word o =
    falls (bytes_eq word (codes "call")) _ o.call
    (falls (bytes_eq word (codes "gasp")) _ o.gasp
    (falls (bytes_eq word (codes "ping")) _ o.ping
    (falls (bytes_eq word (codes "powerup")) _ o.powerup
    (falls (bytes_eq word (codes "confirm")) _ o.confirm
    (falls (bytes_eq word (codes "restore")) _ o.restore
    (falls (bytes_eq word (codes "open")) _ o.opens
    (falls (bytes_eq word (codes "close")) _ o.closes
    (falls (bytes_eq word (codes "clock")) _ o.clock refl))))))))
