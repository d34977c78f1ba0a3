-- A text that was made is put.
use Rattle.std.proofs.Common.{◌≡◌, ℕ, refl, List, [], Option, Result, Ok, Err}
use Rattle.std.specs.Prelude.{OnOk, IfOk}
use Rattle.std.specs.Io.KnownBytes.{Appends}
use Rattle.outage_ports.specs.Bytes.{AppendsPrefix}
use Rattle.line_entries.specs.Putting.{PutsText}
use Rattle.line_entries.specs.declared.fault.PutFault.{PutFault}

-- a clause for each case holds for all of them
on_ok_all : {X T E : Type 0} (W : X → Type 0) (r : Result T E) → ((x : X) → OnOk r (W x)) → OnOk r ((x : X) → W x)
on_ok_all W (Ok v) all = all
on_ok_all W (Err e) all = tt

-- what is made in each case is made in this one
made_at : {X T E : Type 0} (items : T → List ℕ) (After : X → Type 0) (due : X → List ℕ) (made : Result T E) → IfOk made (λ text. (x : X) → After x → items text ≡ due x) → (x : X) → After x
    → IfOk made (λ text. items text ≡ due x)
made_at items After due (Ok text) is x after = is x after
made_at items After due (Err e) is x after = tt

module _ {T E V : Type 0} (items : T → List ℕ) (a b : Option (List ℕ)) (i j : ℕ) (made : Result T E) (r : Result V PutFault) (puts : (due : List ℕ) → IfOk made (λ text. items text ≡ due) → PutsText a b i j r due) where
  -- some text is due
  pub some_puts : (due : List ℕ) × PutsText a b i j r due
  some_puts = by made puts
    where
      by : (made : Result T E) → ((due : List ℕ) → IfOk made (λ text. items text ≡ due) → PutsText a b i j r due) → (due : List ℕ) × PutsText a b i j r due
      by (Ok text) puts = (items text, puts (items text) refl)
      by (Err e) puts = ([], puts [] tt)

  module _ {X : Type 0} (After : X → Type 0) (due : X → List ℕ) (is : IfOk made (λ text. (x : X) → After x → items text ≡ due x)) where
    pub made_whole : OnOk r ((x : X) → After x → Appends a b (due x))
    made_whole = on_ok_all (λ x. After x → Appends a b (due x)) r (λ x. on_ok_all (λ after. Appends a b (due x)) r (λ after. (puts (due x) (made_at items After due made is x after)).whole))

    pub made_part : (x : X) → After x → AppendsPrefix a b (due x)
    made_part x after = (puts (due x) (made_at items After due made is x after)).part
