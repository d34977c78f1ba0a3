-- What reading a file of a shelf takes, and when it stops short.
use Rattle.std.specs.Prelude.{◌≡◌, ◌⊎◌, ⊤, ℕ, List, [], ◌++◌, Option, None, Some}
use Rattle.outage_ports.specs.Bytes.{Files}
use Rattle.run_rules.specs.Files.{IsTooLong, IsWithin}
use Rattle.run_rules.specs.declared.status.Status.{Status}
use Rattle.run_rules.specs.declared.status.Status.TheVariants.{ReadFault, Limit, Memory}
use Rattle.run_rules.specs.declared.status.Which.{Which}

-- so is it where the files are told
abbrev pub WhereTold : Option Files → (Files → Type 0) → Type 0
WhereTold None says = ⊤
WhereTold (Some files) says = says files

-- these bytes of the file of that name were taken, and what is left of the shelf is the rest of it
abbrev pub Took : Option Files → Option (List ℕ) → List ℕ → List ℕ → Type 0
Took None left name taken = ⊤
Took (Some files) None name taken = ⊥
Took (Some files) (Some rest) name taken = files name ≡ Some (taken ++ rest)

-- the file of that name has these bytes, no more than it may have, and none is left
abbrev pub IsWhole : Option Files → Option (List ℕ) → List ℕ → ℕ → List ℕ → Type 0
IsWhole files left name most bytes = WhereTold files (λ told. IsWithin told name most bytes × (left ≡ Some []))

-- a read failed at this place of the file: this front of it was taken, and the rest is left
pub record FailsAt (files : Files) (name : List ℕ) (left : Option (List ℕ)) (front : List ℕ) : Type 0 where
  pub rest : List ℕ
  pub file : files name ≡ Some (front ++ rest)
  pub is_left : left ≡ Some rest

-- the file could not be started, and what was left of another one is left; or a read of it failed
abbrev pub StopsUnread : Option Files → Option (List ℕ) → Option (List ℕ) → List ℕ → Type 0
StopsUnread None before left name = ⊤
StopsUnread (Some files) before left name = (left ≡ before) ⊎ ((front : List ℕ) × FailsAt files name left front)

-- why a file was not read whole: the shelf failed, the file has more bytes than it may have, which is this limit, or memory ran out
abbrev pub IsFileStop : Option Files → Option (List ℕ) → Option (List ℕ) → List ℕ → ℕ → Which → Status → Type 0
IsFileStop files before left name most which ReadFault = StopsUnread files before left name
IsFileStop files before left name most which (Limit met) = (met ≡ which) × WhereTold files (λ told. IsTooLong told name most)
IsFileStop files before left name most which Memory = ⊤
IsFileStop files before left name most which status = ⊥
