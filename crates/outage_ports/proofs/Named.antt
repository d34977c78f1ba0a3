-- The first file of a name, by its index.
use Rattle.std.specs.Prelude.{◌≡◌, ℕ, List, Option, None, Some, is_some, find, position, slice_get, map, String, Vec}
use Rattle.std.specs.Global.{Global}
use Rattle.std.proofs.Common.{sym, ◌∙◌, ap, true, false, refl}
use Rattle.outage_ports.specs.MemoryShelf.{File, has_name, file_of}
use Rattle.outage_ports.proofs.Positions.{is_some-image, found_image}

-- the file at that index is the first of the name
pub record StandsAt (files : List File) (name : List ℕ) (index : ℕ) : Type 0 where
  pub file : File
  pub first : find (has_name name) files ≡ Some file
  pub there : slice_get files index ≡ Some file

some_file : {X : Type 0} (o : Option X) → true ≡ is_some o → (x : X) × (o ≡ Some x)
some_file None h = cc
some_file (Some x) h = (x, refl)

-- the same of what `position` answers at those files
pub stands_at : (files shown : List (String Global × Vec ℕ Global)) (name : List ℕ) (answer : Option ℕ) (index : ℕ) → answer ≡ Some index → answer ≡ position (λ file. has_name name (file_of file)) shown → shown ≡ files → StandsAt (map file_of files) name index
stands_at files shown name answer index is e same =
    let at : position (λ file. has_name name (file_of file)) files ≡ Some index = ap (λ all. position (λ file. has_name name (file_of file)) all) (sym same) ∙ sym e ∙ is in
    let found = some_file (find (has_name name) (map file_of files)) (is_some-image file_of (has_name name) files (Some index) at) in
    record { file = found.0; first = found.1; there = found_image file_of (has_name name) files index at ∙ found.1 }

no_file : {X : Type 0} (o : Option X) → false ≡ is_some o → o ≡ None
no_file None h = refl
no_file (Some x) h = cc

pub stands_nowhere : (files shown : List (String Global × Vec ℕ Global)) (name : List ℕ) (answer : Option ℕ) → answer ≡ None → answer ≡ position (λ file. has_name name (file_of file)) shown → shown ≡ files → find (has_name name) (map file_of files) ≡ None
stands_nowhere files shown name answer is e same =
    let at : position (λ file. has_name name (file_of file)) files ≡ None = ap (λ all. position (λ file. has_name name (file_of file)) all) (sym same) ∙ sym e ∙ is in
    no_file (find (has_name name) (map file_of files)) (is_some-image file_of (has_name name) files None at)
