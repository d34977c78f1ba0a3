-- The first of the rules that a line breaks.
use Rattle.std.specs.Prelude.{ℕ, Bool, List, [], ◌∷◌, slice_index_or, Option, Some, None, if◌then◌else◌}
use Rattle.std.specs.List.{list_any}
use Rattle.std.specs.Str.{bytes_eq}

-- a rule, and whether it is broken
pub data Tried (Rule : Type 0) : Type 0 where
  Where : (rule : Rule) (is_broken : Bool) → Tried Rule

-- a rule that is broken, or else what the others say
abbrev pub this_or : {Rule : Type 0} → Tried Rule → Option Rule → Option Rule
this_or (Where rule is_broken) others = if is_broken then Some rule else others

-- the first rule that is broken
abbrev pub first_broken : {Rule : Type 0} → List (Tried Rule) → Option Rule
first_broken [] = None
first_broken (rule ∷ rules) = this_or rule (first_broken rules)

-- the field of a number, from 0 on
abbrev pub field : List (List ℕ) → ℕ → List ℕ
field fields k = slice_index_or fields k []

abbrev pub is_one_of : List ℕ → List (List ℕ) → Bool
is_one_of word words = list_any (bytes_eq word) words
