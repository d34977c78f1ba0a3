-- Chains of parents.
use Rattle.std.specs.Prelude.{◌≡◌, ℕ, suc, ◌<◌, Bool, true, List, slice_index_or, Option, Some, None}
use Rattle.outage_rules.specs.Network.{Network, Cut}
use Rattle.outage_rules.specs.Certificate.{Table, has_parent, upper, cut_above}
use Rattle.bound_checker.specs.declared.chains.Above.{Above}
use Rattle.bound_checker.specs.declared.chains.Above.TheVariants.{Known, Node}

-- the node hangs from a listed one that is nearer to its source
pub record HangsFrom (g : Network) (t : Table) (n : ℕ) : Type 0 where
  pub within : t.parent n < g.devices
  pub listed : t.is_listed (upper g t n) ≡ true
  pub deeper : t.depth n ≡ suc (t.depth (upper g t n))

-- each listed node that is no source does
abbrev pub AllHang : Network → Table → Type 0
AllHang g t = (n : ℕ) → n < g.nodes → has_parent g t n ≡ true → HangsFrom g t n

-- whether a device of the cut is above the node
abbrev pub is_cut_off : Network → Table → Cut → ℕ → Bool
is_cut_off g t cut n = cut_above g t cut (t.depth n) n

-- what is known of nodes is right
abbrev pub AreRight : Network → Table → Cut → List (Option Bool) → Type 0
AreRight g t cut known = (n : ℕ) (b : Bool) → slice_index_or known n None ≡ Some b → is_cut_off g t cut n ≡ b

-- what is known at the node is right, or the node above is listed, nearer to its source, and cut off exactly where this one is
abbrev pub IsNextAbove : Network → Table → Cut → ℕ → Above → Type 0
IsNextAbove g t cut n (Known b) = is_cut_off g t cut n ≡ b
IsNextAbove g t cut n (Node up) = (up < g.nodes) × (t.depth up < t.depth n) × (is_cut_off g t cut n ≡ is_cut_off g t cut up)
