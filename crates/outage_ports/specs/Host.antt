-- What a contract sees of the files of the host.
use Rattle.std.specs.Prelude.{ℕ, Bool}

-- whether some start has succeeded, and the count of faults
pub record HostState : Type 0 where
  pub started : Bool
  pub faults : ℕ
