use Rattle.std.proofs.Common.{◌≡◌, ◌==◌, ◌||◌, ℕ, take}
use Rattle.std.specs.List.{list_any}
use Rattle.restore_plan.specs.Barred.{flagged}
use Rattle.restore_plan.proofs.barring.bar_all.Given as goal

abbrev pub invariant-loop-device : goal.invariant-loop-device
invariant-loop-device l = (d : ℕ) → flagged l.barred d ≡ (flagged l.initial.barred d || list_any (λ c. c.0 == d) (take l.device-index l.devices))
