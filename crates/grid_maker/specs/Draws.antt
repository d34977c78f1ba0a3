-- The numbers that a storm is made of, drawn one after another.
use Rattle.std.specs.Prelude.{ℕ, ◌+◌, ◌*◌, ◌/◌, ◌%◌, ◌^◌}

-- the state that a draw leaves
unfoldable pub next_state : ℕ → ℕ
next_state x = (x * 6_364_136_223_846_793_005 + 1_442_695_040_888_963_407) % 2 ^ 64

-- the number below a bound that a draw gives, by the state that it leaves
unfoldable pub drawn : ℕ → ℕ → ℕ
drawn x bound = x / 2 ^ 33 % bound
