-- What an output in memory holds and fails at.
use Rattle.std.specs.Prelude.{ℕ, Bool, List, ◌==◌, ◌||◌, ◌+◌, ◌-◌, ◌^◌, min, length, nat_le}
use Rattle.std.specs.List.{list_any}

-- an output: at most `piece` bytes are taken by one write, and `room` in all; `calls` numbers the next call, a write or a flush
pub record SinkState : Type 0 where
  pub bytes : List ℕ
  pub failing : List ℕ
  pub piece : ℕ
  pub room : ℕ
  pub calls : ℕ
  pub faults : ℕ

-- the next call is one of those that fail
abbrev pub call_fails : SinkState → Bool
call_fails sink = list_any (λ n. n == sink.calls) sink.failing

-- no room is left
abbrev pub is_full : SinkState → Bool
is_full sink = nat_le sink.room (length sink.bytes)

-- the next write fails
abbrev pub write_fails : SinkState → Bool
write_fails sink = call_fails sink || is_full sink

-- how many bytes of a piece of that length the next write takes
abbrev pub next_count : SinkState → ℕ → ℕ
next_count sink n = min (min n sink.piece) (sink.room - length sink.bytes)

-- the number of the call after the next: it stays at its last value
abbrev pub next_call : ℕ → ℕ
next_call call = min (call + 1) (2 ^ 64 - 1)
