-- The text of a storm that is made, over a network of n feeders.
use Rattle.std.specs.Prelude.{ℕ, zero, suc, ◌+◌, ◌*◌, List, ◌∷◌}
use Rattle.event_rules.specs.Rows.{row}
use Rattle.event_rules.specs.Stamps.{day_number}
use Rattle.history_rules.specs.StampTexts.{stamp_text}
use Rattle.grid_maker.specs.Draws.{next_state, drawn}
use Rattle.grid_maker.specs.Happenings.{happening, happening_words}
use Rattle.grid_maker.specs.NetworkText.{each}

-- the second of 2024-01-01T00:00:00Z
unfoldable pub first_second : ℕ
first_second = day_number 2024 1 1 * 86400

-- the second of line i
unfoldable pub second_of : ℕ → ℕ
second_of i = first_second + 7 * i

-- line i, by the feeder, the place, the transformer and the number below 100 that it draws
unfoldable pub event_row : ℕ → ℕ → ℕ → ℕ → ℕ → ℕ → List ℕ
event_row n i f j k r = row (stamp_text (second_of i) ∷ happening_words f j k (happening n f k r))

-- the state before line i: at first it is n, and each line draws four numbers
unfoldable pub state_before : ℕ → ℕ → ℕ
state_before n zero = n
state_before n (suc i) = next_state (next_state (next_state (next_state (state_before n i))))

-- line i, by the state before it
unfoldable pub event_after : ℕ → ℕ → ℕ → List ℕ
event_after n i x =
    event_row n i
    (drawn (next_state x) n)
    (drawn (next_state (next_state x)) 50)
    (drawn (next_state (next_state (next_state x))) 20)
    (drawn (next_state (next_state (next_state (next_state x)))) 100)

-- line i
unfoldable pub event_line : ℕ → ℕ → List ℕ
event_line n i = event_after n i (state_before n i)

-- ten thousand lines for each feeder
unfoldable pub event_text : ℕ → List ℕ
event_text n = each (event_line n) 0 (10_000 * n)
