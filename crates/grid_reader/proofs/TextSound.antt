-- The network of a text is sound.
use Rattle.std.proofs.Common.{◌≡◌, ℕ, refl, subst, List, []}
use Rattle.std.specs.Prelude.{Option, Some, None}
use Rattle.outage_rules.specs.Loops.{first_loop}
use Rattle.grid_model.specs.Parts.{Parts}
use Rattle.grid_model.specs.Network.{network_of}
use Rattle.grid_model.specs.Sound.{IsSoundParts}
use Rattle.event_rules.specs.Lines.{lines}
use Rattle.grid_reader.specs.Network.{parts_of}
use Rattle.grid_reader.specs.Text.{Reading, Rows, Stopped, with_lines, IsGrid, unless_looped, grid_of_reading, grid_text}
use Rattle.grid_reader.proofs.Legal.{IsLegalReading, lines_are_legal}
use Rattle.grid_reader.proofs.AlmostSound.{sound_when_radial, radial_without_loop}
use Rattle.grid_reader.proofs.SoundRows.{rows_are_sound}

-- parts that are taken for a network have no loop
unlooped : (parts g : Parts) (device_lines : List ℕ) (loop : Option ℕ) → unless_looped parts device_lines loop ≡ IsGrid g → (loop ≡ None) × (parts ≡ g)
unlooped parts g device_lines (Some d) e = absurd (cc)
unlooped parts g device_lines None e = (refl, cc)

-- the network of a legal reading is sound
reading_is_sound : (reading : Reading) (g : Parts) → IsLegalReading reading → grid_of_reading reading ≡ IsGrid g → IsSoundParts g
reading_is_sound (Rows rows device_lines next) g h e =
    let none = unlooped (parts_of rows) g device_lines (first_loop (network_of (parts_of rows))) e in
    let sound = rows_are_sound rows h.0 in
    subst IsSoundParts none.1 (sound_when_radial (parts_of rows) sound (radial_without_loop (parts_of rows) sound none.0))
reading_is_sound (Stopped line rule) g h e = absurd (cc)

pub text_sound : (text : List ℕ) (g : Parts) → grid_text text ≡ IsGrid g → IsSoundParts g
unfolding grid_text
text_sound text g e = reading_is_sound (with_lines (Rows [] [] 1) (lines text)) g (lines_are_legal (Rows [] [] 1) (lines text) (tt, refl)) e
