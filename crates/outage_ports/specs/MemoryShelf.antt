-- What a shelf in memory holds, has left and fails at.
use Rattle.std.specs.Prelude.{◌≤◌, ⊤, ◌==◌, ◌+◌, ◌&&◌, ◌||◌, not, ℕ, Bool, false, List, length, Option, None, Some, is_some, is_none, option_map, min, find, drop, string_bytes, String, Vec}
use Rattle.std.specs.List.{list_any}
use Rattle.std.specs.Option.{option_map_or}
use Rattle.std.specs.Str.{bytes_eq}
use Rattle.std.specs.Global.{Global}
use Rattle.outage_ports.specs.Bytes.{Files}

-- a file: its name and its bytes
pub record File : Type 0 where
  pub name : List ℕ
  pub bytes : List ℕ

-- a fault that is asked for: at each start of the name, or at each read that begins at a byte of it
pub record Fault : Type 0 where
  pub name : List ℕ
  pub at : Option ℕ

-- the file that was started, and the byte at which the next read begins
pub record Started : Type 0 where
  pub file : File
  pub place : ℕ

-- a shelf: at most `piece` bytes come with one read
pub record ShelfState : Type 0 where
  pub files : List File
  pub mishaps : List Fault
  pub piece : ℕ
  pub started : Option Started
  pub faults : ℕ

-- a file that is given as a text and a vector
abbrev pub file_of : String Global × Vec ℕ Global → File
file_of given = record { name = string_bytes given.0; bytes = given.1.items }

abbrev pub has_name : List ℕ → File → Bool
has_name name file = bytes_eq file.name name

-- the bytes of the first file of a name
abbrev pub file_named : List File → Files
file_named files name = option_map (λ file. file.bytes) (find (has_name name) files)

abbrev pub started_at : ℕ → File → Started
started_at place file = record { file = file; place = place }

-- the first file of the name, from its front
abbrev pub started_named : List File → List ℕ → Option Started
started_named files name = option_map (started_at 0) (find (has_name name) files)

-- n bytes further on
abbrev pub moved_by : ℕ → Started → Started
moved_by n started = started_at (started.place + n) started.file

abbrev pub bytes_left : Started → List ℕ
bytes_left started = drop started.place started.file.bytes

-- what is left of the started file
abbrev pub left_of : ShelfState → Option (List ℕ)
left_of shelf = option_map bytes_left shelf.started

-- how many bytes the next read gives to a buffer with that room
abbrev pub next_count : ShelfState → ℕ → ℕ
next_count shelf room = min (min (option_map_or length (left_of shelf) 0) room) shelf.piece

-- a fault at each start of the name
abbrev pub bars_start : List ℕ → Fault → Bool
bars_start name fault = bytes_eq fault.name name && is_none fault.at

-- a fault at each read of the name that begins at the place
abbrev pub bars_read : List ℕ → ℕ → Fault → Bool
bars_read name place fault = bytes_eq fault.name name && option_map_or (λ at. at == place) fault.at false

-- a start of the name fails
abbrev pub start_fails : ShelfState → List ℕ → Bool
start_fails shelf name = not (is_some (find (has_name name) shelf.files)) || list_any (bars_start name) shelf.mishaps

-- a read of the started file fails
abbrev pub read_fails : ShelfState → Bool
read_fails shelf = option_map_or (λ s. list_any (bars_read s.file.name s.place) shelf.mishaps) shelf.started false

-- the next read begins within the file, or at its end
abbrev pub IsWithin : Option Started → Type 0
IsWithin None = ⊤
IsWithin (Some started) = started.place ≤ length started.file.bytes
