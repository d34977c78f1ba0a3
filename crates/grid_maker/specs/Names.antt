-- The names of a network that is made: a letter, and numbers with dots between them, as T0.3.17.
use Rattle.std.specs.Prelude.{ℕ, List, [], ◌∷◌, ◌++◌, codes, decimal, map}
use Rattle.std.specs.List.{join_with_byte}

abbrev pub numbered : List ℕ → List ℕ → List ℕ
numbered letter numbers = letter ++ join_with_byte 46 (map decimal numbers)

-- the source of feeder f
unfoldable pub source_name : ℕ → List ℕ
source_name f = numbered (codes "S") (f ∷ [])

-- the breaker between it and the first place of the main line
unfoldable pub breaker_name : ℕ → List ℕ
breaker_name f = numbered (codes "B") (f ∷ [])

-- place j of the main line
unfoldable pub place_name : ℕ → ℕ → List ℕ
place_name f j = numbered (codes "N") (f ∷ j ∷ [])

-- the line to place j from the one before it
unfoldable pub line_name : ℕ → ℕ → List ℕ
line_name f j = numbered (codes "L") (f ∷ j ∷ [])

-- the fuse at place j
unfoldable pub fuse_name : ℕ → ℕ → List ℕ
fuse_name f j = numbered (codes "F") (f ∷ j ∷ [])

-- the node behind that fuse
unfoldable pub branch_name : ℕ → ℕ → List ℕ
branch_name f j = numbered (codes "P") (f ∷ j ∷ [])

-- transformer k on that branch
unfoldable pub transformer_name : ℕ → ℕ → ℕ → List ℕ
transformer_name f j k = numbered (codes "T") (f ∷ j ∷ k ∷ [])

-- the node behind that transformer
unfoldable pub service_name : ℕ → ℕ → ℕ → List ℕ
service_name f j k = numbered (codes "D") (f ∷ j ∷ k ∷ [])

-- the meter at that node
unfoldable pub meter_name : ℕ → ℕ → ℕ → List ℕ
meter_name f j k = numbered (codes "M") (f ∷ j ∷ k ∷ [])

-- the tie from feeder f to the next one
unfoldable pub tie_name : ℕ → List ℕ
tie_name f = numbered (codes "X") (f ∷ [])
