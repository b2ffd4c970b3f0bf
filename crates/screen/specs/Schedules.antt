-- The schedule of each movement and of a frame: the touches, in order. Only the number of the last position and the
-- predecessors in the table enter: no mark and no byte.
use Rattle.std.specs.Prelude.{◌≡◌, ℕ, zero, suc, ◌+◌, ◌*◌, List, [], ◌∷◌, ◌++◌, length, Option}
use Rattle.board.specs.Boards.{Touch, read, write}
use Rattle.method.specs.Cells.{source}

-- m cells are written, from cell j on
abbrev pub writes : ℕ → ℕ → List Touch
writes zero j = []
writes (suc m) j = write j ∷ writes m (suc j)

-- from cell j down to cell 1: the cell before is read, and the cell written
abbrev pub shifts : ℕ → List Touch
shifts zero = []
shifts (suc j) = read j ∷ write (suc j) ∷ shifts j

-- The movements, for a rule whose last position is n.
abbrev pub placing : ℕ → List Touch
placing n = writes (suc n) 0

abbrev pub stepping : ℕ → List Touch
stepping n = shifts n ++ (write 0 ∷ [])

abbrev pub wiping : ℕ → List Touch
wiping n = writes (suc n) 0

module _ (first second : ℕ → Option ℕ) where
  -- m cells, from cell j on: each is read, then its predecessors, then it is written
  abbrev pub scans : ℕ → ℕ → List Touch
  scans zero j = []
  scans (suc m) j = read j ∷ read (source (first j) j) ∷ read (source (second j) j) ∷ write j ∷ scans m (suc j)

  abbrev pub scanning : ℕ → List Touch
  scanning n = scans (suc n) 0

  -- so many scans, one after another
  abbrev pub scannings : ℕ → ℕ → List Touch
  scannings zero n = []
  scannings (suc m) n = scannings m n ++ scanning n

  abbrev pub settling : ℕ → List Touch
  settling n = scannings 2 n

  -- The calls of a frame.
  abbrev pub beginning : ℕ → List Touch
  beginning n = placing n ++ (scanning n ++ scanning n)

  abbrev pub feeding : ℕ → List Touch
  feeding n = stepping n ++ (scanning n ++ scanning n)

  abbrev pub feedings : ℕ → ℕ → List Touch
  feedings n zero = []
  feedings n (suc m) = feeding n ++ feedings n m

  abbrev pub finishing : ℕ → List Touch
  finishing n = read n ∷ wiping n

  -- a whole frame of m bytes
  abbrev pub whole_frame : ℕ → ℕ → List Touch
  whole_frame n m = beginning n ++ (feedings n m ++ finishing n)

  -- a frame that is dropped after m bytes
  abbrev pub dropped_frame : ℕ → ℕ → List Touch
  dropped_frame n m = beginning n ++ (feedings n m ++ wiping n)

-- a finished frame of m bytes under a rule that ends at n
abbrev pub frame_touches : ℕ → ℕ → ℕ
frame_touches n m = 10 * (n * m) + 10 * n + 9 * m + 11

abbrev pub AFrameTakesSoManyTouches : Type 0
AFrameTakesSoManyTouches = (first second : ℕ → Option ℕ) (n m : ℕ) → length (whole_frame first second n m) ≡ frame_touches n m

-- a frame that is dropped after m bytes
abbrev pub dropped_touches : ℕ → ℕ → ℕ
dropped_touches n m = 10 * (n * m) + 10 * n + 9 * m + 10

abbrev pub ADroppedFrameTakesSoManyTouches : Type 0
ADroppedFrameTakesSoManyTouches = (first second : ℕ → Option ℕ) (n m : ℕ) → length (dropped_frame first second n m) ≡ dropped_touches n m
