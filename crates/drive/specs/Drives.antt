-- What accesses leave on a board.
use Rattle.std.specs.Prelude.{◌≡◌, ℕ, Bool, cond, ◌&&◌, List, [], ◌∷◌, length, ◌++◌, take, drop, None, Ok, Err, Result, nat_lt, slice_set}
use Rattle.board.specs.Boards.{Make, Reads, Touch, Writes, most_cells, read, write}
use Rattle.board.specs.declared.Board.{Ghosts}
use Rattle.board.specs.Makes.{Rows, Words, counting, rows, tracing}
use Rattle.drive.specs.declared.Access.TheVariants.{Read, Write}
use Rattle.drive.specs.declared.Access.{Access}
use Rattle.stops.specs.declared.Stop.{Stop}

-- what a board is at a time: its cells and its meter
pub record State (M X : Type 0) : Type 0 where
  pub cells : List M
  pub meter : X

abbrev pub state : {M X : Type 0} → List M → X → State M X
state cells meter = record { cells = cells; meter = meter }

module _ {M X : Type 0} (make : Make X) where
  -- whether the cell is inside and the allowance is not 0
  abbrev pub accepts : State M X → ℕ → Bool
  accepts s i = nat_lt i (length s.cells) && nat_lt 0 (make.allowed (length s.cells) s.meter)

  abbrev pub moves : State M X → Touch → X
  moves s t = make.step (length s.cells) s.meter t

  -- the board after one access: a refused one changes nothing
  abbrev pub after_one : State M X → Access M → State M X
  after_one s (Read i) = cond (accepts s i) (state s.cells (moves s (read i))) s
  after_one s (Write i m) = cond (accepts s i) (state (slice_set s.cells i m) (moves s (write i))) s

  -- the board after accesses in their order
  abbrev pub after : State M X → List (Access M) → State M X
  after s [] = s
  after s (a ∷ more) = after (after_one s a) more

  module _ (cells : List M) (meter : X) where
    -- an access answers r, and leaves the board at cells' and meter'; a write answers the mark written
    abbrev pub Touches : Access M → List M → X → Result M Stop → Type 0
    Touches (Read i) cells' meter' r = Reads make cells meter i cells' meter' r
    Touches (Write i m) cells' meter' (Ok x) = (x ≡ m) × Writes make cells meter i m cells' meter' (Ok tt)
    Touches (Write i m) cells' meter' (Err s) = Writes make cells meter i m cells' meter' (Err s)

-- what a board is by its make
abbrev pub state_of : {B M : Type 0} (board : Ghosts B M) → B → State M board.Gauge
state_of board b = state (board.cells b) (board.meter b)

-- the accesses take a board from one to the next, which keeps what its make keeps
pub record Driven {B M : Type 0} (board : Ghosts B M) (old new : B) (accesses : List (Access M)) : Type 0 where
  pub kept : board.keeps.same old new
  pub done : state_of board new ≡ after board.make (state_of board old) accesses

-- what a board in this state leaves in the slice of marks that it was lent
abbrev pub left_in : {M X : Type 0} → List M → State M X → List M
left_in marks s = s.cells ++ drop most_cells marks

-- a new board of each make over a slice of marks, after accesses
abbrev pub counted : {M : Type 0} → List M → List (Access M) → State M ℕ
counted marks accesses = after counting (state (take most_cells marks) 0) accesses

abbrev pub rowed : {M : Type 0} → List M → List (Access M) → State M Rows
rowed marks accesses = after rows (state (take most_cells marks) (record { last = None; opened = 0 })) accesses

-- the trace board has as many free words as its slice of words is long
abbrev pub traced : {M : Type 0} → List M → ℕ → List (Access M) → State M Words
traced marks room accesses = after tracing (state (take most_cells marks) (record { written = []; free = room })) accesses
