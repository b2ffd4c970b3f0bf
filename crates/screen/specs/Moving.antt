-- What a schedule asks of a board, and what is made of a call on it.
use Rattle.std.specs.Prelude.{◌≡◌, ℕ, ◌+◌, ◌<◌, ◌≤◌, List, [], ◌∷◌, length, Ok, Err, Result, slice_index_or}
use Rattle.board.specs.Boards.{Make, Touch, cell_of, moved}
use Rattle.board.specs.declared.Board.{Ghosts}
use Rattle.rule.specs.declared.table.Rule.{Rule}
use Rattle.stops.specs.Stops.{stop_number}
use Rattle.stops.specs.declared.Stop.{Stop}

-- every touch is of a cell below the size
abbrev pub Below : ℕ → List Touch → Type 0
Below size [] = Unit {0}
Below size (a ∷ more) = (cell_of a < size) × Below size more

-- a board of this size and meter has cells and allowance enough for the schedule
pub record Enough {X : Type 0} (make : Make X) (size : ℕ) (meter : X) (schedule : List Touch) : Type 0 where
  pub below : Below size schedule
  pub allowed : length schedule ≤ make.allowed size meter

-- What a movement with this schedule makes of a board: the cells are these afterwards, the meter has moved touch by touch, the
-- touches are counted, and the allowance has lasted.
pub record Moves {M X : Type 0} (make : Make X) (cells : List M) (meter : X) (schedule : List Touch) (after : List M) (cells' : List M) (meter' : X) (touches : ℕ) : Type 0 where
  pub holds : cells' ≡ after
  pub moves : meter' ≡ moved (make.step (length cells)) meter schedule
  pub counted : touches ≡ length schedule
  pub lasts : make.allowed (length cells) meter ≤ make.allowed (length cells) meter' + length schedule

-- a board lacks a cell for a position up to the last one, or else the allowance for so many touches: the stop's number
pub data Lacks (size allowance last touches : ℕ) : ℕ → Type 0 where
  a_cell : size ≤ last → Lacks size allowance last touches 18
  allowance : last < size → allowance < touches → Lacks size allowance last touches 19

module _ {M X : Type 0} (make : Make X) (cells : List M) (meter : X) (last : ℕ) (schedule : List Touch) (after : List M) (cells' : List M) (meter' : X) where
  -- the board lacks something for the schedule, and nothing has changed
  pub record NotBegun (number : ℕ) : Type 0 where
    pub lacks : Lacks (length cells) (make.allowed (length cells) meter) last (length schedule) number
    pub cells_same : cells' ≡ cells
    pub meter_same : meter' ≡ meter

  -- what is asked of a board is carried out whole, with this schedule and these cells afterwards, and then the touches are
  -- answered; or it is not begun
  abbrev pub CarriedOut : Result ℕ Stop → Type 0
  CarriedOut (Ok touches) = Enough make (length cells) meter schedule × Moves make cells meter schedule after cells' meter' touches
  CarriedOut (Err s) = NotBegun (stop_number s)

  -- the same where the mark of the last position is answered too
  abbrev pub ReadOut : Result (M × ℕ) Stop → Type 0
  ReadOut (Ok r) = (r.0 ≡ slice_index_or cells last r.0) × Enough make (length cells) meter schedule × Moves make cells meter schedule after cells' meter' r.1
  ReadOut (Err s) = NotBegun (stop_number s)

-- a board is admitted where it has a cell for each position of a rule and allows so many touches, and else it lacks something
abbrev pub Admits : {B M : Type 0} → Ghosts B M → B → Rule → ℕ → Result (Unit {0}) Stop → Type 0
Admits board b rule touches (Ok done) = (rule.last < length (board.cells b)) × (touches ≤ board.make.allowed (length (board.cells b)) (board.meter b))
Admits board b rule touches (Err s) = Lacks (length (board.cells b)) (board.make.allowed (length (board.cells b)) (board.meter b)) rule.last touches (stop_number s)

-- What a board keeps it keeps in any case.
module _ {B M : Type 0} (board : Ghosts B M) (old : B) (rule : Rule) (schedule : Rule → List Touch) (after : Rule → List M → List M) (new : B) where
  -- a call that is carried out by the rule's schedule, and makes these cells of those before, or is not begun
  pub record Call (result : Result ℕ Stop) : Type 0 where
    pub kept : board.keeps.same old new
    pub done : CarriedOut board.make (board.cells old) (board.meter old) rule.last (schedule rule) (after rule (board.cells old)) (board.cells new) (board.meter new) result

  -- the same where the mark of the last position is answered too
  pub record ReadingCall (result : Result (M × ℕ) Stop) : Type 0 where
    pub kept : board.keeps.same old new
    pub done : ReadOut board.make (board.cells old) (board.meter old) rule.last (schedule rule) (after rule (board.cells old)) (board.cells new) (board.meter new) result
