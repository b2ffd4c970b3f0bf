-- What the mover does on its board.
use Rattle.std.specs.Prelude.{◌≡◌, ℕ, ◌+◌, true, List, length, is_ok, OnOk, Result}
use Rattle.std.specs.Borrow.{MutBor}
use Rattle.board.specs.Boards.{Reads, Touch, Writes}
use Rattle.board.specs.declared.Board.{Ghosts}
use Rattle.rule.specs.declared.table.Rule.{Rule}
use Rattle.screen.specs.Moving.{Enough, Moves}
use Rattle.screen.specs.declared.movements.Mover.{Mover}
use Rattle.stops.specs.declared.Stop.{Stop}

-- a mover over the lent board b that goes by this rule and has made no touch
pub record Starts {B : Type 0} (b : MutBor B) (rule : Rule) (m : Mover B) : Type 0 where
  pub same : m.board.ghost_name ≡ b.ghost_name
  pub lent : m.board.now ≡ b.now
  pub ruled : m.rule.now ≡ rule
  pub unmoved : m.touches ≡ 0

module _ {B M : Type 0} (board : Ghosts B M) where
  abbrev pub cells_on : Mover B → List M
  cells_on m = board.cells m.board.now

  abbrev pub meter_on : Mover B → board.Gauge
  meter_on m = board.meter m.board.now

  -- the mover is over the same board, which keeps what its make keeps, and goes by the same rule
  pub record SameBoard (old new : Mover B) : Type 0 where
    pub same : new.board.ghost_name ≡ old.board.ghost_name
    pub ruled : new.rule ≡ old.rule
    pub kept : board.keeps.same old.board.now new.board.now

  -- cell i is read, and the touch counted
  pub record ReadOf (old : Mover B) (i : ℕ) (new : Mover B) (result : Result M Stop) : Type 0 where
    pub on : SameBoard old new
    pub done : Reads board.make (cells_on old) (meter_on old) i (cells_on new) (meter_on new) result
    pub counted : OnOk result (new.touches ≡ old.touches + 1)

  -- the mark m is written to cell i, and the touch counted
  pub record WriteOf (old : Mover B) (i : ℕ) (m : M) (new : Mover B) (result : Result (Unit {0}) Stop) : Type 0 where
    pub on : SameBoard old new
    pub done : Writes board.make (cells_on old) (meter_on old) i m (cells_on new) (meter_on new) result
    pub counted : OnOk result (new.touches ≡ old.touches + 1)

  -- A movement touches the board by this schedule, makes these cells of those before, and counts its touches. A board that has
  -- enough for the schedule does not cut it short.
  pub record Movement (old : Mover B) (schedule : List Touch) (after : List M → List M) (new : Mover B) (result : Result (Unit {0}) Stop) : Type 0 where
    pub on : SameBoard old new
    pub done : OnOk result (Moves board.make (cells_on old) (meter_on old) schedule (after (cells_on old)) (cells_on new) (meter_on new) (length schedule))
    pub counted : OnOk result (new.touches ≡ old.touches + length schedule)
    pub enough : Enough board.make (length (cells_on old)) (meter_on old) schedule → is_ok result ≡ true

  -- the movement that the mover's rule gives
  abbrev pub RuledMovement : Mover B → (Rule → List Touch) → (Rule → List M → List M) → Mover B → Result (Unit {0}) Stop → Type 0
  RuledMovement old schedule after new result = Movement old (schedule old.rule.now) (after old.rule.now) new result
