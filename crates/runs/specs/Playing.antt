-- Calls and what they were told, as lists, and what is played of them.
use Rattle.std.specs.Prelude.{◌≡◌, ℕ, min, List, length, take, drop, map, Result}
use Rattle.board.specs.declared.Board.{Ghosts}
use Rattle.conduct.specs.Calls.{Order, Said}
use Rattle.conduct.specs.Runs.{BoardState, Run}
use Rattle.calls.specs.Told.{order, said}
use Rattle.calls.specs.declared.call.Answer.{Answer}
use Rattle.calls.specs.declared.call.Call.{Call}
use Rattle.calls.specs.declared.call.Refusal.{Refusal}
use Rattle.mark.specs.Marks.{Kind}

abbrev pub orders : List Call → List Order
orders calls = map order calls

abbrev pub told_of : {M : Type 0} → List (Result (Answer M) Refusal) → List (Said M)
told_of told = map said told

-- a board's cells and meter
abbrev pub at_rest : {M X : Type 0} → List M → X → BoardState M X
at_rest cells meter = record { cells = cells; meter = meter }

-- On boards of the make, with marks of the kind.
module _ {B M : Type 0} (board : Ghosts B M) (kind : Kind M) where
  -- The first calls were played, so many: as many as there was room for what they are told. They were a run, which took the board
  -- from one to the next. What each was told stands in `told'` in their order, the rest is as it was, and the board keeps what its
  -- make keeps.
  pub record Played (old new : B) (calls : List Call) (told told' : List (Result (Answer M) Refusal)) (count : ℕ) : Type 0 where
    pub kept : board.keeps.same old new
    pub many : count ≡ min (length calls) (length told)
    pub run : Run board.make kind (board.cells old) (board.meter old) (orders (take count calls)) (told_of (take count told')) (board.cells new) (board.meter new)
    pub rest : drop count told' ≡ drop count told
