-- What a frame's movements and calls under a rule touch, and what they make of the cells.
use Rattle.std.specs.Prelude.{ℕ, List}
use Rattle.board.specs.Boards.{Touch}
use Rattle.mark.specs.Marks.{Kind}
use Rattle.method.specs.Cells.{begun, fed, placed, scanned, settled, stepped, wiped}
use Rattle.rule.specs.Words.{first_of, second_of, takes_at}
use Rattle.rule.specs.declared.table.Rule.{Rule}
use Rattle.screen.specs.Schedules.{beginning, feeding, finishing, placing, scanning, settling, stepping, wiping}

-- The schedules.
module _ (rule : Rule) where
  abbrev pub placing_of : List Touch
  placing_of = placing rule.last

  abbrev pub stepping_of : List Touch
  stepping_of = stepping rule.last

  abbrev pub wiping_of : List Touch
  wiping_of = wiping rule.last

  abbrev pub scanning_of : List Touch
  scanning_of = scanning (first_of rule.words) (second_of rule.words) rule.last

  abbrev pub settling_of : List Touch
  settling_of = settling (first_of rule.words) (second_of rule.words) rule.last

  abbrev pub beginning_of : List Touch
  beginning_of = beginning (first_of rule.words) (second_of rule.words) rule.last

  abbrev pub feeding_of : List Touch
  feeding_of = feeding (first_of rule.words) (second_of rule.words) rule.last

  abbrev pub finishing_of : List Touch
  finishing_of = finishing (first_of rule.words) (second_of rule.words) rule.last

-- The cells afterwards, from the cells before.
module _ {M : Type 0} (kind : Kind M) where
  -- where cell 0 gets this mark
  abbrev pub placed_with : M → Rule → List M → List M
  placed_with first rule cells = placed first kind.nothing rule.last cells

  abbrev pub placed_by : Rule → List M → List M
  placed_by rule cells = placed_with (kind.seed 0) rule cells

  abbrev pub wiped_by : Rule → List M → List M
  wiped_by rule cells = wiped kind.nothing rule.last cells

  abbrev pub scanned_by : Rule → List M → List M
  scanned_by rule cells = scanned kind.join kind.nothing (first_of rule.words) (second_of rule.words) rule.last cells

  abbrev pub settled_by : Rule → List M → List M
  settled_by rule cells = settled kind.join kind.nothing (first_of rule.words) (second_of rule.words) rule.last cells

  abbrev pub stepped_by : ℕ → ℕ → Rule → List M → List M
  stepped_by byte i rule cells = stepped kind.nothing (takes_at rule.words byte) (kind.seed i) rule.last cells

  abbrev pub begun_by : Rule → List M → List M
  begun_by rule cells = begun kind (first_of rule.words) (second_of rule.words) (takes_at rule.words) rule.last cells

  -- once the i-th byte of a frame is fed
  abbrev pub fed_by : ℕ → ℕ → Rule → List M → List M
  fed_by byte i rule cells = fed kind (first_of rule.words) (second_of rule.words) (takes_at rule.words) rule.last i byte cells
