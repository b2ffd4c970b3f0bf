-- What a meter does at a touch, and what a board over a lent slice keeps that has it.
use Rattle.std.specs.Prelude.{◌≡◌, ℕ, ◌<◌, Ok, Err, Result}
use Rattle.board.specs.Boards.{Accepted, Keeps, Make, Refused, Touch, cell_of, read, write}
use Rattle.board.specs.Lent.{Lent, lent_on, lent_still}
use Rattle.board.specs.declared.metered.Metered.{Metered}
use Rattle.board.specs.declared.touch.Touch.{Touch as Told}
use Rattle.board.specs.declared.touch.Touch.TheVariants.{Read, Write}
use Rattle.stops.specs.Stops.{stop_number}
use Rattle.stops.specs.declared.Stop.{Stop}

-- the touch that the code tells a meter
abbrev pub touch_of : Told → Touch
touch_of (Read i) = read i
touch_of (Write i) = write i

-- A meter that is told a touch answers r, and is at meter' then, whatever the size of its board.
abbrev pub Moves : {X : Type 0} → Make X → X → Touch → X → Result (Unit {0}) Stop → Type 0
Moves make meter t meter' (Ok done) = (size : ℕ) → (0 < make.allowed size meter) × (meter' ≡ make.step size meter t)
Moves make meter t meter' (Err s) = (stop_number s ≡ 19) × ((size : ℕ) → make.allowed size meter ≡ 0) × (meter' ≡ meter)

-- A touch of a board of this size answers r, and leaves the meter at meter'. An admitted one answers where its cell lies.
abbrev pub Admits : {X : Type 0} → Make X → ℕ → X → Touch → X → Result ℕ Stop → Type 0
Admits make size meter t meter' (Ok at) = Accepted size (make.allowed size meter) (cell_of t) × (at ≡ cell_of t) × (meter' ≡ make.step size meter t)
Admits make size meter t meter' (Err s) = Refused size (make.allowed size meter) (cell_of t) (stop_number s) × (meter' ≡ meter)

-- a board keeps its lent slice of marks, and what its meter keeps in its memory
abbrev pub metered : {M W G : Type 0} → Keeps (W × G) → Keeps (Metered M W G)
metered keeps = record {
  same = λ a b. Lent a.marks b.marks × keeps.same (a.memory, a.meter) (b.memory, b.meter);
  still = λ a. (lent_still a.marks, keeps.still (a.memory, a.meter));
  on = λ a b c p q. (lent_on p.0 q.0, keeps.on (a.memory, a.meter) (b.memory, b.meter) (c.memory, c.meter) p.1 q.1);
}

-- what a meter keeps that has no memory
abbrev pub nothing_lent : {G : Type 0} → Keeps (Unit {0} × G)
nothing_lent = record { same = λ a b. Unit {0}; still = λ a. tt; on = λ a b c p q. tt }
