-- What a make of board is, and what an access does.
use Rattle.std.specs.Prelude.{◌≡◌, ℕ, ◌+◌, ◌<◌, ◌≤◌, List, [], ◌∷◌, length, Ok, Err, Result, slice_index_or, slice_set}
use Rattle.stops.specs.Stops.{stop_number}
use Rattle.stops.specs.declared.Stop.{Stop}

-- a board has at most so many cells
abbrev pub most_cells : ℕ
most_cells = 65536

-- an accepted access, by its cell
pub data Touch : Type 0 where
  read write : ℕ → Touch

abbrev pub cell_of : Touch → ℕ
cell_of (read i) = i
cell_of (write i) = i

-- A make of board, by the values X of its meter. From the size and the old meter: the meter after a touch, the allowance,
-- and the reading. No mark enters. A touch uses up at most one of the allowance.
pub record Make (X : Type 0) : Type 0 where
  pub step : ℕ → X → Touch → X
  pub allowed : ℕ → X → ℕ
  pub shows : ℕ → X → ℕ
  pub lasts : (size : ℕ) (meter : X) (a : Touch) → allowed size meter ≤ allowed size (step size meter a) + 1

-- what a board keeps over its accesses: the memory that it is over, and what it leaves alone there
pub record Keeps (S : Type 0) : Type 1 where
  pub same : S → S → Type 0
  pub still : (x : S) → same x x
  pub on : (x y z : S) → same x y → same y z → same x z

-- an access to cell i is refused with the stop of this number
pub data Refused (size allowance i : ℕ) : ℕ → Type 0 where
  no_cell : size ≤ i → Refused size allowance i 18
  no_allowance : i < size → allowance ≡ 0 → Refused size allowance i 19

-- an access to cell i is accepted
pub record Accepted (size allowance i : ℕ) : Type 0 where
  pub inside : i < size
  pub allowed : 0 < allowance

module _ {M X : Type 0} (make : Make X) (cells : List M) (meter : X) (i : ℕ) where
  -- A read of cell i answers r, and leaves the board at cells' and meter'. An accepted one answers the mark at i, which lies
  -- inside, so that the default of slice_index_or does not matter.
  abbrev pub Reads : List M → X → Result M Stop → Type 0
  Reads cells' meter' (Ok m) =
      Accepted (length cells) (make.allowed (length cells) meter) i × (m ≡ slice_index_or cells i m) × (cells' ≡ cells) × (meter' ≡ make.step (length cells) meter (read i))
  Reads cells' meter' (Err s) = Refused (length cells) (make.allowed (length cells) meter) i (stop_number s) × (cells' ≡ cells) × (meter' ≡ meter)

  -- a write of the mark m
  abbrev pub Writes : M → List M → X → Result (Unit {0}) Stop → Type 0
  Writes m cells' meter' (Ok done) =
      Accepted (length cells) (make.allowed (length cells) meter) i × (cells' ≡ slice_set cells i m) × (meter' ≡ make.step (length cells) meter (write i))
  Writes m cells' meter' (Err s) = Refused (length cells) (make.allowed (length cells) meter) i (stop_number s) × (cells' ≡ cells) × (meter' ≡ meter)

-- the meter after touches, made in their order
abbrev pub moved : {X : Type 0} → (X → Touch → X) → X → List Touch → X
moved step meter [] = meter
moved step meter (a ∷ more) = moved step (step meter a) more
