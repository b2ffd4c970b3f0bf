-- What the movements of a frame do to the cells, as plain functions of the cells before.
use Rattle.std.specs.Prelude.{ℕ, zero, suc, Bool, cond, List, [], ◌∷◌, Some, None, Option, slice_index_or, slice_set}
use Rattle.mark.specs.Marks.{Kind}

-- the cell that a scan at j reads for a predecessor: j itself if it is absent
abbrev pub source : Option ℕ → ℕ → ℕ
source None j = j
source (Some i) j = i

-- m cells, from cell j on, each hold the mark of their number
unfoldable pub filled : {M : Type 0} → (ℕ → M) → ℕ → ℕ → List M → List M
filled mark zero j cells = cells
filled mark (suc m) j cells = filled mark m (suc j) (slice_set cells j (mark j))

-- the first marks of a frame: seed(0) in cell 0, nothing in the others
abbrev pub first_mark : {M : Type 0} → M → M → ℕ → M
first_mark seed nothing zero = seed
first_mark seed nothing (suc j) = nothing

module _ {M : Type 0} (join : M → M → M) (nothing : M) (first second : ℕ → Option ℕ) where
  -- cell j becomes the join of itself and of its two predecessors
  unfoldable pub joined_at : List M → ℕ → List M
  joined_at cells j = slice_set cells j (join (join (slice_index_or cells j nothing) (slice_index_or cells (source (first j) j) nothing)) (slice_index_or cells (source (second j) j) nothing))

  -- m cells, from cell j on, one after another
  unfoldable pub scan_from : ℕ → ℕ → List M → List M
  scan_from zero j cells = cells
  scan_from (suc m) j cells = scan_from m (suc j) (joined_at cells j)

module _ {M : Type 0} (nothing : M) (takes : ℕ → Bool) where
  -- what comes over position j from the mark at it: that mark if the position takes the byte, else nothing
  abbrev pub across : ℕ → M → M
  across j mark = cond (takes j) mark nothing

-- The byte step, where the mark that comes over a position may be another than the one there.
module _ {M : Type 0} (nothing : M) (over : ℕ → M → M) where
  -- from cell j down to cell 1: each becomes what comes over the position before it from the mark there
  unfoldable pub shift_over : ℕ → List M → List M
  shift_over zero cells = cells
  shift_over (suc j) cells = shift_over j (slice_set cells (suc j) (over j (slice_index_or cells j nothing)))

  -- and with seed(bytes fed) put into cell 0
  abbrev pub stepped_over : M → ℕ → List M → List M
  stepped_over seed n cells = slice_set (shift_over n cells) 0 seed

-- The movements, for a rule whose last position is n.
abbrev pub placed : {M : Type 0} → M → M → ℕ → List M → List M
placed seed nothing n cells = filled (first_mark seed nothing) (suc n) 0 cells

abbrev pub scanned : {M : Type 0} → (M → M → M) → M → (ℕ → Option ℕ) → (ℕ → Option ℕ) → ℕ → List M → List M
scanned join nothing first second n cells = scan_from join nothing first second (suc n) 0 cells

-- so many scans, one after another
abbrev pub scanned_times : {M : Type 0} → (M → M → M) → M → (ℕ → Option ℕ) → (ℕ → Option ℕ) → ℕ → ℕ → List M → List M
scanned_times join nothing first second n zero cells = cells
scanned_times join nothing first second n (suc m) cells = scanned join nothing first second n (scanned_times join nothing first second n m cells)

abbrev pub settled : {M : Type 0} → (M → M → M) → M → (ℕ → Option ℕ) → (ℕ → Option ℕ) → ℕ → List M → List M
settled join nothing first second n cells = scanned_times join nothing first second n 2 cells

-- the byte step where a mark comes over as it is, or does not
abbrev pub stepped : {M : Type 0} → M → (ℕ → Bool) → M → ℕ → List M → List M
stepped nothing takes seed n cells = stepped_over nothing (across nothing takes) seed n cells

abbrev pub wiped : {M : Type 0} → M → ℕ → List M → List M
wiped nothing n cells = filled (λ j. nothing) (suc n) 0 cells

-- A frame, for tables that say which positions link to each one (first, second), and which bytes each takes.
module _ {M : Type 0} (kind : Kind M) (first second : ℕ → Option ℕ) (takes : ℕ → ℕ → Bool) (n : ℕ) where
  -- the cells once it has begun
  unfoldable pub begun : List M → List M
  begun cells = settled kind.join kind.nothing first second n (placed (kind.seed 0) kind.nothing n cells)

  -- the cells once its i-th byte, c, is fed
  unfoldable pub fed : ℕ → ℕ → List M → List M
  fed i c cells = settled kind.join kind.nothing first second n (stepped_over kind.nothing (across kind.nothing (takes c)) (kind.seed i) n cells)

  -- the bytes are fed one by one, where i were fed before
  unfoldable pub fed_all : ℕ → List ℕ → List M → List M
  fed_all i [] cells = cells
  fed_all i (c ∷ w) cells = fed_all (suc i) w (fed (suc i) c cells)

  -- the cells after the bytes w
  unfoldable pub cells_after : List ℕ → List M → List M
  cells_after w cells = fed_all 0 w (begun cells)
