-- The theorems on movements that public functions' contracts name.
use Rattle.std.specs.Prelude.{◌≡◌, ℕ, ◌<◌, Bool, List, length, Option, slice_index_or}
use Rattle.method.specs.Cells.{across, placed, scanned, stepped, stepped_over, wiped}

-- there are as many cells as before, and those above n hold what they held
pub record LeavesOthers {M : Type 0} (n : ℕ) (before after : List M) : Type 0 where
  pub long : length after ≡ length before
  pub others : (j : ℕ) (default : M) → n < j → slice_index_or after j default ≡ slice_index_or before j default

pub record MovementsLeaveOtherCells (M : Type 0) : Type 0 where
  pub placing : (seed nothing : M) (n : ℕ) (cells : List M) → LeavesOthers n cells (placed seed nothing n cells)
  pub scanning : (join : M → M → M) (nothing : M) (first second : ℕ → Option ℕ) (n : ℕ) (cells : List M) → LeavesOthers n cells (scanned join nothing first second n cells)
  pub stepping : (nothing : M) (takes : ℕ → Bool) (seed : M) (n : ℕ) (cells : List M) → LeavesOthers n cells (stepped nothing takes seed n cells)
  pub wiping : (nothing : M) (n : ℕ) (cells : List M) → LeavesOthers n cells (wiped nothing n cells)

-- a byte step in which marks may change as they come over
abbrev pub ChangingByteStepLeavesOtherCells : Type 0 → Type 0
ChangingByteStepLeavesOtherCells M = (nothing : M) (over : ℕ → M → M) (seed : M) (n : ℕ) (cells : List M) → LeavesOthers n cells (stepped_over nothing over seed n cells)

-- where no mark changes as it comes over, the two byte steps leave the same cells
abbrev pub ByteStepsAgree : Type 0 → Type 0
ByteStepsAgree M = (nothing : M) (takes : ℕ → Bool) (seed : M) (n : ℕ) (cells : List M) → stepped nothing takes seed n cells ≡ stepped_over nothing (across nothing takes) seed n cells
