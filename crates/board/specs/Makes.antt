-- The three makes of board, by their meters.
use Rattle.std.specs.Prelude.{ℕ, ◌+◌, ◌-◌, ◌/◌, ◌%◌, ◌^◌, ◌≤◌, cond, List, [], ◌∷◌, ◌++◌, length, Some, None, Option, ◌==◌}
use Rattle.board.specs.Boards.{Make, Touch, cell_of, read, write}
use Rattle.std.proofs.Common.{arith}

-- the allowance of a board that has no end
abbrev pub endless : ℕ
endless = 2 ^ 64 - 1

pub endless_lasts : endless ≤ endless + 1
endless_lasts = omega arith

-- The counting board: the touches made, modulo 2^64.
abbrev pub counting : Make ℕ
counting = record { step = λ size n a. (n + 1) % 2 ^ 64; allowed = λ size n. endless; shows = λ size n. n; lasts = λ size n a. endless_lasts }

-- The row board: the row last touched, if any, and the rows opened, modulo 2^64.
pub record Rows : Type 0 where
  pub last : Option ℕ
  pub opened : ℕ

-- cell i is in row i div 16
abbrev pub row_of : ℕ → ℕ
row_of i = i / 16

-- the rows opened after a touch of row r: one more unless it was touched last
abbrev pub opens : Option ℕ → ℕ → ℕ → ℕ
opens None n r = (n + 1) % 2 ^ 64
opens (Some k) n r = cond (k == r) n ((n + 1) % 2 ^ 64)

abbrev pub rows : Make Rows
rows = record {
  step = λ size t a. record { last = Some (row_of (cell_of a)); opened = opens t.last t.opened (row_of (cell_of a)) };
  allowed = λ size t. endless;
  shows = λ size t. t.opened;
  lasts = λ size t a. endless_lasts;
}

-- The trace board: the words so far, one a touch, and how many are still free.
pub record Words : Type 0 where
  pub written : List ℕ
  pub free : ℕ

-- a touch as a word: bits 31 and 30 are 0 for a read and 1 for a write, bits 29 to 0 are the cell
abbrev pub word_of : Touch → ℕ
word_of (read i) = i % 2 ^ 30
word_of (write i) = 2 ^ 30 + i % 2 ^ 30

pub free_lasts : (n : ℕ) → n ≤ (n - 1) + 1
free_lasts n = omega arith

abbrev pub tracing : Make Words
tracing = record {
  step = λ size t a. record { written = t.written ++ (word_of a ∷ []); free = t.free - 1 };
  allowed = λ size t. t.free;
  shows = λ size t. length t.written;
  lasts = λ size t a. free_lasts t.free;
}
