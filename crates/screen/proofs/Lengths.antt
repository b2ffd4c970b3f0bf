-- How long the schedules are.
use Rattle.std.proofs.Common.{◌≡◌, ℕ, zero, suc, ◌+◌, ◌*◌, List, [], ◌∷◌, ◌++◌, length, Option, refl, ap, mul-zero, mul-suc, arith, length-append}
use Rattle.screen.specs.Schedules.{ADroppedFrameTakesSoManyTouches, AFrameTakesSoManyTouches, beginning, feeding, feedings, finishing, placing, scanning, scans, settling, shifts, stepping, wiping, writes}
use Rattle.board.specs.Boards.{Touch, write}

pub length_writes : (m j : ℕ) → length (writes m j) ≡ m
length_writes zero j = refl
length_writes (suc m) j = ap suc (length_writes m (suc j))

length_shifts : (j : ℕ) → length (shifts j) ≡ 2 * j
length_shifts zero = refl
length_shifts (suc j) = let h = length_shifts j in omega arith

pub length_stepping : (n : ℕ) → length (stepping n) ≡ 2 * n + 1
length_stepping n = let h = length_shifts n in let a = length-append (shifts n) (write 0 ∷ []) in omega arith

module _ (first second : ℕ → Option ℕ) where
  pub length_scans : (m j : ℕ) → length (scans first second m j) ≡ 4 * m
  length_scans zero j = refl
  length_scans (suc m) j = let h = length_scans m (suc j) in omega arith

  length_settling : (n : ℕ) → length (settling first second n) ≡ 8 * n + 8
  length_settling n = let h = length_scans (suc n) 0 in let a = length-append (scanning first second n) (scanning first second n) in omega arith

  pub length_beginning : (n : ℕ) → length (beginning first second n) ≡ 9 * n + 9
  length_beginning n =
      let h = length_settling n in
      let w = length_writes (suc n) 0 in
      let a = length-append (placing n) (settling first second n) in
      omega arith

  pub length_feeding : (n : ℕ) → length (feeding first second n) ≡ 10 * n + 9
  length_feeding n =
      let h = length_settling n in
      let s = length_stepping n in
      let a = length-append (stepping n) (settling first second n) in
      omega arith

  length_feedings : (n m : ℕ) → length (feedings first second n m) ≡ 10 * (n * m) + 9 * m
  length_feedings n zero = let z = mul-zero n in omega arith
  length_feedings n (suc m) =
      let h = length_feedings n m in
      let f = length_feeding n in
      let a = length-append (feeding first second n) (feedings first second n m) in
      let p = mul-suc n m in
      omega arith

module _ (first second : ℕ → Option ℕ) (n m : ℕ) (last : List Touch) where
  -- a frame of m bytes that ends with these touches
  ended_length : length (beginning first second n ++ (feedings first second n m ++ last)) ≡ 10 * (n * m) + 9 * n + 9 * m + 9 + length last
  ended_length =
      let b = length_beginning first second n in
      let f = length_feedings first second n m in
      let a = length-append (beginning first second n) (feedings first second n m ++ last) in
      let c = length-append (feedings first second n m) last in
      omega arith

pub frame_length : AFrameTakesSoManyTouches
frame_length first second n m = let w = length_writes (suc n) 0 in let e = ended_length first second n m (finishing first second n) in omega arith

pub dropped_length : ADroppedFrameTakesSoManyTouches
dropped_length first second n m = let w = length_writes (suc n) 0 in let e = ended_length first second n m (wiping n) in omega arith
