-- Optional numbers: one that is absent is none that is there, and equal ones hold equal numbers.
use Rattle.std.proofs.Common.{◌≡◌, ℕ, Some, None, arith}

pub clash : {A : Type 0} → ◌≡◌ {A = ℕ} 0 1 → A
clash e = let z : ⊥ = omega arith in absurd z

pub never : {A : Type 0} {i : ℕ} → None ≡ Some i → A
never e = clash (cc)

pub some_same : {x y : ℕ} → Some x ≡ Some y → x ≡ y
some_same e = cc
