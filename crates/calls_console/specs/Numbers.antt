-- Decimal numbers.
use Rattle.std.specs.Prelude.{◌≡◌, ℕ, ◌+◌, ◌-◌, ◌*◌, ◌^◌, ◌<◌, ◌≤◌, List, [], ◌∷◌, length, slice_index}

-- the bytes of 0 to 9
abbrev pub Digit : ℕ → Type 0
Digit byte = (48 ≤ byte) × (byte ≤ 57)

-- the value of digits that stand behind a value
abbrev pub value_behind : ℕ → List ℕ → ℕ
value_behind v [] = v
value_behind v (byte ∷ more) = value_behind (10 * v + (byte - 48)) more

-- one digit or more, whose value is n, which fits so many bits
pub record Decimal (bits : ℕ) (word : List ℕ) (n : ℕ) : Type 0 where
  pub some : 0 < length word
  pub digits : (k : ℕ) → k < length word → Digit (slice_index word k)
  pub value : n ≡ value_behind 0 word
  pub fits : n < 2 ^ bits
