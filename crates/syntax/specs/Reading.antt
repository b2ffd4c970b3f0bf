-- What comes next in a pattern that is read to a place.
use Rattle.std.specs.Prelude.{◌≡◌, ℕ, ◌+◌, ◌<◌, ◌≤◌, List, ◌++◌, length, drop, Some, None, Ok, Err, Option, Result}
use Rattle.syntax.specs.Spelling.{Spells, Stuck}
use Rattle.stops.specs.Stops.{stop_number}
use Rattle.syntax.specs.declared.Fault.{Fault}
use Rattle.syntax.specs.declared.PatternUnit.{PatternUnit}
use Rattle.syntax.specs.declared.Placed.{Placed}

-- from the place p on the bytes begin with the unit u, and p' is the place behind it
pub record Passed (bytes : List ℕ) (p : ℕ) (u : PatternUnit) (p' : ℕ) : Type 0 where
  pub spelling : List ℕ
  pub spells : Spells spelling u
  pub splits : drop p bytes ≡ spelling ++ drop p' bytes
  pub ends : p' ≡ p + length spelling
  pub within : p' ≤ length bytes

-- stop 2 at the place p, where the bytes begin with no unit
pub record BeginsNoUnit (bytes : List ℕ) (p : ℕ) (f : Fault) : Type 0 where
  pub inside : p < length bytes
  pub stuck : Stuck (drop p bytes)
  pub number : stop_number f.stop ≡ 2
  pub place : f.place ≡ p

-- what is answered at the place p, and the place p' that is read to afterwards
abbrev pub Next : List ℕ → ℕ → Result (Option Placed) Fault → ℕ → Type 0
Next bytes p (Ok None) p' = (length bytes ≤ p) × (p' ≡ p)
Next bytes p (Ok (Some x)) p' = (x.place ≡ p) × Passed bytes p x.unit p'
Next bytes p (Err f) p' = BeginsNoUnit bytes p f × (p' ≡ p)
