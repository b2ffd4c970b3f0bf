-- What reads without a fault from the left, and the fault of what does not.
use Rattle.std.specs.Prelude.{◌≡◌, ℕ, ◌<◌, List, [], ◌∷◌, ◌++◌, length}
use Rattle.language.specs.Limits.{most_groups, most_units}
use Rattle.syntax.specs.Spelling.{Spells, Stuck}
use Rattle.syntax.specs.declared.Letter.{Letter}
use Rattle.syntax.specs.declared.PatternUnit.TheVariants.{Bar, Close, Open, Plain, Repeat}
use Rattle.syntax.specs.declared.PatternUnit.{PatternUnit}
use Rattle.syntax.specs.declared.Sign.{Sign}

-- what stands before a unit: nothing, `(` or `|`; a letter or a group; a repeat sign
pub data Before : Type 0 where
  start operand sign : Before

-- A unit may stand at the place p after x, inside the groups that were opened at the places os, the innermost first;
-- after it x' stands before the next unit, and the groups opened at os' are open.
pub data Goes (p : ℕ) : PatternUnit → List ℕ → Before → List ℕ → Before → Type 0 where
  a_letter : {l : Letter} {os : List ℕ} {x : Before} → Goes p (Plain l) os x os operand
  a_bar : {os : List ℕ} {x : Before} → Goes p Bar os x os start
  an_open : {os : List ℕ} {x : Before} → length os < most_groups → Goes p Open os x (p ∷ os) start
  a_close : {o : ℕ} {os : List ℕ} {x : Before} → Goes p Close (o ∷ os) x os operand
  a_sign : {g : Sign} {os : List ℕ} → Goes p (Repeat g) os operand os sign

-- a unit may not stand there, for the stop of this number
pub data Refused : PatternUnit → List ℕ → Before → ℕ → Type 0 where
  nothing_open : {x : Before} → Refused Close [] x 3
  no_operand : {g : Sign} {os : List ℕ} → Refused (Repeat g) os start 5
  sign_after_sign : {g : Sign} {os : List ℕ} → Refused (Repeat g) os sign 6
  too_deep : {os : List ℕ} {x : Before} → length os ≡ most_groups → Refused Open os x 7

-- the bytes spell the units us, without a fault up to there; the groups opened at os are open, and x stands last
pub data Reads : List ℕ → List PatternUnit → List ℕ → Before → Type 0 where
  nothing : Reads [] [] [] start
  more : {bytes w : List ℕ} {us : List PatternUnit} {u : PatternUnit} {os os' : List ℕ} {x x' : Before}
      → Reads bytes us os x → length us < most_units → Spells w u → Goes (length bytes) u os x os' x'
      → Reads (bytes ++ w) (us ++ (u ∷ [])) os' x'

-- The pattern has the fault of this number at this place.
pub data Faulty : List ℕ → ℕ → ℕ → Type 0 where
  -- a byte follows as many units as a pattern may have
  too_long : {bytes : List ℕ} {us : List PatternUnit} {os : List ℕ} {x : Before} (c : ℕ) (rest : List ℕ)
      → Reads bytes us os x → length us ≡ most_units → Faulty (bytes ++ (c ∷ rest)) 1 (length bytes)
  -- the bytes begin with no unit
  no_unit : {bytes rest : List ℕ} {us : List PatternUnit} {os : List ℕ} {x : Before}
      → Reads bytes us os x → length us < most_units → Stuck rest → Faulty (bytes ++ rest) 2 (length bytes)
  -- the next unit may not stand there
  refused : {bytes w : List ℕ} {us : List PatternUnit} {u : PatternUnit} {os : List ℕ} {x : Before} {n : ℕ} (rest : List ℕ)
      → Reads bytes us os x → length us < most_units → Spells w u → Refused u os x n → Faulty (bytes ++ (w ++ rest)) n (length bytes)
  -- the pattern ends with a group open, the innermost of them opened at o
  left_open : {bytes : List ℕ} {us : List PatternUnit} {o : ℕ} {os : List ℕ} {x : Before} → Reads bytes us (o ∷ os) x → Faulty bytes 4 o
