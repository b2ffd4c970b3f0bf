-- A table that has grown so far: how its words stand to the units read.
use Rattle.std.specs.Prelude.{◌≡◌, ℕ, ◌<◌, ◌≤◌, ◌⊎◌, ◌↔◌, List, [], ◌∷◌, ◌++◌, length, Some, None, Option, ◌≢◌, slice_index, slice_index_or}
use Rattle.language.specs.Faults.{Before, operand, sign, start}
use Rattle.language.specs.LeftToRight.{Linked, OpenGroup}
use Rattle.language.specs.Links.{Predecessors}
use Rattle.rule.specs.Words.{Says, Under, byte_of, kind_of}
use Rattle.syntax.specs.declared.PatternUnit.TheVariants.{Close}
use Rattle.syntax.specs.declared.PatternUnit.{PatternUnit}

-- the links among the units so far
abbrev pub Sofar : List PatternUnit → ℕ → ℕ → Type 0
Sofar us i k = Linked [] 0 0 us i k

-- the word at j is that of its unit, with its predecessors so far
pub record Laid (us : List PatternUnit) (words : List ℕ) (j : ℕ) : Type 0 where
  pub first : Option ℕ
  pub second : Option ℕ
  pub says : Says (slice_index words j) (kind_of (slice_index_or us j Close)) (byte_of (slice_index_or us j Close)) first second
  pub predecessors : Predecessors (Sofar us) j first second

-- one predecessor so far at most
abbrev pub Single : List PatternUnit → ℕ → Type 0
Single us j = (a : Option ℕ) × Predecessors (Sofar us) j a None

-- the open groups: each inside the next, its BARs behind it, and nothing leads back to it yet
abbrev pub Nested : List PatternUnit → List OpenGroup → ℕ → ℕ → Type 0
Nested us [] B p = Unit {0}
Nested us (f ∷ gs) B p = (f.opened < B) × Under f.last p × Single us f.opened × Nested us gs f.opened p

abbrev pub Inside : List OpenGroup → ℕ → Type 0
Inside [] q = Unit {0}
Inside (f ∷ gs) q = f.opened < q

-- the two are not the same position
abbrev pub Apart : Option ℕ → Option ℕ → Type 0
Apart a b = (i : ℕ) → a ≡ Some i → b ≢ Some i

abbrev pub ApartLast : Option ℕ → List OpenGroup → Type 0
ApartLast a [] = Unit {0}
ApartLast a (f ∷ gs) = Apart a f.last

-- an operand starts at q
pub record Starts (us : List PatternUnit) (gs : List OpenGroup) (q p : ℕ) (front : Option ℕ) : Type 0 where
  pub before : q < p
  pub single : Single us q
  pub apart : Apart front (Some q)
  pub inside : Inside gs q

abbrev pub Operand : List PatternUnit → List OpenGroup → ℕ → ℕ → Option ℕ → Before → Type 0
Operand us gs q p front start = Unit {0}
Operand us gs q p front operand = Starts us gs q p front
Operand us gs q p front sign = Unit {0}

-- the units us, the added OPEN among them, have words up to p, where the groups gs are open and front leads to p
pub record Grown (us : List PatternUnit) (words : List ℕ) (gs : List OpenGroup) (q p : ℕ) (front : Option ℕ) (x : Before) : Type 0 where
  pub count : length us ≡ p
  pub splits : (rest : List PatternUnit) (i k : ℕ) → Linked [] 0 0 (us ++ rest) i k ↔ (Sofar us i k ⊎ Linked gs q p rest i k)
  pub low : (i k : ℕ) → Sofar us i k → (i < p) × (k ≤ p)
  pub laid : (j : ℕ) → j < p → Laid us words j
  pub ahead : Predecessors (Sofar us) p front None
  pub nested : Nested us gs p p
  pub apart : ApartLast front gs
  pub repeats : Operand us gs q p front x
