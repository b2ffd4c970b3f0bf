-- Well-formed patterns: trees, the units that they are written with, and the bytes that spell the units.
use Rattle.std.specs.Prelude.{ℕ, suc, ◌≤◌, max, List, [], ◌∷◌, ◌++◌, length}
use Rattle.language.specs.Limits.{most_groups, most_units}
use Rattle.syntax.specs.Spelling.{Spells}
use Rattle.syntax.specs.declared.Letter.{Letter}
use Rattle.syntax.specs.declared.PatternUnit.TheVariants.{Bar, Close, Open, Plain, Repeat}
use Rattle.syntax.specs.declared.PatternUnit.{PatternUnit}
use Rattle.syntax.specs.declared.Sign.{Sign}

infixr 60 ◌then◌
infixr 55 ◌or◌
-- what a tree may be: alternatives with bars between them, of branches; a branch of pieces end to end;
-- a piece of an atom, repeated or not; an atom, a letter or a group
pub data Sort : Type 0 where
  alternatives branch piece atom : Sort

pub data Tree : Sort → Type 0 where
  letter : Letter → Tree atom
  group : Tree alternatives → Tree atom
  once : Tree atom → Tree piece
  repeated : Tree atom → Sign → Tree piece
  empty : Tree branch
  ◌then◌ : Tree piece → Tree branch → Tree branch
  only : Tree branch → Tree alternatives
  ◌or◌ : Tree branch → Tree alternatives → Tree alternatives

-- the units that a tree is written with
abbrev pub units : {s : Sort} → Tree s → List PatternUnit
units (letter l) = Plain l ∷ []
units (group t) = Open ∷ (units t ++ (Close ∷ []))
units (once a) = units a
units (repeated a g) = units a ++ (Repeat g ∷ [])
units empty = []
units (x then y) = units x ++ units y
units (only b) = units b
units (b or t) = units b ++ (Bar ∷ units t)

-- how deep its groups stand inside one another
abbrev pub nesting : {s : Sort} → Tree s → ℕ
nesting (letter l) = 0
nesting (group t) = suc (nesting t)
nesting (once a) = nesting a
nesting (repeated a g) = nesting a
nesting empty = 0
nesting (x then y) = max (nesting x) (nesting y)
nesting (only b) = nesting b
nesting (b or t) = max (nesting b) (nesting t)

-- the bytes spell the units, one after another
pub data Written : List ℕ → List PatternUnit → Type 0 where
  none : Written [] []
  next : {w rest : List ℕ} {u : PatternUnit} {us : List PatternUnit} → Spells w u → Written rest us → Written (w ++ rest) (u ∷ us)

pub record WithinLimits (t : Tree alternatives) : Type 0 where
  pub few_units : length (units t) ≤ most_units
  pub few_groups : nesting t ≤ most_groups

-- the bytes are a well-formed pattern within the limits
pub record Accepted (bytes : List ℕ) : Type 0 where
  pub tree : Tree alternatives
  pub written : Written bytes (units tree)
  pub limits : WithinLimits tree
