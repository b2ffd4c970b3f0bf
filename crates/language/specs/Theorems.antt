-- The theorems on patterns that public functions' contracts name.
use Rattle.std.specs.Prelude.{◌≡◌, ℕ, ◌<◌, ◌⊎◌, ◌↔◌, List, [], ◌∷◌, length, Option}
use Rattle.language.specs.Answers.{OneAnswer}
use Rattle.language.specs.Links.{LinksOf, Predecessors, size}
use Rattle.language.specs.Patterns.{Tree, alternatives, branch, empty, group, letter, only, units, ◌or◌}
use Rattle.language.specs.Words.{Words}
use Rattle.syntax.specs.declared.Letter.TheVariants.{Any}

abbrev pub EachPatternHasOneAnswer : Type 0
EachPatternHasOneAnswer = (bytes : List ℕ) → OneAnswer bytes

-- two trees written with the same units are the same tree
abbrev pub UnitsTellTheTree : Type 0
UnitsTellTheTree = (t r : Tree alternatives) → units t ≡ units r → t ≡ r

abbrev pub EachUnitHasAPosition : Type 0
EachUnitHasAPosition = (t : Tree alternatives) → length (units t) ≡ size t

-- of any three links into a position two come from the same position
abbrev pub AtMostTwoLinksComeIn : Type 0
AtMostTwoLinksComeIn = (t : Tree alternatives) (k h i j : ℕ) → LinksOf t h k → LinksOf t i k → LinksOf t j k → (h ≡ i) ⊎ ((h ≡ j) ⊎ (i ≡ j))

-- each position has its predecessors, the smaller first, and only those
pub record PredecessorsAreSettled : Type 0 where
  pub some : (t : Tree alternatives) (k : ℕ) → (a : Option ℕ) × (b : Option ℕ) × Predecessors (LinksOf t) k a b
  pub same : (t : Tree alternatives) (k : ℕ) (a b c d : Option ℕ) → Predecessors (LinksOf t) k a b → Predecessors (LinksOf t) k c d → (a ≡ c) × (b ≡ d)

-- the empty pattern, an empty group and an empty alternative stand for the empty string; a period takes each byte
pub record EmptyFormsAndThePeriod : Type 0 where
  pub empty_pattern : (w : List ℕ) → Words (only empty) w ↔ (w ≡ [])
  pub empty_group : (w : List ℕ) → Words (group (only empty)) w ↔ (w ≡ [])
  pub empty_first : (t : Tree alternatives) (w : List ℕ) → Words (empty or t) w ↔ ((w ≡ []) ⊎ Words t w)
  pub empty_last : (b : Tree branch) (w : List ℕ) → Words (b or only empty) w ↔ (Words b w ⊎ (w ≡ []))
  pub period : (c : ℕ) → Words (letter Any) (c ∷ []) ↔ (c < 256)
