-- The rule table of a pattern.
use Rattle.std.specs.Prelude.{◌≡◌, ℕ, ◌+◌, ◌<◌, ◌≤◌, List, length, Option, slice_index, slice_index_or}
use Rattle.language.specs.Links.{LinksOf, Predecessors}
use Rattle.language.specs.Patterns.{Accepted, Tree, alternatives, group, units}
use Rattle.rule.specs.Words.{Says, byte_of, kind_of}
use Rattle.rule.specs.declared.word.Kind.TheVariants.{End}
use Rattle.rule.specs.declared.word.Kind.{Kind}
use Rattle.syntax.specs.declared.PatternUnit.TheVariants.{Close}
use Rattle.syntax.specs.declared.PatternUnit.{PatternUnit}

-- the word at position j says this kind and byte, and the positions that link to j
pub record WordAt (link : ℕ → ℕ → Type 0) (j : ℕ) (kind : Kind) (byte word : ℕ) : Type 0 where
  pub first : Option ℕ
  pub second : Option ℕ
  pub says : Says word kind byte first second
  pub predecessors : Predecessors link j first second

-- the words of the units us, one a position, and of the END behind them at n
pub record WordsOf (link : ℕ → ℕ → Type 0) (us : List PatternUnit) (n : ℕ) (words : List ℕ) : Type 0 where
  pub last : n ≡ length us
  pub units : (j : ℕ) → j < n → WordAt link j (kind_of (slice_index_or us j Close)) (byte_of (slice_index_or us j Close)) (slice_index words j)
  pub end : WordAt link n End 0 (slice_index words n)

-- The words up to n are the table of the pattern t. Its units stand between the added OPEN and CLOSE, as a group's do.
pub record TableOf (t : Tree alternatives) (n : ℕ) (words : List ℕ) : Type 0 where
  pub last : n ≡ length (units t) + 2
  pub words_of : WordsOf (LinksOf t) (units (group t)) n words

-- the bytes are a pattern, and the words up to n its rule table
pub record RuleOf (bytes : List ℕ) (n : ℕ) (words : List ℕ) : Type 0 where
  pub accepted : Accepted bytes
  pub table : TableOf accepted.tree n words

-- the words up to n are the rule table of some pattern
abbrev pub Ruled : ℕ → List ℕ → Type 0
Ruled n words = ∥ ((bytes : List ℕ) × RuleOf bytes n words) ∥₁

-- all tables of a pattern end at one position, and have the same words up to it
abbrev pub EachPatternHasOneTable : Type 0
EachPatternHasOneTable =
    (bytes : List ℕ) (n m : ℕ) (words others : List ℕ) → RuleOf bytes n words → RuleOf bytes m others →
    (n ≡ m) × ((j : ℕ) → j ≤ n → slice_index words j ≡ slice_index others j)
