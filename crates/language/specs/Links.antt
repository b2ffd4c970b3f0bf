-- Positions and links of a tree whose first unit stands at position p. Links consume no byte.
use Rattle.std.specs.Prelude.{◌≡◌, ℕ, suc, ◌+◌, ◌<◌, ◌⊎◌, ◌↔◌, Some, None, Option}
use Rattle.language.specs.Patterns.{Sort, Tree, alternatives, empty, group, letter, once, only, repeated, ◌or◌, ◌then◌}
use Rattle.syntax.specs.declared.Sign.TheVariants.{Opt, Plus, Star}
use Rattle.syntax.specs.declared.Sign.{Sign}

-- the number of positions that the units of a tree take
abbrev pub size : {s : Sort} → Tree s → ℕ
size (letter l) = 1
size (group t) = suc (suc (size t))
size (once a) = size a
size (repeated a g) = suc (size a)
size empty = 0
size (x then y) = size x + size y
size (only b) = size b
size (b or t) = suc (size b + size t)

-- a branch of t begins at k: at the first position, or at the position after a BAR
abbrev pub BranchStart : Tree alternatives → ℕ → ℕ → Type 0
BranchStart (only b) p k = k ≡ p
BranchStart (b or t) p k = (k ≡ p) ⊎ BranchStart t (suc (p + size b)) k

-- the first BAR of t, or if it has none the position after t
abbrev pub branch_end : Tree alternatives → ℕ → ℕ
branch_end (only b) p = p + size b
branch_end (b or t) p = p + size b

-- the signs that let their operand be skipped
pub data Skips : Sign → Type 0 where
  star_skips : Skips Star
  opt_skips : Skips Opt

-- and those that lead back to it
pub data Loops : Sign → Type 0 where
  star_loops : Loops Star
  plus_loops : Loops Plus

-- the links of a sign at j whose operand starts at q
pub data SignLink (g : Sign) (q j i k : ℕ) : Type 0 where
  onward : i ≡ j → k ≡ suc j → SignLink g q j i k
  skip : Skips g → i ≡ q → k ≡ j → SignLink g q j i k
  loop : Loops g → i ≡ j → k ≡ q → SignLink g q j i k

-- i links to k in the tree. Of a group: OPEN to each branch's start, the links inside, CLOSE to the next position.
-- Of bars: each BAR to the next BAR, or if there is none to the position after the last branch, where CLOSE stands.
abbrev pub Link : {s : Sort} → Tree s → ℕ → ℕ → ℕ → Type 0
Link (letter l) p i k = ⊥
Link (group t) p i k = ((i ≡ p) × BranchStart t (suc p) k) ⊎ (Link t (suc p) i k ⊎ ((i ≡ suc p + size t) × (k ≡ suc i)))
Link (once a) p i k = Link a p i k
Link (repeated a g) p i k = Link a p i k ⊎ SignLink g p (p + size a) i k
Link empty p i k = ⊥
Link (x then y) p i k = Link x p i k ⊎ Link y (p + size x) i k
Link (only b) p i k = Link b p i k
Link (b or t) p i k = Link b p i k ⊎ (((i ≡ p + size b) × (k ≡ branch_end t (suc i))) ⊎ Link t (suc (p + size b)) i k)

-- The links of a whole pattern: it stands as a group from position 0 on, whose OPEN and CLOSE are the added ones.
abbrev pub LinksOf : Tree alternatives → ℕ → ℕ → Type 0
LinksOf t i k = Link (group t) 0 i k

-- the END: it stands behind the added OPEN, the units and the added CLOSE
abbrev pub last_position : Tree alternatives → ℕ
last_position t = size (group t)

-- the predecessors of k are these: the smaller first, an only one first
pub record Predecessors (link : ℕ → ℕ → Type 0) (k : ℕ) (first second : Option ℕ) : Type 0 where
  pub all : (i : ℕ) → link i k ↔ ((first ≡ Some i) ⊎ (second ≡ Some i))
  pub rising : (i j : ℕ) → first ≡ Some i → second ≡ Some j → i < j
  pub only_first : first ≡ None → second ≡ None
