-- What verdicts mean.
use Rattle.std.specs.Prelude.{◌≡◌, ℕ, ◌<◌, ◌≤◌, ◌↔◌, List, length, drop, Some, None}
use Rattle.language.specs.Patterns.{Tree, alternatives}
use Rattle.language.specs.Words.{Words}
use Rattle.mark.specs.Joins.{JoinOf}
use Rattle.mark.specs.Marks.{Kind}
use Rattle.mark.specs.Tail.{Tail}
use Rattle.mark.specs.declared.start.Start.{Start}
use Rattle.mark.specs.declared.yes_no.YesNo.TheVariants as yes_no
use Rattle.mark.specs.declared.yes_no.YesNo.{YesNo}

-- a place in the frame w from which on it belongs to the language of t
pub record Belongs (t : Tree alternatives) (w : List ℕ) : Type 0 where
  pub place : ℕ
  pub within : place ≤ length w
  pub word : Words t (drop place w)

-- The mark is the verdict on the frame w: the join of seed(p) over each place p from which on it belongs.
abbrev pub Verdict : {M : Type 0} → Kind M → Tree alternatives → List ℕ → M → Type 0
Verdict kind t w mark = JoinOf kind.join kind.nothing (λ (a : Belongs t w). kind.seed a.place) mark

-- yes exactly when all of the frame belongs, nothing exactly when it does not
pub record SaysYesOrNo (t : Tree alternatives) (w : List ℕ) (mark : YesNo) : Type 0 where
  pub yes : (mark ≡ yes_no.Yes) ↔ Words t w
  pub nothing : (mark ≡ yes_no.Nothing) ↔ ¬ Words t w

-- p is the smallest start from which on the frame belongs
pub record SmallestStart (t : Tree alternatives) (w : List ℕ) (p : ℕ) : Type 0 where
  pub within : p ≤ length w
  pub word : Words t (drop p w)
  pub none_before : (q : ℕ) → q < p → ¬ Words t (drop q w)

-- a start exactly when it is the smallest from which on the frame belongs, nothing exactly when there is none
pub record SaysTheTail (t : Tree alternatives) (w : List ℕ) (mark : Tail) : Type 0 where
  pub start : (p : ℕ) → ((s : Start) × (mark ≡ Some s) × (s.place ≡ p)) ↔ SmallestStart t w p
  pub nothing : (mark ≡ None) ↔ ((p : ℕ) → p ≤ length w → ¬ Words t (drop p w))
