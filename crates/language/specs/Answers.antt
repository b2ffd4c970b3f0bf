-- Each pattern is accepted or has one fault.
use Rattle.std.specs.Prelude.{◌≡◌, ℕ, ◌⊎◌, List}
use Rattle.language.specs.Faults.{Faulty}
use Rattle.language.specs.Patterns.{Accepted}

pub record OneAnswer (bytes : List ℕ) : Type 0 where
  pub answered : Accepted bytes ⊎ ((n : ℕ) × (p : ℕ) × Faulty bytes n p)
  pub not_both : Accepted bytes → (n p : ℕ) → Faulty bytes n p → ⊥
  pub one_fault : (n p m q : ℕ) → Faulty bytes n p → Faulty bytes m q → (n ≡ m) × (p ≡ q)
  pub one_tree : (a b : Accepted bytes) → a.tree ≡ b.tree

-- the pattern has no fault
abbrev pub NoFault : List ℕ → Type 0
NoFault bytes = (n p : ℕ) → Faulty bytes n p → ⊥

-- the pattern is not accepted, and has no other fault than this
pub record OnlyFault (bytes : List ℕ) (n p : ℕ) : Type 0 where
  pub not_accepted : Accepted bytes → ⊥
  pub no_other : (m q : ℕ) → Faulty bytes m q → (m ≡ n) × (q ≡ p)
