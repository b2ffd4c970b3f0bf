-- A lent slice of marks, of which a board uses the first cells.
use Rattle.std.specs.Prelude.{◌≡◌, ◌≤◌, List, length, take, drop, refl}
use Rattle.board.specs.Boards.{most_cells}
use Rattle.std.specs.Borrow.{MutBor}
use Rattle.std.proofs.Common.{length-take, ◌∙◌, arith}

-- b is the reference a: it lends the same place, which holds what it held
abbrev pub SameLoan : {T : Type 0} → MutBor T → MutBor T → Type 0
SameLoan b a = (b.ghost_name ≡ a.ghost_name) × (b.now ≡ a.now)

-- b is the reference a at a later time: it lends the same slice, which past the cells holds what it held
pub record Lent {M : Type 0} (a b : MutBor (List M)) : Type 0 where
  pub same_slice : b.ghost_name ≡ a.ghost_name
  pub beyond : drop most_cells b.now ≡ drop most_cells a.now

pub lent_still : {M : Type 0} (a : MutBor (List M)) → Lent a a
lent_still a = record { same_slice = refl; beyond = refl }

pub lent_on : {M : Type 0} {a b c : MutBor (List M)} → Lent a b → Lent b c → Lent a c
lent_on p q = record { same_slice = q.same_slice ∙ p.same_slice; beyond = q.beyond ∙ p.beyond }

pub lent_small : {M : Type 0} (xs : List M) → length (take most_cells xs) ≤ most_cells
lent_small xs = simp length-take (omega arith)
