-- Where the links and moves of a tree at p stay.
use Rattle.std.proofs.Common.{◌≡◌, ℕ, suc, ◌+◌, ◌<◌, ◌≤◌, inl, inr, arith}
use Rattle.language.specs.Links.{BranchStart, Link, SignLink, branch_end, loop, onward, size, skip}
use Rattle.language.specs.Patterns.{Sort, Tree, alternatives, atom, branch, empty, group, letter, once, only, piece, repeated, ◌or◌, ◌then◌}
use Rattle.syntax.specs.declared.Letter.{Letter}
use Rattle.syntax.specs.declared.Sign.{Sign}
use Rattle.theory.proofs.Crossing.{Crosses}

pub record Within (p q k : ℕ) : Type 0 where
  pub low : p ≤ k
  pub high : k ≤ q

pub record Bounded (p q i k : ℕ) : Type 0 where
  pub from_low : p ≤ i
  pub from_high : i < q
  pub to_low : p ≤ k
  pub to_high : k ≤ q

pub begins_in : (t : Tree alternatives) (p k : ℕ) → BranchStart t p k → Within p (p + size t) k
begins_in (only b) p k e = omega arith
begins_in (b or t) p k (inl e) = omega arith
begins_in (b or t) p k (inr e) = let h = begins_in t (suc (p + size b)) k e in omega arith

pub branch_end_in : (t : Tree alternatives) (p : ℕ) → Within p (p + size t) (branch_end t p)
branch_end_in (only b) p = omega arith
branch_end_in (b or t) p = omega arith

-- where a tree of any sort is entered, and where its first branch ends
abbrev pub Entry : {s : Sort} → Tree s → ℕ → ℕ → Type 0
Entry {s = alternatives} t p k = BranchStart t p k
Entry {s = branch} t p k = k ≡ p
Entry {s = piece} t p k = k ≡ p
Entry {s = atom} t p k = k ≡ p

abbrev pub Stop : {s : Sort} → Tree s → ℕ → ℕ → Type 0
Stop {s = alternatives} t p k = k ≡ branch_end t p
Stop {s = branch} t p k = k ≡ p + size t
Stop {s = piece} t p k = k ≡ p + size t
Stop {s = atom} t p k = k ≡ p + size t

pub sign_in : (g : Sign) (p j i k : ℕ) → p ≤ j → SignLink g p j i k → Bounded p (suc j) i k
sign_in g p j i k h (onward e f) = omega arith
sign_in g p j i k h (skip s e f) = omega arith
sign_in g p j i k h (loop s e f) = omega arith

pub link_in : {s : Sort} (t : Tree s) (p i k : ℕ) → Link t p i k → Bounded p (p + size t) i k
link_in (letter b) p i k l = absurd l
link_in (group t) p i k (inl (e, l)) = let h = begins_in t (suc p) k l in omega arith
link_in (group t) p i k (inr (inl l)) = let h = link_in t (suc p) i k l in omega arith
link_in (group t) p i k (inr (inr (e, f))) = omega arith
link_in (once a) p i k l = link_in a p i k l
link_in (repeated a g) p i k (inl l) = let h = link_in a p i k l in omega arith
link_in (repeated a g) p i k (inr l) = let h = sign_in g p (p + size a) i k (omega arith) l in omega arith
link_in empty p i k l = absurd l
link_in (x then y) p i k (inl l) = let h = link_in x p i k l in omega arith
link_in (x then y) p i k (inr l) = let h = link_in y (p + size x) i k l in omega arith
link_in (only b) p i k l = link_in b p i k l
link_in (b or t) p i k (inl l) = let h = link_in b p i k l in omega arith
link_in (b or t) p i k (inr (inl (e, f))) = let h = branch_end_in t (suc i) in omega arith
link_in (b or t) p i k (inr (inr l)) = let h = link_in t (suc (p + size b)) i k l in omega arith

-- no link of an atom leads to its start
pub atom_to : (a : Tree atom) (p i k : ℕ) → Link a p i k → p < k
atom_to (letter b) p i k l = absurd l
atom_to (group t) p i k (inl (e, l)) = let h = begins_in t (suc p) k l in omega arith
atom_to (group t) p i k (inr (inl l)) = let h = link_in t (suc p) i k l in omega arith
atom_to (group t) p i k (inr (inr (e, f))) = omega arith

pub atom_size : (a : Tree atom) → 0 < size a
atom_size (letter b) = omega arith
atom_size (group t) = omega arith

module _ {A : Type 0} (reads : Letter → A → Type 0) where
  pub takes_in : {s : Sort} (t : Tree s) (p j : ℕ) (c : A) → Crosses reads t p j c → (p ≤ j) × (j < p + size t)
  takes_in (letter b) p j c m = omega arith
  takes_in (group t) p j c m = let h = takes_in t (suc p) j c m in omega arith
  takes_in (once a) p j c m = takes_in a p j c m
  takes_in (repeated a g) p j c m = let h = takes_in a p j c m in omega arith
  takes_in empty p j c m = absurd m
  takes_in (x then y) p j c (inl m) = let h = takes_in x p j c m in omega arith
  takes_in (x then y) p j c (inr m) = let h = takes_in y (p + size x) j c m in omega arith
  takes_in (only b) p j c m = takes_in b p j c m
  takes_in (b or t) p j c (inl m) = let h = takes_in b p j c m in omega arith
  takes_in (b or t) p j c (inr m) = let h = takes_in t (suc (p + size b)) j c m in omega arith
