-- Each pattern is accepted, as one tree, or has one fault, and never both.
use Rattle.std.proofs.Common.{ℕ, ◌⊎◌, List, inl, inr}
use Rattle.language.proofs.Decided.{Outcome, accepts, decide, faults}
use Rattle.language.proofs.Exact.{no_fault, one_fault, one_reading}
use Rattle.language.proofs.Trees.{accepted_reads, reads_accepted}
use Rattle.language.proofs.Units.{units_injective}
use Rattle.language.specs.Answers.{NoFault, OneAnswer, OnlyFault}
use Rattle.language.specs.Faults.{Faulty}
use Rattle.language.specs.Patterns.{Accepted}

answer : {bytes : List ℕ} → Outcome bytes → Accepted bytes ⊎ ((n : ℕ) × (p : ℕ) × Faulty bytes n p)
answer (accepts us x r) = inl (reads_accepted r)
answer (faults n p f) = inr (n, p, f)

pub one_answer : (bytes : List ℕ) → OneAnswer bytes
one_answer bytes = record {
  answered = answer (decide bytes);
  not_both = λ a n p f. no_fault (accepted_reads a).1 f;
  one_fault = λ n p m q f g. one_fault f g;
  one_tree = λ a b. units_injective a.tree b.tree (one_reading (accepted_reads a).1 (accepted_reads b).1);
}

pub no_fault_read : {bytes : List ℕ} → Accepted bytes → NoFault bytes
no_fault_read {bytes} a = (one_answer bytes).not_both a

pub only_fault : {bytes : List ℕ} {n p : ℕ} → Faulty bytes n p → OnlyFault bytes n p
only_fault {bytes} {n} {p} f = record {
  not_accepted = λ a. (one_answer bytes).not_both a n p f;
  no_other = λ m q g. (one_answer bytes).one_fault m q n p g f;
}
