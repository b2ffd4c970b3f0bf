-- A check that computes whether a worked case holds, with the evidence, and the list of cases under it.
use Rattle.std.proofs.Common.{◌≡◌, ℕ, zero, suc, ◌-◌, ◌/◌, ◌%◌, ◌<◌, Bool, true, false, List, [], ◌∷◌, length, get_or, Some, None, Option, refl, subst, arith}
use Rattle.cases.specs.Cases.{Case, CaseHolds, Every, WorkedCasesHold, stop, table, worked_cases}
use Rattle.language.proofs.Decided.{Outcome, accepts, decide, faults}
use Rattle.language.proofs.Exact.{one_reading}
use Rattle.language.proofs.Parsed.{group_proper}
use Rattle.language.proofs.Trees.{accepted_reads, reads_accepted}
use Rattle.language.proofs.Two.{two_predecessors}
use Rattle.language.specs.Faults.{Before, Faulty, Reads}
use Rattle.language.specs.LeftToRight.{Proper}
use Rattle.rule.proofs.Whole.{framed, ruled_at}
use Rattle.rule.specs.Growing.{Sofar}
use Rattle.rule.specs.Tables.{RuleOf, WordAt, WordsOf}
use Rattle.rule.specs.Words.{Holds, Says, byte_of, kind_number, kind_of}
use Rattle.rule.specs.declared.word.Kind.TheVariants.{End}
use Rattle.rule.specs.declared.word.Kind.{Kind}
use Rattle.syntax.specs.declared.PatternUnit.TheVariants.{Close}
use Rattle.syntax.specs.declared.PatternUnit.{PatternUnit}
use native.Mathlib.Decide.{dec_lt, ℕ_discrete}

-- evidence that was found, or not
pub data Found (P : Type 0) : Type 0 where
  found : P → Found P
  missing : Found P

unfoldable pub is_found : {P : Type 0} → Found P → Bool
is_found (found p) = true
is_found missing = false

pub evidence : {P : Type 0} (f : Found P) → is_found f ≡ true → P
unfolding is_found
evidence (found p) e = p
evidence missing e = let z : ◌≡◌ {A = ℕ} 0 1 = cc in let y : ⊥ = omega arith in absurd y

unfoldable pub from_dec : {P : Type 0} → Dec P → Found P
from_dec (yes p) = found p
from_dec (no n) = missing

unfoldable pub both : {P Q : Type 0} → Found P → Found Q → Found (P × Q)
both (found p) (found q) = found (p, q)
both (found p) missing = missing
both missing q = missing

unfoldable pub via : {P Q : Type 0} → (P → Q) → Found P → Found Q
via f (found p) = found (f p)
via f missing = missing

-- whether ten bits hold a position, and a word says this
unfoldable pub holds? : (field : ℕ) (o : Option ℕ) → Found (Holds field o)
unfolding from_dec both ℕ_discrete dec_lt
holds? field None = from_dec (ℕ_discrete field 1023)
holds? field (Some i) = both (from_dec (ℕ_discrete field i)) (from_dec (dec_lt i 1023))

unfoldable pub says? : (word : ℕ) (kind : Kind) (byte : ℕ) (first second : Option ℕ) → Found (Says word kind byte first second)
unfolding from_dec both via holds? ℕ_discrete
says? word kind byte first second =
    via (λ x. record { kind_bits = x.0.0; byte_bits = x.0.1; first_bits = x.1.0; second_bits = x.1.1 })
    (both (both (from_dec (ℕ_discrete (word / 0x1000_0000) (kind_number kind))) (from_dec (ℕ_discrete ((word / 0x10_0000) % 0x100) byte)))
    (both (holds? ((word / 0x400) % 0x400) first) (holds? (word % 0x400) second)))

-- whether P holds below n
unfoldable pub each? : (P : ℕ → Type 0) → ((j : ℕ) → Found (P j)) → (n : ℕ) → Found ((j : ℕ) → j < n → P j)
unfolding both via
each? P f zero = found (λ j h. let z : ⊥ = omega arith in absurd z)
each? P f (suc n) =
    via (λ x j h. elim (dec_lt j n) [ yes l ↦ x.0 j l | no l ↦ (let e : n ≡ j = omega arith in subst P e x.1) ])
    (both (each? P f n) (f n))

module _ (us : List PatternUnit) (pr : Proper 0 false us) where
  unfoldable pub word_at? : (j : ℕ) (kind : Kind) (byte word : ℕ) → Found (WordAt (Sofar us) j kind byte word)
  unfolding via says? two_predecessors
  word_at? j kind byte word =
      let (a, b, p) = two_predecessors us pr j in
      via (λ s. record { first = a; second = b; says = s; predecessors = p }) (says? word kind byte a b)

  unfoldable pub words_of? : (words : List ℕ) → Found (WordsOf (Sofar us) us (length us) words)
  unfolding both each? via word_at?
  words_of? words =
      via (λ x. record { last = refl; units = x.0; end = x.1 })
      (both (each? (λ j. WordAt (Sofar us) j (kind_of (get_or us j Close)) (byte_of (get_or us j Close)) (get_or words j 0)) (λ j. word_at? j (kind_of (get_or us j Close)) (byte_of (get_or us j Close)) (get_or words j 0)) (length us))
      (word_at? (length us) End 0 (get_or words (length us) 0)))

unfoldable pub framed_proper : {bytes : List ℕ} {us : List PatternUnit} {x : Before} → Reads bytes us [] x → Proper 0 false (framed us)
framed_proper r = let a = reads_accepted r in subst (λ z. Proper 0 false (framed z)) (one_reading (accepted_reads a).1 r) (group_proper a.tree)

-- whether a pattern that is read has these words, or this fault
unfoldable pub table? : {bytes : List ℕ} (words : List ℕ) → Outcome bytes → Found (RuleOf bytes (length words - 1) words)
unfolding both from_dec via words_of? ℕ_discrete
table? {bytes} words (accepts us x r) =
    via (λ y. ruled_at bytes us x (length words - 1) words r (subst (λ n. WordsOf (Sofar (framed us)) (framed us) n words) y.0 y.1))
    (both (from_dec (ℕ_discrete (length (framed us)) (length words - 1))) (words_of? (framed us) (framed_proper r) words))
table? words (faults n p f) = missing

stop? : {bytes : List ℕ} (n p : ℕ) → Outcome bytes → Found (Faulty bytes n p)
unfolding both from_dec via ℕ_discrete
stop? n p (accepts us x r) = missing
stop? {bytes} n p (faults m q f) =
    via (λ y. subst (λ z. Faulty bytes z p) y.0 (subst (λ z. Faulty bytes m z) y.1 f)) (both (from_dec (ℕ_discrete m n)) (from_dec (ℕ_discrete q p)))

unfoldable pub case? : (c : Case) → Found (CaseHolds c)
unfolding decide stop? table?
case? (table pattern words) = table? words (decide pattern)
case? (stop pattern number place) = stop? number place (decide pattern)

cases? : (cs : List Case) → Found (Every cs)
unfolding both case?
cases? [] = found tt
cases? (c ∷ cs) = both (case? c) (cases? cs)

pub worked : WorkedCasesHold
unfolding cases? is_found
worked = evidence (cases? worked_cases) refl
