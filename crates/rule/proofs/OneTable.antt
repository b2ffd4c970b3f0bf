-- A pattern has one table.
use Rattle.std.proofs.Common.{◌≡◌, ℕ, ◌/◌, ◌%◌, ◌≤◌, List, get_or, Some, None, Option, sym, ◌∙◌, subst, arith}
use Rattle.language.proofs.Answered.{one_answer}
use Rattle.language.proofs.Settled.{settled}
use Rattle.language.specs.Links.{LinksOf}
use Rattle.language.specs.Patterns.{group, units}
use Rattle.rule.specs.Tables.{EachPatternHasOneTable, TableOf, WordAt, WordsOf}
use Rattle.rule.specs.Words.{Holds, Says, byte_of, kind_of}
use Rattle.rule.specs.declared.word.Kind.TheVariants.{End}
use Rattle.rule.specs.declared.word.Kind.{Kind}
use Rattle.syntax.specs.declared.PatternUnit.TheVariants.{Close}
use Rattle.syntax.specs.declared.PatternUnit.{PatternUnit}
use native.Mathlib.Decide.{dec_lt}

same_field : (o : Option ℕ) (f g : ℕ) → Holds f o → Holds g o → f ≡ g
same_field None f g h k = omega arith
same_field (Some i) f g h k = omega arith

-- what a word says settles the word
pub same_word : (w v : ℕ) (kind : Kind) (byte : ℕ) (first second : Option ℕ) → Says w kind byte first second → Says v kind byte first second → w ≡ v
same_word w v kind byte first second s t =
    let a : w / 0x1000_0000 ≡ v / 0x1000_0000 = s.kind_bits ∙ sym t.kind_bits in
    let b : (w / 0x10_0000) % 0x100 ≡ (v / 0x10_0000) % 0x100 = s.byte_bits ∙ sym t.byte_bits in
    let c = same_field first ((w / 0x400) % 0x400) ((v / 0x400) % 0x400) s.first_bits t.first_bits in
    let d = same_field second (w % 0x400) (v % 0x400) s.second_bits t.second_bits in
    omega arith

module _ (link : ℕ → ℕ → Type 0) where
  same_at : (j : ℕ) (kind : Kind) (byte w v : ℕ) → WordAt link j kind byte w → WordAt link j kind byte v → w ≡ v
  same_at j kind byte w v x y =
      let (e, f) = settled link j y.first y.second x.first x.second y.predecessors x.predecessors in
      same_word w v kind byte x.first x.second x.says
      (subst (λ z. Says v kind byte z x.second) e (subst (λ z. Says v kind byte y.first z) f y.says))

  same_words : (us : List PatternUnit) (n : ℕ) (words others : List ℕ) → WordsOf link us n words → WordsOf link us n others → (j : ℕ) → j ≤ n → get_or words j 0 ≡ get_or others j 0
  same_words us n words others x y j h = elim (dec_lt j n) [
    | yes l ↦ same_at j (kind_of (get_or us j Close)) (byte_of (get_or us j Close)) (get_or words j 0) (get_or others j 0) (x.units j l) (y.units j l)
    | no l ↦ (let e : n ≡ j = omega arith in subst (λ z. get_or words z 0 ≡ get_or others z 0) e (same_at n End 0 (get_or words n 0) (get_or others n 0) x.end y.end))
  ]

pub one_table : EachPatternHasOneTable
one_table bytes n m words others x y =
    let t = (one_answer bytes).one_tree y.accepted x.accepted in
    let z : TableOf x.accepted.tree m others = subst (λ r. TableOf r m others) t y.table in
    let e : n ≡ m = let a = x.table.last in let b = z.last in omega arith in
    let r = x.accepted.tree in
    (e, same_words (LinksOf r) (units (group r)) n words others x.table.words_of (subst (λ k. WordsOf (LinksOf r) (units (group r)) k others) (sym e) z.words_of))
