-- The words of a pattern's table tell its links and letters.
use Rattle.std.proofs.Common.{◌≡◌, ℕ, ◌/◌, ◌%◌, ◌<◌, ◌≤◌, Bool, true, false, cond, eqb, ◌↔◌, List, length, get_or, Some, None, Option, sym, refl, ap, ◌∙◌, subst, arith, eq-eqb, eqb-true}
use Rattle.language.proofs.Option.{clash}
use Rattle.language.proofs.Units.{size_of_units, units_injective}
use Rattle.language.specs.Links.{LinksOf, Predecessors}
use Rattle.language.specs.Patterns.{Tree, alternatives}
use Rattle.language.specs.Ways.{Takes, unit_at}
use Rattle.language.specs.Words.{LetterTakes}
use Rattle.rule.specs.Tables.{TableOf, WordAt}
use Rattle.rule.specs.Words as words
use Rattle.rule.specs.Words.{Says, absent, byte_of, first_of, kind_number, kind_of, position_in, second_of, takes_at, word_at}
use Rattle.rule.specs.declared.word.Kind.{Kind}
use Rattle.rule.specs.declared.word.Kind.TheVariants.{End}
use Rattle.std.proofs.lemmas.List.{get_or_default, get_or_past}
use Rattle.syntax.specs.declared.Letter.{Letter}
use Rattle.syntax.specs.declared.Letter.TheVariants.{Any, Byte}
use Rattle.syntax.specs.declared.PatternUnit.{PatternUnit}
use Rattle.syntax.specs.declared.PatternUnit.TheVariants.{Bar, Close, Open, Plain, Repeat}
use Rattle.syntax.specs.declared.Sign.TheVariants.{Opt, Plus, Star}
use Rattle.theory.specs.Meaning.{Tells}
use Rattle.theory.specs.Theorems.{TablesTellThePattern}
use native.Mathlib.Decide.{dec_lt}

-- ten bits that hold a predecessor are read as it
position_is : (field : ℕ) (o : Option ℕ) → words.Holds field o → position_in field ≡ o
position_is field None h = ap (λ b. cond b None (Some field)) (eq-eqb field absent h)
position_is field (Some i) h = at (eqb field absent) refl
  where
    at : (b : Bool) → eqb field absent ≡ b → cond b None (Some field) ≡ Some i
    at true e = let f = eqb-true field absent e in let z : ⊥ = omega arith in absurd z
    at false e = ap Some h.0

module _ (link : ℕ → ℕ → Type 0) (k : ℕ) (kind : Kind) (byte : ℕ) (words : List ℕ) (x : WordAt link k kind byte (get_or words k 0)) where
  -- a word that says its predecessors is no 0
  not_zero : (first second : Option ℕ) → Says 0 kind byte first second → Predecessors link k first second → ⊥
  not_zero None b s p = let h = s.first_bits in omega arith
  not_zero (Some i) None s p = let h = s.second_bits in omega arith
  not_zero (Some i) (Some j) s p = let h = s.first_bits in let g = s.second_bits in let l = p.rising i j refl refl in omega arith

  -- so it stands in the list
  there : k < length words
  there = elim (dec_lt k (length words)) [
    | yes h ↦ h
    | no h ↦ absurd (not_zero x.first x.second (subst (λ z. Says z kind byte x.first x.second) (get_or_past words k 0 (omega arith)) x.says) x.predecessors)
  ]

  same_word : get_or words k 0 ≡ word_at words k
  same_word = get_or_default words k 0 0x200F_FFFF there

  said : Says (word_at words k) kind byte x.first x.second
  said = subst (λ z. Says z kind byte x.first x.second) same_word x.says

  told_links : Predecessors link k (first_of words k) (second_of words k)
  told_links =
      let a = sym (position_is ((word_at words k / 0x400) % 0x400) x.first said.first_bits) in
      let b = sym (position_is (word_at words k % 0x400) x.second said.second_bits) in
      subst (λ z. Predecessors link k z (second_of words k)) a (subst (λ z. Predecessors link k x.first z) b x.predecessors)

-- a word of this kind and byte takes c
abbrev said_takes : ℕ → ℕ → ℕ → Bool
said_takes kind byte c = cond (eqb kind 0) (eqb byte c) (eqb kind 1)

never_taken : {A : Type 0} → false ≡ true → A
never_taken e = clash (cc)

unit_takes : (u : PatternUnit) (c : ℕ) → c < 256 → (said_takes (kind_number (kind_of u)) (byte_of u) c ≡ true) ↔ ((l : Letter) × (u ≡ Plain l) × LetterTakes l c)
unit_takes Open c h = (never_taken, λ x. clash (let e = x.1 in cc))
unit_takes Bar c h = (never_taken, λ x. clash (let e = x.1 in cc))
unit_takes Close c h = (never_taken, λ x. clash (let e = x.1 in cc))
unit_takes (Plain (Byte b)) c h = (
  (λ e. (Byte b, refl, sym (eqb-true b c e))),
  (λ x. let e : x.0 ≡ Byte b = (let f = x.1 in cc) in eq-eqb b c (sym (subst (λ l. LetterTakes l c) e x.2))),
)
unit_takes (Plain Any) c h = ((λ e. (Any, refl, h)), λ x. refl)
unit_takes (Repeat Star) c h = (never_taken, λ x. clash (let e = x.1 in cc))
unit_takes (Repeat Plus) c h = (never_taken, λ x. clash (let e = x.1 in cc))
unit_takes (Repeat Opt) c h = (never_taken, λ x. clash (let e = x.1 in cc))

module _ (t : Tree alternatives) (n : ℕ) (words : List ℕ) (table : TableOf t n words) where
  word_links : (k : ℕ) → k ≤ n → Predecessors (LinksOf t) k (first_of words k) (second_of words k)
  word_links k h = elim (dec_lt k n) [
    | yes l ↦ told_links (LinksOf t) k (kind_of (unit_at t k)) (byte_of (unit_at t k)) words (table.words_of.units k l)
    | no l ↦
        let e : n ≡ k = omega arith in
        subst (λ z. Predecessors (LinksOf t) z (first_of words z) (second_of words z)) e (told_links (LinksOf t) n End 0 words table.words_of.end)
  ]

  word_bytes : (c j : ℕ) → c < 256 → j < n → (takes_at words c j ≡ true) ↔ Takes t j c
  word_bytes c j h l =
      let u = unit_at t j in
      let s = said (LinksOf t) j (kind_of u) (byte_of u) words (table.words_of.units j l) in
      let k = s.kind_bits in
      let b = s.byte_bits in
      let e : takes_at words c j ≡ said_takes (kind_number (kind_of u)) (byte_of u) c =
      ap (λ z. said_takes z ((word_at words j / 0x10_0000) % 0x100) c) k ∙ ap (λ z. said_takes (kind_number (kind_of u)) z c) b in
      let x = unit_takes u c h in
      ((λ v. x.0 (sym e ∙ v)), (λ v. e ∙ x.1 v))

  pub table_tells : Tells t n (first_of words) (second_of words) (takes_at words)
  table_tells = record { ends = let l = table.last in let s = size_of_units t in omega arith; links = word_links; bytes = word_bytes }

pub tables_tell : TablesTellThePattern
tables_tell = record { told = λ bytes n words rule. table_tells rule.accepted.tree n words rule.table; one_reading = units_injective }
