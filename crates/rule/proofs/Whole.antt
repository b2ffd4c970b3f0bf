-- The finished table, and what it is the table of.
use Rattle.std.proofs.Common.{◌≡◌, ℕ, suc, ◌+◌, ◌-◌, ◌<◌, ◌≢◌, List, [], ◌∷◌, ◌++◌, length, get_or, set, Some, None, sym, ap, ◌∙◌, subst, add-one, arith, length-append, length-set, get_or-set_other, get_or-set_same}
use Rattle.language.proofs.Exact.{one_reading}
use Rattle.language.proofs.Links.{link_linked, linked_link}
use Rattle.language.proofs.Settled.{predecessors_as}
use Rattle.language.proofs.Trees.{accepted_reads, reads_accepted, reads_few}
use Rattle.language.specs.Faults.{Before, Faulty, Reads, left_open, operand}
use Rattle.language.specs.LeftToRight.{OpenGroup}
use Rattle.language.specs.Limits.{most_units}
use Rattle.language.specs.Links.{LinksOf}
use Rattle.language.specs.Patterns.{Tree, alternatives, group, units}
use Rattle.rule.proofs.GrownBy.{grown_close}
use Rattle.rule.proofs.Stood.{top, writes_over}
use Rattle.rule.specs.Growing.{Grown, Sofar}
use Rattle.rule.specs.Standing.{LaidDown, OpenedLast, ReadTo, Stands, blank}
use Rattle.rule.specs.Tables.{RuleOf, TableOf, WordAt, WordsOf}
use Rattle.rule.specs.Words.{Says, byte_of, firsts, kind_of, seconds}
use Rattle.rule.specs.declared.builder.Builder.{Builder}
use Rattle.rule.specs.declared.word.Kind.TheVariants.{End}
use Rattle.rule.specs.declared.word.Kind.{Kind}
use Rattle.syntax.specs.declared.PatternUnit.TheVariants.{Close, Open}
use Rattle.syntax.specs.declared.PatternUnit.{PatternUnit}

-- the added CLOSE and OPEN stand around the units
abbrev pub framed : List PatternUnit → List PatternUnit
framed us = Open ∷ (us ++ (Close ∷ []))

ended : (us : List PatternUnit) (words : List ℕ) (gs : List OpenGroup) (q p a v : ℕ) (x : Before) → Grown us words gs q p (Some a) x → p < length words
    → Says v End 0 (Some a) None → WordsOf (Sofar us) us p (set words p v)
ended us words gs q p a v x g h s = record {
  last = sym g.count;
  units = λ j l.
      let d = g.laid j l in
      let ne : j ≢ p = omega arith in
      record {
        first = d.first;
        second = d.second;
        says = subst (λ z. Says z (kind_of (get_or us j Close)) (byte_of (get_or us j Close)) d.first d.second) (sym (get_or-set_other words p j v 0 ne)) d.says;
        predecessors = d.predecessors;
      };
  end = record { first = Some a; second = None; says = subst (λ z. Says z End 0 (Some a) None) (sym (get_or-set_same words p v 0 h)) s; predecessors = g.ahead };
}

pub finished : (b l : Builder) (v : ℕ) → LaidDown b Close (OpenedLast b).bar l → Says v End 0 (Some b.count) None → b.count < most_units + 2
    → (us : List PatternUnit) (x : Before) → Stands b us [] x → WordsOf (Sofar (framed us)) (framed us) l.count (set l.words l.count v)
finished b l v e f h us x s =
    let long = s.long in
    let (gs, g, fr, d, n) = top b us x 0 s.open_groups s.grown s.listed s.depth s.opens in
    let w = set b.words b.count e.word in
    let g2 = grown_close g w
    (writes_over b.words b.start b.count Close (firsts b.front (OpenedLast b).bar) (seconds b.front (OpenedLast b).bar) e.word ⊥ (omega arith) e.says (λ z. z)) in
    let len = length-set b.words b.count e.word in
    let core : WordsOf (Sofar (framed us)) (framed us) (suc b.count) (set w (suc b.count) v) =
    ended (framed us) w gs (OpenedLast b).opened (suc b.count) b.count v operand g2 (omega arith) f in
    subst (λ z. WordsOf (Sofar (framed us)) (framed us) z.count (set z.words z.count v)) (sym e.is)
    (subst (λ z. WordsOf (Sofar (framed us)) (framed us) z (set w z v)) (sym (add-one b.count)) core)

-- the links by the tree in place of those by the units
module _ (L M : ℕ → ℕ → Type 0) (to : (i k : ℕ) → L i k → M i k) (back : (i k : ℕ) → M i k → L i k) where
  word_as : (j : ℕ) (kind : Kind) (byte w : ℕ) → WordAt L j kind byte w → WordAt M j kind byte w
  word_as j kind byte w x = record { first = x.first; second = x.second; says = x.says; predecessors = predecessors_as L M to back j x.first x.second x.predecessors }

  pub words_as : (us : List PatternUnit) (n : ℕ) (words : List ℕ) → WordsOf L us n words → WordsOf M us n words
  words_as us n words e = record {
    last = e.last;
    units = λ j h. word_as j (kind_of (get_or us j Close)) (byte_of (get_or us j Close)) (get_or words j 0) (e.units j h);
    end = word_as n End 0 (get_or words n 0) e.end;
  }

-- a table whose units are those of a tree is the tree's
pub tabled : (t : Tree alternatives) (us : List PatternUnit) (n : ℕ) (words : List ℕ) → units t ≡ us → WordsOf (Sofar (framed us)) (framed us) n words → TableOf t n words
tabled t us n words f e = record {
  last = let l = e.last in let g : length us ≡ length (units t) = ap length (sym f) in omega (arith, length-append us (Close ∷ []));
  words_of = words_as (Sofar (units (group t))) (LinksOf t) (linked_link t) (link_linked t) (units (group t)) n words
      (subst (λ z. WordsOf (Sofar (framed z)) (framed z) n words) (sym f) e);
}

pub ruled_at : (bytes : List ℕ) (us : List PatternUnit) (x : Before) (n : ℕ) (words : List ℕ) → Reads bytes us [] x → WordsOf (Sofar (framed us)) (framed us) n words → RuleOf bytes n words
ruled_at bytes us x n words r e =
    let a = reads_accepted r in
    record { accepted = a; table = tabled a.tree us n words (one_reading (accepted_reads a).1 r) e }

module _ (bytes : List ℕ) (b : Builder) (r : ReadTo bytes b) where
  pub ruled : (n : ℕ) (words : List ℕ) → b.depth ≡ 1
      → ((us : List PatternUnit) (x : Before) → Stands b us [] x → WordsOf (Sofar (framed us)) (framed us) n words) → RuleOf bytes n words
  ruled n words h f = at_os r.os r.reads r.stands
    where
      at_os : (os : List ℕ) → Reads bytes r.us os r.x → Stands b r.us os r.x → RuleOf bytes n words
      at_os [] d s = ruled_at bytes r.us r.x n words d (f r.us r.x s)
      at_os (o ∷ os) d s = let i = s.depth in let k = s.opens in let z : ⊥ = omega arith in absurd z

  pub still_open : 1 < b.depth → Faulty bytes 4 (OpenedLast b).place
  still_open h = at_os r.os r.reads r.stands
    where
      at_os : (os : List ℕ) → Reads bytes r.us os r.x → Stands b r.us os r.x → Faulty bytes 4 (OpenedLast b).place
      at_os [] d s = let i = s.depth in let k = s.opens in let z : ⊥ = omega arith in absurd z
      at_os (o ∷ os) d s =
          let i = s.depth in
          let k = s.opens in
          let e : b.depth - 1 ≡ suc (length os) = omega arith in
          subst (λ z. Faulty bytes 4 z) (sym s.placed.0 ∙ ap (λ z. (get_or b.groups z blank).place) (sym e)) (left_open d)

  pub few_units : b.count < most_units + 2
  few_units = let l = reads_few r.reads in let e = r.stands.grown.count in omega arith
