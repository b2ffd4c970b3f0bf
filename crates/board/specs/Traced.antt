-- What a trace board keeps over its accesses.
use Rattle.std.specs.Prelude.{◌≡◌, ℕ, ◌+◌, ◌-◌, ◌≤◌, List, length, drop, refl}
use Rattle.board.specs.Boards.{Keeps}
use Rattle.board.specs.Meters.{metered}
use Rattle.board.specs.declared.metered.Metered.{Metered}
use Rattle.board.specs.declared.trace.WordMeter.{WordMeter}
use Rattle.std.specs.Borrow.{MutBor}
use Rattle.std.proofs.lemmas.List.{drop-drop}
use Rattle.std.proofs.Common.{ap, subst, sym, ◌∙◌, arith}

-- a lent slice of words, and the meter that writes into it
abbrev pub Writer : Type 0
Writer = MutBor (List ℕ) × WordMeter

-- b is a at a later time: it is over the same slice of words, which past the words used is as it was
pub record Written (a b : Writer) : Type 0 where
  pub same_words : b.0.ghost_name ≡ a.0.ghost_name
  pub as_long : length b.0.now ≡ length a.0.now
  pub more : a.1.used ≤ b.1.used
  pub behind : drop b.1.used b.0.now ≡ drop b.1.used a.0.now

pub written_still : (a : Writer) → Written a a
written_still a = record { same_words = refl; as_long = refl; more = omega arith; behind = refl }

-- what is the same from m on is so from any later n on
later : (m n : ℕ) (xs ys : List ℕ) → m ≤ n → drop m xs ≡ drop m ys → drop n xs ≡ drop n ys
later m n xs ys h e =
    let split : m + (n - m) ≡ n = omega arith in
    subst (λ k. drop k xs ≡ drop k ys) split (sym (drop-drop (n - m) m xs) ∙ ap (drop (n - m)) e ∙ drop-drop (n - m) m ys)

pub written_on : (a b c : Writer) → Written a b → Written b c → Written a c
written_on a b c p q = record {
  same_words = q.same_words ∙ p.same_words;
  as_long = q.as_long ∙ p.as_long;
  more = omega arith;
  behind = q.behind ∙ later b.1.used c.1.used b.0.now a.0.now q.more p.behind;
}

abbrev pub words_kept : Keeps Writer
words_kept = record { same = Written; still = written_still; on = written_on }

abbrev pub Trace : Type 0 → Type 0
Trace M = Metered M (MutBor (List ℕ)) WordMeter

-- b is the trace board a at a later time: it is over the same slices, and past the words used the slice of words is as it was
abbrev pub Traced : {M : Type 0} → Trace M → Trace M → Type 0
Traced a b = (metered words_kept).same a b

pub traced_still : {M : Type 0} (a : Trace M) → Traced a a
traced_still a = (metered words_kept).still a

pub traced_on : {M : Type 0} (a b c : Trace M) → Traced a b → Traced b c → Traced a c
traced_on a b c p q = (metered words_kept).on a b c p q
