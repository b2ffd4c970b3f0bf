-- The table of the added OPEN.
use Rattle.std.proofs.Common.{◌≡◌, ℕ, ◌+◌, List, [], ◌∷◌, length, get_or, set, Some, None, refl, ap, ◌∙◌, inl, inr, arith, length-set}
use Rattle.language.proofs.Option.{never}
use Rattle.language.specs.Faults.{start}
use Rattle.language.specs.Limits.{most_groups, most_units}
use Rattle.rule.proofs.GrownBy.{grown_open}
use Rattle.rule.proofs.Stood.{writes_over}
use Rattle.rule.specs.Growing.{Grown}
use Rattle.rule.specs.Standing.{Stands, blank, open_of}
use Rattle.rule.specs.Words.{Says}
use Rattle.rule.specs.declared.builder.Group.{Group}
use Rattle.rule.specs.declared.builder.Last.TheVariants as last
use Rattle.rule.specs.declared.word.Kind.TheVariants as kind
use Rattle.syntax.specs.declared.PatternUnit.TheVariants.{Open}

nothing_yet : (words : List ℕ) → Grown [] words [] 0 0 None start
nothing_yet words = record {
  count = refl;
  splits = λ rest i k. ((λ x. inr x), (λ x. elim x [ inl y ↦ absurd y | inr y ↦ y ]));
  low = λ i k x. absurd x;
  laid = λ j h. let z : ⊥ = omega arith in absurd z;
  ahead = record { all = λ i. ((λ x. absurd x), (λ e. elim e [ inl x ↦ never x | inr x ↦ never x ])); rising = λ i j e f. never e; only_first = λ e. refl };
  nested = tt;
  apart = tt;
  repeats = tt;
}

pub begun : (words : List ℕ) (hs : List Group) (w : ℕ) → length words ≡ most_units + 3 → length hs ≡ most_groups + 1 → get_or hs 0 blank ≡ blank → Says w kind.Open 0 None None
    → Stands (record { words = set words 0 w; count = 1; groups = hs; depth = 1; front = Some 0; start = 0; last = last.Start }) [] [] start
begun words hs w h k e s = record {
  open_groups = record { opened = 0; last = None } ∷ [];
  grown = grown_open (nothing_yet words) (set words 0 w) (writes_over words 0 0 Open None None w ⊥ (omega arith) s (λ z. z));
  listed = (ap open_of e, tt);
  depth = refl;
  placed = tt;
  opens = refl;
  shallow = omega arith;
  last = refl;
  long = length-set words 0 w ∙ h;
  wide = k;
}
