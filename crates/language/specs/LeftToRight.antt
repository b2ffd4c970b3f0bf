-- Units read from the left: which lists of them are patterns, and what links they give.
use Rattle.std.specs.Prelude.{◌≡◌, ℕ, zero, suc, Bool, true, false, ◌⊎◌, List, [], ◌∷◌, Some, None, Option}
use Rattle.language.specs.Links.{SignLink}
use Rattle.syntax.specs.declared.PatternUnit.TheVariants.{Bar, Close, Open, Plain, Repeat}
use Rattle.syntax.specs.declared.PatternUnit.{PatternUnit}

-- us reads on to its end, inside d groups, right after an operand or not
abbrev pub Proper : ℕ → Bool → List PatternUnit → Type 0
Proper d c [] = d ≡ 0
Proper d c (Open ∷ us) = Proper (suc d) false us
Proper d c (Bar ∷ us) = Proper d false us
Proper zero c (Close ∷ us) = ⊥
Proper (suc d) c (Close ∷ us) = Proper d true us
Proper d c (Plain l ∷ us) = Proper d true us
Proper d true (Repeat g ∷ us) = Proper d false us
Proper d false (Repeat g ∷ us) = ⊥

-- an open group: its OPEN, and its last BAR so far
pub record OpenGroup : Type 0 where
  pub opened : ℕ
  pub last : Option ℕ

-- us stands from p on, inside the groups gs; what a repeat sign there would bind to starts at q
abbrev pub Linked : List OpenGroup → ℕ → ℕ → List PatternUnit → ℕ → ℕ → Type 0
Linked gs q p [] i k = ⊥
Linked gs q p (Open ∷ us) i k = ((i ≡ p) × (k ≡ suc p)) ⊎ Linked (record { opened = p; last = None } ∷ gs) p (suc p) us i k
Linked [] q p (Bar ∷ us) i k = ⊥
Linked (f ∷ gs) q p (Bar ∷ us) i k =
    ((i ≡ f.opened) × (k ≡ suc p)) ⊎ (((f.last ≡ Some i) × (k ≡ p)) ⊎ Linked (record { opened = f.opened; last = Some p } ∷ gs) p (suc p) us i k)
Linked [] q p (Close ∷ us) i k = ⊥
Linked (f ∷ gs) q p (Close ∷ us) i k =
    ((f.last ≡ Some i) × (k ≡ p)) ⊎ (((i ≡ p) × (k ≡ suc p)) ⊎ Linked gs f.opened (suc p) us i k)
Linked gs q p (Plain l ∷ us) i k = Linked gs p (suc p) us i k
Linked gs q p (Repeat g ∷ us) i k = SignLink g q p i k ⊎ Linked gs q (suc p) us i k
