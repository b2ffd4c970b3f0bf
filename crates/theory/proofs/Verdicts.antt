-- What the last cell holds, and what the verdicts of the two kinds say.
use Rattle.std.proofs.Common.{◌≡◌, ℕ, zero, suc, ◌≤◌, Bool, true, false, cond, ltb, ◌⊎◌, List, length, drop, Some, None, sym, refl, ap, ◌∙◌, subst, inl, inr, arith}
use Rattle.language.proofs.Option.{clash}
use Rattle.language.specs.Links.{last_position}
use Rattle.language.specs.Patterns.{Tree, alternatives}
use Rattle.language.specs.Words.{LetterTakes, Words}
use Rattle.mark.specs.Joins.{Contained}
use Rattle.mark.specs.Limits.{most_bytes}
use Rattle.mark.specs.Tail.{Tail, earlier, earlier_laws, seed_is, smaller, smaller_place, tail, tail_seed}
use Rattle.mark.specs.YesNo.{either, either_laws, yes_no, yes_seed}
use Rattle.mark.specs.declared.start.Start.{Start}
use Rattle.mark.specs.declared.yes_no.YesNo.{YesNo}
use Rattle.theory.proofs.Joins.{chosen, join_of_via}
use Rattle.theory.proofs.WaysSpell.{ways_spell}
use Rattle.theory.proofs.WordsLead.{words_lead}
use Rattle.theory.specs.Meaning.{Arrival}
use Rattle.theory.specs.Theorems.{TheLastCellHoldsTheVerdict, TheTailIsTheSmallestStart, YesExactlyWhenAllBelongs}
use Rattle.theory.specs.Verdicts.{Belongs, SaysTheTail, SaysYesOrNo, SmallestStart, Verdict}
use native.Mathlib.Decide.{dec_le}
use Rattle.mark.specs.declared.yes_no.YesNo.TheVariants as answer

pub last_cell : (M : Type 0) → TheLastCellHoldsTheVerdict M
last_cell M kind t w cells holds =
    join_of_via kind.join kind.nothing kind.laws (λ (a : Arrival t w (last_position t)). kind.seed a.place) (λ (a : Belongs t w). kind.seed a.place)
    (λ a. record { place = a.place; within = a.within; word = ways_spell LetterTakes t (drop a.place w) a.way })
    (λ a. record { place = a.place; within = a.within; way = words_lead LetterTakes t (drop a.place w) a.word })
    (λ a. refl) (λ a. refl)
    (holds (last_position t) (omega arith))

-- Yes/no.
yes_is_not_nothing : {A : Type 0} {m : YesNo} → m ≡ answer.Yes → m ≡ answer.Nothing → A
yes_is_not_nothing e f = clash (cc)

either_picks : (x y : YesNo) → (either x y ≡ x) ⊎ (either x y ≡ y)
either_picks answer.Yes y = inl refl
either_picks answer.Nothing y = inr refl

seed_yes : {A : Type 0} (p : ℕ) → yes_seed p ≡ answer.Yes → (p ≡ 0 → A) → A
seed_yes zero e f = f refl
seed_yes (suc p) e f = yes_is_not_nothing e refl

module _ (t : Tree alternatives) (w : List ℕ) (mark : YesNo) (v : Verdict yes_no t w mark) where
  yes_belongs : mark ≡ answer.Yes → Words t w
  yes_belongs e =
      elim (chosen either answer.Nothing either_laws (λ (a : Belongs t w). yes_seed a.place) either_picks v) [
        | inl f ↦ yes_is_not_nothing e f
        | inr (a, f) ↦ seed_yes a.place (sym f ∙ e) (λ g. subst (λ p. Words t (drop p w)) g a.word)
      ]

  belongs_yes : Words t w → mark ≡ answer.Yes
  belongs_yes h = sym (v.contains (record { place = 0; within = omega arith; word = h }))

  not_yes : (m : YesNo) → mark ≡ m → ¬ Words t w → mark ≡ answer.Nothing
  not_yes answer.Yes e n = absurd (n (yes_belongs e))
  not_yes answer.Nothing e n = e

  says_yes : SaysYesOrNo t w mark
  says_yes = record { yes = (yes_belongs, belongs_yes); nothing = ((λ e h. yes_is_not_nothing (belongs_yes h) e), not_yes mark refl) }

pub yes_when_all_belongs : YesExactlyWhenAllBelongs
yes_when_all_belongs t w mark v = says_yes t w mark v

-- Tail.
start_is_not_nothing : {A : Type 0} {m : Tail} {s : Start} → m ≡ Some s → m ≡ None → A
start_is_not_nothing e f = clash (cc)

same_from : {m : Tail} {s r : Start} → m ≡ Some s → m ≡ Some r → s.place ≡ r.place
same_from e f = let g : _ ≡ _ = sym e ∙ f in of_from g
  where
    of_from : {s r : Start} → Some s ≡ Some r → s.place ≡ r.place
    of_from {s} {r} g = let h : s ≡ r = cc in ap (λ z. z.place) h

smaller_picks : (a b : Start) (v : Bool) → (cond v b a ≡ a) ⊎ (cond v b a ≡ b)
smaller_picks a b true = inr refl
smaller_picks a b false = inl refl

earlier_picks : (x y : Tail) → (earlier x y ≡ x) ⊎ (earlier x y ≡ y)
earlier_picks None y = inr refl
earlier_picks (Some a) None = inl refl
earlier_picks (Some a) (Some b) = elim (smaller_picks a b (ltb b.place a.place)) [ inl e ↦ inl (ap Some e) | inr e ↦ inr (ap Some e) ]

-- what a start that is contained in a mark says of it
start_contained : (a : Start) (m : Tail) → Contained earlier (Some a) m → (s : Start) × (m ≡ Some s) × (s.place ≤ a.place)
start_contained a None e = start_is_not_nothing (sym e) refl
start_contained a (Some b) e =
    let f : b.place ≡ (smaller a b).place = same_from e refl in
    let g = smaller_place a b in
    (b, refl, omega arith)

module _ (t : Tree alternatives) (w : List ℕ) (short : length w ≤ most_bytes) (mark : Tail) (v : Verdict tail t w mark) where
  -- each place from which on the frame belongs is at or behind the verdict's
  at_most : (p : ℕ) → p ≤ length w → Words t (drop p w) → (s : Start) × (mark ≡ Some s) × (s.place ≤ p)
  at_most p h u =
      let a : Start = record { place = p; within = omega arith } in
      start_contained a mark (subst (λ x. Contained earlier x mark) (seed_is p (omega arith)) (v.contains (record { place = p; within = h; word = u })))

  -- the verdict is nothing, or a place from which on the frame belongs
  taken : (mark ≡ None) ⊎ ((a : Belongs t w) × (s : Start) × (mark ≡ Some s) × (s.place ≡ a.place))
  taken =
      elim (chosen earlier None earlier_laws (λ (a : Belongs t w). tail_seed a.place) earlier_picks v) [
        | inl e ↦ inl e
        | inr (a, e) ↦
            let h : a.place ≤ most_bytes = let k = a.within in omega arith in
            inr (a, record { place = a.place; within = h }, e ∙ seed_is a.place h, refl)
      ]

  start_smallest : (p : ℕ) → (s : Start) × (mark ≡ Some s) × (s.place ≡ p) → SmallestStart t w p
  start_smallest p (s, e, f) =
      elim taken [
        | inl g ↦ start_is_not_nothing e g
        | inr (a, r, g, h) ↦
            let same = same_from e g in
            let place : a.place ≡ p = omega arith in
            let k = a.within in
            record {
              within = omega arith;
              word = subst (λ x. Words t (drop x w)) place a.word;
              none_before = λ q l u. let m = at_most q (omega arith) u in let z = same_from e m.1 in let y = m.2 in omega arith;
            }
      ]

  smallest_start : (p : ℕ) → SmallestStart t w p → (s : Start) × (mark ≡ Some s) × (s.place ≡ p)
  smallest_start p h =
      let m = at_most p h.within h.word in
      elim taken [
        | inl f ↦ start_is_not_nothing m.1 f
        | inr (a, r, f, g) ↦
            let same = same_from m.1 f in
            let z = m.2 in
            elim (dec_le p a.place) [
              | yes d ↦ (r, f, omega arith)
              | no d ↦ absurd (h.none_before a.place (omega arith) a.word)
            ]
      ]

  says_tail : SaysTheTail t w mark
  says_tail = record {
    start = λ p. (start_smallest p, smallest_start p);
    nothing = (
      (λ e p h u. let m = at_most p h u in start_is_not_nothing m.1 e),
      (λ f. elim taken [ inl e ↦ e | inr (a, r, e, g) ↦ absurd (f a.place a.within a.word) ]),
    );
  }

pub tail_is_smallest : TheTailIsTheSmallestStart
tail_is_smallest t w short mark v = says_tail t w short mark v
