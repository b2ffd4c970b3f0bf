-- The reading of a pattern, which gives its units or its fault, with the evidence.
use Rattle.std.proofs.Common.{◌≡◌, ℕ, zero, suc, ◌+◌, ◌-◌, ◌*◌, ◌<◌, ◌≤◌, List, [], ◌∷◌, ◌++◌, length, sym, refl, ap, ◌∙◌, subst, inl, inr, append_assoc, append-nil, arith, length-append}
use Rattle.language.proofs.Exact.{Answer, fault, well_formed}
use Rattle.language.proofs.Spelt.{lone_spells, lone_unit, signs, spells_some}
use Rattle.language.proofs.Trees.{reads_few, reads_shallow}
use Rattle.language.specs.Faults.{Before, Faulty, Goes, Reads, Refused, a_bar, a_close, a_letter, a_sign, an_open, left_open, more, no_operand, no_unit, nothing, nothing_open, operand, refused, sign, sign_after_sign, start, too_deep, too_long}
use Rattle.language.specs.Limits.{most_groups, most_units}
use Rattle.syntax.specs.Spelling.{Among, Digit, Escapes, Special, Spells, Stuck, backslash, bare, bare_specials, coded, escaped, of_digits, of_special}
use Rattle.syntax.specs.declared.Letter.TheVariants.{Byte}
use Rattle.syntax.specs.declared.PatternUnit.TheVariants.{Bar, Close, Open, Plain, Repeat}
use Rattle.syntax.specs.declared.PatternUnit.{PatternUnit}
use native.Mathlib.Decide.{dec_le, dec_lt, ℕ_discrete}

among : (b : ℕ) (xs : List ℕ) → Dec (Among b xs)
unfolding ℕ_discrete
among b [] = no (λ a. a)
among b (x ∷ xs) = elim (ℕ_discrete b x) [
  | yes e ↦ yes (inl e)
  | no n ↦ elim (among b xs) [ yes a ↦ yes (inr a) | no m ↦ no (λ a. elim a [ inl e ↦ n e | inr c ↦ m c ]) ]
]

between : (low high b : ℕ) → Dec ((low ≤ b) × (b ≤ high))
unfolding dec_le
between low high b = elim (dec_le low b) [
  | yes h ↦ elim (dec_le b high) [ yes k ↦ yes (h, k) | no k ↦ no (λ z. k z.1) ]
  | no h ↦ no (λ z. h z.0)
]

-- whether a byte is a digit
pub data Valued (b : ℕ) : Type 0 where
  digit : (v : ℕ) → Digit b v → Valued b
  no_digit : ((v : ℕ) → Digit b v → ⊥) → Valued b

valued : (b : ℕ) → Valued b
unfolding between
valued b = elim (between 48 57 b) [
  | yes (h, k) ↦ digit (b - 48) (inl (h, k, omega arith))
  | no n ↦ elim (between 97 102 b) [
    | yes (h, k) ↦ digit (b - 87) (inr (inl (h, k, omega arith)))
    | no m ↦ elim (between 65 70 b) [
      | yes (h, k) ↦ digit (b - 55) (inr (inr (h, k, omega arith)))
      | no l ↦ no_digit (λ v d. elim d [ inl z ↦ n (z.0, z.1) | inr (inl z) ↦ m (z.0, z.1) | inr (inr z) ↦ l (z.0, z.1) ])
    ]
  ]
]

-- what stands after a backslash
pub data Escape (bytes : List ℕ) : Type 0 where
  escape : (w : List ℕ) (b : ℕ) (rest : List ℕ) → Spells (92 ∷ w) (Plain (Byte b)) → bytes ≡ w ++ rest → Escape bytes
  no_escape : (Escapes bytes → ⊥) → Escape bytes

pub needs_digits : {b : ℕ} {r : List ℕ} → b ≡ 120 → ((h l v w : ℕ) (rest : List ℕ) → r ≡ h ∷ l ∷ rest → Digit h v → Digit l w → ⊥) → Escapes (b ∷ r) → ⊥
needs_digits e n (of_special s) = omega arith
needs_digits e n (of_digits h l v w {rest} d f) = n h l v w rest refl d f

pub needs_special : {b : ℕ} {r : List ℕ} → (b ≡ 120 → ⊥) → (Special b → ⊥) → Escapes (b ∷ r) → ⊥
needs_special e n (of_special s) = n s
needs_special e n (of_digits h l v w d f) = e refl

pub too_short : {r : List ℕ} → length r < 2 → (h l v w : ℕ) (rest : List ℕ) → r ≡ h ∷ l ∷ rest → Digit h v → Digit l w → ⊥
too_short k h l v w rest e d f = omega (arith, ap length e)

coded_escape : {b : ℕ} → b ≡ 120 → (r : List ℕ) → Escape (b ∷ r)
unfolding valued
coded_escape e [] = no_escape (needs_digits e (too_short (omega arith)))
coded_escape e (h ∷ []) = no_escape (needs_digits e (too_short (omega arith)))
coded_escape {b} e (h ∷ l ∷ rest) = elim (valued h) [
  | no_digit n ↦ no_escape (needs_digits e (λ i j v w t q d f. let k : h ≡ i = cc in n v (subst (λ z. Digit z v) (sym k) d)))
  | digit v d ↦ elim (valued l) [
    | no_digit n ↦ no_escape (needs_digits e (λ i j v w t q d f. let k : l ≡ j = cc in n w (subst (λ z. Digit z w) (sym k) f)))
    | digit w f ↦ escape (b ∷ h ∷ l ∷ []) (16 * v + w) rest (subst (λ z. Spells (92 ∷ z ∷ h ∷ l ∷ []) (Plain (Byte (16 * v + w)))) (sym e) (coded h l v w d f)) refl
  ]
]

after_backslash : (bytes : List ℕ) → Escape bytes
unfolding among coded_escape ℕ_discrete
after_backslash [] = no_escape (λ x. elim x [ ])
after_backslash (b ∷ r) = elim (ℕ_discrete b 120) [
  | yes e ↦ coded_escape e r
  | no n ↦ elim (among b (signs ++ (92 ∷ bare_specials))) [ yes s ↦ escape (b ∷ []) b r (escaped s) refl | no m ↦ no_escape (needs_special n m) ]
]

-- what bytes begin with
pub data First (bytes : List ℕ) : Type 0 where
  a_unit : (w : List ℕ) (u : PatternUnit) (rest : List ℕ) → Spells w u → bytes ≡ w ++ rest → First bytes
  none : Stuck bytes → First bytes

first : (b : ℕ) (r : List ℕ) → First (b ∷ r)
unfolding after_backslash lone_unit
first b r = elim (ℕ_discrete b 92) [
  | yes e ↦ elim (after_backslash r) [
    | escape w c rest s q ↦ a_unit (b ∷ w) (Plain (Byte c)) rest (subst (λ z. Spells (z ∷ w) (Plain (Byte c))) (sym e) s) (ap (λ z. b ∷ z) q)
    | no_escape n ↦ none (subst (λ z. Stuck (z ∷ r)) (sym e) (backslash n))
  ]
  | no n ↦ elim (among b bare_specials) [
    | yes a ↦ none (bare a)
    | no m ↦ a_unit (b ∷ []) (lone_unit b) r (lone_spells b (λ a. elim a [ inl e ↦ n e | inr c ↦ m c ])) refl
  ]
]

-- whether a unit may stand at the place p
pub data Step (p : ℕ) (u : PatternUnit) (os : List ℕ) (x : Before) : Type 0 where
  onward : (os' : List ℕ) (x' : Before) → Goes p u os x os' x' → Step p u os x
  stop : (n : ℕ) → Refused u os x n → Step p u os x

step : (p : ℕ) (u : PatternUnit) (os : List ℕ) (x : Before) → length os ≤ most_groups → Step p u os x
unfolding dec_lt
step p (Plain l) os x h = onward os operand a_letter
step p Open os x h = elim (dec_lt (length os) most_groups) [ yes k ↦ onward (p ∷ os) start (an_open k) | no k ↦ stop 7 (too_deep (omega arith)) ]
step p Bar os x h = onward os start a_bar
step p Close [] x h = stop 3 nothing_open
step p Close (o ∷ os) x h = onward os operand a_close
step p (Repeat g) os start h = stop 5 no_operand
step p (Repeat g) os operand h = onward os sign a_sign
step p (Repeat g) os sign h = stop 6 sign_after_sign

-- how the reading ends
pub data Outcome (bytes : List ℕ) : Type 0 where
  accepts : (us : List PatternUnit) (x : Before) → Reads bytes us [] x → Outcome bytes
  faults : (n p : ℕ) → Faulty bytes n p → Outcome bytes

ended : (bytes : List ℕ) (us : List PatternUnit) (os : List ℕ) (x : Before) → Reads bytes us os x → Outcome bytes
ended bytes us [] x r = accepts us x r
ended bytes us (o ∷ os) x r = faults 4 o (left_open r)

-- front is read, and rest is not
module _ (bytes : List ℕ) where
  read_on : (fuel : ℕ) (front rest : List ℕ) (us : List PatternUnit) (os : List ℕ) (x : Before)
      → bytes ≡ front ++ rest → length rest ≤ fuel → Reads front us os x → Outcome bytes
  unfolding ended first step
  read_on fuel front [] us os x e h r = ended bytes us os x (subst (λ z. Reads z us os x) (sym (e ∙ append-nil front)) r)
  read_on zero front (c ∷ rest) us os x e h r = let z : ⊥ = omega arith in absurd z
  read_on (suc fuel) front (c ∷ rest) us os x e h r = elim (dec_lt (length us) most_units) [
    | no l ↦ faults 1 (length front) (subst (λ z. Faulty z 1 (length front)) (sym e) (let k = reads_few r in too_long c rest r (omega arith)))
    | yes l ↦ elim (first c rest) [
      | none s ↦ faults 2 (length front) (subst (λ z. Faulty z 2 (length front)) (sym e) (no_unit r l s))
      | a_unit w u rest' s q ↦ elim (step (length front) u os x (reads_shallow r)) [
        | stop n f ↦ faults n (length front) (subst (λ z. Faulty z n (length front)) (sym (e ∙ ap (λ z. front ++ z) q)) (refused rest' r l s f))
        | onward os' x' g ↦
            read_on fuel (front ++ w) rest' (us ++ (u ∷ [])) os' x' (e ∙ ap (λ z. front ++ z) q ∙ sym (append_assoc front w rest'))
            (let k = spells_some s in omega (arith, ap length q ∙ length-append w rest')) (more r l s g)
      ]
    ]
  ]

unfoldable pub decide : (bytes : List ℕ) → Outcome bytes
unfolding read_on
decide bytes = read_on bytes (length bytes) [] bytes [] [] start refl (omega arith) nothing

unfoldable pub answer_of : {bytes : List ℕ} → Outcome bytes → Answer
answer_of (accepts us x r) = well_formed us
answer_of (faults n p f) = fault n p

fault_of : {bytes : List ℕ} (o : Outcome bytes) {n p : ℕ} → answer_of o ≡ fault n p → Faulty bytes n p
unfolding answer_of
fault_of (accepts us x r) e = let z : ◌≡◌ {A = ℕ} 0 1 = cc in let y : ⊥ = omega arith in absurd y
fault_of {bytes} (faults m q f) {n} {p} e = let i : m ≡ n = cc in let j : q ≡ p = cc in subst (λ (z : ℕ × ℕ). Faulty bytes z.0 z.1) (λ k. (i k, j k)) f

reading_of : {bytes : List ℕ} (o : Outcome bytes) {us : List PatternUnit} → answer_of o ≡ well_formed us → (x : Before) × Reads bytes us [] x
unfolding answer_of
reading_of {bytes} (accepts vs x r) {us} e = let i : vs ≡ us = cc in (x, subst (λ z. Reads bytes z [] x) i r)
reading_of (faults m q f) e = let z : ◌≡◌ {A = ℕ} 0 1 = cc in let y : ⊥ = omega arith in absurd y

pub decided_fault : (bytes : List ℕ) {n p : ℕ} → answer_of (decide bytes) ≡ fault n p → Faulty bytes n p
decided_fault bytes e = fault_of (decide bytes) e

pub decided_reading : (bytes : List ℕ) {us : List PatternUnit} → answer_of (decide bytes) ≡ well_formed us → (x : Before) × Reads bytes us [] x
decided_reading bytes e = reading_of (decide bytes) e
