-- Two spellings at one place are the same, and none stands where the bytes begin with no unit.
use Rattle.std.proofs.Common.{◌≡◌, ℕ, ◌+◌, ◌*◌, ◌≤◌, Bool, true, false, cond, T, eqb, List, [], ◌∷◌, ◌++◌, length, codes, sym, refl, subst, inl, inr, arith, eqb→eq}
use Rattle.syntax.specs.Spelling.{Among, Digit, Escapes, Special, Spells, Stuck, backslash, bar_sign, bare, bare_specials, close_sign, coded, escaped, of_digits, of_special, open_sign, opt_sign, ordinary, period, plus_sign, star_sign}
use Rattle.syntax.specs.declared.Letter.TheVariants.{Any, Byte}
use Rattle.syntax.specs.declared.PatternUnit.TheVariants.{Bar, Close, Open, Plain, Repeat}
use Rattle.syntax.specs.declared.PatternUnit.{PatternUnit}
use Rattle.syntax.specs.declared.Sign.TheVariants.{Opt, Plus, Star}
use lib.Dec.{eqb_refl}

by_flag : {A : Type 0} (P : A → Type 0) (c : Bool) {X : Type 0} (y n : A) → (T c → X) → (X → T c) → (X → P y) → ((X → ⊥) → P n) → P (cond c y n)
by_flag P true y n f g h k = h (f tt)
by_flag P false y n f g h k = k g

-- P holds of what a test of a byte chooses if it holds of each choice where that is made
by_test : {A : Type 0} (P : A → Type 0) (b k : ℕ) (y n : A) → (b ≡ k → P y) → ((b ≡ k → ⊥) → P n) → P (cond (eqb b k) y n)
by_test P b k y n = by_flag P (eqb b k) y n (eqb→eq b k) (λ e. subst (λ z. T (eqb b z)) e (eqb_refl b))

-- the unit that a byte is by itself, unless it is a backslash or among bare-specials
unfoldable pub lone_unit : ℕ → PatternUnit
lone_unit b =
    cond (eqb b 40) Open
    (cond (eqb b 41) Close
    (cond (eqb b 124) Bar
    (cond (eqb b 42) (Repeat Star)
    (cond (eqb b 43) (Repeat Plus)
    (cond (eqb b 63) (Repeat Opt)
    (cond (eqb b 46) (Plain Any) (Plain (Byte b))))))))

-- the bytes of the signs; the other special bytes are the backslash and bare-specials
abbrev pub signs : List ℕ
signs = codes "()|*+?."

-- P holds of that unit if it holds of each sign, at its byte, and of the letter at any other byte
by_byte : (P : PatternUnit → Type 0) (b : ℕ) → (b ≡ 40 → P Open) → (b ≡ 41 → P Close) → (b ≡ 124 → P Bar) → (b ≡ 42 → P (Repeat Star))
    → (b ≡ 43 → P (Repeat Plus)) → (b ≡ 63 → P (Repeat Opt)) → (b ≡ 46 → P (Plain Any)) → ((Among b signs → ⊥) → P (Plain (Byte b)))
    → P (lone_unit b)
unfolding lone_unit
by_byte P b o c r s p q d h =
    by_test P b 40 _ _ o (λ n1.
    by_test P b 41 _ _ c (λ n2.
    by_test P b 124 _ _ r (λ n3.
    by_test P b 42 _ _ s (λ n4.
    by_test P b 43 _ _ p (λ n5.
    by_test P b 63 _ _ q (λ n6.
    by_test P b 46 _ _ d (λ n7. h (λ a. omega arith))))))))

among_right : (b : ℕ) (xs ys : List ℕ) → Among b ys → Among b (xs ++ ys)
among_right b [] ys a = a
among_right b (x ∷ xs) ys a = inr (among_right b xs ys a)

among_other : (b : ℕ) (xs ys : List ℕ) → Among b (xs ++ ys) → (Among b xs → ⊥) → Among b ys
among_other b [] ys a n = a
among_other b (x ∷ xs) ys (inl e) n = absurd (n (inl e))
among_other b (x ∷ xs) ys (inr a) n = among_other b xs ys a (λ c. n (inr c))

pub lone_spells : (b : ℕ) → (Among b (92 ∷ bare_specials) → ⊥) → Spells (b ∷ []) (lone_unit b)
lone_spells b n =
    by_byte (λ u. Spells (b ∷ []) u) b (λ e. rw e open_sign) (λ e. rw e close_sign) (λ e. rw e bar_sign) (λ e. rw e star_sign)
    (λ e. rw e plus_sign) (λ e. rw e opt_sign) (λ e. rw e period) (λ m. ordinary (λ s. n (among_other b signs (92 ∷ bare_specials) s m)))

ordinary_unit : (b : ℕ) → (Special b → ⊥) → lone_unit b ≡ Plain (Byte b)
ordinary_unit b n =
    by_byte (λ u. u ≡ Plain (Byte b)) b (λ e. absurd (n (inl e))) (λ e. absurd (n (inr (inl e)))) (λ e. absurd (n (inr (inr (inl e)))))
    (λ e. absurd (n (inr (inr (inr (inl e)))))) (λ e. absurd (n (inr (inr (inr (inr (inl e))))))) (λ e. absurd (n (inr (inr (inr (inr (inr (inl e))))))))
    (λ e. absurd (n (inr (inr (inr (inr (inr (inr (inl e))))))))) (λ m. refl)

-- a spelling is a byte by itself, a backslash and a special byte, or a backslash, an x and two digits
data Shape : List ℕ → PatternUnit → Type 0 where
  lone : {b : ℕ} {u : PatternUnit} → (Among b (92 ∷ bare_specials) → ⊥) → lone_unit b ≡ u → Shape (b ∷ []) u
  by_special : {b : ℕ} → Special b → Shape (92 ∷ b ∷ []) (Plain (Byte b))
  by_digits : {h l : ℕ} (v w : ℕ) → Digit h v → Digit l w → Shape (92 ∷ 120 ∷ h ∷ l ∷ []) (Plain (Byte (16 * v + w)))

shape : {w : List ℕ} {u : PatternUnit} → Spells w u → Shape w u
unfolding lone_unit
shape (ordinary {b} n) = lone (λ a. n (among_right b signs (92 ∷ bare_specials) a)) (ordinary_unit b n)
shape open_sign = lone (λ a. omega arith) refl
shape close_sign = lone (λ a. omega arith) refl
shape bar_sign = lone (λ a. omega arith) refl
shape star_sign = lone (λ a. omega arith) refl
shape plus_sign = lone (λ a. omega arith) refl
shape opt_sign = lone (λ a. omega arith) refl
shape period = lone (λ a. omega arith) refl
shape (escaped s) = by_special s
shape (coded h l v w d e) = by_digits v w d e

same_shape : {w w' : List ℕ} {u u' : PatternUnit} → Shape w u → Shape w' u' → (r r' : List ℕ) → w ++ r ≡ w' ++ r' → (w ≡ w') × (u ≡ u') × (r ≡ r')
same_shape (lone {b} n e) (lone {b = c} m f) r r' q = ((cc), (cc), (cc))
same_shape (lone {b} n e) (by_special s) r r' q = let k : b ≡ 92 = cc in absurd (n (inl k))
same_shape (lone {b} n e) (by_digits v w d f) r r' q = let k : b ≡ 92 = cc in absurd (n (inl k))
same_shape (by_special s) (lone {b} n e) r r' q = let k : b ≡ 92 = cc in absurd (n (inl k))
same_shape (by_special s) (by_special t) r r' q = ((cc), (cc), (cc))
same_shape (by_special {b} s) (by_digits v w d f) r r' q = let k : b ≡ 120 = cc in let z : ⊥ = omega arith in absurd z
same_shape (by_digits v w d f) (lone {b} n e) r r' q = let k : b ≡ 92 = cc in absurd (n (inl k))
same_shape (by_digits v w d f) (by_special {b} s) r r' q = let k : b ≡ 120 = cc in let z : ⊥ = omega arith in absurd z
same_shape (by_digits {h} {l} v w d f) (by_digits {h = h'} {l = l'} v' w' d' f') r r' q =
    let i : h ≡ h' = cc in
    let j : l ≡ l' = cc in
    let x : v ≡ v' = omega arith in
    let y : w ≡ w' = omega arith in
    ((cc), (cc), (cc))

pub spells_same : {w w' : List ℕ} {u u' : PatternUnit} → Spells w u → Spells w' u' → (r r' : List ℕ) → w ++ r ≡ w' ++ r' → (w ≡ w') × (u ≡ u') × (r ≡ r')
spells_same s t r r' e = same_shape (shape s) (shape t) r r' e

shape_stuck : {w ys : List ℕ} {u : PatternUnit} → Shape w u → Stuck ys → (r : List ℕ) → ys ≡ w ++ r → ⊥
shape_stuck (lone {b} n e) (backslash x) r q = n (inl (cc))
shape_stuck (by_special {b} s) (backslash {rest} x) r q = let k : rest ≡ b ∷ r = cc in x (subst Escapes (sym k) (of_special s))
shape_stuck (by_digits {h} {l} v w d f) (backslash {rest} x) r q =
    let k : rest ≡ 120 ∷ h ∷ l ∷ r = cc in x (subst Escapes (sym k) (of_digits h l v w d f))
shape_stuck (lone {b} n e) (bare {b = c} a) r q = let k : c ≡ b = cc in n (inr (subst (λ z. Among z bare_specials) k a))
shape_stuck (by_special s) (bare {b = c} a) r q = let k : c ≡ 92 = cc in omega arith
shape_stuck (by_digits v w d f) (bare {b = c} a) r q = let k : c ≡ 92 = cc in omega arith

pub spells_stuck : {w ys : List ℕ} {u : PatternUnit} → Spells w u → Stuck ys → (r : List ℕ) → ys ≡ w ++ r → ⊥
spells_stuck s t r e = shape_stuck (shape s) t r e

shape_some : {w : List ℕ} {u : PatternUnit} → Shape w u → 1 ≤ length w
shape_some (lone n e) = omega arith
shape_some (by_special s) = omega arith
shape_some (by_digits v w d e) = omega arith

pub spells_some : {w : List ℕ} {u : PatternUnit} → Spells w u → 1 ≤ length w
spells_some s = shape_some (shape s)
