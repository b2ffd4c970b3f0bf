-- What the tests of the reader say of the bytes.
use Rattle.std.proofs.Common.{◌≡◌, ℕ, ◌+◌, ◌-◌, ◌*◌, ◌≤◌, ◌⊎◌, List, [], ◌∷◌, length, get_or, take, drop, Some, None, Option, sym, refl, ap, ◌∙◌, subst, inl, inr, arith, length-drop, take_all, MatchOption}
use Rattle.syntax.specs.declared.Letter.TheVariants.{Byte}
use Rattle.syntax.specs.declared.PatternUnit.TheVariants.{Plain}
use Rattle.syntax.specs.Spelling.{Among, Special, Digit, escaped, coded, Escapes, of_special, of_digits, Stuck, backslash, bare, bare_specials, Begins}

pub rest_of : (k : ℕ) (xs : List ℕ) → take (length xs - k) (drop k xs) ≡ drop k xs
rest_of k xs = take_all (length xs - k) (drop k xs) (simp length-drop (omega arith))

-- a list of one, two or four bytes and more
pub split_1 : (xs : List ℕ) → 1 ≤ length xs → xs ≡ get_or xs 0 0 ∷ drop 1 xs
split_1 [] h = let z : ⊥ = omega arith in absurd z
split_1 (a ∷ xs) h = refl

pub split_2 : (xs : List ℕ) → 2 ≤ length xs → xs ≡ get_or xs 0 0 ∷ get_or xs 1 0 ∷ drop 2 xs
split_2 [] h = let z : ⊥ = omega arith in absurd z
split_2 (a ∷ []) h = let z : ⊥ = omega arith in absurd z
split_2 (a ∷ b ∷ xs) h = refl

pub split_4 : (xs : List ℕ) → 4 ≤ length xs → xs ≡ get_or xs 0 0 ∷ get_or xs 1 0 ∷ get_or xs 2 0 ∷ get_or xs 3 0 ∷ drop 4 xs
split_4 [] h = let z : ⊥ = omega arith in absurd z
split_4 (a ∷ []) h = let z : ⊥ = omega arith in absurd z
split_4 (a ∷ b ∷ []) h = let z : ⊥ = omega arith in absurd z
split_4 (a ∷ b ∷ c ∷ []) h = let z : ⊥ = omega arith in absurd z
split_4 (a ∷ b ∷ c ∷ d ∷ xs) h = refl

pub coded_at : (xs : List ℕ) (v w : ℕ) → 4 ≤ length xs → get_or xs 0 0 ≡ 92 → get_or xs 1 0 ≡ 120 → Digit (get_or xs 2 0) v → Digit (get_or xs 3 0) w
    → Begins xs (Plain (Byte (16 * v + w))) (take (length xs - 4) (drop 4 xs))
coded_at xs v w h a b d e = record {
  spelling = 92 ∷ 120 ∷ get_or xs 2 0 ∷ get_or xs 3 0 ∷ [];
  spells = coded (get_or xs 2 0) (get_or xs 3 0) v w d e;
  splits = let s = split_4 xs h in let r = rest_of 4 xs in cc;
}

pub coded_begins : (xs : List ℕ) (b : ℕ) → 4 ≤ length xs → get_or xs 0 0 ≡ 92 → get_or xs 1 0 ≡ 120
    → (v : ℕ) × (w : ℕ) × Digit (get_or xs 2 0) v × Digit (get_or xs 3 0) w × (b ≡ 16 * v + w)
    → Begins xs (Plain (Byte b)) (take (length xs - 4) (drop 4 xs))
coded_begins xs b h x y (v, w, d, e, s) = subst (λ z. Begins xs (Plain (Byte z)) (take (length xs - 4) (drop 4 xs))) (sym s) (coded_at xs v w h x y d e)

pub escaped_begins : (xs : List ℕ) → 2 ≤ length xs → get_or xs 0 0 ≡ 92 → Special (get_or xs 1 0)
    → Begins xs (Plain (Byte (get_or xs 1 0))) (take (length xs - 2) (drop 2 xs))
escaped_begins xs h a s = record {
  spelling = 92 ∷ get_or xs 1 0 ∷ [];
  spells = escaped s;
  splits = let s = split_2 xs h in let r = rest_of 2 xs in cc;
}

-- the two escapes, ruled out one by one
ruled_out : (xs : List ℕ) {rest : List ℕ}
    → (2 ≤ length xs → get_or xs 0 0 ≡ 92 → Special (get_or xs 1 0) → ⊥)
    → ((v w : ℕ) → 4 ≤ length xs → get_or xs 0 0 ≡ 92 → get_or xs 1 0 ≡ 120 → Digit (get_or xs 2 0) v → Digit (get_or xs 3 0) w → ⊥)
    → xs ≡ 92 ∷ rest → Escapes rest → ⊥
ruled_out xs f g e (of_special s) = f (omega (arith, ap length e)) (ap (λ z. get_or z 0 0) e) (subst Special (sym (ap (λ z. get_or z 1 0) e)) s)
ruled_out xs f g e (of_digits h l v w d d') =
    g v w (omega (arith, ap length e)) (ap (λ z. get_or z 0 0) e) (ap (λ z. get_or z 1 0) e)
    (subst (λ z. Digit z v) (sym (ap (λ z. get_or z 2 0) e)) d) (subst (λ z. Digit z w) (sym (ap (λ z. get_or z 3 0) e)) d')

pub no_escape : (xs : List ℕ)
    → (2 ≤ length xs → get_or xs 0 0 ≡ 92 → Special (get_or xs 1 0) → ⊥)
    → ((v w : ℕ) → 4 ≤ length xs → get_or xs 0 0 ≡ 92 → get_or xs 1 0 ≡ 120 → Digit (get_or xs 2 0) v → Digit (get_or xs 3 0) w → ⊥)
    → (rest : List ℕ) → xs ≡ 92 ∷ rest → Escapes rest → ⊥
no_escape xs f g rest e x = ruled_out xs f g e x

stuck_as : (xs ys : List ℕ) → xs ≡ ys → Stuck ys → Stuck xs
stuck_as xs ys e s = subst Stuck (sym e) s

pub stuck_escape : (xs : List ℕ) → 1 ≤ length xs → get_or xs 0 0 ≡ 92 → ((rest : List ℕ) → xs ≡ 92 ∷ rest → Escapes rest → ⊥) → Stuck xs
stuck_escape xs h e f =
    let s : xs ≡ 92 ∷ drop 1 xs = split_1 xs h ∙ ap (λ z. z ∷ drop 1 xs) e in
    stuck_as xs (92 ∷ drop 1 xs) s (backslash (f (drop 1 xs) s))

pub stuck_bare : (xs : List ℕ) → 1 ≤ length xs → (get_or xs 0 0 ≡ 92 → ⊥) → (get_or xs 0 0 ≡ 92) ⊎ Among (get_or xs 0 0) (bare_specials) → Stuck xs
stuck_bare xs h n (inl e) = absurd (n e)
stuck_bare xs h n (inr a) = stuck_as xs (get_or xs 0 0 ∷ drop 1 xs) (split_1 xs h) (bare a)

pub none_is : {X : Type 0} (P P' : Type 0) (Q : X → Type 0) (o : Option X) → MatchOption o P Q → (P → P') → MatchOption o P' Q
none_is P P' Q None c f = f c
none_is P P' Q (Some x) c f = c
