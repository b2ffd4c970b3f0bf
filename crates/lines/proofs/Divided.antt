-- A line is taken apart at its first space in one way.
use Rattle.std.proofs.Common.{◌≡◌, ℕ, suc, ◌<◌, false, cond, eqb, ◌⊎◌, List, [], ◌∷◌, ◌++◌, length, get_or, sym, refl, ap, ◌∙◌, inl, inr, append-nil, arith, ne_eqb}
use Rattle.lines.specs.Lines.{Divides}

-- the bytes before the first space
first_word : List ℕ → List ℕ
first_word [] = []
first_word (x ∷ xs) = cond (eqb x 32) [] (x ∷ first_word xs)

before_space : (w t : List ℕ) → ((k : ℕ) → k < length w → get_or w k 0 ≡ 32 → ⊥) → (t ≡ []) ⊎ ((r : List ℕ) × (t ≡ 32 ∷ r)) → first_word (w ++ t) ≡ w
unfolding first_word
before_space [] t n (inl e) = ap first_word e
before_space [] t n (inr (r, e)) = ap first_word e
before_space (x ∷ w) t n h =
    let f : eqb x 32 ≡ false = ne_eqb x 32 (n 0 (omega arith)) in
    ap (λ z. cond z [] (x ∷ first_word (w ++ t))) f ∙ ap (λ z. x ∷ z) (before_space w t (λ k l e. n (suc k) (omega arith) e) h)

divides_first : {line word rest : List ℕ} → Divides line word rest → first_word line ≡ word
divides_first {line} {word} {rest} d = from d.parts
  where
    from : ((line ≡ word) × (rest ≡ [])) ⊎ (line ≡ word ++ (32 ∷ rest)) → first_word line ≡ word
    from (inl (e, f)) = ap first_word (e ∙ sym (append-nil word)) ∙ before_space word [] d.no_space (inl refl)
    from (inr e) = ap first_word e ∙ before_space word (32 ∷ rest) d.no_space (inr (rest, refl))

pub one_word : {line word rest other more : List ℕ} → Divides line word rest → Divides line other more → word ≡ other
one_word d e = sym (divides_first d) ∙ divides_first e

-- the bytes behind the first space
behind_space : List ℕ → List ℕ
behind_space [] = []
behind_space (x ∷ xs) = cond (eqb x 32) xs (behind_space xs)

past_word : (w t r : List ℕ) → ((k : ℕ) → k < length w → get_or w k 0 ≡ 32 → ⊥) → ((t ≡ []) × (r ≡ [])) ⊎ (t ≡ 32 ∷ r) → behind_space (w ++ t) ≡ r
unfolding behind_space
past_word [] t r n (inl (e, f)) = ap behind_space e ∙ sym f
past_word [] t r n (inr e) = ap behind_space e
past_word (x ∷ w) t r n h =
    let f : eqb x 32 ≡ false = ne_eqb x 32 (n 0 (omega arith)) in
    ap (λ z. cond z (w ++ t) (behind_space (w ++ t))) f ∙ past_word w t r (λ k l e. n (suc k) (omega arith) e) h

divides_rest : {line word rest : List ℕ} → Divides line word rest → behind_space line ≡ rest
divides_rest {line} {word} {rest} d = from d.parts
  where
    from : ((line ≡ word) × (rest ≡ [])) ⊎ (line ≡ word ++ (32 ∷ rest)) → behind_space line ≡ rest
    from (inl (e, f)) = ap behind_space (e ∙ sym (append-nil word)) ∙ past_word word [] rest d.no_space (inl (refl, f))
    from (inr e) = ap behind_space e ∙ past_word word (32 ∷ rest) rest d.no_space (inr refl)

pub one_rest : {line word rest other more : List ℕ} → Divides line word rest → Divides line other more → rest ≡ more
one_rest d e = sym (divides_rest d) ∙ divides_rest e
