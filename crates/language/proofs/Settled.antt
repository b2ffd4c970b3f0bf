-- A position has its predecessors in one order only, and the same ones under the same links.
use Rattle.language.proofs.Option.{never, some_same}
use Rattle.std.proofs.Common.{◌≡◌, ℕ, ◌<◌, Some, None, Option, sym, refl, ap, ◌∙◌, subst, inl, inr, arith}
use Rattle.language.specs.Links.{Predecessors}

module _ (link : ℕ → ℕ → Type 0) (k : ℕ) where
  -- the first field is the least predecessor
  least : (x y : ℕ) (b d : Option ℕ) → Predecessors link k (Some x) b → Predecessors link k (Some y) d → (x < y → ⊥)
  least x y b d f g l =
      elim ((g.all x).0 ((f.all x).1 (inl refl))) [
        | inl e ↦ let h = some_same e in omega arith
        | inr e ↦ let h = g.rising y x refl e in omega arith
      ]

  second : (x : ℕ) (u : ℕ) (d : Option ℕ) → Predecessors link k (Some x) (Some u) → Predecessors link k (Some x) d → d ≡ Some u
  second x u d f g =
      elim ((g.all u).0 ((f.all u).1 (inr refl))) [
        | inl e ↦ let h = some_same e in let l = f.rising x u refl refl in let z : ⊥ = omega arith in absurd z
        | inr e ↦ e
      ]

  seconds : (x : ℕ) (b d : Option ℕ) → Predecessors link k (Some x) b → Predecessors link k (Some x) d → b ≡ d
  seconds x None None f g = refl
  seconds x (Some u) d f g = sym (second x u d f g)
  seconds x None (Some u) f g = second x u None g f

  firsts : (a b c d : Option ℕ) → Predecessors link k a b → Predecessors link k c d → a ≡ c
  firsts None b None d f g = refl
  firsts None b (Some y) d f g =
      elim ((f.all y).0 ((g.all y).1 (inl refl))) [ inl e ↦ never e | inr e ↦ never (sym (f.only_first refl) ∙ e) ]
  firsts (Some x) b None d f g =
      elim ((g.all x).0 ((f.all x).1 (inl refl))) [ inl e ↦ never e | inr e ↦ never (sym (g.only_first refl) ∙ e) ]
  firsts (Some x) b (Some y) d f g =
      let h = least x y b d f g in
      let l = least y x d b g f in
      let e : x ≡ y = omega arith in
      ap Some e

  both : (a b c d : Option ℕ) → a ≡ c → Predecessors link k a b → Predecessors link k c d → b ≡ d
  both None b None d e f g = f.only_first refl ∙ sym (g.only_first refl)
  both None b (Some y) d e f g = never e
  both (Some x) b None d e f g = never (sym e)
  both (Some x) b (Some y) d e f g = seconds x b d f (subst (λ z. Predecessors link k z d) (sym e) g)

  pub settled : (a b c d : Option ℕ) → Predecessors link k a b → Predecessors link k c d → (a ≡ c) × (b ≡ d)
  settled a b c d f g = let e = firsts a b c d f g in (e, both a b c d e f g)

pub predecessors_as : (L M : ℕ → ℕ → Type 0) → ((i k : ℕ) → L i k → M i k) → ((i k : ℕ) → M i k → L i k) → (k : ℕ) (a b : Option ℕ) → Predecessors L k a b → Predecessors M k a b
predecessors_as L M to back k a b h = record {
  all = λ i. ((λ x. (h.all i).0 (back i k x)), (λ e. to i k ((h.all i).1 e)));
  rising = h.rising;
  only_first = h.only_first;
}
