-- Links that come to what they were and what is new, and the predecessors that they give.
use Rattle.language.proofs.Option.{never, some_same}
use Rattle.language.specs.Links.{Predecessors}
use Rattle.rule.specs.Growing.{Apart}
use Rattle.rule.specs.Words.{firsts, seconds}
use Rattle.std.proofs.Common.{◌≡◌, ℕ, ◌<◌, Bool, true, false, cond, ltb, ◌⊎◌, ◌↔◌, Some, None, Option, sym, refl, ap, inl, inr, arith, ltb-false, ltb-true}

-- two that are apart, in order
cond_either : (t : Bool) (x y i : ℕ) → (cond t (Some x) (Some y) ≡ Some i) ⊎ (cond t (Some y) (Some x) ≡ Some i) → (Some x ≡ Some i) ⊎ (Some y ≡ Some i)
cond_either true x y i (inl e) = inl e
cond_either true x y i (inr e) = inr e
cond_either false x y i (inl e) = inr e
cond_either false x y i (inr e) = inl e

either_cond : (t : Bool) (x y i : ℕ) → (Some x ≡ Some i) ⊎ (Some y ≡ Some i) → (cond t (Some x) (Some y) ≡ Some i) ⊎ (cond t (Some y) (Some x) ≡ Some i)
either_cond true x y i (inl e) = inl e
either_cond true x y i (inr e) = inr e
either_cond false x y i (inl e) = inr e
either_cond false x y i (inr e) = inl e

pub ordered_to : (a b : Option ℕ) (i : ℕ) → (firsts a b ≡ Some i) ⊎ (seconds a b ≡ Some i) → (a ≡ Some i) ⊎ (b ≡ Some i)
ordered_to None b i (inl e) = inr e
ordered_to None b i (inr e) = never e
ordered_to (Some x) None i (inl e) = inl e
ordered_to (Some x) None i (inr e) = never e
ordered_to (Some x) (Some y) i e = cond_either (ltb x y) x y i e

pub to_ordered : (a b : Option ℕ) (i : ℕ) → (a ≡ Some i) ⊎ (b ≡ Some i) → (firsts a b ≡ Some i) ⊎ (seconds a b ≡ Some i)
to_ordered None b i (inl e) = never e
to_ordered None b i (inr e) = inl e
to_ordered (Some x) None i (inl e) = inl e
to_ordered (Some x) None i (inr e) = never e
to_ordered (Some x) (Some y) i e = either_cond (ltb x y) x y i e

cond_rising : (x y i j : ℕ) (t : Bool) → ltb x y ≡ t → (x ≡ y → ⊥) → cond t (Some x) (Some y) ≡ Some i → cond t (Some y) (Some x) ≡ Some j → i < j
cond_rising x y i j true e n f g = let h = ltb-true x y e in let k = some_same f in let l = some_same g in omega arith
cond_rising x y i j false e n f g = let h = ltb-false x y e in let k = some_same f in let l = some_same g in omega arith

ordered_rising : (a b : Option ℕ) → Apart a b → (i j : ℕ) → firsts a b ≡ Some i → seconds a b ≡ Some j → i < j
ordered_rising None b n i j e f = never f
ordered_rising (Some x) None n i j e f = never f
ordered_rising (Some x) (Some y) n i j e f = cond_rising x y i j (ltb x y) refl (λ h. n x refl (ap Some (sym h))) e f

cond_none : {A : Type 0} (t : Bool) (x y : ℕ) → cond t (Some x) (Some y) ≡ None → A
cond_none true x y e = never (sym e)
cond_none false x y e = never (sym e)

ordered_only : (a b : Option ℕ) → firsts a b ≡ None → seconds a b ≡ None
ordered_only None b e = refl
ordered_only (Some x) None e = refl
ordered_only (Some x) (Some y) e = cond_none (ltb x y) x y e

-- links that come to what they were and what is new
module _ (old new now : ℕ → ℕ → Type 0) (sum : (i k : ℕ) → now i k ↔ (old i k ⊎ new i k)) where
  -- no new link comes in
  pub keep : (k : ℕ) (a b : Option ℕ) → Predecessors old k a b → ((i : ℕ) → new i k → ⊥) → Predecessors now k a b
  keep k a b f n = record {
    all = λ i. (
      (λ l. elim ((sum i k).0 l) [ inl x ↦ (f.all i).0 x | inr x ↦ absurd (n i x) ]),
      (λ e. (sum i k).1 (inl ((f.all i).1 e))),
    );
    rising = f.rising;
    only_first = f.only_first;
  }

  -- one new link at most comes in
  pub add : (k : ℕ) (a own : Option ℕ) → Predecessors old k a None → Apart a own → ((i : ℕ) → new i k ↔ (own ≡ Some i)) → Predecessors now k (firsts a own) (seconds a own)
  add k a own f n w = record {
    all = λ i. (
      (λ l. elim ((sum i k).0 l) [
        | inl x ↦ elim ((f.all i).0 x) [ inl e ↦ to_ordered a own i (inl e) | inr e ↦ never e ]
        | inr x ↦ to_ordered a own i (inr ((w i).0 x))
      ]),
      (λ e. elim (ordered_to a own i e) [ inl x ↦ (sum i k).1 (inl ((f.all i).1 (inl x))) | inr x ↦ (sum i k).1 (inr ((w i).1 x)) ]),
    );
    rising = ordered_rising a own n;
    only_first = ordered_only a own;
  }

  -- all links that come in are new
  pub fresh : (k : ℕ) (own : Option ℕ) → ((i : ℕ) → old i k → ⊥) → ((i : ℕ) → new i k ↔ (own ≡ Some i)) → Predecessors now k own None
  fresh k own n w = record {
    all = λ i. (
      (λ l. elim ((sum i k).0 l) [ inl x ↦ absurd (n i x) | inr x ↦ inl ((w i).0 x) ]),
      (λ e. elim e [ inl x ↦ (sum i k).1 (inr ((w i).1 x)) | inr x ↦ never x ]),
    );
    rising = λ i j e f. never f;
    only_first = λ e. refl;
  }
