-- The theorems on links and on the smallest patterns.
use Rattle.std.proofs.Common.{◌≡◌, ℕ, ◌<◌, ◌⊎◌, Some, Option, sym, refl, ◌∙◌, subst, inl, inr}
use Rattle.language.proofs.Option.{some_same}
use Rattle.language.proofs.Settled.{settled}
use Rattle.language.proofs.Two.{at_most_two}
use Rattle.language.specs.Links.{LinksOf}
use Rattle.language.specs.Theorems.{AtMostTwoLinksComeIn, EmptyFormsAndThePeriod, PredecessorsAreSettled}

both : (a : Option ℕ) (i j : ℕ) → a ≡ Some i → a ≡ Some j → i ≡ j
both a i j e f = some_same (sym e ∙ f)

-- of three that are each one of two, two are the same
two_alike : (a b : Option ℕ) (h i j : ℕ) → (a ≡ Some h) ⊎ (b ≡ Some h) → (a ≡ Some i) ⊎ (b ≡ Some i) → (a ≡ Some j) ⊎ (b ≡ Some j) → (h ≡ i) ⊎ ((h ≡ j) ⊎ (i ≡ j))
two_alike a b h i j (inl x) (inl y) z = inl (both a h i x y)
two_alike a b h i j (inr x) (inr y) z = inl (both b h i x y)
two_alike a b h i j (inl x) (inr y) (inl z) = inr (inl (both a h j x z))
two_alike a b h i j (inl x) (inr y) (inr z) = inr (inr (both b i j y z))
two_alike a b h i j (inr x) (inl y) (inl z) = inr (inr (both a i j y z))
two_alike a b h i j (inr x) (inl y) (inr z) = inr (inl (both b h j x z))

pub at_most_two_links : AtMostTwoLinksComeIn
at_most_two_links t k h i j x y z =
    let (a, b, p) = at_most_two t k in
    two_alike a b h i j ((p.all h).0 x) ((p.all i).0 y) ((p.all j).0 z)

pub predecessors_settled : PredecessorsAreSettled
predecessors_settled = record { some = at_most_two; same = λ t k a b c d. settled (LinksOf t) k a b c d }

pub empty_forms : EmptyFormsAndThePeriod
empty_forms = record {
  empty_pattern = λ w. (λ e. e, λ e. e);
  empty_group = λ w. (λ e. e, λ e. e);
  empty_first = λ t w. (λ e. e, λ e. e);
  empty_last = λ b w. (λ e. e, λ e. e);
  period = λ c. (λ x. let (a, h, e) = x in subst (λ z. z < 256) (cc) h, λ h. (c, h, refl));
}
