-- What one unit adds to a table that has grown so far.
use Rattle.language.proofs.Option.{some_same}
use Rattle.language.specs.Faults.{Before}
use Rattle.language.specs.LeftToRight.{Linked, OpenGroup}
use Rattle.language.specs.Links.{Predecessors}
use Rattle.rule.specs.Growing.{Apart, Grown, Laid, Single, Sofar}
use Rattle.rule.specs.Words.{Says, Under, byte_of, firsts, kind_of, seconds}
use Rattle.rule.specs.declared.word.Kind.{Kind}
use Rattle.syntax.specs.declared.PatternUnit.TheVariants.{Close}
use Rattle.syntax.specs.declared.PatternUnit.{PatternUnit}
use Rattle.std.proofs.Common.{◌≡◌, ℕ, zero, suc, ◌<◌, ◌≤◌, ◌⊎◌, ◌↔◌, List, [], ◌∷◌, ◌++◌, length, get_or, Some, None, Option, sym, refl, ap, ◌∙◌, subst, inl, inr, append_assoc, arith, length-append}
use native.Mathlib.Decide.{dec_lt, ℕ_discrete}
use Rattle.language.proofs.Settled.{settled}
use Rattle.rule.proofs.Grow.{add, fresh, keep}

-- the unit m at p links own to p, ahead to the next position, and, if Back, p to q
pub record Adds (gs : List OpenGroup) (q p : ℕ) (m : PatternUnit) (own ahead : Option ℕ) (Back : Type 0) : Type 0 where
  pub into_p : (i : ℕ) → Linked gs q p (m ∷ []) i p ↔ (own ≡ Some i)
  pub into_next : (i : ℕ) → Linked gs q p (m ∷ []) i (suc p) ↔ (ahead ≡ Some i)
  pub into_back : (i j : ℕ) → j < p → Linked gs q p (m ∷ []) i j → Back × (j ≡ q) × (i ≡ p)
  pub back_in : Back → Linked gs q p (m ∷ []) p q
  pub bounds : (i k : ℕ) → Linked gs q p (m ∷ []) i k → (i < suc p) × (k ≤ suc p)
  pub decided : Back ⊎ (Back → ⊥)

-- the words after it
pub record Writes (words words' : List ℕ) (q p : ℕ) (m : PatternUnit) (first second : Option ℕ) (Back : Type 0) : Type 0 where
  pub here : Says (get_or words' p 0) (kind_of m) (byte_of m) first second
  pub other : (j : ℕ) → j < p → (Back → j ≡ q → ⊥) → get_or words' j 0 ≡ get_or words j 0
  pub back : Back → (kind : Kind) (byte : ℕ) (a : Option ℕ) → Under a p → Says (get_or words q 0) kind byte a None
      → Says (get_or words' q 0) kind byte (firsts a (Some p)) (seconds a (Some p))

-- what a repeat sign that leads back needs
pub record Loose (us : List PatternUnit) (q p : ℕ) : Type 0 where
  pub before : q < p
  pub single : Single us q

eq_or : (j q : ℕ) → (j ≡ q) ⊎ (j ≡ q → ⊥)
eq_or j q = elim (ℕ_discrete j q) [ yes e ↦ inl e | no n ↦ inr n ]

lt_or : (j p : ℕ) → j < suc p → (j < p) ⊎ (j ≡ p)
lt_or j p h = elim (dec_lt j p) [ yes l ↦ inl l | no n ↦ inr (omega arith) ]

at_end : {A : Type 0} (xs : List A) (x d : A) → get_or (xs ++ (x ∷ [])) (length xs) d ≡ x
at_end [] x d = refl
at_end (y ∷ xs) x d = at_end xs x d

at_front : {A : Type 0} (xs : List A) (x d : A) (j : ℕ) → j < length xs → get_or (xs ++ (x ∷ [])) j d ≡ get_or xs j d
at_front [] x d j h = let z : ⊥ = omega arith in absurd z
at_front (y ∷ xs) x d zero h = refl
at_front (y ∷ xs) x d (suc j) h = at_front xs x d j (omega arith)

module _ {us : List PatternUnit} {words : List ℕ} {gs : List OpenGroup} {q p : ℕ} {front : Option ℕ} {b : Before} (g : Grown us words gs q p front b)
    {m : PatternUnit} {own ahead : Option ℕ} {Back : Type 0} (a : Adds gs q p m own ahead Back) where
  pub sum : (i k : ℕ) → Sofar (us ++ (m ∷ [])) i k ↔ (Sofar us i k ⊎ Linked gs q p (m ∷ []) i k)
  sum = g.splits (m ∷ [])

  pub count' : length (us ++ (m ∷ [])) ≡ suc p
  count' = let h = g.count in simp length-append (omega arith)

  pub splits' : (gs' : List OpenGroup) (q' : ℕ)
      → ((rest : List PatternUnit) (i k : ℕ) → Linked gs q p (m ∷ rest) i k ↔ (Linked gs q p (m ∷ []) i k ⊎ Linked gs' q' (suc p) rest i k))
      → (rest : List PatternUnit) (i k : ℕ) → Linked [] 0 0 ((us ++ (m ∷ [])) ++ rest) i k ↔ (Sofar (us ++ (m ∷ [])) i k ⊎ Linked gs' q' (suc p) rest i k)
  splits' gs' q' next rest i k = (
    (λ l. elim ((g.splits (m ∷ rest) i k).0 (subst (λ z. Linked [] 0 0 z i k) (append_assoc us (m ∷ []) rest) l)) [
      | inl x ↦ inl ((sum i k).1 (inl x))
      | inr x ↦ elim ((next rest i k).0 x) [ inl y ↦ inl ((sum i k).1 (inr y)) | inr y ↦ inr y ]
    ]),
    (λ l. subst (λ z. Linked [] 0 0 z i k) (sym (append_assoc us (m ∷ []) rest)) ((g.splits (m ∷ rest) i k).1 (elim l [
      | inl x ↦ elim ((sum i k).0 x) [ inl y ↦ inl y | inr y ↦ inr ((next rest i k).1 (inl y)) ]
      | inr x ↦ inr ((next rest i k).1 (inr x))
    ]))),
  )

  pub low' : (i k : ℕ) → Sofar (us ++ (m ∷ [])) i k → (i < suc p) × (k ≤ suc p)
  low' i k l = elim ((sum i k).0 l) [
    | inl x ↦ let (h, e) = g.low i k x in (omega arith, omega arith)
    | inr x ↦ a.bounds i k x
  ]

  pub ahead' : Predecessors (Sofar (us ++ (m ∷ []))) (suc p) ahead None
  ahead' = fresh (Sofar us) (λ i k. Linked gs q p (m ∷ []) i k) (Sofar (us ++ (m ∷ []))) sum (suc p) ahead
      (λ i x. let h = (g.low i (suc p) x).1 in omega arith) a.into_next

  kept : (j : ℕ) (c d : Option ℕ) → j < p → (Back → j ≡ q → ⊥) → Predecessors (Sofar us) j c d → Predecessors (Sofar (us ++ (m ∷ []))) j c d
  kept j c d h n f = keep (Sofar us) (λ i k. Linked gs q p (m ∷ []) i k) (Sofar (us ++ (m ∷ []))) sum j c d f
      (λ i x. let r = a.into_back i j h x in n r.0 r.1)

  pub single' : (j : ℕ) → j < p → (Back → j ≡ q → ⊥) → Single us j → Single (us ++ (m ∷ [])) j
  single' j h n (c, f) = (c, kept j c None h n f)

  here' : Apart front own → Predecessors (Sofar (us ++ (m ∷ []))) p (firsts front own) (seconds front own)
  here' n = add (Sofar us) (λ i k. Linked gs q p (m ∷ []) i k) (Sofar (us ++ (m ∷ []))) sum p front own g.ahead n a.into_p

  under : (j : ℕ) (c d : Option ℕ) → Predecessors (Sofar us) j c d → Under c p
  under j None d f = tt
  under j (Some i) d f = (g.low i j ((f.all i).1 (inl refl))).0

  under_apart : (c : Option ℕ) → Under c p → Apart c (Some p)
  under_apart None u i e f = let z : ◌≡◌ {A = ℕ} 0 1 = cc in omega arith
  under_apart (Some x) u i e f = let h = some_same e in let k = some_same f in omega arith

  module _ (words' : List ℕ) (w : Writes words words' q p m (firsts front own) (seconds front own) Back) (n : Apart front own) (loose : Back → Loose us q p) where
    unit_at : (j : ℕ) → j < p → get_or (us ++ (m ∷ [])) j Close ≡ get_or us j Close
    unit_at j h = let e = g.count in at_front us m Close j (omega arith)

    unit_here : get_or (us ++ (m ∷ [])) p Close ≡ m
    unit_here = ap (λ z. get_or (us ++ (m ∷ [])) z Close) (sym g.count) ∙ at_end us m Close

    laid_here : Laid (us ++ (m ∷ [])) words' p
    laid_here = record {
      first = firsts front own;
      second = seconds front own;
      says = subst (λ u. Says (get_or words' p 0) (kind_of u) (byte_of u) (firsts front own) (seconds front own)) (sym unit_here) w.here;
      predecessors = here' n;
    }

    laid_other : (j : ℕ) → j < p → (Back → j ≡ q → ⊥) → Laid us words j → Laid (us ++ (m ∷ [])) words' j
    laid_other j h x l = record {
      first = l.first;
      second = l.second;
      says = subst (λ u. Says (get_or words' j 0) (kind_of u) (byte_of u) l.first l.second) (sym (unit_at j h))
          (subst (λ z. Says z (kind_of (get_or us j Close)) (byte_of (get_or us j Close)) l.first l.second) (sym (w.other j h x)) l.says);
      predecessors = kept j l.first l.second h x l.predecessors;
    }

    laid_back : Back → Laid us words q → Laid (us ++ (m ∷ [])) words' q
    laid_back y l =
        let h = (loose y).before in
        let (c, f) = (loose y).single in
        let e : l.second ≡ None = (settled (Sofar us) q l.first l.second c None l.predecessors f).1 in
        let f1 : Predecessors (Sofar us) q l.first None = subst (λ z. Predecessors (Sofar us) q l.first z) e l.predecessors in
        let u : Under l.first p = under q l.first None f1 in
        let u1 = get_or us q Close in
        record {
          first = firsts l.first (Some p);
          second = seconds l.first (Some p);
          says = subst (λ z. Says (get_or words' q 0) (kind_of z) (byte_of z) (firsts l.first (Some p)) (seconds l.first (Some p))) (sym (unit_at q h))
              (w.back y (kind_of u1) (byte_of u1) l.first u (subst (λ z. Says (get_or words q 0) (kind_of u1) (byte_of u1) l.first z) e l.says));
          predecessors = add (Sofar us) (λ i k. Linked gs q p (m ∷ []) i k) (Sofar (us ++ (m ∷ []))) sum q l.first (Some p) f1 (under_apart l.first u)
              (λ i. ((λ x. ap Some (sym (a.into_back i q h x).2)), (λ x. subst (λ z. Linked gs q p (m ∷ []) z q) (some_same x) (a.back_in y))));
        }

    laid_before : (j : ℕ) → j < p → Laid (us ++ (m ∷ [])) words' j
    laid_before j h = elim a.decided [
      | inl y ↦ elim (eq_or j q) [
        | inl e ↦ subst (λ z. Laid (us ++ (m ∷ [])) words' z) (sym e) (laid_back y (g.laid q (loose y).before))
        | inr x ↦ laid_other j h (λ _ e. x e) (g.laid j h)
      ]
      | inr x ↦ laid_other j h (λ y _. x y) (g.laid j h)
    ]

    pub laid' : (j : ℕ) → j < suc p → Laid (us ++ (m ∷ [])) words' j
    laid' j h = elim (lt_or j p h) [
      | inl x ↦ laid_before j x
      | inr e ↦ subst (λ z. Laid (us ++ (m ∷ [])) words' z) (sym e) laid_here
    ]
