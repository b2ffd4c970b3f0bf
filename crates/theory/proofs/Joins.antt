-- The order that a join gives, and marks made of a family's.
use Rattle.mark.specs.Joins.{Contained, JoinOf, join_all}
use Rattle.mark.specs.Marks.{Laws}
use Rattle.std.proofs.Common.{◌≡◌, ◌⊎◌, List, [], ◌∷◌, ◌++◌, map, sym, refl, ap, ◌∙◌, subst, inl, inr}

-- a way of moving marks that keeps joins and nothing
pub record Moves {M : Type 0} (join : M → M → M) (nothing : M) (pass : M → M) : Type 0 where
  pub of_join : (x y : M) → pass (join x y) ≡ join (pass x) (pass y)
  pub of_nothing : pass nothing ≡ nothing

-- m is the join of finitely many members
pub record Made {M : Type 0} (join : M → M → M) (nothing : M) {I : Type 0} (mark : I → M) (m : M) : Type 0 where
  pub members : List I
  pub is : m ≡ join_all join nothing (map mark members)

module _ {M : Type 0} (join : M → M → M) (nothing : M) (laws : Laws join nothing) where
  pub under_refl : (x : M) → Contained join x x
  under_refl x = laws.idem x

  pub under_trans : (x y z : M) → Contained join x y → Contained join y z → Contained join x z
  under_trans x y z p q = ap (join x) (sym q) ∙ sym (laws.assoc x y z) ∙ ap (λ m. join m z) p ∙ q

  pub under_left : (x y : M) → Contained join x (join x y)
  under_left x y = sym (laws.assoc x x y) ∙ ap (λ m. join m y) (laws.idem x)

  pub under_right : (x y : M) → Contained join y (join x y)
  under_right x y = ap (join y) (laws.comm x y) ∙ under_left y x ∙ laws.comm y x

  pub join_under : (x y z : M) → Contained join x z → Contained join y z → Contained join (join x y) z
  join_under x y z p q = laws.assoc x y z ∙ ap (join x) q ∙ p

  pub unit_right : (x : M) → join x nothing ≡ x
  unit_right x = laws.comm x nothing ∙ laws.unit x

  pub moves_under : (pass : M → M) → Moves join nothing pass → (x y : M) → Contained join x y → Contained join (pass x) (pass y)
  moves_under pass mv x y h = sym (mv.of_join x y) ∙ ap pass h

  module _ {I : Type 0} (mark : I → M) where
    join_all_append : (xs ys : List I) →
        join_all join nothing (map mark (xs ++ ys)) ≡ join (join_all join nothing (map mark xs)) (join_all join nothing (map mark ys))
    join_all_append [] ys = sym (laws.unit (join_all join nothing (map mark ys)))
    join_all_append (x ∷ xs) ys =
        ap (join (mark x)) (join_all_append xs ys) ∙ sym (laws.assoc (mark x) (join_all join nothing (map mark xs)) (join_all join nothing (map mark ys)))

    pub made_none : Made join nothing mark nothing
    made_none = record { members = []; is = refl }

    pub made_one : (i : I) → Made join nothing mark (mark i)
    made_one i = record { members = i ∷ []; is = sym (unit_right (mark i)) }

    pub made_is : {x y : M} → x ≡ y → Made join nothing mark y → Made join nothing mark x
    made_is e h = record { members = h.members; is = e ∙ h.is }

    pub made_join : {x y : M} → Made join nothing mark x → Made join nothing mark y → Made join nothing mark (join x y)
    made_join {x} {y} h k = record {
      members = h.members ++ k.members;
      is = ap (λ m. join m y) h.is ∙ ap (join (join_all join nothing (map mark h.members))) k.is ∙ sym (join_all_append h.members k.members);
    }

    list_under : (z : M) → ((i : I) → Contained join (mark i) z) → (xs : List I) → Contained join (join_all join nothing (map mark xs)) z
    list_under z f [] = laws.unit z
    list_under z f (x ∷ xs) = join_under (mark x) (join_all join nothing (map mark xs)) z (f x) (list_under z f xs)

    -- what is above each member is above what is made of them
    pub made_under : {m : M} (z : M) → Made join nothing mark m → ((i : I) → Contained join (mark i) z) → Contained join m z
    made_under z h f = subst (λ m. Contained join m z) (sym h.is) (list_under z f h.members)

    list_pass : (pass : M → M) → Moves join nothing pass → (xs : List I) →
        pass (join_all join nothing (map mark xs)) ≡ join_all join nothing (map (λ i. pass (mark i)) xs)
    list_pass pass mv [] = mv.of_nothing
    list_pass pass mv (x ∷ xs) = mv.of_join (mark x) (join_all join nothing (map mark xs)) ∙ ap (join (pass (mark x))) (list_pass pass mv xs)

    pub made_pass : {m : M} (pass : M → M) → Moves join nothing pass → Made join nothing mark m → Made join nothing (λ i. pass (mark i)) (pass m)
    made_pass pass mv h = record { members = h.members; is = ap pass h.is ∙ list_pass pass mv h.members }

    pub join_of : {m : M} → ((i : I) → Contained join (mark i) m) → Made join nothing mark m → JoinOf join nothing mark m
    join_of f h = record { contains = f; members = h.members; joins = h.is }

    pub made_of : {m : M} → JoinOf join nothing mark m → Made join nothing mark m
    made_of h = record { members = h.members; is = h.joins }

  module _ {I J : Type 0} (mark : I → M) (other : J → M) where
    made_list : ((i : I) → Made join nothing other (mark i)) → (xs : List I) → Made join nothing other (join_all join nothing (map mark xs))
    made_list f [] = made_none other
    made_list f (x ∷ xs) = made_join other (f x) (made_list f xs)

    -- what is made of marks that are each made of others is made of those
    pub made_each : {m : M} → ((i : I) → Made join nothing other (mark i)) → Made join nothing mark m → Made join nothing other m
    made_each f h = made_is other h.is (made_list f h.members)

  -- two families with the same marks have the same join
  pub join_of_via : {I J : Type 0} (mark : I → M) (other : J → M) (to : I → J) (back : J → I) →
      ((i : I) → mark i ≡ other (to i)) → ((j : J) → other j ≡ mark (back j)) → {m : M} →
      JoinOf join nothing mark m → JoinOf join nothing other m
  join_of_via mark other to back e f {m} h =
      join_of other (λ j. subst (λ x. Contained join x m) (sym (f j)) (h.contains (back j)))
      (made_each mark other (λ i. made_is other (e i) (made_one other (to i))) (made_of mark h))

  -- where a join is one of the two, the join of a family is nothing or one of its marks
  list_chosen : {I : Type 0} (mark : I → M) → ((x y : M) → (join x y ≡ x) ⊎ (join x y ≡ y)) → (xs : List I) →
      (join_all join nothing (map mark xs) ≡ nothing) ⊎ ((i : I) × (join_all join nothing (map mark xs) ≡ mark i))
  list_chosen mark s [] = inl refl
  list_chosen mark s (x ∷ xs) =
      elim (s (mark x) (join_all join nothing (map mark xs))) [
        | inl e ↦ inr (x, e)
        | inr e ↦ elim (list_chosen mark s xs) [ inl f ↦ inl (e ∙ f) | inr (i, f) ↦ inr (i, e ∙ f) ]
      ]

  pub chosen : {I : Type 0} (mark : I → M) → ((x y : M) → (join x y ≡ x) ⊎ (join x y ≡ y)) → {m : M} → JoinOf join nothing mark m →
      (m ≡ nothing) ⊎ ((i : I) × (m ≡ mark i))
  chosen mark s h = elim (list_chosen mark s h.members) [ inl e ↦ inl (h.joins ∙ e) | inr (i, e) ↦ inr (i, h.joins ∙ e) ]

  -- a family has one join
  pub one_join : {I : Type 0} (mark : I → M) {m n : M} → JoinOf join nothing mark m → JoinOf join nothing mark n → m ≡ n
  one_join mark {m} {n} h k =
      sym (made_under mark m (made_of mark k) h.contains) ∙ laws.comm n m ∙ made_under mark n (made_of mark h) k.contains
