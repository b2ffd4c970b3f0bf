-- The links of a tree are those that its units give when read from the left.
use Rattle.language.proofs.Option.{never}
use Rattle.language.specs.LeftToRight.{Linked, OpenGroup}
use Rattle.language.specs.Links.{BranchStart, Link, branch_end, size}
use Rattle.language.specs.Patterns.{Sort, Tree, alternatives, atom, branch, empty, group, letter, once, only, piece, repeated, units, ◌or◌, ◌then◌}
use Rattle.syntax.specs.declared.PatternUnit.TheVariants.{Bar, Close, Repeat}
use Rattle.syntax.specs.declared.PatternUnit.{PatternUnit}
use Rattle.std.proofs.Common.{◌≡◌, ℕ, suc, ◌+◌, ◌⊎◌, List, [], ◌∷◌, ◌++◌, Some, None, sym, refl, ap, ◌∙◌, subst, inl, inr, append_assoc, append-nil, arith}

-- the position after each Bar
abbrev After : Tree alternatives → ℕ → ℕ → Type 0
After (only b) p k = ⊥
After (b or t) p k = BranchStart t (suc (p + size b)) k

begins_first : (t : Tree alternatives) (p k : ℕ) → k ≡ p → BranchStart t p k
begins_first (only b) p k e = e
begins_first (b or t) p k e = inl e

begins_after : (t : Tree alternatives) (p k : ℕ) → After t p k → BranchStart t p k
begins_after (only b) p k h = absurd h
begins_after (b or t) p k h = inr h

begins_split : (t : Tree alternatives) (p k : ℕ) → BranchStart t p k → (k ≡ p) ⊎ After t p k
begins_split (only b) p k h = inl h
begins_split (b or t) p k h = h

-- where a repeat sign after the branch would bind
abbrev last_operand : Tree branch → ℕ → ℕ → ℕ
last_operand empty p q = q
last_operand (x then y) p q = last_operand y (p + size x) p

data Around (t : Tree alternatives) (p : ℕ) (f : OpenGroup) (n : ℕ) (Later : Type 0) (i k : ℕ) : Type 0 where
  within : Link t p i k → Around t p f n Later i k
  past_bar : i ≡ f.opened → After t p k → Around t p f n Later i k
  from_bar : f.last ≡ Some i → k ≡ branch_end t p → Around t p f n Later i k
  closing : i ≡ n → k ≡ suc n → Around t p f n Later i k
  later : Later → Around t p f n Later i k

-- the links of t's units and those of r, which stand from n on
abbrev Units : {s : Sort} → Tree s → List OpenGroup → ℕ → ℕ → List PatternUnit → ℕ → ℕ → Type 0
Units {s = alternatives} t [] q p r i k = ⊥
Units {s = alternatives} t (f ∷ gs) q p r i k = Linked (f ∷ gs) q p (units t ++ (Close ∷ r)) i k
Units {s = branch} t gs q p r i k = Linked gs q p (units t ++ r) i k
Units {s = piece} t gs q p r i k = Linked gs q p (units t ++ r) i k
Units {s = atom} t gs q p r i k = Linked gs q p (units t ++ r) i k

abbrev Parts : {s : Sort} → Tree s → List OpenGroup → ℕ → ℕ → ℕ → List PatternUnit → ℕ → ℕ → Type 0
Parts {s = alternatives} t [] q p n r i k = ⊥
Parts {s = alternatives} t (f ∷ gs) q p n r i k = Around t p f n (Linked gs f.opened (suc n) r i k) i k
Parts {s = branch} t gs q p n r i k = Link t p i k ⊎ Linked gs (last_operand t p q) n r i k
Parts {s = piece} t gs q p n r i k = Link t p i k ⊎ Linked gs p n r i k
Parts {s = atom} t gs q p n r i k = Link t p i k ⊎ Linked gs p n r i k

-- to stand at another position of the same number
from_to : (gs : List OpenGroup) (q : ℕ) (m n : ℕ) (r : List PatternUnit) (i k : ℕ) → m ≡ n → Linked gs q m r i k → Linked gs q n r i k
from_to gs q m n r i k e h = subst (λ z. Linked gs q z r i k) e h

regroup : (gs : List OpenGroup) (q p : ℕ) (us vs ws : List PatternUnit) (i k : ℕ) → Linked gs q p ((us ++ vs) ++ ws) i k → Linked gs q p (us ++ (vs ++ ws)) i k
regroup gs q p us vs ws i k h = subst (λ z. Linked gs q p z i k) (append_assoc us vs ws) h

ungroup : (gs : List OpenGroup) (q p : ℕ) (us vs ws : List PatternUnit) (i k : ℕ) → Linked gs q p (us ++ (vs ++ ws)) i k → Linked gs q p ((us ++ vs) ++ ws) i k
ungroup gs q p us vs ws i k h = subst (λ z. Linked gs q p z i k) (sym (append_assoc us vs ws)) h

abbrev fresh : ℕ → OpenGroup
fresh p = record { opened = p; last = None }

abbrev barred : OpenGroup → ℕ → OpenGroup
barred f p = record { opened = f.opened; last = Some p }

group_parts : (t : Tree alternatives) (gs : List OpenGroup) (p n : ℕ) → n ≡ p + size (group t) → (r : List PatternUnit) (i k : ℕ)
    → Around t (suc p) (fresh p) (suc p + size t) (Linked gs p (suc (suc p + size t)) r i k) i k → Link (group t) p i k ⊎ Linked gs p n r i k
group_parts t gs p n e r i k (within l) = inl (inr (inl l))
group_parts t gs p n e r i k (past_bar f h) = inl (inl (f, begins_after t (suc p) k h))
group_parts t gs p n e r i k (from_bar f h) = never f
group_parts t gs p n e r i k (closing f h) = inl (inr (inr (f, omega arith)))
group_parts t gs p n e r i k (later h) = inr (from_to gs p (suc (suc p + size t)) n r i k (omega arith) h)

or_parts : (b : Tree branch) (t : Tree alternatives) (f : OpenGroup) (p n : ℕ) (Later : Type 0) (i k : ℕ)
    → Around t (suc (p + size b)) (barred f (p + size b)) n Later i k → Around (b or t) p f n Later i k
or_parts b t f p n Later i k (within l) = within (inr (inr l))
or_parts b t f p n Later i k (past_bar e h) = past_bar e (begins_after t (suc (p + size b)) k h)
or_parts b t f p n Later i k (from_bar e h) =
    let g : i ≡ p + size b = cc in
    within (inr (inl (g, h ∙ ap (λ z. branch_end t (suc z)) (sym g))))
or_parts b t f p n Later i k (closing e h) = closing e h
or_parts b t f p n Later i k (later h) = later h

only_parts : (b : Tree branch) (f : OpenGroup) (gs : List OpenGroup) (q p n : ℕ) → n ≡ p + size b → (r : List PatternUnit) (i k : ℕ)
    → Link b p i k ⊎ Linked (f ∷ gs) q n (Close ∷ r) i k → Around (only b) p f n (Linked gs f.opened (suc n) r i k) i k
only_parts b f gs q p n e r i k (inl l) = within l
only_parts b f gs q p n e r i k (inr (inl (g, h))) = from_bar g (omega arith)
only_parts b f gs q p n e r i k (inr (inr (inl (g, h)))) = closing g h
only_parts b f gs q p n e r i k (inr (inr (inr h))) = later h

split : {s : Sort} (t : Tree s) (gs : List OpenGroup) (q p n : ℕ) → n ≡ p + size t → (r : List PatternUnit) (i k : ℕ) → Units t gs q p r i k → Parts t gs q p n r i k
split (letter b) gs q p n e r i k h = inr (from_to gs p (suc p) n r i k (omega arith) h)
split (group t) gs q p n e r i k (inl (f, g)) = inl (inl (f, begins_first t (suc p) k g))
split (group t) gs q p n e r i k (inr h) =
    group_parts t gs p n e r i k (split t (fresh p ∷ gs) p (suc p) (suc p + size t) refl r i k (regroup (fresh p ∷ gs) p (suc p) (units t) (Close ∷ []) r i k h))
split (once a) gs q p n e r i k h = split a gs q p n e r i k h
split (repeated a g) gs q p n e r i k h =
    elim (split a gs q p (p + size a) refl (Repeat g ∷ r) i k (regroup gs q p (units a) (Repeat g ∷ []) r i k h)) [
      | inl l ↦ inl (inl l)
      | inr (inl l) ↦ inl (inr l)
      | inr (inr m) ↦ inr (from_to gs p (suc (p + size a)) n r i k (omega arith) m)
    ]
split empty gs q p n e r i k h = inr (from_to gs q p n r i k (omega arith) h)
split (x then y) gs q p n e r i k h =
    elim (split x gs q p (p + size x) refl (units y ++ r) i k (regroup gs q p (units x) (units y) r i k h)) [
      | inl l ↦ inl (inl l)
      | inr m ↦ elim (split y gs p (p + size x) n (omega arith) r i k m) [ inl l ↦ inl (inr l) | inr z ↦ inr z ]
    ]
split (only b) [] q p n e r i k h = h
split (only b) (f ∷ gs) q p n e r i k h = only_parts b f gs (last_operand b p q) p n e r i k (split b (f ∷ gs) q p n e (Close ∷ r) i k h)
split (b or t) [] q p n e r i k h = h
split (b or t) (f ∷ gs) q p n e r i k h =
    elim (split b (f ∷ gs) q p (p + size b) refl (Bar ∷ (units t ++ (Close ∷ r))) i k (regroup (f ∷ gs) q p (units b) (Bar ∷ units t) (Close ∷ r) i k h)) [
      | inl l ↦ within (inl l)
      | inr (inl m) ↦ past_bar m.0 (begins_first t (suc (p + size b)) k m.1)
      | inr (inr (inl m)) ↦ from_bar m.0 m.1
      | inr (inr (inr m)) ↦
          or_parts b t f p n (Linked gs f.opened (suc n) r i k) i k (split t (barred f (p + size b) ∷ gs) (p + size b) (suc (p + size b)) n (omega arith) r i k m)
    ]

group_around : (t : Tree alternatives) (gs : List OpenGroup) (p n : ℕ) → n ≡ p + size (group t) → (r : List PatternUnit) (i k : ℕ)
    → Link (group t) p i k ⊎ Linked gs p n r i k
    → ((i ≡ p) × (k ≡ suc p)) ⊎ Around t (suc p) (fresh p) (suc p + size t) (Linked gs p (suc (suc p + size t)) r i k) i k
group_around t gs p n e r i k (inl (inl (f, h))) =
    elim (begins_split t (suc p) k h) [ inl z ↦ inl (f, z) | inr z ↦ inr (past_bar f z) ]
group_around t gs p n e r i k (inl (inr (inl l))) = inr (within l)
group_around t gs p n e r i k (inl (inr (inr (f, g)))) = inr (closing f (omega arith))
group_around t gs p n e r i k (inr h) = inr (later (from_to gs p n (suc (suc p + size t)) r i k (omega arith) h))

only_around : (b : Tree branch) (f : OpenGroup) (gs : List OpenGroup) (q p n : ℕ) → n ≡ p + size b → (r : List PatternUnit) (i k : ℕ)
    → Around (only b) p f n (Linked gs f.opened (suc n) r i k) i k → Link b p i k ⊎ Linked (f ∷ gs) q n (Close ∷ r) i k
only_around b f gs q p n e r i k (within l) = inl l
only_around b f gs q p n e r i k (past_bar g h) = absurd h
only_around b f gs q p n e r i k (from_bar g h) = inr (inl (g, omega arith))
only_around b f gs q p n e r i k (closing g h) = inr (inr (inl (g, h)))
only_around b f gs q p n e r i k (later h) = inr (inr (inr h))

or_around : (b : Tree branch) (t : Tree alternatives) (f : OpenGroup) (p n : ℕ) (Later : Type 0) (i k : ℕ)
    → Around (b or t) p f n Later i k
    → Link b p i k ⊎ (((i ≡ f.opened) × (k ≡ suc (p + size b))) ⊎ (((f.last ≡ Some i) × (k ≡ p + size b)) ⊎ Around t (suc (p + size b)) (barred f (p + size b)) n Later i k))
or_around b t f p n Later i k (within (inl l)) = inl l
or_around b t f p n Later i k (within (inr (inl (g, h)))) = inr (inr (inr (from_bar (ap Some (sym g)) (h ∙ ap (λ z. branch_end t (suc z)) g))))
or_around b t f p n Later i k (within (inr (inr l))) = inr (inr (inr (within l)))
or_around b t f p n Later i k (past_bar e h) =
    elim (begins_split t (suc (p + size b)) k h) [ inl z ↦ inr (inl (e, z)) | inr z ↦ inr (inr (inr (past_bar e z))) ]
or_around b t f p n Later i k (from_bar g h) = inr (inr (inl (g, h)))
or_around b t f p n Later i k (closing g h) = inr (inr (inr (closing g h)))
or_around b t f p n Later i k (later h) = inr (inr (inr (later h)))

join : {s : Sort} (t : Tree s) (gs : List OpenGroup) (q p n : ℕ) → n ≡ p + size t → (r : List PatternUnit) (i k : ℕ) → Parts t gs q p n r i k → Units t gs q p r i k
join (letter b) gs q p n e r i k (inl l) = absurd l
join (letter b) gs q p n e r i k (inr h) = from_to gs p n (suc p) r i k (omega arith) h
join (group t) gs q p n e r i k h =
    elim (group_around t gs p n e r i k h) [
      | inl z ↦ inl z
      | inr z ↦ inr (ungroup (fresh p ∷ gs) p (suc p) (units t) (Close ∷ []) r i k (join t (fresh p ∷ gs) p (suc p) (suc p + size t) refl r i k z))
    ]
join (once a) gs q p n e r i k h = join a gs q p n e r i k h
join (repeated a g) gs q p n e r i k h =
    let rest : Link a p i k ⊎ Linked gs p (p + size a) (Repeat g ∷ r) i k =
    elim h [ inl (inl l) ↦ inl l | inl (inr l) ↦ inr (inl l) | inr m ↦ inr (inr (from_to gs p n (suc (p + size a)) r i k (omega arith) m)) ] in
    ungroup gs q p (units a) (Repeat g ∷ []) r i k (join a gs q p (p + size a) refl (Repeat g ∷ r) i k rest)
join empty gs q p n e r i k (inl l) = absurd l
join empty gs q p n e r i k (inr h) = from_to gs q n p r i k (omega arith) h
join (x then y) gs q p n e r i k h =
    let rest : Link x p i k ⊎ Linked gs p (p + size x) (units y ++ r) i k =
    elim h [
      | inl (inl l) ↦ inl l
      | inl (inr l) ↦ inr (join y gs p (p + size x) n (omega arith) r i k (inl l))
      | inr m ↦ inr (join y gs p (p + size x) n (omega arith) r i k (inr m))
    ] in
    ungroup gs q p (units x) (units y) r i k (join x gs q p (p + size x) refl (units y ++ r) i k rest)
join (only b) [] q p n e r i k h = h
join (only b) (f ∷ gs) q p n e r i k h = join b (f ∷ gs) q p n e (Close ∷ r) i k (only_around b f gs (last_operand b p q) p n e r i k h)
join (b or t) [] q p n e r i k h = h
join (b or t) (f ∷ gs) q p n e r i k h =
    let rest : Link b p i k ⊎ Linked (f ∷ gs) (last_operand b p q) (p + size b) (Bar ∷ (units t ++ (Close ∷ r))) i k =
    elim (or_around b t f p n (Linked gs f.opened (suc n) r i k) i k h) [
      | inl l ↦ inl l
      | inr (inl z) ↦ inr (inl z)
      | inr (inr (inl z)) ↦ inr (inr (inl z))
      | inr (inr (inr z)) ↦ inr (inr (inr (join t (barred f (p + size b) ∷ gs) (p + size b) (suc (p + size b)) n (omega arith) r i k z)))
    ] in
    ungroup (f ∷ gs) q p (units b) (Bar ∷ units t) (Close ∷ r) i k (join b (f ∷ gs) q p (p + size b) refl (Bar ∷ (units t ++ (Close ∷ r))) i k rest)

pub link_linked : (t : Tree alternatives) (i k : ℕ) → Link (group t) 0 i k → Linked [] 0 0 (units (group t)) i k
link_linked t i k l =
    subst (λ z. Linked [] 0 0 z i k) (append-nil (units (group t))) (join (group t) [] 0 0 (size (group t)) (omega arith) [] i k (inl l))

pub linked_link : (t : Tree alternatives) (i k : ℕ) → Linked [] 0 0 (units (group t)) i k → Link (group t) 0 i k
linked_link t i k h =
    elim (split (group t) [] 0 0 (size (group t)) (omega arith) [] i k (subst (λ z. Linked [] 0 0 z i k) (sym (append-nil (units (group t)))) h))
    [ inl l ↦ l | inr z ↦ absurd z ]
