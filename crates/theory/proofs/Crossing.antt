-- The letters of a tree by its shape: what a position reads there is what its unit reads.
use Rattle.std.proofs.Common.{◌≡◌, ℕ, zero, suc, ◌+◌, ◌≤◌, ◌⊎◌, List, [], ◌∷◌, ◌++◌, get_or, sym, refl, subst, inl, inr, append_assoc, append-nil, arith}
use Rattle.language.specs.Links.{size}
use Rattle.language.specs.Patterns.{Sort, Tree, alternatives, empty, group, letter, once, only, repeated, units, ◌or◌, ◌then◌}
use Rattle.language.specs.Ways.{Leads, ReadsAt, along, over, stay, unit_at}
use Rattle.syntax.specs.declared.Letter.{Letter}
use Rattle.syntax.specs.declared.PatternUnit.{PatternUnit}
use Rattle.syntax.specs.declared.PatternUnit.TheVariants.{Bar, Close, Open, Plain, Repeat}

module _ {A : Type 0} (reads : Letter → A → Type 0) where
  -- the letter at j of a tree whose first unit stands at p reads a
  abbrev pub Crosses : {s : Sort} → Tree s → ℕ → ℕ → A → Type 0
  Crosses (letter l) p j a = (j ≡ p) × reads l a
  Crosses (group t) p j a = Crosses t (suc p) j a
  Crosses (once x) p j a = Crosses x p j a
  Crosses (repeated x g) p j a = Crosses x p j a
  Crosses empty p j a = ⊥
  Crosses (x then y) p j a = Crosses x p j a ⊎ Crosses y (p + size x) j a
  Crosses (only b) p j a = Crosses b p j a
  Crosses (b or t) p j a = Crosses b p j a ⊎ Crosses t (suc (p + size b)) j a

  -- the unit reads a
  abbrev UnitReads : PatternUnit → A → Type 0
  UnitReads Open a = ⊥
  UnitReads Bar a = ⊥
  UnitReads Close a = ⊥
  UnitReads (Plain l) a = reads l a
  UnitReads (Repeat g) a = ⊥

  unit_reads : (u : PatternUnit) (l : Letter) (a : A) → u ≡ Plain l → reads l a → UnitReads u a
  unit_reads u l a e r = subst (λ z. UnitReads z a) (sym e) r

  unit_letter : (u : PatternUnit) (a : A) → UnitReads u a → (l : Letter) × (u ≡ Plain l) × reads l a
  unit_letter Open a r = absurd r
  unit_letter Bar a r = absurd r
  unit_letter Close a r = absurd r
  unit_letter (Plain l) a r = (l, refl, r)
  unit_letter (Repeat g) a r = absurd r

  abbrev Taken : List PatternUnit → ℕ → ℕ → A → Type 0
  Taken [] p j c = ⊥
  Taken (m ∷ us) p j c = ((j ≡ p) × UnitReads m c) ⊎ Taken us (suc p) j c

  -- the units of t, and r, which stands from n on
  apart : {s : Sort} (t : Tree s) (p n : ℕ) → n ≡ p + size t → (r : List PatternUnit) (j : ℕ) (c : A) → Taken (units t ++ r) p j c → Crosses t p j c ⊎ Taken r n j c
  apart (letter b) p n e r j c (inl h) = inl h
  apart (letter b) p n e r j c (inr h) = inr (subst (λ z. Taken r z j c) (omega arith) h)
  apart (group t) p n e r j c (inl (f, h)) = absurd h
  apart (group t) p n e r j c (inr h) =
      elim (apart t (suc p) (suc p + size t) refl (Close ∷ r) j c (subst (λ z. Taken z (suc p) j c) (append_assoc (units t) (Close ∷ []) r) h))
      [ inl m ↦ inl m | inr (inl m) ↦ absurd m.1 | inr (inr m) ↦ inr (subst (λ z. Taken r z j c) (omega arith) m) ]
  apart (once a) p n e r j c h = apart a p n e r j c h
  apart (repeated a g) p n e r j c h =
      elim (apart a p (p + size a) refl (Repeat g ∷ r) j c (subst (λ z. Taken z p j c) (append_assoc (units a) (Repeat g ∷ []) r) h))
      [ inl m ↦ inl m | inr (inl m) ↦ absurd m.1 | inr (inr m) ↦ inr (subst (λ z. Taken r z j c) (omega arith) m) ]
  apart empty p n e r j c h = inr (subst (λ z. Taken r z j c) (omega arith) h)
  apart (x then y) p n e r j c h =
      elim (apart x p (p + size x) refl (units y ++ r) j c (subst (λ z. Taken z p j c) (append_assoc (units x) (units y) r) h)) [
        | inl m ↦ inl (inl m)
        | inr m ↦ elim (apart y (p + size x) n (omega arith) r j c m) [ inl l ↦ inl (inr l) | inr l ↦ inr l ]
      ]
  apart (only b) p n e r j c h = apart b p n e r j c h
  apart (b or t) p n e r j c h =
      elim (apart b p (p + size b) refl (Bar ∷ (units t ++ r)) j c (subst (λ z. Taken z p j c) (append_assoc (units b) (Bar ∷ units t) r) h)) [
        | inl m ↦ inl (inl m)
        | inr (inl m) ↦ absurd m.1
        | inr (inr m) ↦ elim (apart t (suc (p + size b)) n (omega arith) r j c m) [ inl l ↦ inl (inr l) | inr l ↦ inr l ]
      ]

  -- and back
  along_to : (us vs : List PatternUnit) (p j : ℕ) (c : A) → Taken us p j c → Taken (us ++ vs) p j c
  along_to [] vs p j c h = absurd h
  along_to (m ∷ us) vs p j c (inl h) = inl h
  along_to (m ∷ us) vs p j c (inr h) = inr (along_to us vs (suc p) j c h)

  past : {s : Sort} (t : Tree s) (p n : ℕ) → n ≡ p + size t → (r : List PatternUnit) (j : ℕ) (c : A) → Taken r n j c → Taken (units t ++ r) p j c
  past (letter b) p n e r j c h = inr (subst (λ z. Taken r z j c) (omega arith) h)
  past (group t) p n e r j c h =
      inr (subst (λ z. Taken z (suc p) j c) (sym (append_assoc (units t) (Close ∷ []) r))
      (past t (suc p) (suc p + size t) refl (Close ∷ r) j c (inr (subst (λ z. Taken r z j c) (omega arith) h))))
  past (once a) p n e r j c h = past a p n e r j c h
  past (repeated a g) p n e r j c h =
      subst (λ z. Taken z p j c) (sym (append_assoc (units a) (Repeat g ∷ []) r))
      (past a p (p + size a) refl (Repeat g ∷ r) j c (inr (subst (λ z. Taken r z j c) (omega arith) h)))
  past empty p n e r j c h = subst (λ z. Taken r z j c) (omega arith) h
  past (x then y) p n e r j c h =
      subst (λ z. Taken z p j c) (sym (append_assoc (units x) (units y) r)) (past x p (p + size x) refl (units y ++ r) j c (past y (p + size x) n (omega arith) r j c h))
  past (only b) p n e r j c h = past b p n e r j c h
  past (b or t) p n e r j c h =
      subst (λ z. Taken z p j c) (sym (append_assoc (units b) (Bar ∷ units t) r))
      (past b p (p + size b) refl (Bar ∷ (units t ++ r)) j c (inr (past t (suc (p + size b)) n (omega arith) r j c h)))

  taken : {s : Sort} (t : Tree s) (p j : ℕ) (c : A) → Crosses t p j c → Taken (units t) p j c
  taken (letter b) p j c h = inl h
  taken (group t) p j c h = inr (along_to (units t) (Close ∷ []) (suc p) j c (taken t (suc p) j c h))
  taken (once a) p j c h = taken a p j c h
  taken (repeated a g) p j c h = along_to (units a) (Repeat g ∷ []) p j c (taken a p j c h)
  taken empty p j c h = h
  taken (x then y) p j c (inl h) = along_to (units x) (units y) p j c (taken x p j c h)
  taken (x then y) p j c (inr h) = past x p (p + size x) refl (units y) j c (taken y (p + size x) j c h)
  taken (only b) p j c h = taken b p j c h
  taken (b or t) p j c (inl h) = along_to (units b) (Bar ∷ units t) p j c (taken b p j c h)
  taken (b or t) p j c (inr h) = past b p (p + size b) refl (Bar ∷ units t) j c (inr (taken t (suc (p + size b)) j c h))

  taken_low : (us : List PatternUnit) (p j : ℕ) (c : A) → Taken us p j c → p ≤ j
  taken_low [] p j c h = absurd h
  taken_low (m ∷ us) p j c (inl h) = omega arith
  taken_low (m ∷ us) p j c (inr h) = let l = taken_low us (suc p) j c h in omega arith

  -- the unit at a position
  at_unit : (us : List PatternUnit) (p d : ℕ) (c : A) → Taken us p (p + d) c → UnitReads (get_or us d Close) c
  at_unit [] p d c h = h
  at_unit (m ∷ us) p zero c (inl h) = h.1
  at_unit (m ∷ us) p zero c (inr h) = let l = taken_low us (suc p) (p + 0) c h in let z : ⊥ = omega arith in absurd z
  at_unit (m ∷ us) p (suc d) c (inl h) = let z : ⊥ = omega arith in absurd z
  at_unit (m ∷ us) p (suc d) c (inr h) = at_unit us (suc p) d c (subst (λ z. Taken us (suc p) z c) (omega arith) h)

  unit_there : (us : List PatternUnit) (p d : ℕ) (c : A) → UnitReads (get_or us d Close) c → Taken us p (p + d) c
  unit_there [] p d c h = h
  unit_there (m ∷ us) p zero c h = inl (omega arith, h)
  unit_there (m ∷ us) p (suc d) c h = inr (subst (λ z. Taken us (suc p) z c) (omega arith) (unit_there us (suc p) d c h))

  pub crossed_reads : (t : Tree alternatives) (j : ℕ) (c : A) → Crosses (group t) 0 j c → ReadsAt reads t j c
  crossed_reads t j c h =
      unit_letter (unit_at t j) c (at_unit (units (group t)) 0 j c (subst (λ z. Taken (units (group t)) 0 z c) (omega arith) (taken (group t) 0 j c h)))

  pub reads_crossed : (t : Tree alternatives) (j : ℕ) (c : A) → ReadsAt reads t j c → Crosses (group t) 0 j c
  reads_crossed t j c (l, e, r) =
      elim (apart (group t) 0 (size (group t)) (omega arith) [] j c
      (subst (λ z. Taken z 0 j c) (sym (append-nil (units (group t)))) (subst (λ z. Taken (units (group t)) 0 z c) (omega arith) (unit_there (units (group t)) 0 j c (unit_reads (unit_at t j) l c e r)))))
      [ inl m ↦ m | inr m ↦ absurd m ]

-- a way leads on over moves said otherwise
pub leads_over : {A : Type 0} {link : ℕ → ℕ → Type 0} {move other : ℕ → A → Type 0} → ((j : ℕ) (c : A) → move j c → other j c)
    → {o : ℕ} {w : List A} {j : ℕ} → Leads link move o w j → Leads link other o w j
leads_over f stay = stay
leads_over f (along x l) = along (leads_over f x) l
leads_over f (over {j = j} {c = c} x h) = over (leads_over f x) (f j c h)
