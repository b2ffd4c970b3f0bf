-- Ways without a byte, and ways by their last byte.
use Rattle.std.proofs.Common.{◌≡◌, ℕ, suc, List, [], ◌∷◌, ◌++◌, sym, refl, ap, subst, arith}
use Rattle.language.specs.Ways.{Chain, Leads, along, here, on, over, stay}

snoc_nil : {A B : Type 0} (w : List B) (c : B) → [] ≡ w ++ (c ∷ []) → A
snoc_nil [] c e = let z : ◌≡◌ {A = ℕ} 0 1 = cc in let y : ⊥ = omega arith in absurd y
snoc_nil (b ∷ w) c e = let z : ◌≡◌ {A = ℕ} 0 1 = cc in let y : ⊥ = omega arith in absurd y

record SameSnoc {A : Type 0} (u w : List A) (b c : A) : Type 0 where
  front : u ≡ w
  last : b ≡ c

snoc_same : {A : Type 0} (u w : List A) (b c : A) → u ++ (b ∷ []) ≡ w ++ (c ∷ []) → SameSnoc u w b c
snoc_same [] [] b c e = record { front = refl; last = cc }
snoc_same [] (y ∷ w) b c e = let f : [] ≡ w ++ (c ∷ []) = cc in snoc_nil w c f
snoc_same (x ∷ u) [] b c e = let f : [] ≡ u ++ (b ∷ []) = cc in snoc_nil u b f
snoc_same (x ∷ u) (y ∷ w) b c e =
    let f : u ++ (b ∷ []) ≡ w ++ (c ∷ []) = cc in
    let g : x ≡ y = cc in
    let r = snoc_same u w b c f in
    let h = r.front in
    record { front = cc; last = r.last }

-- a mark taken along a way: it passes over each position that takes a symbol
abbrev pub carried : {M A : Type 0} {link : ℕ → ℕ → Type 0} {move : ℕ → A → Type 0} {i : ℕ} {w : List A} {k : ℕ} → (ℕ → M → M) → Leads link move i w k → M → M
carried pass stay m = m
carried pass (along x l) m = carried pass x m
carried pass (over {j = j} x h) m = pass j (carried pass x m)

-- a mark that passes unchanged comes unchanged
pub carried_same : {M A : Type 0} {link : ℕ → ℕ → Type 0} {move : ℕ → A → Type 0} {i : ℕ} {w : List A} {k : ℕ} (x : Leads link move i w k) (m : M) → carried (λ j n. n) x m ≡ m
carried_same stay m = refl
carried_same (along x l) m = carried_same x m
carried_same (over x h) m = carried_same x m

module _ {A : Type 0} {link : ℕ → ℕ → Type 0} {move : ℕ → A → Type 0} {M : Type 0} (pass : ℕ → M → M) where
  -- a way by v, at which a mark arrives as on the way x
  pub record Like {i : ℕ} {w : List A} {k : ℕ} (x : Leads link move i w k) (v : List A) : Type 0 where
    pub way : Leads link move i v k
    pub same : (m : M) → carried pass way m ≡ carried pass x m

  pub respelt : {i : ℕ} {w : List A} {k : ℕ} (x : Leads link move i w k) (v : List A) → w ≡ v → Like x v
  respelt x v e = subst (Like x) e (record { way = x; same = λ m. refl })

  -- a way goes on along a chain of links
  pub record Longer {i : ℕ} {w : List A} {j : ℕ} (x : Leads link move i w j) (k : ℕ) : Type 0 where
    pub way : Leads link move i w k
    pub same : (m : M) → carried pass way m ≡ carried pass x m

  pub lengthen : {i : ℕ} {w : List A} {j : ℕ} (x : Leads link move i w j) {k : ℕ} → Chain link j k → Longer x k
  lengthen x here = record { way = x; same = λ m. refl }
  lengthen x (on c l) = let r = lengthen x c in record { way = along r.way l; same = r.same }

  -- a way without a byte is a chain
  pub record Still {i : ℕ} {w : List A} {k : ℕ} (x : Leads link move i w k) : Type 0 where
    pub chain : Chain link i k
    pub same : (m : M) → carried pass x m ≡ m

  pub still : {i : ℕ} {w : List A} {k : ℕ} (x : Leads link move i w k) → w ≡ [] → Still x
  still stay e = record { chain = here; same = λ m. refl }
  still (along x l) e = let r = still x e in record { chain = on r.chain l; same = r.same }
  still (over {w = w} {c = c} x h) e = snoc_nil w c (sym e)

  -- a way by w and then c: by w, over a unit that takes c, and along a chain
  pub record Split {i : ℕ} {v : List A} {k : ℕ} (x : Leads link move i v k) (w : List A) (c : A) : Type 0 where
    pub at : ℕ
    pub before : Leads link move i w at
    pub taken : move at c
    pub chain : Chain link (suc at) k
    pub same : (m : M) → carried pass x m ≡ pass at (carried pass before m)

  pub split : {i : ℕ} {v : List A} {k : ℕ} (x : Leads link move i v k) (w : List A) (c : A) → v ≡ w ++ (c ∷ []) → Split x w c
  split stay w c e = snoc_nil w c e
  split (along x l) w c e =
      let r = split x w c e in
      record { at = r.at; before = r.before; taken = r.taken; chain = on r.chain l; same = r.same }
  split (over {w = u} {j = j} {c = b} x h) w c e =
      let s = snoc_same u w b c e in
      let r = respelt x w s.front in
      record { at = j; before = r.way; taken = subst (move j) s.last h; chain = here; same = λ m. ap (pass j) (sym (r.same m)) }
