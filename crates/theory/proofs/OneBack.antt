-- One link back is enough.
use Rattle.std.proofs.Common.{◌≡◌, ℕ, suc, ◌+◌, ◌<◌, ◌≤◌, ◌⊎◌, sym, ap, ◌∙◌, subst, inl, inr, arith}
use Rattle.language.specs.Links.{BranchStart, Link, LinksOf, Loops, branch_end, loop, onward, size, skip}
use Rattle.language.specs.Patterns.{Sort, Tree, alternatives, atom, empty, group, letter, once, only, repeated, ◌or◌, ◌then◌}
use Rattle.language.specs.Ways.{Chain, here, on}
use Rattle.theory.proofs.Bounds.{atom_size, begins_in, branch_end_in, link_in}
use native.Mathlib.Decide.{dec_lt}

-- each link leads to a later position
pub data Rises (link : ℕ → ℕ → Type 0) (i : ℕ) : ℕ → Type 0 where
  level : Rises link i i
  up : {j k : ℕ} → Rises link i j → link j k → j < k → Rises link i k

-- what two scans, each from the first position to the last, come to: at most one link that leads back
abbrev pub Twice : (ℕ → ℕ → Type 0) → ℕ → ℕ → Type 0
Twice link i k = Rises link i k ⊎ ((j : ℕ) × (q : ℕ) × Rises link i j × link j q × Rises link q k)

-- t has a sign at j that links back to q
abbrev Loop : {s : Sort} → Tree s → ℕ → ℕ → ℕ → Type 0
Loop (letter b) p q j = ⊥
Loop (group t) p q j = Loop t (suc p) q j
Loop (once a) p q j = Loop a p q j
Loop (repeated a g) p q j = Loop a p q j ⊎ (Loops g × (q ≡ p) × (j ≡ p + size a))
Loop empty p q j = ⊥
Loop (x then y) p q j = Loop x p q j ⊎ Loop y (p + size x) q j
Loop (only b) p q j = Loop b p q j
Loop (b or t) p q j = Loop b p q j ⊎ Loop t (suc (p + size b)) q j

loop_in : {s : Sort} (t : Tree s) (p q j : ℕ) → Loop t p q j → (p ≤ q) × (q < j) × (j < p + size t)
loop_in (letter b) p q j l = absurd l
loop_in (group t) p q j l = let h = loop_in t (suc p) q j l in omega arith
loop_in (once a) p q j l = loop_in a p q j l
loop_in (repeated a g) p q j (inl l) = let h = loop_in a p q j l in omega arith
loop_in (repeated a g) p q j (inr l) = let h = atom_size a in omega arith
loop_in empty p q j l = absurd l
loop_in (x then y) p q j (inl l) = let h = loop_in x p q j l in omega arith
loop_in (x then y) p q j (inr l) = let h = loop_in y (p + size x) q j l in omega arith
loop_in (only b) p q j l = loop_in b p q j l
loop_in (b or t) p q j (inl l) = let h = loop_in b p q j l in omega arith
loop_in (b or t) p q j (inr l) = let h = loop_in t (suc (p + size b)) q j l in omega arith

atom_loop : (a : Tree atom) (p q j : ℕ) → Loop a p q j → p < q
atom_loop (letter b) p q j l = absurd l
atom_loop (group t) p q j l = let h = loop_in t (suc p) q j l in omega arith

-- a link leads on, or back from a sign
falls : {s : Sort} (t : Tree s) (p x y : ℕ) → Link t p x y → (x < y) ⊎ Loop t p y x
falls (letter b) p x y l = absurd l
falls (group t) p x y (inl (e, l)) = let h = begins_in t (suc p) y l in inl (omega arith)
falls (group t) p x y (inr (inl l)) = falls t (suc p) x y l
falls (group t) p x y (inr (inr (e, f))) = inl (omega arith)
falls (once a) p x y l = falls a p x y l
falls (repeated a g) p x y (inl l) = elim (falls a p x y l) [ inl h ↦ inl h | inr h ↦ inr (inl h) ]
falls (repeated a g) p x y (inr (onward e f)) = inl (omega arith)
falls (repeated a g) p x y (inr (skip s e f)) = let h = atom_size a in inl (omega arith)
falls (repeated a g) p x y (inr (loop s e f)) = inr (inr (s, f, e))
falls empty p x y l = absurd l
falls (u then v) p x y (inl l) = elim (falls u p x y l) [ inl h ↦ inl h | inr h ↦ inr (inl h) ]
falls (u then v) p x y (inr l) = elim (falls v (p + size u) x y l) [ inl h ↦ inl h | inr h ↦ inr (inr h) ]
falls (only b) p x y l = falls b p x y l
falls (b or t) p x y (inl l) = elim (falls b p x y l) [ inl h ↦ inl h | inr h ↦ inr (inl h) ]
falls (b or t) p x y (inr (inl (e, f))) = let h = branch_end_in t (suc x) in inl (omega arith)
falls (b or t) p x y (inr (inr l)) = elim (falls t (suc (p + size b)) x y l) [ inl h ↦ inl h | inr h ↦ inr (inr h) ]

-- from q to j one leaves by j alone
leaves : {s : Sort} (t : Tree s) (p q j x y : ℕ) → Loop t p q j → Link t p x y → q ≤ x → x ≤ j → (y < q) ⊎ (j < y) → x ≡ j
leaves (letter b) p q j x y o l h k n = absurd o
leaves (group t) p q j x y o (inl (e, l)) h k n = let z = loop_in t (suc p) q j o in omega arith
leaves (group t) p q j x y o (inr (inl l)) h k n = leaves t (suc p) q j x y o l h k n
leaves (group t) p q j x y o (inr (inr l)) h k n = let z = loop_in t (suc p) q j o in omega arith
leaves (once a) p q j x y o l h k n = leaves a p q j x y o l h k n
leaves (repeated a g) p q j x y (inl o) (inl l) h k n = leaves a p q j x y o l h k n
leaves (repeated a g) p q j x y (inl o) (inr (onward e f)) h k n = let z = loop_in a p q j o in omega arith
leaves (repeated a g) p q j x y (inl o) (inr (skip s e f)) h k n = let z = atom_loop a p q j o in omega arith
leaves (repeated a g) p q j x y (inl o) (inr (loop s e f)) h k n = let z = loop_in a p q j o in omega arith
leaves (repeated a g) p q j x y (inr o) (inl l) h k n = let z = link_in a p x y l in omega arith
leaves (repeated a g) p q j x y (inr o) (inr (onward e f)) h k n = omega arith
leaves (repeated a g) p q j x y (inr o) (inr (skip s e f)) h k n = omega arith
leaves (repeated a g) p q j x y (inr o) (inr (loop s e f)) h k n = omega arith
leaves empty p q j x y o l h k n = absurd o
leaves (u then v) p q j x y (inl o) (inl l) h k n = leaves u p q j x y o l h k n
leaves (u then v) p q j x y (inl o) (inr l) h k n = let z = loop_in u p q j o in let w = link_in v (p + size u) x y l in omega arith
leaves (u then v) p q j x y (inr o) (inl l) h k n = let z = loop_in v (p + size u) q j o in let w = link_in u p x y l in omega arith
leaves (u then v) p q j x y (inr o) (inr l) h k n = leaves v (p + size u) q j x y o l h k n
leaves (only b) p q j x y o l h k n = leaves b p q j x y o l h k n
leaves (b or t) p q j x y (inl o) (inl l) h k n = leaves b p q j x y o l h k n
leaves (b or t) p q j x y (inl o) (inr (inl l)) h k n = let z = loop_in b p q j o in omega arith
leaves (b or t) p q j x y (inl o) (inr (inr l)) h k n = let z = loop_in b p q j o in let w = link_in t (suc (p + size b)) x y l in omega arith
leaves (b or t) p q j x y (inr o) (inl l) h k n = let z = loop_in t (suc (p + size b)) q j o in let w = link_in b p x y l in omega arith
leaves (b or t) p q j x y (inr o) (inr (inl l)) h k n = let z = loop_in t (suc (p + size b)) q j o in omega arith
leaves (b or t) p q j x y (inr o) (inr (inr l)) h k n = leaves t (suc (p + size b)) q j x y o l h k n

begins_loop : (t : Tree alternatives) (p q j k : ℕ) → Loop t p q j → BranchStart t p k → q ≤ k → k ≤ j → k ≡ q
begins_loop (only b) p q j k o e h l = let z = loop_in b p q j o in omega arith
begins_loop (b or t) p q j k (inl o) (inl e) h l = let z = loop_in b p q j o in omega arith
begins_loop (b or t) p q j k (inl o) (inr e) h l = let z = loop_in b p q j o in let w = begins_in t (suc (p + size b)) k e in omega arith
begins_loop (b or t) p q j k (inr o) (inl e) h l = let z = loop_in t (suc (p + size b)) q j o in omega arith
begins_loop (b or t) p q j k (inr o) (inr e) h l = begins_loop t (suc (p + size b)) q j k o e h l

branch_end_loop : (t : Tree alternatives) (p q j : ℕ) → Loop t p q j → q ≤ branch_end t p → branch_end t p ≤ j → ⊥
branch_end_loop (only b) p q j o h l = let z = loop_in b p q j o in omega arith
branch_end_loop (b or t) p q j (inl o) h l = let z = loop_in b p q j o in omega arith
branch_end_loop (b or t) p q j (inr o) h l = let z = loop_in t (suc (p + size b)) q j o in omega arith

-- from elsewhere one enters at q alone
enters : {s : Sort} (t : Tree s) (p q j x y : ℕ) → Loop t p q j → Link t p x y → (x < q) ⊎ (j < x) → q ≤ y → y ≤ j → y ≡ q
enters (letter b) p q j x y o l n h k = absurd o
enters (group t) p q j x y o (inl (e, l)) n h k = begins_loop t (suc p) q j y o l h k
enters (group t) p q j x y o (inr (inl l)) n h k = enters t (suc p) q j x y o l n h k
enters (group t) p q j x y o (inr (inr l)) n h k = let z = loop_in t (suc p) q j o in omega arith
enters (once a) p q j x y o l n h k = enters a p q j x y o l n h k
enters (repeated a g) p q j x y (inl o) (inl l) n h k = enters a p q j x y o l n h k
enters (repeated a g) p q j x y (inl o) (inr (onward e f)) n h k = let z = loop_in a p q j o in omega arith
enters (repeated a g) p q j x y (inl o) (inr (skip s e f)) n h k = let z = loop_in a p q j o in omega arith
enters (repeated a g) p q j x y (inl o) (inr (loop s e f)) n h k = let z = atom_loop a p q j o in omega arith
enters (repeated a g) p q j x y (inr o) (inl l) n h k = let z = link_in a p x y l in omega arith
enters (repeated a g) p q j x y (inr o) (inr (onward e f)) n h k = omega arith
enters (repeated a g) p q j x y (inr o) (inr (skip s e f)) n h k = let z = atom_size a in omega arith
enters (repeated a g) p q j x y (inr o) (inr (loop s e f)) n h k = omega arith
enters empty p q j x y o l n h k = absurd o
enters (u then v) p q j x y (inl o) (inl l) n h k = enters u p q j x y o l n h k
enters (u then v) p q j x y (inl o) (inr l) n h k = let z = loop_in u p q j o in let w = link_in v (p + size u) x y l in omega arith
enters (u then v) p q j x y (inr o) (inl l) n h k = let z = loop_in v (p + size u) q j o in let w = link_in u p x y l in omega arith
enters (u then v) p q j x y (inr o) (inr l) n h k = enters v (p + size u) q j x y o l n h k
enters (only b) p q j x y o l n h k = enters b p q j x y o l n h k
enters (b or t) p q j x y (inl o) (inl l) n h k = enters b p q j x y o l n h k
enters (b or t) p q j x y (inl o) (inr (inl (e, f))) n h k = let z = loop_in b p q j o in let w = branch_end_in t (suc x) in omega arith
enters (b or t) p q j x y (inl o) (inr (inr l)) n h k = let z = loop_in b p q j o in let w = link_in t (suc (p + size b)) x y l in omega arith
enters (b or t) p q j x y (inr o) (inl l) n h k = let z = loop_in t (suc (p + size b)) q j o in let w = link_in b p x y l in omega arith
enters (b or t) p q j x y (inr o) (inr (inl (e, f))) n h k =
    let s : y ≡ branch_end t (suc (p + size b)) = f ∙ ap (λ z. branch_end t (suc z)) e in
    absurd (branch_end_loop t (suc (p + size b)) q j o (omega arith) (omega arith))
enters (b or t) p q j x y (inr o) (inr (inr l)) n h k = enters t (suc (p + size b)) q j x y o l n h k

module _ (t : Tree alternatives) where
  abbrev G : ℕ → ℕ → Type 0
  G = LinksOf t

  rise_le : {x y : ℕ} → Rises G x y → x ≤ y
  rise_le level = omega arith
  rise_le (up r l h) = let z = rise_le r in omega arith

  rise_trans : {x y z : ℕ} → Rises G x y → Rises G y z → Rises G x z
  rise_trans r level = r
  rise_trans r (up s l h) = up (rise_trans r s) l h

  module _ (q j : ℕ) (o : Loop (group t) 0 q j) where
    rise_out : {x y : ℕ} → Rises G x y → q ≤ x → x ≤ j → j < y → Rises G j y
    rise_out level h k n = let z : ⊥ = omega arith in absurd z
    rise_out {x} (up {j = m} {k = y} r l u) h k n =
        let z = rise_le r in
        elim (dec_lt j m) [
          | yes c ↦ up (rise_out r h k c) l u
          | no c ↦
              let e : m ≡ j = leaves (group t) 0 q j m y o l (omega arith) (omega arith) (inr n) in
              up level (subst (λ v. G v y) e l) n
        ]

    rise_into : {x y : ℕ} → Rises G x y → x < q → q ≤ y → y ≤ j → Rises G x q
    rise_into level h k n = let z : ⊥ = omega arith in absurd z
    rise_into {x} (up {j = m} {k = y} r l u) h k n =
        elim (dec_lt m q) [
          | yes c ↦
              let e : y ≡ q = enters (group t) 0 q j m y o l (inl c) k n in
              subst (λ v. Rises G x v) e (up r l u)
          | no c ↦ rise_into r h (omega arith) (omega arith)
        ]

  -- a second link back is not needed
  back_again : (i j q j' q' : ℕ) → Rises G i j → (l : G j q) → Loop (group t) 0 q j → Rises G q j' → (l' : G j' q') → Loop (group t) 0 q' j' → Twice G i q'
  back_again i j q j' q' r l o s l' o' =
      let z = rise_le s in
      let w = loop_in (group t) 0 q' j' o' in
      elim (dec_lt q q') [
        | yes a ↦ inr (j, q, r, l, rise_into q' j' o' s a (omega arith) (omega arith))
        | no a ↦ elim (dec_lt q' q) [
          | yes b ↦ elim (dec_lt j j') [
            | yes c ↦
                let v = loop_in (group t) 0 q j o in
                inr (j', q', rise_trans r (rise_out q j o s (omega arith) (omega arith) c), l', level)
            | no c ↦
                let e : j' ≡ j = leaves (group t) 0 q j j' q' o l' (omega arith) (omega arith) (inl b) in
                inr (j', q', subst (λ v. Rises G i v) (sym e) r, l', level)
          ]
          | no b ↦
              let e : q ≡ q' = omega arith in
              inr (j, q, r, l, subst (λ v. Rises G q v) e level)
        ]
      ]

  step : (i j k : ℕ) → Twice G i j → G j k → Twice G i k
  step i j k (inl r) l = elim (falls (group t) 0 j k l) [ inl h ↦ inl (up r l h) | inr h ↦ inr (j, k, r, l, level) ]
  step i j k (inr (m, q, r, b, s)) l =
      elim (falls (group t) 0 j k l) [
        | inl h ↦ inr (m, q, r, b, up s l h)
        | inr h ↦ elim (falls (group t) 0 m q b) [
          | inl u ↦ inr (j, k, rise_trans (up r b u) s, l, level)
          | inr u ↦ back_again i m q j k r b u s l h
        ]
      ]

  twice : {i k : ℕ} → Chain G i k → Twice G i k
  twice here = inl level
  twice {i} (on {j = j} {k = k} c l) = step i j k (twice c) l

pub two_scans : (t : Tree alternatives) (i k : ℕ) → Chain (LinksOf t) i k → Twice (LinksOf t) i k
two_scans t i k c = twice t c
