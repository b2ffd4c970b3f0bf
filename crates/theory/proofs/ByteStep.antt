-- What placing the first marks, and the byte step, do to each cell.
use Rattle.std.proofs.Common.{◌≡◌, ℕ, zero, suc, ◌+◌, ◌<◌, ◌≤◌, List, length, get_or, set, sym, refl, ap, ◌∙◌, subst, arith, length-set, get_or-set_other, get_or-set_same}
use Rattle.method.specs.Cells.{filled, shift_over}
use native.Mathlib.Decide.{dec_le}

filled_below : {M : Type 0} (mark : ℕ → M) (nothing : M) (m j : ℕ) (cs : List M) (k : ℕ) → k < j → get_or (filled mark m j cs) k nothing ≡ get_or cs k nothing
unfolding filled
filled_below mark nothing zero j cs k h = refl
filled_below mark nothing (suc m) j cs k h =
    filled_below mark nothing m (suc j) (set cs j (mark j)) k (omega arith) ∙ get_or-set_other cs j k (mark j) nothing (omega arith)

-- a cell that is filled holds the mark of its number
pub filled_at : {M : Type 0} (mark : ℕ → M) (nothing : M) (m j : ℕ) (cs : List M) → j + m ≤ length cs → (k : ℕ) → j ≤ k → k < j + m → get_or (filled mark m j cs) k nothing ≡ mark k
unfolding filled
filled_at mark nothing zero j cs h k f g = absurd (omega arith)
filled_at mark nothing (suc m) j cs h k f g =
    let ds = set cs j (mark j) in
    let long = length-set cs j (mark j) in
    let later : suc j ≤ k → get_or (filled mark m (suc j) ds) k nothing ≡ mark k = λ d. filled_at mark nothing m (suc j) ds (omega arith) k d (omega arith) in
    elim (dec_le k j) [
      | yes d ↦
          let e : j ≡ k = omega arith in
          filled_below mark nothing m (suc j) ds k (omega arith) ∙ ap (λ z. get_or ds z nothing) (sym e) ∙ get_or-set_same cs j (mark j) nothing (omega arith) ∙ ap mark e
      | no d ↦ later (omega arith)
    ]

module _ {M : Type 0} (nothing : M) (over : ℕ → M → M) where
  shift_above : (j : ℕ) (cs : List M) (k : ℕ) → j < k → get_or (shift_over nothing over j cs) k nothing ≡ get_or cs k nothing
  unfolding shift_over
  shift_above zero cs k h = refl
  shift_above (suc j) cs k h =
      shift_above j (set cs (suc j) (over j (get_or cs j nothing))) k (omega arith) ∙ get_or-set_other cs (suc j) k _ nothing (omega arith)

  pub shift_next : (j : ℕ) (cs : List M) → j < length cs → (k : ℕ) → k < j → get_or (shift_over nothing over j cs) (suc k) nothing ≡ over k (get_or cs k nothing)
  unfolding shift_over
  shift_next zero cs g k h = absurd (omega arith)
  shift_next (suc j) cs g k h =
      let ds = set cs (suc j) (over j (get_or cs j nothing)) in
      let ih : k < j → get_or (shift_over nothing over j ds) (suc k) nothing ≡ over k (get_or ds k nothing) =
      λ d. shift_next j ds (omega (arith, length-set cs (suc j) (over j (get_or cs j nothing)))) k d in
      elim (dec_le j k) [
        | yes d ↦
            let e : j ≡ k = omega arith in
            shift_above j ds (suc k) (omega arith) ∙
            subst (λ n. get_or ds (suc n) nothing ≡ over n (get_or cs n nothing)) e (get_or-set_same cs (suc j) (over j (get_or cs j nothing)) nothing g)
        | no d ↦ ih (omega arith) ∙ ap (over k) (get_or-set_other cs (suc j) k _ nothing (omega arith))
      ]
