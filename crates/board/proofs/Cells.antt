-- The cells in the front of a lent slice.
use Rattle.std.proofs.Common.{◌≡◌, ℕ, zero, suc, ◌<◌, min, List, [], ◌∷◌, length, get_or, take, drop, set, Result, sym, refl, ap, ◌∙◌, subst, arith, length-take}
use Rattle.board.specs.Boards.{Make, Touch, most_cells}
use Rattle.board.specs.Meters.{Admits}
use Rattle.std.proofs.lemmas.List.{drop-set-lt, get_or-take}
use Rattle.stops.specs.declared.Stop.{Stop}

-- a front after a write
take_of_set : {M : Type 0} (n : ℕ) (xs : List M) (i : ℕ) (m : M) → take n (set xs i m) ≡ set (take n xs) i m
take_of_set zero xs i m = refl
take_of_set (suc n) [] i m = refl
take_of_set (suc n) (x ∷ xs) zero m = refl
take_of_set (suc n) (x ∷ xs) (suc i) m = ap (λ l. x ∷ l) (take_of_set n xs i m)

-- a touch that the length of the slice admits is one that the number of cells admits
pub by_cells : {M X : Type 0} (make : Make X) (xs : List M) (meter : X) (t : Touch) (meter' : X) (r : Result ℕ Stop) → Admits make (min most_cells (length xs)) meter t meter' r → Admits make (length (take most_cells xs)) meter t meter' r
by_cells make xs meter t meter' r = subst (λ n. Admits make n meter t meter' r) (sym (length-take most_cells xs))

module _ {M : Type 0} (xs : List M) {at i : ℕ} (there : (at ≡ i) × (i < min most_cells (length xs))) where
  -- the mark that was read
  pub mark_read : (m : M) → m ≡ get_or xs at m → m ≡ get_or (take most_cells xs) i m
  mark_read m e =
      e ∙ sym (get_or-take most_cells xs at m (omega arith)) ∙ ap (λ k. get_or (take most_cells xs) k m) there.0

  pub cells_written : (m : M) → take most_cells (set xs at m) ≡ set (take most_cells xs) i m
  cells_written m = take_of_set most_cells xs at m ∙ ap (λ k. set (take most_cells xs) k m) there.0

  -- past the cells nothing was written
  pub beyond_written : (m : M) → drop most_cells (set xs at m) ≡ drop most_cells xs
  beyond_written m = drop-set-lt most_cells xs at m (omega arith)
