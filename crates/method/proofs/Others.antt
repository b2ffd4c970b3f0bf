-- Movements leave the cells above the last position alone.
use Rattle.std.proofs.Common.{◌≡◌, ℕ, zero, suc, ◌+◌, ◌≤◌, ◌≢◌, List, get_or, set, Option, sym, refl, ap, ◌∙◌, subst, arith, length-set, get_or-set_other}
use Rattle.method.specs.Cells.{across, filled, first_mark, joined_at, scan_from, shift_over, stepped_over}
use Rattle.method.specs.Theorems.{LeavesOthers, MovementsLeaveOtherCells}

module _ {M : Type 0} where
  kept : (n : ℕ) (cells : List M) → LeavesOthers n cells cells
  kept n cells = record { long = refl; others = λ j d h. refl }

  -- one cell is written, then something else is done
  after_set : (n i : ℕ) (m : M) (cells : List M) (rest : List M) → i ≤ n → LeavesOthers n (set cells i m) rest → LeavesOthers n cells rest
  after_set n i m cells rest h l = record {
    long = l.long ∙ length-set cells i m;
    others = λ j d k. let ne : j ≢ i = omega arith in l.others j d k ∙ get_or-set_other cells i j m d ne;
  }

  filled_others : (mark : ℕ → M) (n m j : ℕ) (cells : List M) → m + j ≤ suc n → LeavesOthers n cells (filled mark m j cells)
  unfolding filled
  filled_others mark n zero j cells h = kept n cells
  filled_others mark n (suc m) j cells h =
      after_set n j (mark j) cells (filled mark m (suc j) (set cells j (mark j))) (omega arith) (filled_others mark n m (suc j) (set cells j (mark j)) (omega arith))

  module _ (join : M → M → M) (nothing : M) (first second : ℕ → Option ℕ) where
    scan_others : (n m j : ℕ) (cells : List M) → m + j ≤ suc n → LeavesOthers n cells (scan_from join nothing first second m j cells)
    unfolding joined_at scan_from
    scan_others n zero j cells h = kept n cells
    scan_others n (suc m) j cells h =
        after_set n j _ cells (scan_from join nothing first second m (suc j) (joined_at join nothing first second cells j)) (omega arith)
        (scan_others n m (suc j) (joined_at join nothing first second cells j) (omega arith))

  module _ (nothing : M) (over : ℕ → M → M) where
    shift_others : (n j : ℕ) (cells : List M) → j ≤ n → LeavesOthers n cells (shift_over nothing over j cells)
    unfolding shift_over
    shift_others n zero cells h = kept n cells
    shift_others n (suc j) cells h =
        after_set n (suc j) (over j (get_or cells j nothing)) cells (shift_over nothing over j (set cells (suc j) (over j (get_or cells j nothing)))) h
        (shift_others n j (set cells (suc j) (over j (get_or cells j nothing))) (omega arith))

  -- something is done, then one cell is written
  then_set : (n i : ℕ) (m : M) (cells rest : List M) → i ≤ n → LeavesOthers n cells rest → LeavesOthers n cells (set rest i m)
  then_set n i m cells rest h l = record {
    long = length-set rest i m ∙ l.long;
    others = λ j d k. let ne : j ≢ i = omega arith in get_or-set_other rest i j m d ne ∙ l.others j d k;
  }

pub stepped_over_others : {M : Type 0} (nothing : M) (over : ℕ → M → M) (seed : M) (n : ℕ) (cells : List M) → LeavesOthers n cells (stepped_over nothing over seed n cells)
stepped_over_others nothing over seed n cells = then_set n 0 seed cells (shift_over nothing over n cells) (omega arith) (shift_others nothing over n n cells (omega arith))

pub leave_others : (M : Type 0) → MovementsLeaveOtherCells M
leave_others M = record {
  placing = λ seed nothing n cells. filled_others (first_mark seed nothing) n (suc n) 0 cells (omega arith);
  scanning = λ join nothing first second n cells. scan_others join nothing first second n (suc n) 0 cells (omega arith);
  stepping = λ nothing takes seed n cells. stepped_over_others nothing (across nothing takes) seed n cells;
  wiping = λ nothing n cells. filled_others (λ j. nothing) n (suc n) 0 cells (omega arith);
}
