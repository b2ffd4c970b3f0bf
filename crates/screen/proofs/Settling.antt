-- Scans made one after another.
use Rattle.std.proofs.Common.{◌≡◌, ℕ, zero, suc, ◌+◌, ◌*◌, ◌<◌, ◌≤◌, List, length, Ok, Err, Result, refl, ◌∙◌, subst, arith}
use Rattle.board.specs.Boards.{Touch}
use Rattle.board.specs.declared.Board.{Ghosts}
use Rattle.mark.specs.Marks.{Kind}
use Rattle.method.proofs.Others.{leave_others}
use Rattle.method.specs.Cells.{scanned_times}
use Rattle.rule.specs.Words.{first_of, second_of}
use Rattle.rule.specs.declared.table.Rule.{Rule}
use Rattle.screen.proofs.Chained.{by_rule, chained, cut_first}
use Rattle.screen.proofs.Lengths.{length_scans}
use Rattle.screen.specs.ByRule.{scanned_by, scanning_of, settled_by, settling_of}
use Rattle.screen.specs.Movements.{Movement, cells_on}
use Rattle.screen.specs.Schedules.{scannings}
use Rattle.screen.specs.declared.movements.Mover.{Mover}
use Rattle.stops.specs.declared.Stop.{Stop}

module _ {B M : Type 0} (board : Ghosts B M) (kind : Kind M) (old : Mover B) where
  abbrev rule : Rule
  rule = old.rule.now

  abbrev scans_of : ℕ → List Touch
  scans_of i = scannings (first_of rule.words) (second_of rule.words) i rule.last

  abbrev times : ℕ → List M → List M
  times i cells = scanned_times kind.join kind.nothing (first_of rule.words) (second_of rule.words) rule.last i cells

  -- i scans are made
  abbrev pub Settling : ℕ → Mover B → Type 0
  Settling i m = Movement board old (scans_of i) (times i) m (Ok tt)

  times_long : (i : ℕ) (cells : List M) → length (times i cells) ≡ length cells
  times_long zero cells = refl
  times_long (suc i) cells = ((leave_others M).scanning kind.join kind.nothing (first_of rule.words) (second_of rule.words) rule.last (times i cells)).long ∙ times_long i cells

  module _ (i : ℕ) {m : Mover B} (f : Settling i m) where
    pub settle_count : i < 2 → m.touches ≤ old.touches + 4 * rule.last + 4
    settle_count short = at i short f.counted
      where
        at : (k : ℕ) → k < 2 → m.touches ≡ old.touches + length (scans_of k) → m.touches ≤ old.touches + 4 * rule.last + 4
        at zero h e = omega arith
        at (suc zero) h e = let l = length_scans (first_of rule.words) (second_of rule.words) (suc rule.last) 0 in omega arith
        at (suc (suc k)) h e = let z : ⊥ = omega arith in absurd z

    settle_on : {new : Mover B} (r : Result (Unit {0}) Stop) → Movement board m (scanning_of m.rule.now) (scanned_by kind m.rule.now) new r → Movement board old (scans_of (suc i)) (times (suc i)) new r
    settle_on r n = chained board (scans_of i) (scanning_of rule) (times i) (scanned_by kind rule) (times_long i (cells_on board old)) f r (by_rule board scanning_of (scanned_by kind) f.on n)

    pub settle_more : {new : Mover B} → Movement board m (scanning_of m.rule.now) (scanned_by kind m.rule.now) new (Ok tt) → Settling (i + 1) new
    settle_more {new} n = let e : suc i ≡ i + 1 = omega arith in subst (λ z. Settling z new) e (settle_on (Ok tt) n)

    pub settle_stops : {new : Mover B} {s s' : Stop} → i < 2 → Movement board m (scanning_of m.rule.now) (scanned_by kind m.rule.now) new (Err s) → Movement board old (settling_of rule) (settled_by kind rule) new (Err s')
    settle_stops {new} {s} {s'} h n = at i h (settle_on (Err s) n)
      where
        at : (k : ℕ) → k < 2 → Movement board old (scans_of (suc k)) (times (suc k)) new (Err s) → Movement board old (settling_of rule) (settled_by kind rule) new (Err s')
        at zero h x = cut_first board (scans_of 1) (scanning_of rule) (times 1) (settled_by kind rule) x
        at (suc zero) h x = record { on = x.on; done = tt; counted = tt; enough = x.enough }
        at (suc (suc k)) h x = let z : ⊥ = omega arith in absurd z
