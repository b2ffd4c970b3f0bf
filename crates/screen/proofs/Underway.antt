-- A schedule under way on the mover's board: what is still to come of it leads where all of it leads from the start.
use Rattle.std.proofs.Common.{◌≡◌, ℕ, ◌+◌, ◌≤◌, List, [], ◌∷◌, length, Ok, Err, sym, refl, ap, ◌∙◌, arith, length-set}
use Rattle.board.specs.Boards.{Refused, Touch, cell_of, moved, no_allowance, no_cell, read, write}
use Rattle.board.specs.declared.Board.{Ghosts}
use Rattle.screen.specs.Movements.{Movement, ReadOf, SameBoard, WriteOf, cells_on, meter_on}
use Rattle.screen.specs.Moving.{Enough}
use Rattle.screen.specs.declared.movements.Mover.{Mover}
use Rattle.stops.specs.declared.Stop.{Stop}

module _ {B M : Type 0} (board : Ghosts B M) where
  on_still : (m : Mover B) → SameBoard board m m
  on_still m = record { same = refl; ruled = refl; kept = board.keeps.still _ }

  pub on_on : {a b c : Mover B} → SameBoard board a b → SameBoard board b c → SameBoard board a c
  on_on p q = record { same = q.same ∙ p.same; ruled = q.ruled ∙ p.ruled; kept = board.keeps.on _ _ _ p.kept q.kept }

  -- the mover old is on its way by the schedule whole, of which rest is still to come
  pub record Underway (old : Mover B) (whole rest : List Touch) (m : Mover B) : Type 0 where
    pub on : SameBoard board old m
    pub sized : length (cells_on board m) ≡ length (cells_on board old)
    pub moves : moved (board.make.step (length (cells_on board old))) (meter_on board m) rest ≡ moved (board.make.step (length (cells_on board old))) (meter_on board old) whole
    pub counted : m.touches + length rest ≡ old.touches + length whole
    pub enough : Enough board.make (length (cells_on board old)) (meter_on board old) whole → Enough board.make (length (cells_on board old)) (meter_on board m) rest
    pub lasts : board.make.allowed (length (cells_on board old)) (meter_on board old) + old.touches ≤ board.make.allowed (length (cells_on board old)) (meter_on board m) + m.touches

  pub none_yet : (old : Mover B) (whole : List Touch) → Underway old whole whole old
  none_yet old whole = record { on = on_still old; sized = refl; moves = refl; counted = refl; enough = λ e. e; lasts = omega arith }

  module _ {old m : Mover B} {whole : List Touch} {a : Touch} {rest : List Touch} (u : Underway old whole (a ∷ rest) m) where
    -- one touch more
    touched : (m' : Mover B) → SameBoard board m m' → length (cells_on board m') ≡ length (cells_on board m) → meter_on board m' ≡ board.make.step (length (cells_on board m)) (meter_on board m) a → m'.touches ≡ m.touches + 1
        → Underway old whole rest m'
    touched m' on l e k =
        let size = length (cells_on board old) in
        let f : meter_on board m' ≡ board.make.step size (meter_on board m) a = e ∙ ap (λ z. board.make.step z (meter_on board m) a) u.sized in
        let falls = board.make.lasts size (meter_on board m) a in
        let same : board.make.allowed size (meter_on board m') ≡ board.make.allowed size (board.make.step size (meter_on board m) a) = ap (board.make.allowed size) f in
        record {
          on = on_on u.on on;
          sized = l ∙ u.sized;
          moves = ap (λ z. moved (board.make.step size) z rest) f ∙ u.moves;
          counted = let c = u.counted in omega arith;
          enough = λ h. let e2 = u.enough h in let b = e2.allowed in record { below = e2.below.1; allowed = omega arith };
          lasts = let c = u.lasts in omega arith;
        }

    -- with enough for all of it no touch is refused
    never_refused : {i n : ℕ} → i ≡ cell_of a → Refused (length (cells_on board m)) (board.make.allowed (length (cells_on board m)) (meter_on board m)) i n
        → Enough board.make (length (cells_on board old)) (meter_on board old) whole → ⊥
    never_refused k (no_cell h) e = let b = (u.enough e).below.0 in let s = u.sized in omega arith
    never_refused k (no_allowance h z) e =
        let b = (u.enough e).allowed in
        let s : board.make.allowed (length (cells_on board old)) (meter_on board m) ≡ 0 = ap (λ k. board.make.allowed k (meter_on board m)) (sym u.sized) ∙ z in
        omega arith

    module _ {i : ℕ} {m' : Mover B} {after : List M → List M} {s s' : Stop} (e : i ≡ cell_of a) where
      pub read_refused : ReadOf board m i m' (Err s) → Movement board old whole after m' (Err s')
      read_refused r = record { on = on_on u.on r.on; done = tt; counted = tt; enough = λ h. absurd (never_refused e r.done.0 h) }

      pub write_refused : {v : M} → WriteOf board m i v m' (Err s) → Movement board old whole after m' (Err s')
      write_refused r = record { on = on_on u.on r.on; done = tt; counted = tt; enough = λ h. absurd (never_refused e r.done.0 h) }

  module _ {old m m' : Mover B} {whole rest : List Touch} {i k : ℕ} (e : i ≡ k) where
    pub read_on : {v : M} → Underway old whole (read k ∷ rest) m → ReadOf board m i m' (Ok v) → Underway old whole rest m'
    read_on u r = touched u m' r.on (ap length r.done.2) (r.done.3 ∙ ap (λ z. board.make.step (length (cells_on board m)) (meter_on board m) (read z)) e) r.counted

    pub write_on : (v : M) {done : Unit {0}} → Underway old whole (write k ∷ rest) m → WriteOf board m i v m' (Ok done) → Underway old whole rest m'
    write_on v u r =
        touched u m' r.on (ap length r.done.1 ∙ length-set (cells_on board m) i v) (r.done.2 ∙ ap (λ z. board.make.step (length (cells_on board m)) (meter_on board m) (write z)) e) r.counted

  -- nothing is left to come
  pub all_done : {old m : Mover B} {whole : List Touch} (after : List M → List M) → Underway old whole [] m → cells_on board m ≡ after (cells_on board old) → Movement board old whole after m (Ok tt)
  all_done after u e =
      let c = u.counted in
      let l = u.lasts in
      record {
        on = u.on;
        done = record { holds = e; moves = u.moves; counted = refl; lasts = omega arith };
        counted = omega arith;
        enough = λ _. refl;
      }
