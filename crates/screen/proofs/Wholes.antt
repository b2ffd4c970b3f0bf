-- The movements of one call, one after another, on a board that has enough for them.
use Rattle.std.proofs.Common.{◌≡◌, ℕ, suc, ◌+◌, ◌*◌, ◌<◌, ◌≤◌, true, false, List, [], ◌∷◌, length, get_or, Ok, Err, Result, refl, subst, sym, arith}
use Rattle.std.specs.Borrow.{MutBor}
use Rattle.board.specs.Boards.{Make, Touch, read}
use Rattle.board.specs.declared.Board.{Ghosts}
use Rattle.language.proofs.Option.{clash}
use Rattle.mark.specs.Marks.{Kind}
use Rattle.method.proofs.Others.{leave_others}
use Rattle.method.specs.Cells.{begun, fed}
use Rattle.rule.specs.Words.{first_of, second_of, takes_at}
use Rattle.rule.specs.declared.table.Rule.{Rule}
use Rattle.screen.proofs.Chained.{by_rule, chained, cut_first, one_read}
use Rattle.screen.proofs.Fitting.{below_beginning, below_feeding, below_finishing, below_wiping, rule_inside}
use Rattle.screen.proofs.Lengths.{length_beginning, length_feeding, length_writes}
use Rattle.screen.specs.ByRule.{beginning_of, begun_by, fed_by, feeding_of, finishing_of, placed_by, placing_of, settled_by, settling_of, stepped_by, stepping_of, wiped_by, wiping_of}
use Rattle.screen.specs.Movements.{Movement, ReadOf, RuledMovement, Starts, cells_on, meter_on}
use Rattle.screen.specs.Moving.{Admits, Call, Enough, Lacks, Moves, NotBegun, ReadingCall}
use Rattle.screen.specs.Schedules.{finishing}
use Rattle.screen.specs.declared.movements.Mover.{Mover}
use Rattle.stops.specs.Stops.{stop_number}
use Rattle.stops.specs.declared.Stop.{Stop}

pub finish_length : (words : List ℕ) (n : ℕ) → length (finishing (first_of words) (second_of words) n) ≡ n + 2
finish_length words n = let l = length_writes (suc n) 0 in omega arith

no_truth : {A : Type 0} → false ≡ true → A
no_truth e = clash (cc)

-- a board with a cell for each position and so much allowance has enough for a call
module _ {X : Type 0} (make : Make X) {size : ℕ} {meter : X} (rule : Rule) (fits : rule.last < size) where
  pub enough_begin : 9 * rule.last + 9 ≤ make.allowed size meter → Enough make size meter (beginning_of rule)
  enough_begin h = record { below = below_beginning (rule_inside rule.ruled) fits; allowed = let l = length_beginning (first_of rule.words) (second_of rule.words) rule.last in omega arith }

  pub enough_feed : 10 * rule.last + 9 ≤ make.allowed size meter → Enough make size meter (feeding_of rule)
  enough_feed h = record { below = below_feeding (rule_inside rule.ruled) fits; allowed = let l = length_feeding (first_of rule.words) (second_of rule.words) rule.last in omega arith }

  pub enough_wipe : rule.last + 1 ≤ make.allowed size meter → Enough make size meter (wiping_of rule)
  enough_wipe h = record { below = below_wiping (rule_inside rule.ruled) fits; allowed = let l = length_writes (suc rule.last) 0 in omega arith }

  pub enough_finish : rule.last + 2 ≤ make.allowed size meter → Enough make size meter (finishing_of rule)
  enough_finish h = record { below = below_finishing (rule_inside rule.ruled) fits; allowed = let l = finish_length rule.words rule.last in omega arith }

module _ {B M : Type 0} (board : Ghosts B M) where
  -- what is done to the board that a mover starts on is done to the one that it was lent
  module _ {b : MutBor B} {rule : Rule} {old : Mover B} (s : Starts b rule old) (schedule : Rule → List Touch) (after : Rule → List M → List M) {x board' : B} (is : x ≡ board') where
    lent_call : {r : Result ℕ Stop} → Call board old.board.now old.rule.now schedule after x r → Call board b.now rule schedule after board' r
    lent_call {r} h =
        subst (λ z. Call board b.now rule schedule after z r) is
        (subst (λ z. Call board b.now z schedule after x r) s.ruled (subst (λ z. Call board z old.rule.now schedule after x r) s.lent h))

    lent_reading : {r : Result (M × ℕ) Stop} → ReadingCall board old.board.now old.rule.now schedule after x r → ReadingCall board b.now rule schedule after board' r
    lent_reading {r} h =
        subst (λ z. ReadingCall board b.now rule schedule after z r) is
        (subst (λ z. ReadingCall board b.now z schedule after x r) s.ruled (subst (λ z. ReadingCall board z old.rule.now schedule after x r) s.lent h))

  -- a board that is not admitted is left as it is
  module _ {b : MutBor B} {rule : Rule} {old : Mover B} (starts : Starts b rule old) (schedule : Rule → List Touch) (after : Rule → List M → List M) {touches : ℕ} {s r : Stop} (e : r ≡ s) (long : length (schedule old.rule.now) ≡ touches)
      (h : Admits board old.board.now old.rule.now touches (Err s)) {board' : B} (is : old.board.now ≡ board') where
    left_out : NotBegun board.make (cells_on board old) (meter_on board old) old.rule.now.last (schedule old.rule.now) (after old.rule.now (cells_on board old)) (cells_on board old) (meter_on board old) (stop_number r)
    left_out = record {
      lacks =
          subst (λ z. Lacks (length (cells_on board old)) (board.make.allowed (length (cells_on board old)) (meter_on board old)) old.rule.now.last (length (schedule old.rule.now)) (stop_number z)) (sym e)
          (subst (λ z. Lacks (length (cells_on board old)) (board.make.allowed (length (cells_on board old)) (meter_on board old)) old.rule.now.last z (stop_number s)) (sym long) h);
      cells_same = refl;
      meter_same = refl;
    }

    pub call_left_out : Call board b.now rule schedule after board' (Err r)
    call_left_out = lent_call starts schedule after is (record { kept = board.keeps.still _; done = left_out })

    pub reading_left_out : ReadingCall board b.now rule schedule after board' (Err r)
    reading_left_out = lent_reading starts schedule after is (record { kept = board.keeps.still _; done = left_out })

  module _ {old new : Mover B} {schedule : List Touch} {after : List M → List M} (e : Enough board.make (length (cells_on board old)) (meter_on board old) schedule) where
    -- a board that has enough is not refused
    pub never : {A : Type 0} {s : Stop} → Movement board old schedule after new (Err s) → A
    never m = no_truth (m.enough e)

  -- what a mover that has enough has made of the board that it was lent
  module _ {b : MutBor B} {rule : Rule} {old new : Mover B} (starts : Starts b rule old) (schedule : Rule → List Touch) (after : Rule → List M → List M)
      (e : Enough board.make (length (cells_on board old)) (meter_on board old) (schedule old.rule.now)) (m : RuledMovement board old schedule after new (Ok tt)) where
    moves : Moves board.make (cells_on board old) (meter_on board old) (schedule old.rule.now) (after old.rule.now (cells_on board old)) (cells_on board new) (meter_on board new) new.touches
    moves = record { holds = m.done.holds; moves = m.done.moves; counted = let c = m.counted in let z = starts.unmoved in omega arith; lasts = m.done.lasts }

    pub carried : {board' : B} → new.board.now ≡ board' → Call board b.now rule schedule after board' (Ok new.touches)
    carried is = lent_call starts schedule after is (record { kept = m.on.kept; done = (e, moves) })

    pub carried_with : {board' : B} {mark : M} → new.board.now ≡ board' → mark ≡ get_or (cells_on board old) old.rule.now.last mark → ReadingCall board b.now rule schedule after board' (Ok (mark, new.touches))
    carried_with is r = lent_reading starts schedule after is (record { kept = m.on.kept; done = (r, e, moves) })

  module _ (kind : Kind M) (old : Mover B) where
    abbrev rule : Rule
    rule = old.rule.now

    -- place, then settle
    pub begin_cut : {m : Mover B} {s : Stop} → Movement board old (placing_of rule) (placed_by kind rule) m (Err s) → Movement board old (beginning_of rule) (begun_by kind rule) m (Err s)
    begin_cut p = cut_first board (placing_of rule) (settling_of rule) (placed_by kind rule) (begun_by kind rule) p

    pub begin_on : {m new : Mover B} {r : Result (Unit {0}) Stop} → Movement board old (placing_of rule) (placed_by kind rule) m (Ok tt)
        → Movement board m (settling_of m.rule.now) (settled_by kind m.rule.now) new r → Movement board old (beginning_of rule) (begun_by kind rule) new r
    unfolding begun
    begin_on {r = r} p n =
        chained board (placing_of rule) (settling_of rule) (placed_by kind rule) (settled_by kind rule) ((leave_others M).placing (kind.seed 0) kind.nothing rule.last (cells_on board old)).long p r
        (by_rule board settling_of (settled_by kind) p.on n)

    -- step, then settle
    module _ (byte i : ℕ) where
      pub feed_cut : {m : Mover B} {s : Stop} → Movement board old (stepping_of rule) (stepped_by kind byte i rule) m (Err s) → Movement board old (feeding_of rule) (fed_by kind byte i rule) m (Err s)
      feed_cut p = cut_first board (stepping_of rule) (settling_of rule) (stepped_by kind byte i rule) (fed_by kind byte i rule) p

      pub feed_on : {m new : Mover B} {r : Result (Unit {0}) Stop} → Movement board old (stepping_of rule) (stepped_by kind byte i rule) m (Ok tt)
          → Movement board m (settling_of m.rule.now) (settled_by kind m.rule.now) new r → Movement board old (feeding_of rule) (fed_by kind byte i rule) new r
      unfolding fed
      feed_on {r = r} p n =
          chained board (stepping_of rule) (settling_of rule) (stepped_by kind byte i rule) (settled_by kind rule) ((leave_others M).stepping kind.nothing (takes_at rule.words byte) (kind.seed i) rule.last (cells_on board old)).long p r
          (by_rule board settling_of (settled_by kind) p.on n)

    -- read, then wipe
    module _ {k : ℕ} (e : k ≡ rule.last) where
      pub finish_on : {m new : Mover B} {r : Result (Unit {0}) Stop} {mark : M} → ReadOf board old k m (Ok mark)
          → Movement board m (wiping_of m.rule.now) (wiped_by kind m.rule.now) new r → Movement board old (finishing_of rule) (wiped_by kind rule) new r
      finish_on {r = r} p n =
          chained board (read rule.last ∷ []) (wiping_of rule) (λ cells. cells) (wiped_by kind rule) refl (one_read board e p) r (by_rule board wiping_of (wiped_by kind) p.on n)

      pub finish_mark : {m : Mover B} {mark : M} → ReadOf board old k m (Ok mark) → mark ≡ get_or (cells_on board old) rule.last mark
      finish_mark {mark} p = subst (λ z. mark ≡ get_or (cells_on board old) z mark) e p.done.1
