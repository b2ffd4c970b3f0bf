-- The rules of the calls: what each is told, which touches it makes, and what it leaves in the cells.
use Rattle.std.specs.Prelude.{◌≡◌, ℕ, suc, ◌-◌, ◌<◌, ◌≤◌, ◌≢◌, List, [], ◌∷◌, ◌++◌, length, Some, None, Option, slice_index_or}
use Rattle.board.specs.Boards.{Make, Touch, moved}
use Rattle.conduct.specs.Calls.{AcceptedBy, Frame, Order, Said, number, stopped, stopped_at, to_begin, to_drop, to_feed, to_finish, to_load, to_meter, verdict}
use Rattle.language.specs.Faults.{Faulty}
use Rattle.language.specs.Links.{last_position}
use Rattle.language.specs.Patterns.{Accepted, Tree, alternatives}
use Rattle.mark.specs.Limits.{most_bytes}
use Rattle.mark.specs.Marks.{Kind}
use Rattle.screen.specs.Schedules.{beginning, dropped_touches, feeding, finishing, frame_touches, wiping}
use Rattle.method.specs.Theorems.{LeavesOthers}
use Rattle.rule.specs.Tables.{RuleOf}
use Rattle.rule.specs.Words.{first_of, second_of}
use Rattle.theory.specs.Meaning.{Holds}
use Rattle.theory.specs.Verdicts.{Verdict}

-- the last position of an accepted pattern
abbrev pub end_of : {pattern : List ℕ} → Accepted pattern → ℕ
end_of a = last_position a.tree

-- What a call is told, by the size and the meter of the board, the pattern loaded, if any, and the open frame, if any: one line of
-- the rules each. Where more than one stop could be meant, the order in which they are looked for decides.
pub data Due {M X : Type 0} (make : Make X) (kind : Kind M) (size : ℕ) (meter : X) : Option (List ℕ) → Option Frame → Order → Said M → Type 0 where
  -- load: 9 while a frame is open; the pattern's fault; 8 where its positions do not fit the board; else the last position
  load_while_open : {l : Option (List ℕ)} {f : Frame} {p : List ℕ} → Due make kind size meter l (Some f) (to_load p) (stopped_at 9 0)
  load_of_a_fault : {l : Option (List ℕ)} {p : List ℕ} {n place : ℕ} → Faulty p n place → Due make kind size meter l None (to_load p) (stopped_at n place)
  load_too_wide : {l : Option (List ℕ)} {p : List ℕ} (a : Accepted p) → size ≤ end_of a → Due make kind size meter l None (to_load p) (stopped_at 8 (length p))
  load_accepted : {l : Option (List ℕ)} {p : List ℕ} (a : Accepted p) → end_of a < size → Due make kind size meter l None (to_load p) (number (end_of a))
  -- begin: 10 without a rule; 11 while a frame is open; 16 for a frame above 4,096 bytes; 17 where the allowance is less than the
  -- frame takes; else the touches that it takes
  begin_without_rule : {o : Option Frame} {r m : ℕ} → Due make kind size meter None o (to_begin r m) (stopped 10)
  begin_while_open : {p : List ℕ} {f : Frame} {r m : ℕ} → Due make kind size meter (Some p) (Some f) (to_begin r m) (stopped 11)
  begin_too_long : {p : List ℕ} {r m : ℕ} → most_bytes < m → Due make kind size meter (Some p) None (to_begin r m) (stopped 16)
  begin_without_allowance : {p : List ℕ} {r m : ℕ} (a : Accepted p) → m ≤ most_bytes → make.allowed size meter < frame_touches (end_of a) m
      → Due make kind size meter (Some p) None (to_begin r m) (stopped 17)
  begin_accepted : {p : List ℕ} {r m : ℕ} (a : Accepted p) → m ≤ most_bytes → frame_touches (end_of a) m ≤ make.allowed size meter
      → Due make kind size meter (Some p) None (to_begin r m) (number (frame_touches (end_of a) m))
  -- feed: 12 with no frame open; 13 for another renter's frame; 14 after all its bytes; else the bytes still to come
  feed_without_frame : {l : Option (List ℕ)} {r c : ℕ} → Due make kind size meter l None (to_feed r c) (stopped 12)
  feed_of_another : {l : Option (List ℕ)} {f : Frame} {r c : ℕ} → f.renter ≢ r → Due make kind size meter l (Some f) (to_feed r c) (stopped 13)
  feed_after_the_last : {l : Option (List ℕ)} {f : Frame} {r c : ℕ} → f.renter ≡ r → f.length ≤ length f.bytes → Due make kind size meter l (Some f) (to_feed r c) (stopped 14)
  feed_accepted : {l : Option (List ℕ)} {f : Frame} {r c : ℕ} → f.renter ≡ r → length f.bytes < f.length
      → Due make kind size meter l (Some f) (to_feed r c) (number (f.length - suc (length f.bytes)))
  -- finish: 12 with no frame open; 13 for another renter's frame; 15 before all its bytes; else the verdict, and the touches that a
  -- finished frame takes
  finish_without_frame : {l : Option (List ℕ)} {r : ℕ} → Due make kind size meter l None (to_finish r) (stopped 12)
  finish_of_another : {l : Option (List ℕ)} {f : Frame} {r : ℕ} → f.renter ≢ r → Due make kind size meter l (Some f) (to_finish r) (stopped 13)
  finish_before_the_last : {l : Option (List ℕ)} {f : Frame} {r : ℕ} → f.renter ≡ r → length f.bytes < f.length → Due make kind size meter l (Some f) (to_finish r) (stopped 15)
  finish_accepted : {p : List ℕ} {f : Frame} {r : ℕ} {mark : M} (a : Accepted p) → f.renter ≡ r → f.length ≡ length f.bytes → Verdict kind a.tree f.bytes mark
      → Due make kind size meter (Some p) (Some f) (to_finish r) (verdict mark (frame_touches (end_of a) f.length))
  -- drop: 12 with no frame open; 13 for another renter's frame; else the touches that a frame of these bytes takes if it is dropped
  drop_without_frame : {l : Option (List ℕ)} {r : ℕ} → Due make kind size meter l None (to_drop r) (stopped 12)
  drop_of_another : {l : Option (List ℕ)} {f : Frame} {r : ℕ} → f.renter ≢ r → Due make kind size meter l (Some f) (to_drop r) (stopped 13)
  drop_accepted : {p : List ℕ} {f : Frame} {r : ℕ} (a : Accepted p) → f.renter ≡ r → Due make kind size meter (Some p) (Some f) (to_drop r) (number (dropped_touches (end_of a) (length f.bytes)))
  -- meter: the reading
  meter_read : {l : Option (List ℕ)} {o : Option Frame} → Due make kind size meter l o to_meter (number (make.shows size meter))

-- the touches of an accepted call under a rule with these words, which ends at n; loading and reading the meter make none
abbrev pub schedule_of : List ℕ → ℕ → Order → List Touch
schedule_of words n (to_load p) = []
schedule_of words n (to_begin r m) = beginning (first_of words) (second_of words) n
schedule_of words n (to_feed r c) = feeding (first_of words) (second_of words) n
schedule_of words n (to_finish r) = finishing (first_of words) (second_of words) n
schedule_of words n (to_drop r) = wiping n
schedule_of words n to_meter = []

-- the calls that touch the board, if they are accepted
pub data Touching : Order → Type 0 where
  begins : {r m : ℕ} → Touching (to_begin r m)
  feeds : {r c : ℕ} → Touching (to_feed r c)
  finishes : {r : ℕ} → Touching (to_finish r)
  drops : {r : ℕ} → Touching (to_drop r)

-- The touches that a call makes: those of the loaded pattern's table where it is accepted and touches the board, else none.
pub data Makes {M : Type 0} : Option (List ℕ) → Order → Said M → List Touch → Type 0 where
  by_the_table : {p : List ℕ} {call : Order} {said : Said M} {n : ℕ} (words : List ℕ) → Touching call → AcceptedBy said → RuleOf p n words → Makes (Some p) call said (schedule_of words n call)
  none_untouching : {l : Option (List ℕ)} {call : Order} {said : Said M} → (Touching call → ⊥) → Makes l call said []
  none_stopped : {l : Option (List ℕ)} {call : Order} {said : Said M} → (AcceptedBy said → ⊥) → Makes l call said []

-- the property holds of the tree of the pattern loaded
abbrev pub OfLoaded : Option (List ℕ) → (Tree alternatives → Type 0) → Type 0
OfLoaded l P = (p : List ℕ) (a : Accepted p) → l ≡ Some p → P a.tree

-- the cells up to the last position of t hold nothing
abbrev pub Blank : {M : Type 0} → Kind M → Tree alternatives → List M → Type 0
Blank {M} kind t cells = (j : ℕ) (default : M) → j ≤ last_position t → slice_index_or cells j default ≡ kind.nothing

module _ {M : Type 0} (kind : Kind M) (cells cells' : List M) where
  -- Of the cells after an accepted call: begin and feed leave what they should hold up to the last position, finish and drop leave
  -- nothing there; load and meter change none.
  abbrev pub CellsBy : Option (List ℕ) → Option Frame → Order → Type 0
  CellsBy l o (to_load p) = cells' ≡ cells
  CellsBy l o (to_begin r m) = OfLoaded l (λ t. Holds kind t [] cells' × LeavesOthers (last_position t) cells cells')
  CellsBy l o (to_feed r c) = (f : Frame) → o ≡ Some f → OfLoaded l (λ t. Holds kind t (f.bytes ++ (c ∷ [])) cells' × LeavesOthers (last_position t) cells cells')
  CellsBy l o (to_finish r) = OfLoaded l (λ t. Blank kind t cells' × LeavesOthers (last_position t) cells cells')
  CellsBy l o (to_drop r) = OfLoaded l (λ t. Blank kind t cells' × LeavesOthers (last_position t) cells cells')
  CellsBy l o to_meter = cells' ≡ cells

  -- after any call: a stopped one changes none
  abbrev pub CellsLeft : Option (List ℕ) → Option Frame → Order → Said M → Type 0
  CellsLeft l o call (number n) = CellsBy l o call
  CellsLeft l o call (verdict m n) = CellsBy l o call
  CellsLeft l o call (stopped n) = cells' ≡ cells
  CellsLeft l o call (stopped_at n p) = cells' ≡ cells

-- One call is done by the rules: it is told what is due, makes its touches, and leaves meter and cells as they should be.
pub record Done {M X : Type 0} (make : Make X) (kind : Kind M) (l : Option (List ℕ)) (o : Option Frame) (cells : List M) (meter : X) (call : Order) (said : Said M) (cells' : List M) (meter' : X) : Type 0 where
  pub due : Due make kind (length cells) meter l o call said
  pub touches : List Touch
  pub makes : Makes l call said touches
  pub moves : meter' ≡ moved (make.step (length cells)) meter touches
  pub sized : length cells' ≡ length cells
  pub left : CellsLeft kind cells cells' l o call said
