-- When a screen is sound, and what a call on a sound screen does.
use Rattle.std.specs.Prelude.{◌≡◌, ℕ, ◌+◌, ◌-◌, ◌*◌, ◌<◌, ◌≤◌, List, length, Some, None, Ok, Err, Option, Result}
use Rattle.board.specs.Boards.{Make}
use Rattle.board.specs.declared.Board.{Ghosts}
use Rattle.conduct.specs.Calls.{AcceptedBy, Frame, Order, Said, loaded_after, open_after, stopped}
use Rattle.conduct.specs.Rules.{Done}
use Rattle.mark.specs.Limits.{most_bytes}
use Rattle.mark.specs.Marks.{Kind}
use Rattle.rule.specs.Tables.{RuleOf}
use Rattle.rule.specs.declared.table.Rule.{Rule}
use Rattle.calls.specs.declared.Screen.{Screen}
use Rattle.calls.specs.declared.frame.OpenFrame.{OpenFrame}
use Rattle.calls.specs.declared.frame.State.TheVariants.{Empty, Open, Ready}
use Rattle.calls.specs.declared.frame.State.{State}
use Rattle.stops.specs.Stops.{stop_number}
use Rattle.stops.specs.declared.Stop.{Stop}
use Rattle.theory.specs.Meaning.{Bytes, Holds}

-- what a screen holds beside its board: its state, and a rule
abbrev pub Held : Type 0
Held = State × Rule

-- the touches made for a frame under a rule that ends at n once k bytes are fed, and those that it still takes with i bytes to come
abbrev pub made_touches : ℕ → ℕ → ℕ
made_touches n k = 10 * (n * k) + 9 * n + 9 * k + 9

abbrev pub rest_touches : ℕ → ℕ → ℕ
rest_touches n i = 10 * (n * i) + n + 9 * i + 2

-- the rule is the table of the pattern, and has a cell of the board for each position
pub record Fitted (pattern : List ℕ) (rule : Rule) (size : ℕ) : Type 0 where
  pub table : RuleOf pattern rule.last rule.words
  pub fits : rule.last < size

module _ {M X : Type 0} (make : Make X) (kind : Kind M) where
  -- what the screen knows of its frame is true of the frame f, whose bytes the cells hold, and the board allows the rest of it
  pub record Underway (pattern : List ℕ) (f : Frame) (own : OpenFrame) (rule : Rule) (cells : List M) (meter : X) : Type 0 where
    pub fitted : Fitted pattern rule (length cells)
    pub renter : own.renter ≡ f.renter
    pub promised : own.length ≡ f.length
    pub fed : own.fed ≡ length f.bytes
    pub in_bounds : length f.bytes ≤ f.length
    pub short : f.length ≤ most_bytes
    pub bytes : Bytes f.bytes
    pub holds : Holds kind fitted.table.accepted.tree f.bytes cells
    pub counted : own.touches ≡ made_touches rule.last (length f.bytes)
    pub allowed : rest_touches rule.last (f.length - length f.bytes) ≤ make.allowed (length cells) meter

  -- A screen is sound, with this pattern loaded and this frame open.
  abbrev pub Sound : Option (List ℕ) → Option Frame → Held → List M → X → Type 0
  Sound l o (Empty, rule) cells meter = (l ≡ None) × (o ≡ None)
  Sound l o (Ready, rule) cells meter = (p : List ℕ) × (l ≡ Some p) × (o ≡ None) × Fitted p rule (length cells)
  Sound l o (Open own, rule) cells meter = (p : List ℕ) × (f : Frame) × (l ≡ Some p) × (o ≡ Some f) × Underway p f own rule cells meter

  -- A call is done by the rules, and the screen is sound after it, with what is then loaded and open. One that stops leaves the
  -- screen's state and rule as they were. No stop of the board's own comes out of it.
  pub record Goes (l : Option (List ℕ)) (o : Option Frame) (held : Held) (cells : List M) (meter : X) (call : Order) (said : Said M) (held' : Held) (cells' : List M) (meter' : X) : Type 0 where
    pub done : Done make kind l o cells meter call said cells' meter'
    pub sound : Sound (loaded_after call said l) (open_after call said o) held' cells' meter'
    pub unchanged : ¬ AcceptedBy said → held' ≡ held
    pub not_the_boards : (n : ℕ) → said ≡ stopped n → n < 18

-- A board of the make, with marks of the kind.
module _ {B M : Type 0} (board : Ghosts B M) (kind : Kind M) where
  -- A call takes a board, and what the screen over it holds, from one to the next: the board keeps what its make keeps, and if
  -- they were sound, the call goes by the rules.
  pub record Takes (old new : B) (held held' : Held) (call : Order) (said : Said M) : Type 0 where
    pub kept : board.keeps.same old new
    pub goes : (l : Option (List ℕ)) (o : Option Frame) → Sound board.make kind l o held (board.cells old) (board.meter old)
        → Goes board.make kind l o held (board.cells old) (board.meter old) call said held' (board.cells new) (board.meter new)

  -- a call that is told this of its answer, and leads to this; where it stops, all that the screen holds stays
  abbrev pub Leads : {A : Type 0} → B → B → Held → (A → Held) → Order → (A → Said M) → Result A Stop → Type 0
  Leads old new held after call told (Ok a) = Takes old new held (after a) call (told a)
  Leads old new held after call told (Err s) = Takes old new held held call (stopped (stop_number s))

  -- the screen is sound, with this pattern loaded and this frame open
  abbrev pub SoundScreen : Option (List ℕ) → Option Frame → Screen B → Type 0
  SoundScreen l o s = Sound board.make kind l o (s.state, s.rule) (board.cells s.board.now) (board.meter s.board.now)

  -- what a call makes of a screen: it stays over the same board, and the call takes them to what they are then
  pub record Conducts (old new : Screen B) (call : Order) (said : Said M) : Type 0 where
    pub same : new.board.ghost_name ≡ old.board.ghost_name
    pub takes : Takes old.board.now new.board.now (old.state, old.rule) (new.state, new.rule) call said
