-- Histories of calls: what was loaded last, which frame is open, which cells frames have used.
use Rattle.std.specs.Prelude.{◌≡◌, ℕ, ◌+◌, ◌≤◌, List, [], ◌∷◌, ◌++◌, length, Some, None, Option, slice_index_or}
use Rattle.board.specs.Boards.{Make, Touch, moved}
use Rattle.conduct.specs.Calls.{AcceptedBy, Frame, Order, Said, if_accepted, number, to_begin, to_drop, to_feed, to_finish, to_load, to_meter, verdict}
use Rattle.conduct.specs.Rules.{Due, Makes, end_of}
use Rattle.language.specs.Patterns.{Accepted}
use Rattle.mark.specs.Marks.{Kind}
use Rattle.std.specs.List.{AllByRecursion}
use Rattle.theory.specs.Meaning.{Holds}

-- one call of a run: what was asked, what it was told, the touches that it made, and the board's cells and meter after it
pub record Event (M X : Type 0) : Type 0 where
  pub call : Order
  pub said : Said M
  pub touches : List Touch
  pub cells : List M
  pub meter : X

-- the byte that a call feeds, if it is a feed
abbrev pub fed_by : Order → List ℕ
fed_by (to_load p) = []
fed_by (to_begin r m) = []
fed_by (to_feed r c) = c ∷ []
fed_by (to_finish r) = []
fed_by (to_drop r) = []
fed_by to_meter = []

-- A history has the newest event first.
module _ {M X : Type 0} where
  -- an accepted load
  abbrev pub Loads : Event M X → Type 0
  Loads e = AcceptedBy e.said × ((p : List ℕ) × (e.call ≡ to_load p))

  -- an accepted call that begins, finishes or drops a frame
  pub data Turns (e : Event M X) : Type 0 where
    at_begin : {r m : ℕ} → AcceptedBy e.said → e.call ≡ to_begin r m → Turns e
    at_finish : {r : ℕ} → AcceptedBy e.said → e.call ≡ to_finish r → Turns e
    at_drop : {r : ℕ} → AcceptedBy e.said → e.call ≡ to_drop r → Turns e

  -- the bytes of the accepted feeds, in the order in which they were fed
  abbrev pub bytes_fed : List (Event M X) → List ℕ
  bytes_fed [] = []
  bytes_fed (e ∷ h) = bytes_fed h ++ if_accepted e.said (fed_by e.call) []

  -- how many touches the events made
  abbrev pub touches_in : List (Event M X) → ℕ
  touches_in [] = 0
  touches_in (e ∷ h) = length e.touches + touches_in h

  -- a finish or a drop that is told n touches
  pub data Reports (e : Event M X) : ℕ → Type 0 where
    finished : {r n : ℕ} {m : M} → e.call ≡ to_finish r → e.said ≡ verdict m n → Reports e n
    dropped : {r n : ℕ} → e.call ≡ to_drop r → e.said ≡ number n → Reports e n

  -- p is the pattern of the last accepted load
  pub record LastLoad (h : List (Event M X)) (p : List ℕ) : Type 0 where
    pub since : List (Event M X)
    pub load : Event M X
    pub before : List (Event M X)
    pub parts : h ≡ since ++ (load ∷ before)
    pub accepted : AcceptedBy load.said
    pub asked : load.call ≡ to_load p
    pub no_other : AllByRecursion (λ e. ¬ Loads e) since

  -- The frame is open: the last accepted begin is its, with no accepted finish or drop after it, and its bytes are those of the
  -- accepted feeds since.
  pub record IsOpenFrame (h : List (Event M X)) (f : Frame) : Type 0 where
    pub since : List (Event M X)
    pub begin : Event M X
    pub before : List (Event M X)
    pub parts : h ≡ since ++ (begin ∷ before)
    pub accepted : AcceptedBy begin.said
    pub asked : begin.call ≡ to_begin f.renter f.length
    pub no_other : AllByRecursion (λ e. ¬ Turns e) since
    pub bytes : f.bytes ≡ bytes_fed since

  -- some frame of the history used cell j: its rule, that of the last load before it began, ends at j or behind it
  pub record Used (h : List (Event M X)) (j : ℕ) : Type 0 where
    pub since : List (Event M X)
    pub begin : Event M X
    pub before : List (Event M X)
    pub parts : h ≡ since ++ (begin ∷ before)
    pub accepted : AcceptedBy begin.said
    pub renter : ℕ
    pub bytes : ℕ
    pub asked : begin.call ≡ to_begin renter bytes
    pub pattern : List ℕ
    pub rule : LastLoad before pattern
    pub well_formed : Accepted pattern
    pub within : j ≤ end_of well_formed

  -- and the open frame uses it
  pub record InOpenFrame (h : List (Event M X)) (j : ℕ) : Type 0 where
    pub frame : Frame
    pub is_open : IsOpenFrame h frame
    pub pattern : List ℕ
    pub rule : LastLoad h pattern
    pub well_formed : Accepted pattern
    pub within : j ≤ end_of well_formed

  -- the pattern loaded, and the frame open, after a history
  abbrev pub Loaded : List (Event M X) → Option (List ℕ) → Type 0
  Loaded h None = (p : List ℕ) → ¬ LastLoad h p
  Loaded h (Some p) = LastLoad h p

  abbrev pub Opened : List (Event M X) → Option Frame → Type 0
  Opened h None = (f : Frame) → ¬ IsOpenFrame h f
  Opened h (Some f) = IsOpenFrame h f

  -- the cells and the meter after a history that began with these
  abbrev pub last_cells : List M → List (Event M X) → List M
  last_cells cells [] = cells
  last_cells cells (e ∷ h) = e.cells

  abbrev pub last_meter : X → List (Event M X) → X
  last_meter meter [] = meter
  last_meter meter (e ∷ h) = e.meter

  -- What the cells hold after a history. Up to the last position of an open frame's rule each holds the join of seed(p) over each
  -- place p from which the frame's bytes lead to it. Every other cell that some frame has used holds nothing, and cells that none has
  -- used hold what they first held.
  pub record CellsMean (kind : Kind M) (first : List M) (h : List (Event M X)) (cells : List M) : Type 0 where
    pub sized : length cells ≡ length first
    pub in_frame : (p : List ℕ) (a : Accepted p) (f : Frame) → LastLoad h p → IsOpenFrame h f → Holds kind a.tree f.bytes cells
    pub wiped : (j : ℕ) (default : M) → Used h j → ¬ InOpenFrame h j → slice_index_or cells j default ≡ kind.nothing
    pub unused : (j : ℕ) (default : M) → ¬ Used h j → slice_index_or cells j default ≡ slice_index_or first j default

  -- An event is as the rules and the history before it call for.
  pub record LawfulEvent (make : Make X) (kind : Kind M) (first : List M) (start : X) (h : List (Event M X)) (e : Event M X) : Type 0 where
    pub loaded : Option (List ℕ)
    pub is_loaded : Loaded h loaded
    pub opened : Option Frame
    pub is_open : Opened h opened
    pub due : Due make kind (length first) (last_meter start h) loaded opened e.call e.said
    pub makes : Makes loaded e.call e.said e.touches
    pub moves : e.meter ≡ moved (make.step (length first)) (last_meter start h) e.touches
    pub mean : CellsMean kind first (e ∷ h) e.cells
    -- a finish or a drop reports the touches made for its frame, counted over all its calls
    pub reports : (f : Frame) (o : IsOpenFrame h f) (n : ℕ) → Reports e n → n ≡ length e.touches + (touches_in o.since + length o.begin.touches)

  -- every event of the history is
  abbrev pub Lawful : Make X → Kind M → List M → X → List (Event M X) → Type 0
  Lawful make kind first start [] = Unit {0}
  Lawful make kind first start (e ∷ h) = LawfulEvent make kind first start h e × Lawful make kind first start h
