-- The calls of a screen, what they are told, and what they leave loaded and open.
use Rattle.std.specs.Prelude.{ℕ, List, [], ◌∷◌, ◌++◌, Some, None, Option}

-- what is asked of a screen: a pattern to load; a frame of a renter and of so many bytes to begin; a byte of a renter's to feed;
-- a renter's frame to finish or to drop; the meter to read
pub data Order : Type 0 where
  to_load : (pattern : List ℕ) → Order
  to_begin : (renter length : ℕ) → Order
  to_feed : (renter byte : ℕ) → Order
  to_finish : (renter : ℕ) → Order
  to_drop : (renter : ℕ) → Order
  to_meter : Order

-- What a call is told: a number; or a verdict with the touches made for its frame; or a stop, by its number, and of a load by a
-- place in the pattern too.
pub data Said (M : Type 0) : Type 0 where
  number : ℕ → Said M
  verdict : M → ℕ → Said M
  stopped : ℕ → Said M
  stopped_at : (number place : ℕ) → Said M

-- a call that is told a number or a verdict is accepted, and one that is told a stop is not
pub data AcceptedBy {M : Type 0} : Said M → Type 0 where
  by_number : {n : ℕ} → AcceptedBy (number n)
  by_verdict : {m : M} {n : ℕ} → AcceptedBy (verdict m n)

-- the first where the call is accepted, else the second
abbrev pub if_accepted : {M A : Type 0} → Said M → A → A → A
if_accepted (number n) x y = x
if_accepted (verdict m n) x y = x
if_accepted (stopped n) x y = y
if_accepted (stopped_at n p) x y = y

-- a frame: whose it is, how many bytes it is to have, and those that were fed so far
pub record Frame : Type 0 where
  pub renter : ℕ
  pub length : ℕ
  pub bytes : List ℕ

abbrev pub frame : ℕ → ℕ → List ℕ → Frame
frame renter length bytes = record { renter = renter; length = length; bytes = bytes }

-- one byte more
abbrev pub with_byte : ℕ → Option Frame → Option Frame
with_byte c None = None
with_byte c (Some f) = Some (frame f.renter f.length (f.bytes ++ (c ∷ [])))

-- the pattern that is loaded after an accepted call, by the one before
abbrev pub loaded_by : Order → Option (List ℕ) → Option (List ℕ)
loaded_by (to_load p) l = Some p
loaded_by (to_begin r m) l = l
loaded_by (to_feed r c) l = l
loaded_by (to_finish r) l = l
loaded_by (to_drop r) l = l
loaded_by to_meter l = l

-- the frame that is open after an accepted call, by the one before
abbrev pub open_by : Order → Option Frame → Option Frame
open_by (to_load p) o = o
open_by (to_begin r m) o = Some (frame r m [])
open_by (to_feed r c) o = with_byte c o
open_by (to_finish r) o = None
open_by (to_drop r) o = None
open_by to_meter o = o

-- after any call: a stopped one leaves both as they were
abbrev pub loaded_after : {M : Type 0} → Order → Said M → Option (List ℕ) → Option (List ℕ)
loaded_after call said l = if_accepted said (loaded_by call l) l

abbrev pub open_after : {M : Type 0} → Order → Said M → Option Frame → Option Frame
open_after call said o = if_accepted said (open_by call o) o
