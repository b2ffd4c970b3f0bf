-- What the code's calls and answers say, with no address in it.
use Rattle.std.specs.Prelude.{ℕ, Some, None, Ok, Err, Option, Result}
use Rattle.conduct.specs.Calls.{Order, Said, stopped, stopped_at, to_begin, to_drop, to_feed, to_finish, to_load, to_meter}
use Rattle.conduct.specs.Calls as told
use Rattle.calls.specs.declared.call.Answer.TheVariants.{Number, Verdict}
use Rattle.calls.specs.declared.call.Answer.{Answer}
use Rattle.calls.specs.declared.call.Call.TheVariants.{Begin, Drop, Feed, Finish, Load, Meter}
use Rattle.calls.specs.declared.call.Call.{Call}
use Rattle.calls.specs.declared.call.Refusal.{Refusal}
use Rattle.calls.specs.declared.frame.OpenFrame.{OpenFrame}
use Rattle.calls.specs.declared.frame.State.TheVariants.{Empty, Open, Ready}
use Rattle.calls.specs.declared.frame.State.{State}
use Rattle.stops.specs.Stops.{stop_number}
use Rattle.stops.specs.declared.Stop.{Stop}
use Rattle.syntax.specs.declared.Fault.{Fault}

abbrev pub order : Call → Order
order (Load pattern) = to_load pattern.now
order (Begin renter length) = to_begin renter length
order (Feed renter byte) = to_feed renter byte
order (Finish renter) = to_finish renter
order (Drop renter) = to_drop renter
order Meter = to_meter

abbrev pub answer_said : {M : Type 0} → Answer M → Said M
answer_said (Number n) = told.number n
answer_said (Verdict m n) = told.verdict m n

abbrev pub stop_said : {M : Type 0} → Stop → Option ℕ → Said M
stop_said s None = stopped (stop_number s)
stop_said s (Some p) = stopped_at (stop_number s) p

-- what a call is told, and the same of the calls one by one
abbrev pub said : {M : Type 0} → Result (Answer M) Refusal → Said M
said (Ok a) = answer_said a
said (Err r) = stop_said r.stop r.place

abbrev pub said_at : {M : Type 0} → Result ℕ Fault → Said M
said_at (Ok n) = told.number n
said_at (Err f) = stopped_at (stop_number f.stop) f.place

abbrev pub said_number : {M : Type 0} → Result ℕ Stop → Said M
said_number (Ok n) = told.number n
said_number (Err s) = stopped (stop_number s)

abbrev pub said_verdict : {M : Type 0} → Result (M × ℕ) Stop → Said M
said_verdict (Ok r) = told.verdict r.0 r.1
said_verdict (Err s) = stopped (stop_number s)

-- no frame is open
abbrev pub Unopened : State → Type 0
Unopened Empty = Unit {0}
Unopened Ready = Unit {0}
Unopened (Open f) = ⊥

-- a frame opened in a ready state, and an open one ended; other states stay
abbrev pub opened : OpenFrame → State → State
opened f Empty = Empty
opened f Ready = Open f
opened f (Open g) = Open g

abbrev pub closed : State → State
closed Empty = Empty
closed Ready = Ready
closed (Open f) = Ready
