-- Runs, and two of them side by side.
use Rattle.std.specs.Prelude.{◌≡◌, ℕ, ◌≢◌, List, [], ◌∷◌, map, reverse, length, Option}
use Rattle.board.specs.Boards.{Make}
use Rattle.conduct.specs.Calls.{Frame, Order, Said, to_feed, to_finish, verdict}
use Rattle.conduct.specs.Histories.{Event, Lawful, last_cells, last_meter}
use Rattle.conduct.specs.Rules.{Due}
use Rattle.mark.specs.Marks.{Kind}

-- Calls played one after another from a fresh screen, on a board that first had these cells and this meter, were told this, and left
-- the board with these cells and this meter: some lawful history has these calls, in their order, was told this, and ends so.
pub record Run {M X : Type 0} (make : Make X) (kind : Kind M) (first : List M) (start : X) (calls : List Order) (told : List (Said M)) (cells : List M) (meter : X) : Type 0 where
  pub history : List (Event M X)
  pub lawful : Lawful make kind first start history
  pub calls_are : map (λ e. e.call) history ≡ reverse calls
  pub told_are : map (λ e. e.said) history ≡ reverse told
  pub cells_end : cells ≡ last_cells first history
  pub meter_end : meter ≡ last_meter start history

-- two calls agree in everything but a byte that another renter than A feeds
pub data AlikeCalls (A : ℕ) : Order → Order → Type 0 where
  same_call : {call : Order} → AlikeCalls A call call
  other_byte : {r c c' : ℕ} → r ≢ A → AlikeCalls A (to_feed r c) (to_feed r c')

-- two lists do so call by call
pub data AllAlike (A : ℕ) : List Order → List Order → Type 0 where
  no_calls : AllAlike A [] []
  one_more : {a b : Order} {xs ys : List Order} → AlikeCalls A a b → AllAlike A xs ys → AllAlike A (a ∷ xs) (b ∷ ys)

-- what two calls are told is equal, but for the mark that a finish of another renter than A is told
pub data AlikeTold {M : Type 0} (A : ℕ) : Order → Said M → Said M → Type 0 where
  same_told : {call : Order} {said : Said M} → AlikeTold A call said said
  other_mark : {r n : ℕ} {m m' : M} → r ≢ A → AlikeTold A (to_finish r) (verdict m n) (verdict m' n)

-- Renter A cannot tell two histories apart: after each call both were told alike, have made the same touches, and have equal meters.
pub data AlikeHistories {M X : Type 0} (A : ℕ) : List (Event M X) → List (Event M X) → Type 0 where
  no_events : AlikeHistories A [] []
  one_more : {e f : Event M X} {h k : List (Event M X)}
      → AlikeTold A e.call e.said f.said → e.touches ≡ f.touches → e.meter ≡ f.meter → AlikeHistories A h k → AlikeHistories A (e ∷ h) (f ∷ k)

-- what a board is at a time
pub record BoardState (M X : Type 0) : Type 0 where
  pub cells : List M
  pub meter : X

-- The law of two runs, by what each began with, its calls, what they were told, and what it ended with.
pub record TwoRuns {M X : Type 0} (make : Make X) (kind : Kind M) (begin_1 : BoardState M X) (calls_1 : List Order) (told_1 : List (Said M)) (end_1 : BoardState M X)
    (begin_2 : BoardState M X) (calls_2 : List Order) (told_2 : List (Said M)) (end_2 : BoardState M X) : Type 0 where
  pub first : Run make kind begin_1.cells begin_1.meter calls_1 told_1 end_1.cells end_1.meter
  pub second : Run make kind begin_2.cells begin_2.meter calls_2 told_2 end_2.cells end_2.meter
  pub apart : length begin_1.cells ≡ length begin_2.cells → begin_1.meter ≡ begin_2.meter → (A : ℕ) → AllAlike A calls_1 calls_2
      → AlikeHistories A first.history second.history

-- whatever is loaded and open, a call is told one thing only
abbrev pub EachCallIsToldOneThing : Type 0 → Type 0 → Type 0
EachCallIsToldOneThing M X =
    (make : Make X) (kind : Kind M) (size : ℕ) (meter : X) (l : Option (List ℕ)) (o : Option Frame) (call : Order) (a b : Said M)
    → Due make kind size meter l o call a → Due make kind size meter l o call b → a ≡ b
