-- A run under way: the calls so far are played, and the screen is sound.
use Rattle.std.proofs.Common.{◌≡◌, ℕ, ◌+◌, ◌<◌, List, [], ◌∷◌, ◌++◌, length, get_or, take, drop, set, None, Option, Result, sym, ap, ◌∙◌, subst, arith}
use Rattle.board.specs.Boards.{Make}
use Rattle.conduct.proofs.SoFar.{PlayedTo, played_more, played_none, played_run}
use Rattle.conduct.specs.Calls.{Frame, Order, Said}
use Rattle.conduct.specs.Runs.{Run}
use Rattle.mark.specs.Marks.{Kind}
use Rattle.runs.specs.Playing.{orders, told_of}
use Rattle.calls.specs.Sound.{Goes, Held, Sound}
use Rattle.calls.specs.Told.{order, said}
use Rattle.calls.specs.declared.call.Answer.{Answer}
use Rattle.calls.specs.declared.call.Call.{Call}
use Rattle.calls.specs.declared.call.Refusal.{Refusal}
use Rattle.std.proofs.lemmas.List.{drop-drop, drop-set-lt, map-append, take_more, take_more_set}

pub record Playing {M X : Type 0} (make : Make X) (kind : Kind M) (first : List M) (start : X) (asked : List Order) (told : List (Said M)) (held : Held) (cells : List M) (meter : X) : Type 0 where
  pub loaded : Option (List ℕ)
  pub opened : Option Frame
  pub played : PlayedTo make kind first start asked told loaded opened cells meter
  pub sound : Sound make kind loaded opened held cells meter

module _ {M X : Type 0} (make : Make X) (kind : Kind M) where
  pub playing_none : (first : List M) (start : X) (held : Held) → Sound make kind None None held first start → Playing make kind first start [] [] held first start
  playing_none first start held s = record { loaded = None; opened = None; played = played_none make kind first start; sound = s }

  module _ {first : List M} {start : X} {held : Held} {cells : List M} {meter : X} where
    one_more : {asked : List Order} {told : List (Said M)} {held' : Held} {cells' : List M} {meter' : X} (call : Order) (x : Said M) → Playing make kind first start asked told held cells meter
        → ((l : Option (List ℕ)) (o : Option Frame) → Sound make kind l o held cells meter → Goes make kind l o held cells meter call x held' cells' meter')
        → Playing make kind first start (asked ++ (call ∷ [])) (told ++ (x ∷ [])) held' cells' meter'
    one_more call x p f =
        let g = f p.loaded p.opened p.sound in
        record { loaded = _; opened = _; played = played_more p.played g.done; sound = g.sound }

    -- the same, along the two slices
    pub playing_more : (calls : List Call) (out : List (Result (Answer M) Refusal)) (i : ℕ) (held' : Held) (cells' : List M) (meter' : X)
        → Playing make kind first start (orders (take i calls)) (told_of (take i out)) held cells meter → i < length calls → i < length out → (d : Call)
        → (r : Result (Answer M) Refusal)
        → ((l : Option (List ℕ)) (o : Option Frame) → Sound make kind l o held cells meter → Goes make kind l o held cells meter (order (get_or calls i d)) (said r) held' cells' meter')
        → Playing make kind first start (orders (take (i + 1) calls)) (told_of (take (i + 1) (set out i r))) held' cells' meter'
    playing_more calls out i held' cells' meter' p h k d r f =
        let call = order (get_or calls i d) in
        let e : orders (take i calls) ++ (call ∷ []) ≡ orders (take (i + 1) calls) = sym (map-append order (take i calls) (get_or calls i d ∷ [])) ∙ ap orders (sym (take_more calls i d h)) in
        let g : told_of (take i out) ++ (said r ∷ []) ≡ told_of (take (i + 1) (set out i r)) = sym (map-append said (take i out) (r ∷ [])) ∙ ap told_of (sym (take_more_set out i r k)) in
        subst (λ z. Playing make kind first start z (told_of (take (i + 1) (set out i r))) held' cells' meter') e
        (subst (λ z. Playing make kind first start (orders (take i calls) ++ (call ∷ [])) z held' cells' meter') g (one_more call (said r) p f))

    pub playing_all : {asked : List Order} {told : List (Said M)} → Playing make kind first start asked told held cells meter → Run make kind first start asked told cells meter
    playing_all p = played_run p.played

-- a run between equal boards
pub run_between : {B M X : Type 0} (make : Make X) (kind : Kind M) (cells : B → List M) (meter : B → X) {a a' b b' : B} {asked : List Order} {told : List (Said M)} → a ≡ a' → b ≡ b'
    → Run make kind (cells a) (meter a) asked told (cells b) (meter b) → Run make kind (cells a') (meter a') asked told (cells b') (meter b')
run_between make kind cells meter {a} {a'} {b} {b'} {asked} {told} e f p =
    subst (λ y. Run make kind (cells a') (meter a') asked told (cells y) (meter y)) f (subst (λ x. Run make kind (cells x) (meter x) asked told (cells b) (meter b)) e p)

-- what is not yet written is as it was
pub rest_more : {Z : Type 0} (out first : List Z) (i : ℕ) (r : Z) → drop i out ≡ drop i first → drop (i + 1) (set out i r) ≡ drop (i + 1) first
rest_more out first i r e = drop-set-lt (i + 1) out i r (omega arith) ∙ sym (drop-drop 1 i out) ∙ ap (drop 1) e ∙ drop-drop 1 i first
