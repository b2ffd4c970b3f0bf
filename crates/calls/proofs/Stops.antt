-- A stopped call does nothing.
use Rattle.std.proofs.Common.{◌≡◌, ℕ, ◌<◌, List, [], length, Option, refl, subst}
use Rattle.board.specs.Boards.{Make}
use Rattle.conduct.specs.Calls.{Frame, Order, Said, number, stopped, stopped_at, verdict}
use Rattle.conduct.specs.Rules.{Due, none_stopped}
use Rattle.language.proofs.Option.{clash}
use Rattle.mark.specs.Marks.{Kind}
use Rattle.calls.specs.Sound.{Goes, Held, Sound}

same_stop : {M : Type 0} {n m : ℕ} → ◌≡◌ {A = Said M} (stopped n) (stopped m) → n ≡ m
same_stop e = cc

pub number_no_stop : {M A : Type 0} {n m : ℕ} → ◌≡◌ {A = Said M} (number n) (stopped m) → A
number_no_stop e = clash (cc)

pub verdict_no_stop : {M A : Type 0} {v : M} {n m : ℕ} → ◌≡◌ {A = Said M} (verdict v n) (stopped m) → A
verdict_no_stop e = clash (cc)

placed_no_stop : {M A : Type 0} {n p m : ℕ} → ◌≡◌ {A = Said M} (stopped_at n p) (stopped m) → A
placed_no_stop e = clash (cc)

module _ {M X : Type 0} (make : Make X) (kind : Kind M) {l : Option (List ℕ)} {o : Option Frame} {held : Held} {cells : List M} {meter : X} (s : Sound make kind l o held cells meter) where
  pub stop_goes : {call : Order} {n : ℕ} → n < 18 → Due make kind (length cells) meter l o call (stopped n) → Goes make kind l o held cells meter call (stopped n) held cells meter
  stop_goes {n = n} h d = record {
    done = record { due = d; touches = []; makes = none_stopped (λ a. elim a [ ]); moves = refl; sized = refl; left = refl };
    sound = s;
    unchanged = λ a. refl;
    not_the_boards = λ m e. subst (λ z. z < 18) (same_stop e) h;
  }

  pub stop_at_goes : {call : Order} {n p : ℕ} → Due make kind (length cells) meter l o call (stopped_at n p) → Goes make kind l o held cells meter call (stopped_at n p) held cells meter
  stop_at_goes d = record {
    done = record { due = d; touches = []; makes = none_stopped (λ a. elim a [ ]); moves = refl; sized = refl; left = refl };
    sound = s;
    unchanged = λ a. refl;
    not_the_boards = λ m e. placed_no_stop e;
  }
