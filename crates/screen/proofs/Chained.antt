-- One movement after another.
use Rattle.std.proofs.Common.{◌≡◌, ℕ, List, [], ◌∷◌, ◌++◌, length, Ok, Err, Result, sym, refl, ap, ◌∙◌, subst, arith, length-append}
use Rattle.board.specs.Boards.{Make, Touch, moved, read}
use Rattle.board.specs.declared.Board.{Ghosts}
use Rattle.rule.specs.declared.table.Rule.{Rule}
use Rattle.screen.proofs.Underway.{all_done, none_yet, on_on, read_on}
use Rattle.screen.specs.Movements.{Movement, ReadOf, SameBoard, cells_on, meter_on}
use Rattle.screen.specs.Moving.{Below, Enough}
use Rattle.screen.specs.declared.movements.Mover.{Mover}
use Rattle.stops.specs.declared.Stop.{Stop}

moved_append : {X : Type 0} (step : X → Touch → X) (meter : X) (a b : List Touch) → moved step meter (a ++ b) ≡ moved step (moved step meter a) b
moved_append step meter [] b = refl
moved_append step meter (x ∷ a) b = moved_append step (step meter x) a b

below_left : (size : ℕ) (a b : List Touch) → Below size (a ++ b) → Below size a
below_left size [] b h = tt
below_left size (x ∷ a) b h = (h.0, below_left size a b h.1)

below_right : (size : ℕ) (a b : List Touch) → Below size (a ++ b) → Below size b
below_right size [] b h = h
below_right size (x ∷ a) b h = below_right size a b h.1

-- what is enough for two movements is enough for the first
enough_first : {X : Type 0} (make : Make X) {size : ℕ} {meter : X} (a b : List Touch) → Enough make size meter (a ++ b) → Enough make size meter a
enough_first make {size} a b e = let h = e.allowed in record { below = below_left size a b e.below; allowed = omega (arith, length-append a b) }

module _ {B M : Type 0} (board : Ghosts B M) where
  -- one cell is read
  pub one_read : {old m : Mover B} {i k : ℕ} {v : M} → i ≡ k → ReadOf board old i m (Ok v) → Movement board old (read k ∷ []) (λ cells. cells) m (Ok tt)
  one_read {old} {k = k} e r = all_done board (λ cells. cells) (read_on board e (none_yet board old (read k ∷ [])) r) r.done.2

  -- a movement by the rule that the mover has is one by the rule that it had
  pub by_rule : {old m new : Mover B} {r : Result (Unit {0}) Stop} (schedule : Rule → List Touch) (after : Rule → List M → List M) → SameBoard board old m
      → Movement board m (schedule m.rule.now) (after m.rule.now) new r → Movement board m (schedule old.rule.now) (after old.rule.now) new r
  by_rule {m = m} {new} {r} schedule after on n = subst (λ z. Movement board m (schedule z.now) (after z.now) new r) on.ruled n

  -- what cuts the first of two movements short cuts both
  pub cut_first : {old m : Mover B} {s s' : Stop} (a b : List Touch) (first all : List M → List M) → Movement board old a first m (Err s) → Movement board old (a ++ b) all m (Err s')
  cut_first a b first all n = record { on = n.on; done = tt; counted = tt; enough = λ e. n.enough (enough_first board.make a b e) }

  module _ {old m : Mover B} (a b : List Touch) (first next : List M → List M) (long : length (first (cells_on board old)) ≡ length (cells_on board old)) (f : Movement board old a first m (Ok tt)) where
    sized : length (cells_on board m) ≡ length (cells_on board old)
    sized = ap length f.done.holds ∙ long

    -- what is enough for two movements is enough for the second once the first is made
    enough_second : Enough board.make (length (cells_on board old)) (meter_on board old) (a ++ b) → Enough board.make (length (cells_on board m)) (meter_on board m) b
    enough_second e =
        let h = e.allowed in
        let l = f.done.lasts in
        subst (λ z. Enough board.make z (meter_on board m) b) (sym sized)
        (record { below = below_right (length (cells_on board old)) a b e.below; allowed = omega (arith, length-append a b) })

    pub chained : {new : Mover B} (r : Result (Unit {0}) Stop) → Movement board m b next new r → Movement board old (a ++ b) (λ cells. next (first cells)) new r
    chained {new} (Err s) n = record { on = on_on board f.on n.on; done = tt; counted = tt; enough = λ e. n.enough (enough_second e) }
    chained {new} (Ok done) n =
        let size = length (cells_on board old) in
        let make = board.make in
        let f₁ : make.allowed (length (cells_on board m)) (meter_on board m) ≡ make.allowed size (meter_on board m) = ap (λ z. make.allowed z (meter_on board m)) sized in
        let f₂ : make.allowed (length (cells_on board m)) (meter_on board new) ≡ make.allowed size (meter_on board new) = ap (λ z. make.allowed z (meter_on board new)) sized in
        let x = f.done.lasts in
        let y = n.done.lasts in
        let c = f.counted in
        let d = n.counted in
        record {
          on = on_on board f.on n.on;
          done = record {
            holds = n.done.holds ∙ ap next f.done.holds;
            moves = n.done.moves ∙ ap (λ z. moved (make.step z) (meter_on board m) b) sized ∙ ap (λ z. moved (make.step size) z b) f.done.moves ∙ sym (moved_append (make.step size) (meter_on board old) a b);
            counted = refl;
            lasts = omega (arith, length-append a b);
          };
          counted = omega (arith, length-append a b);
          enough = λ _. refl;
        }
