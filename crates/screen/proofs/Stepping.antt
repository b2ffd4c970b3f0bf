-- Cells carried over a byte, from the last one down.
use Rattle.std.proofs.Common.{◌≡◌, ℕ, suc, ◌+◌, ◌*◌, ◌≤◌, List, [], ◌∷◌, get_or, set, Ok, Err, Result, sym, refl, ap, ◌∙◌, subst, arith}
use Rattle.board.specs.Boards.{Touch, read, write}
use Rattle.board.specs.declared.Board.{Ghosts}
use Rattle.mark.specs.Marks.{Kind}
use Rattle.method.specs.Cells.{across, shift_over}
use Rattle.rule.specs.Words.{takes_at}
use Rattle.rule.specs.declared.table.Rule.{Rule}
use Rattle.screen.proofs.Lengths.{length_stepping}
use Rattle.screen.proofs.Underway.{Underway, all_done, read_on, write_on, write_refused}
use Rattle.screen.specs.ByRule.{stepped_by, stepping_of}
use Rattle.screen.specs.Movements.{Movement, ReadOf, WriteOf, cells_on}
use Rattle.screen.specs.Schedules.{stepping}
use Rattle.screen.specs.declared.movements.Mover.{Mover}
use Rattle.stops.specs.declared.Stop.{Stop}
use Rattle.std.proofs.lemmas.List.{get_or_read}

module _ {B M : Type 0} (board : Ghosts B M) (kind : Kind M) (rule : Rule) (byte : ℕ) (old : Mover B) where
  abbrev Going : List Touch → Mover B → Type 0
  Going rest m = Underway board old (stepping_of rule) rest m

  abbrev shifted : ℕ → List M → List M
  shifted j cells = shift_over kind.nothing (across kind.nothing (takes_at rule.words byte)) j cells

  abbrev over : ℕ → M → M
  over j mark = across kind.nothing (takes_at rule.words byte) j mark

  -- the cells above j are carried over
  pub record Stepping (j : ℕ) (m : Mover B) : Type 0 where
    pub going : Going (stepping j) m
    pub shifts_on : shifted j (cells_on board m) ≡ shifted rule.last (cells_on board old)

  pub step_count : {j : ℕ} {m : Mover B} → Stepping j m → m.touches ≤ old.touches + 2 * rule.last + 1
  step_count {j} f = let c = f.going.counted in omega (arith, length_stepping rule.last, length_stepping j)

  pub at_next : {j : ℕ} {m : Mover B} (i : ℕ) → j ≡ suc i → Stepping j m → Stepping (suc i) m
  at_next {m = m} i e f = subst (λ z. Stepping z m) e f

  module _ {i : ℕ} {m : Mover B} (f : Stepping (suc i) m) where
    pub step_start : Going (read i ∷ write (suc i) ∷ stepping i) m
    step_start = f.going

    module _ {i₁ : ℕ} (e₁ : i₁ ≡ i) {m₁ : Mover B} {a : M} (r : ReadOf board m i₁ m₁ (Ok a)) where
      pub step_read : Going (write (suc i) ∷ stepping i) m₁
      step_read = read_on board e₁ step_start r

      pub step_more : {i₂ : ℕ} (e₂ : i₂ ≡ suc i) {m₂ : Mover B} (v : M) {done : Unit {0}} → WriteOf board m₁ i₂ v m₂ (Ok done) → v ≡ over i a → Stepping i m₂
      unfolding shift_over
      step_more {i₂} e₂ {m₂} v w e =
          let cells = cells_on board m in
          let g : get_or cells i kind.nothing ≡ a = ap (λ z. get_or cells z kind.nothing) (sym e₁) ∙ sym (get_or_read cells i₁ a r.done.0.inside r.done.1 kind.nothing) in
          let mark : over i (get_or cells i kind.nothing) ≡ v = ap (over i) g ∙ sym e in
          let now : set cells (suc i) (over i (get_or cells i kind.nothing)) ≡ cells_on board m₂ =
          ap (set cells (suc i)) mark ∙ ap (λ z. set z (suc i) v) (sym r.done.2) ∙ ap (λ z. set (cells_on board m₁) z v) (sym e₂) ∙ sym w.done.1 in
          record { going = write_on board e₂ v step_read w; shifts_on = ap (shifted i) (sym now) ∙ f.shifts_on }

  module _ {j : ℕ} {m : Mover B} (e : j ≡ 0) (f : Stepping j m) where
    at_zero : Stepping 0 m
    at_zero = subst (λ z. Stepping z m) e f

    last_write : Going (write 0 ∷ []) m
    last_write = at_zero.going

    -- seed(bytes fed) is put into cell 0, or the write is refused
    pub step_ends : {m' : Mover B} {v : M} {fed : ℕ} → v ≡ kind.seed fed → (r : Result (Unit {0}) Stop) → WriteOf board m 0 v m' r → Movement board old (stepping_of rule) (stepped_by kind byte fed rule) m' r
    unfolding shift_over
    step_ends {v = v} {fed} k (Ok done) w = all_done board (stepped_by kind byte fed rule) (write_on board refl v last_write w) (w.done.1 ∙ ap (λ z. set z 0 v) at_zero.shifts_on ∙ ap (set (shifted rule.last (cells_on board old)) 0) k)
    step_ends k (Err s) w = write_refused board last_write refl w
