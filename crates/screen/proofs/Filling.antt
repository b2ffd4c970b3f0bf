-- Cells written one after another.
use Rattle.std.proofs.Common.{◌≡◌, ℕ, zero, suc, ◌+◌, ◌≤◌, Ok, Err, set, sym, refl, ap, ◌∙◌, subst, arith}
use Rattle.board.specs.declared.Board.{Ghosts}
use Rattle.method.specs.Cells.{filled}
use Rattle.screen.proofs.Lengths.{length_writes}
use Rattle.screen.proofs.Underway.{Underway, all_done, none_yet, write_on, write_refused}
use Rattle.screen.specs.Movements.{Movement, WriteOf, cells_on}
use Rattle.screen.specs.Schedules.{writes}
use Rattle.screen.specs.declared.movements.Mover.{Mover}
use Rattle.stops.specs.declared.Stop.{Stop}

module _ {B M : Type 0} (board : Ghosts B M) (mark : ℕ → M) (n : ℕ) (old : Mover B) where
  -- cells 0 to j − 1 of the cells up to n are written
  pub record Filling (j : ℕ) (m : Mover B) : Type 0 where
    pub more : ℕ
    pub ends : more + j ≡ suc n
    pub underway : Underway board old (writes (suc n) 0) (writes more j) m
    pub fills : filled mark more j (cells_on board m) ≡ filled mark (suc n) 0 (cells_on board old)

  pub fill_none : Filling 0 old
  fill_none = record { more = suc n; ends = omega arith; underway = none_yet board old (writes (suc n) 0); fills = refl }

  module _ {j : ℕ} {m : Mover B} (f : Filling j m) where
    pub fill_count : m.touches ≤ old.touches + suc n
    fill_count = let c = f.underway.counted in omega (arith, length_writes (suc n) 0, length_writes f.more j)

    module _ (h : j ≤ n) {m' : Mover B} (v : M) where
      pub fill_more : {done : Unit {0}} → WriteOf board m j v m' (Ok done) → v ≡ mark j → Filling (j + 1) m'
      unfolding filled
      fill_more w e = at f.more f.ends f.underway f.fills
        where
          at : (a : ℕ) → a + j ≡ suc n → Underway board old (writes (suc n) 0) (writes a j) m → filled mark a j (cells_on board m) ≡ filled mark (suc n) 0 (cells_on board old) → Filling (j + 1) m'
          at zero g u s = let z : ⊥ = omega arith in absurd z
          at (suc a) g u s =
              let next : suc j ≡ j + 1 = omega arith in
              let now : set (cells_on board m) j (mark j) ≡ cells_on board m' = ap (set (cells_on board m) j) (sym e) ∙ sym w.done.1 in
              record {
                more = a;
                ends = omega arith;
                underway = subst (λ z. Underway board old (writes (suc n) 0) (writes a z) m') next (write_on board refl v u w);
                fills = ap (λ z. filled mark a z (cells_on board m')) (sym next) ∙ ap (filled mark a (suc j)) (sym now) ∙ s;
              }

      pub fill_stops : {s s' : Stop} → WriteOf board m j v m' (Err s) → Movement board old (writes (suc n) 0) (filled mark (suc n) 0) m' (Err s')
      fill_stops {s} {s'} w = at f.more f.ends f.underway
        where
          at : (a : ℕ) → a + j ≡ suc n → Underway board old (writes (suc n) 0) (writes a j) m → Movement board old (writes (suc n) 0) (filled mark (suc n) 0) m' (Err s')
          at zero g u = let z : ⊥ = omega arith in absurd z
          at (suc a) g u = write_refused board u refl w

    pub fill_all : suc n ≤ j → Movement board old (writes (suc n) 0) (filled mark (suc n) 0) m (Ok tt)
    unfolding filled
    fill_all h = at f.more f.ends f.underway f.fills
      where
        at : (a : ℕ) → a + j ≡ suc n → Underway board old (writes (suc n) 0) (writes a j) m → filled mark a j (cells_on board m) ≡ filled mark (suc n) 0 (cells_on board old)
            → Movement board old (writes (suc n) 0) (filled mark (suc n) 0) m (Ok tt)
        at zero g u s = all_done board (filled mark (suc n) 0) u s
        at (suc a) g u s = let z : ⊥ = omega arith in absurd z
