-- Cells joined with their predecessors one after another.
use Rattle.std.proofs.Common.{◌≡◌, ℕ, zero, suc, ◌+◌, ◌*◌, ◌≤◌, List, ◌∷◌, get_or, set, Ok, sym, refl, ap, ◌∙◌, subst, ap₂, arith}
use Rattle.board.specs.Boards.{Touch, read, write}
use Rattle.board.specs.declared.Board.{Ghosts}
use Rattle.mark.specs.Marks.{Kind}
use Rattle.method.specs.Cells.{joined_at, scan_from, source}
use Rattle.rule.specs.Words.{first_of, second_of}
use Rattle.rule.specs.declared.table.Rule.{Rule}
use Rattle.screen.proofs.Lengths.{length_scans}
use Rattle.screen.proofs.Underway.{Underway, all_done, none_yet, read_on, write_on}
use Rattle.screen.specs.ByRule.{scanned_by, scanning_of}
use Rattle.screen.specs.Movements.{Movement, ReadOf, WriteOf, cells_on}
use Rattle.screen.specs.Schedules.{scans}
use Rattle.screen.specs.declared.movements.Mover.{Mover}
use Rattle.std.proofs.lemmas.List.{get_or_read}

module _ {B M : Type 0} (board : Ghosts B M) (kind : Kind M) (rule : Rule) (old : Mover B) where
  abbrev pub first_source : ℕ → ℕ
  first_source j = source (first_of rule.words j) j

  abbrev pub second_source : ℕ → ℕ
  second_source j = source (second_of rule.words j) j

  abbrev Going : List Touch → Mover B → Type 0
  Going rest m = Underway board old (scanning_of rule) rest m

  abbrev rest_of : ℕ → ℕ → List Touch
  rest_of more j = scans (first_of rule.words) (second_of rule.words) more j

  abbrev joins : ℕ → ℕ → List M → List M
  joins more j cells = scan_from kind.join kind.nothing (first_of rule.words) (second_of rule.words) more j cells

  -- cells 0 to j − 1 of the cells up to the last are joined
  pub record Scanning (j : ℕ) (m : Mover B) : Type 0 where
    pub more : ℕ
    pub ends : more + j ≡ suc rule.last
    pub going : Going (rest_of more j) m
    pub scans_on : joins more j (cells_on board m) ≡ scanned_by kind rule (cells_on board old)

  pub scan_none : Scanning 0 old
  scan_none = record { more = suc rule.last; ends = omega arith; going = none_yet board old (scanning_of rule); scans_on = refl }

  -- right before cell j
  pub record Before (j : ℕ) (m : Mover B) : Type 0 where
    pub more : ℕ
    pub ends : suc more + j ≡ suc rule.last
    pub going : Going (read j ∷ read (first_source j) ∷ read (second_source j) ∷ write j ∷ rest_of more (suc j)) m
    pub scans_on : joins more (suc j) (joined_at kind.join kind.nothing (first_of rule.words) (second_of rule.words) (cells_on board m) j) ≡ scanned_by kind rule (cells_on board old)

  module _ {j : ℕ} {m : Mover B} (f : Scanning j m) where
    pub before : j ≤ rule.last → Before j m
    unfolding scan_from
    before h = at f.more f.ends f.going f.scans_on
      where
        at : (a : ℕ) → a + j ≡ suc rule.last → Going (rest_of a j) m → joins a j (cells_on board m) ≡ scanned_by kind rule (cells_on board old) → Before j m
        at zero g u v = let z : ⊥ = omega arith in absurd z
        at (suc a) g u v = record { more = a; ends = g; going = u; scans_on = v }

    pub scan_count : m.touches ≤ old.touches + 4 * suc rule.last
    scan_count = let c = f.going.counted in omega (arith, length_scans (first_of rule.words) (second_of rule.words) (suc rule.last) 0, length_scans (first_of rule.words) (second_of rule.words) f.more j)

    pub scan_all : suc rule.last ≤ j → Movement board old (scanning_of rule) (scanned_by kind rule) m (Ok tt)
    unfolding scan_from
    scan_all h = at f.more f.ends f.going f.scans_on
      where
        at : (a : ℕ) → a + j ≡ suc rule.last → Going (rest_of a j) m → joins a j (cells_on board m) ≡ scanned_by kind rule (cells_on board old) → Movement board old (scanning_of rule) (scanned_by kind rule) m (Ok tt)
        at zero g u v = all_done board (scanned_by kind rule) u v
        at (suc a) g u v = let z : ⊥ = omega arith in absurd z

  -- three reads and a write
  module _ {j : ℕ} {m : Mover B} (b : Before j m) {i₁ : ℕ} (e₁ : i₁ ≡ j) {m₁ : Mover B} {a₁ : M} (r₁ : ReadOf board m i₁ m₁ (Ok a₁)) where
    pub first_read : Going (read (first_source j) ∷ read (second_source j) ∷ write j ∷ rest_of b.more (suc j)) m₁
    first_read = read_on board e₁ b.going r₁

    module _ {i₂ : ℕ} (e₂ : i₂ ≡ first_source j) {m₂ : Mover B} {a₂ : M} (r₂ : ReadOf board m₁ i₂ m₂ (Ok a₂)) where
      pub second_read : Going (read (second_source j) ∷ write j ∷ rest_of b.more (suc j)) m₂
      second_read = read_on board e₂ first_read r₂

      module _ {i₃ : ℕ} (e₃ : i₃ ≡ second_source j) {m₃ : Mover B} {a₃ : M} (r₃ : ReadOf board m₂ i₃ m₃ (Ok a₃)) where
        pub third_read : Going (write j ∷ rest_of b.more (suc j)) m₃
        third_read = read_on board e₃ second_read r₃

        as_read : {x y : Mover B} {i k : ℕ} {a : M} → ReadOf board x i y (Ok a) → i ≡ k → cells_on board x ≡ cells_on board m → get_or (cells_on board m) k kind.nothing ≡ a
        as_read {x} {i = i} {a = a} r e s =
            sym (get_or_read (cells_on board x) i a r.done.0.inside r.done.1 kind.nothing ∙ ap (λ z. get_or z i kind.nothing) s ∙ ap (λ z. get_or (cells_on board m) z kind.nothing) e)

        pub scan_more : {i₄ : ℕ} (e₄ : i₄ ≡ j) {m₄ : Mover B} (v : M) {done : Unit {0}} → WriteOf board m₃ i₄ v m₄ (Ok done) → v ≡ kind.join (kind.join a₁ a₂) a₃ → Scanning (j + 1) m₄
        unfolding joined_at
        scan_more {i₄} e₄ {m₄} v w e =
            let cells = cells_on board m in
            let next : suc j ≡ j + 1 = omega arith in
            let c₁ : cells_on board m₁ ≡ cells = r₁.done.2 in
            let c₂ : cells_on board m₂ ≡ cells = r₂.done.2 ∙ c₁ in
            let c₃ : cells_on board m₃ ≡ cells = r₃.done.2 ∙ c₂ in
            let g₁ = as_read r₁ e₁ refl in
            let g₂ = as_read r₂ e₂ c₁ in
            let g₃ = as_read r₃ e₃ c₂ in
            let mark : kind.join (kind.join (get_or cells j kind.nothing) (get_or cells (first_source j) kind.nothing)) (get_or cells (second_source j) kind.nothing) ≡ v = ap₂ kind.join (ap₂ kind.join g₁ g₂) g₃ ∙ sym e in
            let now : joined_at kind.join kind.nothing (first_of rule.words) (second_of rule.words) cells j ≡ cells_on board m₄ =
            ap (set cells j) mark ∙ ap (λ z. set z j v) (sym c₃) ∙ ap (λ z. set (cells_on board m₃) z v) (sym e₄) ∙ sym w.done.1 in
            record {
              more = b.more;
              ends = let h = b.ends in omega arith;
              going = subst (λ z. Going (rest_of b.more z) m₄) next (write_on board e₄ v third_read w);
              scans_on = ap (λ z. joins b.more z (cells_on board m₄)) (sym next) ∙ ap (joins b.more (suc j)) (sym now) ∙ b.scans_on;
            }
