-- The tail kind.
use Rattle.std.specs.Prelude.{ℕ, Option, Some, None, min, ◌<◌, ◌≤◌, ltb, Bool, cond, false, true, ◌≡◌, refl}
use Rattle.mark.specs.Limits.{most_bytes}
use Rattle.mark.specs.Marks.{Kind, Laws}
use Rattle.mark.specs.declared.start.Start.{Start}
use Rattle.std.proofs.Common.{ltb-false, ltb-true, ap, arith}
use mathlib.Core.HLevel.{is_prop→PathP}
use Rattle.std.proofs.Math.Bridge.{le_prop}
use Rattle.std.proofs.Math.Decide.{dec_le}

-- a start is settled by its place
pub same_start : (a b : Start) → a.place ≡ b.place → a ≡ b
same_start a b e = λ j. record { place = e j; within = is_prop→PathP (λ k. e k ≤ most_bytes) (λ k. le_prop) a.within b.within j }

-- nothing, or a start
abbrev pub Tail : Type 0
Tail = Option Start

-- the smaller of two starts
abbrev pub smaller : Start → Start → Start
smaller a b = cond (ltb b.place a.place) b a

smaller_by : (a b : Start) (t : Bool) → ltb b.place a.place ≡ t → (cond t b a).place ≡ min a.place b.place
smaller_by a b true e = let h = ltb-true b.place a.place e in omega arith
smaller_by a b false e = let h = ltb-false b.place a.place e in omega arith

pub smaller_place : (a b : Start) → (smaller a b).place ≡ min a.place b.place
smaller_place a b = smaller_by a b (ltb b.place a.place) refl

-- the smaller start, if there is one
abbrev pub earlier : Tail → Tail → Tail
earlier None y = y
earlier (Some a) None = Some a
earlier (Some a) (Some b) = Some (smaller a b)

earlier_assoc : (x y z : Tail) → earlier (earlier x y) z ≡ earlier x (earlier y z)
earlier_assoc None y z = refl
earlier_assoc (Some a) None z = refl
earlier_assoc (Some a) (Some b) None = refl
earlier_assoc (Some a) (Some b) (Some c) =
    ap Some
    (same_start (smaller (smaller a b) c) (smaller a (smaller b c))
    (let p = smaller_place (smaller a b) c in let q = smaller_place a b in let r = smaller_place a (smaller b c) in let s = smaller_place b c in omega arith))

earlier_comm : (x y : Tail) → earlier x y ≡ earlier y x
earlier_comm None None = refl
earlier_comm None (Some b) = refl
earlier_comm (Some a) None = refl
earlier_comm (Some a) (Some b) = ap Some (same_start (smaller a b) (smaller b a) (let p = smaller_place a b in let q = smaller_place b a in omega arith))

earlier_idem : (x : Tail) → earlier x x ≡ x
earlier_idem None = refl
earlier_idem (Some a) = ap Some (same_start (smaller a a) a (let p = smaller_place a a in omega arith))

pub earlier_laws : Laws earlier None
earlier_laws = record { assoc = earlier_assoc; comm = earlier_comm; idem = earlier_idem; unit = λ x. refl }

-- the place itself, up to the most bytes of a frame
abbrev pub start_if : (p : ℕ) → Dec (p ≤ most_bytes) → Tail
start_if p (yes h) = Some (record { place = p; within = h })
start_if p (no n) = None

unfoldable pub tail_seed : ℕ → Tail
tail_seed p = start_if p (dec_le p most_bytes)

seed_of : (p : ℕ) (h : p ≤ most_bytes) (d : Dec (p ≤ most_bytes)) → start_if p d ≡ Some (record { place = p; within = h })
seed_of p h (yes k) = ap Some (same_start (record { place = p; within = k }) (record { place = p; within = h }) refl)
seed_of p h (no n) = absurd (n h)

pub seed_is : (p : ℕ) (h : p ≤ most_bytes) → tail_seed p ≡ Some (record { place = p; within = h })
unfolding tail_seed
seed_is p h = seed_of p h (dec_le p most_bytes)

none_of : (p : ℕ) → most_bytes < p → (d : Dec (p ≤ most_bytes)) → start_if p d ≡ None
none_of p h (yes k) = let z : ⊥ = omega arith in absurd z
none_of p h (no n) = refl

pub tail_seeds_end : (p : ℕ) → most_bytes < p → tail_seed p ≡ None
unfolding tail_seed
tail_seeds_end p h = none_of p h (dec_le p most_bytes)

-- the start, or 65,535 for nothing
abbrev pub tail_code : Tail → ℕ
tail_code None = 65535
tail_code (Some a) = a.place

pub tail_codes_differ : (x y : Tail) → tail_code x ≡ tail_code y → x ≡ y
tail_codes_differ None None e = refl
tail_codes_differ None (Some b) e = let h = b.within in let z : ⊥ = omega arith in absurd z
tail_codes_differ (Some a) None e = let h = a.within in let z : ⊥ = omega arith in absurd z
tail_codes_differ (Some a) (Some b) e = ap Some (same_start a b e)

abbrev pub tail : Kind Tail
tail = record { nothing = None; join = earlier; seed = tail_seed; code = tail_code; laws = earlier_laws; seeds_end = tail_seeds_end; codes_differ = tail_codes_differ }
