-- A pattern is read in one way, and its reading has one answer.
use Rattle.std.proofs.Common.{◌≡◌, ℕ, ◌<◌, List, [], ◌∷◌, ◌++◌, length, sym, refl, ap, ◌∙◌, subst, append_assoc, append-nil, arith, length-append}
use Rattle.language.proofs.Spelt.{spells_same, spells_some, spells_stuck}
use Rattle.language.specs.Faults.{Before, Faulty, Goes, Reads, Refused, a_bar, a_close, a_letter, a_sign, an_open, left_open, more, no_operand, no_unit, nothing, nothing_open, refused, sign_after_sign, too_deep, too_long}
use Rattle.language.specs.Limits.{most_units}
use Rattle.syntax.specs.Spelling.{Spells, Stuck}
use Rattle.syntax.specs.declared.PatternUnit.{PatternUnit}
use mathlib.Core.List.{append_cancel_left}
use native.Mathlib.Decide.{dec_lt}

goes_same : {p : ℕ} {u : PatternUnit} {os os₁ os₂ : List ℕ} {x x₁ x₂ : Before} → Goes p u os x os₁ x₁ → Goes p u os x os₂ x₂ → (os₁ ≡ os₂) × (x₁ ≡ x₂)
goes_same a_letter a_letter = (refl, refl)
goes_same a_bar a_bar = (refl, refl)
goes_same (an_open l) (an_open m) = (refl, refl)
goes_same a_close a_close = (refl, refl)
goes_same a_sign a_sign = (refl, refl)

goes_not_refused : {p n : ℕ} {u : PatternUnit} {os os' : List ℕ} {x x' : Before} → Goes p u os x os' x' → Refused u os x n → ⊥
goes_not_refused a_letter f = elim f [ ]
goes_not_refused a_bar f = elim f [ ]
goes_not_refused (an_open l) (too_deep e) = omega arith
goes_not_refused a_close f = elim f [ ]
goes_not_refused a_sign f = elim f [ ]

refused_once : {n m : ℕ} {u : PatternUnit} {os : List ℕ} {x : Before} → Refused u os x n → Refused u os x m → n ≡ m
refused_once nothing_open nothing_open = refl
refused_once no_operand no_operand = refl
refused_once sign_after_sign sign_after_sign = refl
refused_once (too_deep e) (too_deep f) = refl

-- what is read: the bytes, their units, the places of the open groups, and what stands last
abbrev State : Type 0
State = List ℕ × List PatternUnit × List ℕ × Before

abbrev Going : State → PatternUnit → List ℕ → Before → Type 0
Going (b, us, os, x) u os' x' = Goes (length b) u os x os' x'

-- after equally many units the same is read
reads_same : {b c : List ℕ} {us vs : List PatternUnit} {os ps : List ℕ} {x y : Before} → Reads b us os x → Reads c vs ps y
    → length us ≡ length vs → (r t : List ℕ) → b ++ r ≡ c ++ t → ◌≡◌ {A = State} (b, us, os, x) (c, vs, ps, y)
reads_same nothing nothing n r t e = refl
reads_same nothing (more {us = vs} {u = v} d l s g) n r t e = let k = simp length-append at n in let z : ⊥ = omega arith in absurd z
reads_same (more {us = us} {u = u} d l s g) nothing n r t e = let k = simp length-append at n in let z : ⊥ = omega arith in absurd z
reads_same (more {bytes = b} {w} {us} {u} {os} {os'} {x} {x'} d l s g) (more {bytes = c} {w = w₂} {us = vs} {u = v} {os = ps} {os' = ps'} {x = y} {x' = y'} d₂ l₂ s₂ g₂) n r t e =
    let k : length us ≡ length vs = let k = simp length-append at n in omega arith in
    let whole : b ++ (w ++ r) ≡ c ++ (w₂ ++ t) = sym (append_assoc b w r) ∙ e ∙ append_assoc c w₂ t in
    let q = reads_same d d₂ k (w ++ r) (w₂ ++ t) whole in
    let ahead : w ++ r ≡ w₂ ++ t = append_cancel_left b (w ++ r) (w₂ ++ t) (whole ∙ ap (λ z. z.0 ++ (w₂ ++ t)) (sym q)) in
    let (i, j, m) = spells_same s s₂ r t ahead in
    let g' = subst (λ (z : State × PatternUnit). Going z.0 z.1 os' x') (λ k. (q k, j k)) g in
    let (o, f) = goes_same g' g₂ in
    λ k. ((q k).0 ++ i k, (q k).1 ++ (j k ∷ []), o k, f k)

-- the reading of the first n units, and the next unit
record Cut (bytes : List ℕ) (n : ℕ) : Type 0 where
  front : List ℕ
  us : List PatternUnit
  os : List ℕ
  x : Before
  reads : Reads front us os x
  count : length us ≡ n
  few : length us < most_units
  w : List ℕ
  u : PatternUnit
  spells : Spells w u
  os' : List ℕ
  x' : Before
  goes : Goes (length front) u os x os' x'
  rest : List ℕ
  splits : bytes ≡ front ++ (w ++ rest)

cut_longer : {b : List ℕ} {n : ℕ} → Cut b n → (w : List ℕ) → Cut (b ++ w) n
cut_longer {b} {n} c w = record {
  front = c.front;
  us = c.us;
  os = c.os;
  x = c.x;
  reads = c.reads;
  count = c.count;
  few = c.few;
  w = c.w;
  u = c.u;
  spells = c.spells;
  os' = c.os';
  x' = c.x';
  goes = c.goes;
  rest = c.rest ++ w;
  splits = ap (λ z. z ++ w) c.splits ∙ simp append_assoc;
}

cut : {b : List ℕ} {us : List PatternUnit} {os : List ℕ} {x : Before} → Reads b us os x → (n : ℕ) → n < length us → Cut b n
cut nothing n h = let z : ⊥ = omega arith in absurd z
cut (more {bytes = b} {w} {us} {u} {os} {os'} {x} {x'} d l s g) n h = elim (dec_lt n (length us)) [
  | yes k ↦ cut_longer (cut d n k) w
  | no k ↦ record {
    front = b;
    us = us;
    os = os;
    x = x;
    reads = d;
    count = let m = simp length-append at h in omega arith;
    few = l;
    w = w;
    u = u;
    spells = s;
    os' = os';
    x' = x';
    goes = g;
    rest = [];
    splits = ap (λ z. b ++ z) (sym (append-nil w));
  }
]

-- the units of a well-formed pattern, or the number and the place of a fault
pub data Answer : Type 0 where
  well_formed : List PatternUnit → Answer
  fault : ℕ → ℕ → Answer

-- no unit can be read on, for the stop of this number
data Halts (os : List ℕ) (x : Before) (r : List ℕ) : ℕ → Type 0 where
  by_bytes : Stuck r → Halts os x r 2
  by_unit : {w : List ℕ} {u : PatternUnit} {n : ℕ} (rest : List ℕ) → r ≡ w ++ rest → Spells w u → Refused u os x n → Halts os x r n

spelt_past_end : {w : List ℕ} {u : PatternUnit} → Spells w u → (rest : List ℕ) → [] ≡ w ++ rest → ⊥
spelt_past_end {w} s rest e = let h = spells_some s in omega (arith, ap length e ∙ length-append w rest)

halts_inside : {os : List ℕ} {x : Before} {n : ℕ} → Halts os x [] n → ⊥
halts_inside (by_bytes s) = elim s [ ]
halts_inside (by_unit rest e s f) = spelt_past_end s rest e

halts_once : {os r : List ℕ} {x : Before} {n m : ℕ} → Halts os x r n → Halts os x r m → n ≡ m
halts_once (by_bytes s) (by_bytes t) = refl
halts_once (by_bytes s) (by_unit rest e t f) = absurd (spells_stuck t s rest e)
halts_once (by_unit rest e t f) (by_bytes s) = absurd (spells_stuck t s rest e)
halts_once {os} {x} {n} (by_unit rest e s f) (by_unit rest' e' s' f') =
    let (i, j, k) = spells_same s s' rest rest' (sym e ∙ e') in
    refused_once (subst (λ z. Refused z os x n) j f) f'

halts_not_goes : {os r w : List ℕ} {x : Before} {n p : ℕ} {u : PatternUnit} {os' : List ℕ} {x' : Before}
    → Halts os x r n → Spells w u → Goes p u os x os' x' → (rest : List ℕ) → r ≡ w ++ rest → ⊥
halts_not_goes (by_bytes s) t g rest e = spells_stuck t s rest e
halts_not_goes {os} {x} {n} (by_unit rest' e' s f) t g rest e =
    let (i, j, k) = spells_same s t rest' rest (sym e' ∙ e) in
    goes_not_refused g (subst (λ z. Refused z os x n) j f)

abbrev at_end : List PatternUnit → List ℕ → Answer
at_end us [] = well_formed us
at_end us (o ∷ os) = fault 4 o

-- the reading stops at the place p, before the bytes r, with this answer
data Stops (p : ℕ) (us : List PatternUnit) (os : List ℕ) (x : Before) : List ℕ → Answer → Type 0 where
  finished : Stops p us os x [] (at_end us os)
  full : {c : ℕ} {rest : List ℕ} → length us ≡ most_units → Stops p us os x (c ∷ rest) (fault 1 p)
  halted : {r : List ℕ} {n : ℕ} → length us < most_units → Halts os x r n → Stops p us os x r (fault n p)

stops_once : {p : ℕ} {us : List PatternUnit} {os r : List ℕ} {x : Before} {v v' : Answer} → Stops p us os x r v → Stops p us os x r v' → v ≡ v'
stops_once finished finished = refl
stops_once finished (halted l h) = absurd (halts_inside h)
stops_once (full e) (full f) = refl
stops_once (full e) (halted l h) = let z : ⊥ = omega arith in absurd z
stops_once (halted l h) finished = absurd (halts_inside h)
stops_once (halted l h) (full e) = let z : ⊥ = omega arith in absurd z
stops_once {p} (halted l h) (halted m k) = ap (λ z. fault z p) (halts_once h k)

stops_not_goes : {p : ℕ} {us : List PatternUnit} {os r w : List ℕ} {x : Before} {v : Answer} {u : PatternUnit} {os' : List ℕ} {x' : Before}
    → Stops p us os x r v → length us < most_units → Spells w u → Goes p u os x os' x' → (rest : List ℕ) → r ≡ w ++ rest → ⊥
stops_not_goes finished m s g rest e = spelt_past_end s rest e
stops_not_goes (full f) m s g rest e = omega arith
stops_not_goes (halted l h) m s g rest e = halts_not_goes h s g rest e

-- the reading of the bytes stops with this answer
record Read (bytes : List ℕ) (v : Answer) : Type 0 where
  front : List ℕ
  rest : List ℕ
  splits : bytes ≡ front ++ rest
  us : List PatternUnit
  os : List ℕ
  x : Before
  reads : Reads front us os x
  stops : Stops (length front) us os x rest v

abbrev Stopping : State → List ℕ → Answer → Type 0
Stopping (b, us, os, x) r v = Stops (length b) us os x r v

module _ {bytes : List ℕ} {v v' : Answer} (d : Read bytes v) (e : Read bytes v') where
  not_further : length d.us < length e.us → ⊥
  not_further h =
      let c = cut e.reads (length d.us) h in
      let whole : d.front ++ d.rest ≡ c.front ++ (c.w ++ (c.rest ++ e.rest)) =
      sym d.splits ∙ e.splits ∙ ap (λ z. z ++ e.rest) c.splits ∙ simp append_assoc in
      let q = reads_same d.reads c.reads (sym c.count) d.rest (c.w ++ (c.rest ++ e.rest)) whole in
      let ahead : d.rest ≡ c.w ++ (c.rest ++ e.rest) =
      append_cancel_left d.front d.rest (c.w ++ (c.rest ++ e.rest)) (whole ∙ ap (λ (z : State). z.0 ++ (c.w ++ (c.rest ++ e.rest))) (sym q)) in
      let s = subst (λ (z : State). Stopping z d.rest v) q d.stops in
      stops_not_goes s c.few c.spells c.goes (c.rest ++ e.rest) ahead

  same_answer : length d.us ≡ length e.us → v ≡ v'
  same_answer h =
      let whole : d.front ++ d.rest ≡ e.front ++ e.rest = sym d.splits ∙ e.splits in
      let q = reads_same d.reads e.reads h d.rest e.rest whole in
      let ahead : d.rest ≡ e.rest = append_cancel_left d.front d.rest e.rest (whole ∙ ap (λ (z : State). z.0 ++ e.rest) (sym q)) in
      let s = subst (λ (z : State × List ℕ). Stopping z.0 z.1 v) (λ k. (q k, ahead k)) d.stops in
      stops_once s e.stops

read_once : {bytes : List ℕ} {v v' : Answer} → Read bytes v → Read bytes v' → v ≡ v'
read_once d e =
    let n = not_further d e in
    let m = not_further e d in
    elim (dec_lt (length d.us) (length e.us)) [
      | yes h ↦ absurd (n h)
      | no h ↦ elim (dec_lt (length e.us) (length d.us)) [ yes k ↦ absurd (m k) | no k ↦ same_answer d e (omega arith) ]
    ]

read_whole : {bytes : List ℕ} {us : List PatternUnit} {os : List ℕ} {x : Before} → Reads bytes us os x → Read bytes (at_end us os)
read_whole {bytes} {us} {os} {x} r = record { front = bytes; rest = []; splits = sym (append-nil bytes); us = us; os = os; x = x; reads = r; stops = finished }

read_faulty : {bytes : List ℕ} {n p : ℕ} → Faulty bytes n p → Read bytes (fault n p)
read_faulty (too_long {bytes} {us} {os} {x} c rest r e) = record { front = bytes; rest = c ∷ rest; splits = refl; us = us; os = os; x = x; reads = r; stops = full e }
read_faulty (no_unit {bytes} {rest} {us} {os} {x} r l s) =
    record { front = bytes; rest = rest; splits = refl; us = us; os = os; x = x; reads = r; stops = halted l (by_bytes s) }
read_faulty (refused {bytes} {w} {us} {u} {os} {x} {n} rest r l s f) =
    record { front = bytes; rest = w ++ rest; splits = refl; us = us; os = os; x = x; reads = r; stops = halted l (by_unit rest refl s f) }
read_faulty (left_open r) = read_whole r

pub one_fault : {bytes : List ℕ} {n p m q : ℕ} → Faulty bytes n p → Faulty bytes m q → (n ≡ m) × (p ≡ q)
one_fault f g = let e = read_once (read_faulty f) (read_faulty g) in ((cc), (cc))

pub no_fault : {bytes : List ℕ} {us : List PatternUnit} {x : Before} {n p : ℕ} → Reads bytes us [] x → Faulty bytes n p → ⊥
no_fault r f = let e = read_once (read_whole r) (read_faulty f) in let z : ◌≡◌ {A = ℕ} 0 1 = cc in omega arith

pub one_reading : {bytes : List ℕ} {us vs : List PatternUnit} {x y : Before} → Reads bytes us [] x → Reads bytes vs [] y → us ≡ vs
one_reading r d = let e = read_once (read_whole r) (read_whole d) in cc
