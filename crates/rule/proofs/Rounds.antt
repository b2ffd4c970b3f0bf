-- One round of the reading.
use Rattle.std.proofs.Common.{◌≡◌, ℕ, suc, ◌<◌, ◌≤◌, List, [], ◌∷◌, ◌++◌, length, get_or, take, drop, Some, None, Ok, Option, sym, refl, ap, ◌∙◌, subst, append_assoc, arith, length-append, length-drop, take-append-drop, length-take-le, take_all}
use Rattle.language.proofs.Spelt.{spells_some}
use Rattle.language.proofs.Trees.{reads_few}
use Rattle.language.specs.Faults.{Faulty, Goes, Refused, more, no_unit, nothing, refused, start, too_long, Before}
use Rattle.language.specs.Limits.{most_units}
use Rattle.rule.specs.Standing.{NextWithin, ReadTo, Ready, Stands, Took}
use Rattle.rule.specs.declared.builder.Builder.{Builder}
use Rattle.syntax.proofs.Spelled.{split_1}
use Rattle.syntax.specs.Reading.{Next, Passed}
use Rattle.syntax.specs.Spelling.{Stuck}
use Rattle.stops.specs.Stops.{stop_number}
use Rattle.syntax.specs.declared.Fault.{Fault}
use Rattle.syntax.specs.declared.PatternUnit.{PatternUnit}
use Rattle.syntax.specs.declared.Placed.{Placed}

pub first_round : (xs : List ℕ) (p : ℕ) (b : Builder) → p ≡ 0 → Stands b [] [] start → ReadTo (take p xs) b
first_round xs p b e s = subst (λ z. ReadTo (take z xs) b) (sym e) (record { us = []; os = []; x = start; reads = nothing; stands = s })

units_count : (b : Builder) (us : List PatternUnit) (os : List ℕ) (x : Before) → Stands b us os x → b.count ≡ suc (length us)
units_count b us os x s = sym s.grown.count

take_front : (u v : List ℕ) → take (length u) (u ++ v) ≡ u
take_front [] v = refl
take_front (a ∷ u) v = ap (λ z. a ∷ z) (take_front u v)

module _ (xs : List ℕ) (p : ℕ) (h : p ≤ length xs) where
  faulty_here : (n : ℕ) (rest : List ℕ) → drop p xs ≡ rest → Faulty (take p xs ++ rest) n (length (take p xs)) → Faulty xs n p
  faulty_here n rest e f =
      subst (λ z. Faulty xs n z) (length-take-le p xs h)
      (subst (λ z. Faulty z n (length (take p xs))) (ap (λ z. take p xs ++ z) (sym e) ∙ take-append-drop p xs) f)

  module _ (b : Builder) (r : ReadTo (take p xs) b) where
    pub long_fault : p < length xs → most_units < b.count → Faulty xs 1 p
    long_fault l k =
        let e = units_count b r.us r.os r.x r.stands in
        let few = reads_few r.reads in
        let d : 1 ≤ length (drop p xs) = simp length-drop (omega arith) in
        faulty_here 1 (get_or (drop p xs) 0 0 ∷ drop 1 (drop p xs)) (split_1 (drop p xs) d) (too_long (get_or (drop p xs) 0 0) (drop 1 (drop p xs)) r.reads (omega arith))

    pub no_unit_fault : b.count ≤ most_units → Stuck (drop p xs) → Faulty xs 2 p
    no_unit_fault k s =
        let e = units_count b r.us r.os r.x r.stands in
        faulty_here 2 (drop p xs) refl (no_unit r.reads (omega arith) s)

    pub unit_fault : (u : PatternUnit) (p' n : ℕ) → b.count ≤ most_units → Passed xs p u p' → Refused u r.os r.x n → Faulty xs n p
    unit_fault u p' n k w f =
        let e = units_count b r.us r.os r.x r.stands in
        faulty_here n (w.spelling ++ drop p' xs) w.splits (refused (drop p' xs) r.reads (omega arith) w.spells f)

  one_more : (u : PatternUnit) (p' : ℕ) (w : Passed xs p u p') → take p' xs ≡ take p xs ++ w.spelling
  one_more u p' w =
      let len = length-take-le p xs h in
      let both : length (take p xs ++ w.spelling) ≡ p' = length-append (take p xs) w.spelling ∙ (let e = w.ends in omega arith) in
      let whole : xs ≡ (take p xs ++ w.spelling) ++ drop p' xs =
      sym (take-append-drop p xs) ∙ ap (λ z. take p xs ++ z) w.splits ∙ sym (append_assoc (take p xs) w.spelling (drop p' xs)) in
      ap (take p') whole ∙ ap (λ z. take z ((take p xs ++ w.spelling) ++ drop p' xs)) (sym both) ∙ take_front (take p xs ++ w.spelling) (drop p' xs)

  pub next_round : (b b' : Builder) (u : PatternUnit) (p' : ℕ) (r : ReadTo (take p xs) b) → b.count ≤ most_units → Passed xs p u p'
      → Took b' u p r.us r.os r.x → ReadTo (take p' xs) b'
  next_round b b' u p' r k w (os', x', g, s) =
      let e = units_count b r.us r.os r.x r.stands in
      let g' : Goes (length (take p xs)) u r.os r.x os' x' = subst (λ z. Goes z u r.os r.x os' x') (sym (length-take-le p xs h)) g in
      subst (λ z. ReadTo z b') (sym (one_more u p' w)) (record { us = r.us ++ (u ∷ []); os = os'; x = x'; reads = more r.reads (omega arith) w.spells g'; stands = s })

pub last_round : (xs : List ℕ) (p : ℕ) (b : Builder) → length xs ≤ p → ReadTo (take p xs) b → ReadTo xs b
last_round xs p b h r = subst (λ z. ReadTo z b) (take_all p xs h) r

pub passed_on : (xs : List ℕ) (p : ℕ) (u : PatternUnit) (p' : ℕ) → Passed xs p u p' → p < p'
passed_on xs p u p' w = let h = spells_some w.spells in let e = w.ends in omega arith

pub fault_as : (xs : List ℕ) (n p : ℕ) (f : Fault) → stop_number f.stop ≡ n → f.place ≡ p → Faulty xs n p → Faulty xs (stop_number f.stop) f.place
fault_as xs n p f e h k = subst (λ z. Faulty xs (stop_number f.stop) z) (sym h) (subst (λ z. Faulty xs z p) (sym e) k)

-- the unit that was read, in the pattern that is read
pub passes : {count : ℕ} {ys xs : List ℕ} (p : ℕ) {o : Option Placed} {y : Placed} (p' : ℕ) → ys ≡ xs → o ≡ Some y → NextWithin count ys p (Ok o) p'
    → (count ≤ most_units) × ((y.place ≡ p) × Passed xs p y.unit p')
passes {count} {ys} p {y = y} p' e f n =
    subst (λ z. (count ≤ most_units) × Next z p (Ok (Some y)) p') e (subst (λ z. NextWithin count ys p (Ok z) p') f n)

-- where no unit was read the pattern is at its end
pub read_out : (count : ℕ) (ys : List ℕ) (p : ℕ) {o : Option Placed} (p' : ℕ) → o ≡ None → NextWithin count ys p (Ok o) p' → length ys ≤ p
read_out count ys p p' f n = (subst (λ z. NextWithin count ys p (Ok z) p') f n).0

-- a builder of few units may take one more
pub readied : {bytes : List ℕ} (b : Builder) → ReadTo bytes b → b.count ≤ most_units → Ready b
readied b r few =
    let e = units_count b r.us r.os r.x r.stands in
    record { us = r.us; os = r.os; x = r.x; stands = r.stands; few = omega arith }
