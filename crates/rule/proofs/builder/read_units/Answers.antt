use Rattle.std.proofs.Common.{◌≡◌, ◌<◌, ◌≤◌, length, drop, refl, ◌∙◌, subst, inl, inr, arith}
use Rattle.language.specs.Limits.{most_units}
use Rattle.rule.proofs.Rounds.{fault_as, first_round, long_fault, next_round, no_unit_fault, passed_on, passes, unit_fault}
use Rattle.rule.proofs.builder.read_units.Goals as goal
use Rattle.rule.proofs.builder.read_units.Goals.{In_ok-take}
use Rattle.std.proofs.lemmas.Result.{err_from_is_err_and}
use Rattle.rule.specs.Standing.{Took}
use Rattle.syntax.specs.Reading.{Passed}
use Rattle.syntax.specs.Spelling.{Stuck}

pub loop-placed-init : goal.loop-placed-init
loop-placed-init c = (
  c.new-reader.ensures.0,
  (let e = c.new-reader.ensures.1 in omega arith),
  first_round c.args.pattern.now c.new-reader.result.place c.new-builder.result c.new-reader.ensures.1 c.new-builder.ensures,
)

pub returns-in_err-placed : goal.returns-in_err-placed
returns-in_err-placed c =
    let (same, low, r) = c.loop-placed.invariant in
    let xs = c.args.pattern.now in
    let at = c.loop-placed.reader.place in
    let p = err_from_is_err_and c.from_residual.result c.from_residual.ensures.1 in
    rw (p.1, p.2)
    (elim c.in_err-placed.ensures.reads [
      | inl (many, inside, number, place) ↦ fault_as xs 1 at c.in_err-placed.field-0.0 number place (long_fault xs at low c.loop-placed.builder r (subst (λ z. at < length z) same inside) many)
      | inr (few, (f, stays)) ↦
          fault_as xs 2 at c.in_err-placed.field-0.0 f.number f.place
          (no_unit_fault xs at low c.loop-placed.builder r few (subst (λ z. Stuck (drop at z)) same f.stuck))
    ])

read_one : (c : In_ok-take) → (c.loop-placed.builder.count ≤ most_units) × ((c.in-Some.placed.place ≡ c.loop-placed.reader.place) × Passed c.args.pattern.now c.loop-placed.reader.place c.in-Some.placed.unit c.next_unit.new.reader.place)
read_one c = passes c.loop-placed.reader.place c.next_unit.new.reader.place c.loop-placed.invariant.0 c.in-Some.is c.in_ok-placed.ensures.reads

pub loop-placed-smaller : goal.loop-placed-smaller
loop-placed-smaller c =
    let (few, (place, w)) = read_one c in
    let h = passed_on c.args.pattern.now c.loop-placed.reader.place c.in-Some.placed.unit c.next_unit.new.reader.place w in
    let k = w.within in
    omega arith

pub loop-placed-preserved : goal.loop-placed-preserved
loop-placed-preserved c =
    let (same, low, r) = c.loop-placed.invariant in
    let (few, (place, w)) = read_one c in
    let took = c.in_ok-take.ensures r.us r.os r.x r.stands in (
      c.in_ok-placed.ensures.same ∙ same,
      w.within,
      next_round c.args.pattern.now c.loop-placed.reader.place low c.loop-placed.builder c.take.new.self c.in-Some.placed.unit c.next_unit.new.reader.place r
          few w (subst (λ z. Took c.take.new.self c.in-Some.placed.unit z r.us r.os r.x) place took),
    )

pub returns-in_err-take : goal.returns-in_err-take
returns-in_err-take c =
    let (same, low, r) = c.loop-placed.invariant in
    let xs = c.args.pattern.now in
    let at = c.loop-placed.reader.place in
    let (few, (place, w)) = passes at c.next_unit.new.reader.place same c.in-Some.is c.in_ok-placed.ensures.reads in
    let (f, e) = c.in_err-take.ensures r.us r.os r.x r.stands in
    let p = err_from_is_err_and c.from_residual-in_err-take.result c.from_residual-in_err-take.ensures.1 in
    rw (p.1, p.2)
    (fault_as xs _ at c.in_err-take.field-0.0 refl (e ∙ place)
    (unit_fault xs at low c.loop-placed.builder r c.in-Some.placed.unit c.next_unit.new.reader.place _ few w f))
