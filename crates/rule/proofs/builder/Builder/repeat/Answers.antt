use Rattle.language.specs.Faults.{a_sign}
use Rattle.rule.proofs.Readied.{room_of, start_kept}
use Rattle.rule.proofs.Stood.{loops_of, no_loops, stood_back, stood_over}
use Rattle.rule.proofs.builder.Builder.repeat.Goals as goal
use Rattle.rule.proofs.builder.Builder.repeat.Goals.{else-leads_back, then-leads_back}
use Rattle.rule.specs.Standing.{LaidDown}
use Rattle.syntax.specs.declared.PatternUnit.TheVariants.{Repeat}
use Rattle.std.proofs.Common.{sym, subst, arith}

pub lay-requires : goal.lay-requires
lay-requires c = (room_of c.args.self.now c.requires.0, c.skipped_from.ensures.1)

pub with_last-requires : goal.with_last-requires
with_last-requires c =
    let b = c.args.self.now in
    let r = (room_of b c.requires.0).room in
    (omega arith, rw c.from.ensures (start_kept b c.lay.new.self c.lay.ensures c.requires.0 c.requires.1))

pub returns : goal.returns
returns c place us os x os' x' s a_sign =
    let b = c.args.self.now in
    let g = c.args.sign in
    let d = subst (λ z. LaidDown b (Repeat g) z c.lay.new.self) c.skipped_from.ensures.0 c.lay.ensures in
    elim c.if-leads_back.branch [
      | then-leads_back w ↦ stood_back b g (room_of b c.requires.0) us os s c.lay.new.self d c.if-leads_back.self w.with_last.result (rw (sym w.from-then-leads_back.ensures) w.self-is) (loops_of g (sym w.if-leads_back.ensures)) (rw (sym w.from.ensures) w.with_last.ensures)
      | else-leads_back w ↦ stood_over b g (room_of b c.requires.0) us os s c.lay.new.self d c.if-leads_back.self w.self-is (no_loops g (sym w.if-leads_back.ensures))
    ]
