use Rattle.drive.proofs.Driven.{touched}
use Rattle.drive.proofs.drive.Goals as goal
use Rattle.drive.specs.Drives.{after, state}
use Rattle.std.proofs.lemmas.List.{at_drop_more}
use Rattle.std.proofs.Common.{◌+◌, ◌∷◌, drop, sym, ap, ◌∙◌}

pub loop-access-preserved : goal.loop-access-preserved
loop-access-preserved g c =
    let b = g.B.Board in
    let xs = c.args.accesses.now in
    let i = c.loop-access.access-index in
    let before = c.loop-access.board in
    let a = c.access-item.result in
    let rest = drop (i + 1) xs in (
      b.keeps.on _ _ _ c.loop-access.invariant.0 c.touch.ensures.kept,
      ap (λ s. after b.make s rest) (sym (touched b.make (b.cells before) (b.meter before) a _ _ c.touch.result c.touch.ensures.done))
          ∙ ap (λ x. after b.make (state (b.cells before) (b.meter before)) (x ∷ rest)) c.access-item.is
          ∙ sym (at_drop_more (after b.make (state (b.cells before) (b.meter before))) xs i a c.loop-access-test.true)
          ∙ c.loop-access.invariant.1,
    )
