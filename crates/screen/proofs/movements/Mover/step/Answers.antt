use Rattle.std.proofs.Common.{◌≡◌, suc, ◌+◌, ◌-◌, ◌^◌, ◌<◌, cond, ap, ◌∙◌, arith}
use Rattle.std.proofs.lemmas.Result.{err_from_is_err_and}
use Rattle.screen.proofs.Stepping.{Stepping, at_next, step_count, step_ends, step_more, step_read, step_start}
use Rattle.screen.proofs.Underway.{read_refused, write_refused}
use Rattle.screen.proofs.movements.Mover.step.Given.{Over}
use Rattle.screen.proofs.movements.Mover.step.Goals as goal
use Rattle.screen.proofs.movements.Mover.step.Goals.{At-loop-j, In-loop-j}

-- a count far from its end
few : (g : Over) (c : At-loop-j g) → c.loop-j.self.touches + 1 < 2 ^ 32
few g c =
    let n = step_count g.B.Board g.B.M.Mark.kind _ _ _ c.loop-j.invariant in
    let h = c.args.self.now.rule.now.fits in
    let r = c.requires in
    omega arith

pub read-requires : goal.read-requires
read-requires g c = let f = few g (goal.at.read-requires g c).At-loop-j in omega arith

pub write-requires : goal.write-requires
write-requires g c = let f = few g (goal.at.write-requires g c).At-loop-j in let a = c.in_ok-mark.ensures.counted in omega arith

pub write-requires-2 : goal.write-requires-2
write-requires-2 g c = let f = few g (goal.at.write-requires-2 g c).At-loop-j in omega arith

-- right before the cell
start : (g : Over) (c : In-loop-j g) → Stepping g.B.Board g.B.M.Mark.kind c.args.self.now.rule.now c.args.byte c.args.self.now (suc (c.loop-j.j - 1)) c.loop-j.self
start g c = at_next g.B.Board g.B.M.Mark.kind _ _ _ (c.loop-j.j - 1) (omega arith) c.loop-j.invariant

pub loop-j-preserved : goal.loop-j-preserved
loop-j-preserved g c =
    let cell : c.from-in-loop-j.result + 1 ≡ suc (c.loop-j.j - 1) = let e = c.from-in-loop-j.ensures in omega arith in
    let mark = c.across.ensures ∙ ap (λ z. cond z c.in_ok-mark.mark g.B.M.Mark.kind.nothing) c.takes.ensures in
    step_more g.B.Board g.B.M.Mark.kind _ _ _ (start g (goal.at.loop-j-preserved g c).In-loop-j) c.from.ensures c.in_ok-mark.ensures cell _ c.in_ok-write.ensures mark

pub returns : goal.returns
returns g c = step_ends g.B.Board g.B.M.Mark.kind _ _ _ (omega arith) c.loop-j.invariant c.fresh.ensures _ c.write-2.ensures

pub returns-in_err-mark : goal.returns-in_err-mark
returns-in_err-mark g c =
    let p = err_from_is_err_and c.from_residual.result c.from_residual.ensures.1 in
    rw p.1 (read_refused g.B.Board (step_start g.B.Board g.B.M.Mark.kind _ _ _ (start g (goal.at.returns-in_err-mark g c).In-loop-j)) c.from.ensures c.in_err-mark.ensures)

pub returns-in_err-write : goal.returns-in_err-write
returns-in_err-write g c =
    let p = err_from_is_err_and c.from_residual-in_err-write.result c.from_residual-in_err-write.ensures.1 in
    let cell : c.from-in-loop-j.result + 1 ≡ suc (c.loop-j.j - 1) = let e = c.from-in-loop-j.ensures in omega arith in
    let taken = step_read g.B.Board g.B.M.Mark.kind _ _ _ (start g (goal.at.returns-in_err-write g c).In-loop-j) c.from.ensures c.in_ok-mark.ensures in
    rw p.1 (write_refused g.B.Board taken cell c.in_err-write.ensures)
