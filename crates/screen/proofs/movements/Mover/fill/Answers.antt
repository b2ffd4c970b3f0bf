use Rattle.std.proofs.Common.{◌+◌, arith}
use Rattle.std.proofs.lemmas.Result.{err_from_is_err_and}
use Rattle.method.specs.Cells.{first_mark}
use Rattle.screen.proofs.Filling.{Filling, fill_all, fill_count, fill_more, fill_none, fill_stops}
use Rattle.screen.proofs.movements.Mover.fill.Given.{Over}
use Rattle.screen.proofs.movements.Mover.fill.Goals as goal
use Rattle.screen.proofs.movements.Mover.fill.Goals.{In_ok-write}

pub loop-cell-init : goal.loop-cell-init
loop-cell-init g c = fill_none g.B.Board _ _ _

pub write-requires : goal.write-requires
write-requires g c =
    let n = fill_count g.B.Board _ _ _ c.loop-cell.invariant in
    let h = c.args.self.now.rule.now.fits in
    let r = c.requires in
    omega arith

-- the cell is written
written : (g : Over) (c : In_ok-write g)
    → Filling g.B.Board (first_mark c.args.first g.B.M.Mark.kind.nothing) c.args.self.now.rule.now.last c.args.self.now (c.loop-cell.cell + 1) c.write.new.self
written g c = fill_more g.B.Board _ _ _ c.loop-cell.invariant (omega arith) _ c.in_ok-write.ensures c.first_mark.ensures

pub loop-cell-preserved : goal.loop-cell-preserved
loop-cell-preserved g c = written g (goal.at.loop-cell-preserved g c).In_ok-write

pub returns-in_ok-write : goal.returns-in_ok-write
returns-in_ok-write g c = fill_all g.B.Board _ _ _ (written g (goal.at.returns-in_ok-write g c).In_ok-write) (omega arith)

pub returns-in_err-write : goal.returns-in_err-write
returns-in_err-write g c =
    let p = err_from_is_err_and c.from_residual.result c.from_residual.ensures.1 in
    rw p.1 (fill_stops g.B.Board _ _ _ c.loop-cell.invariant (omega arith) _ c.in_err-write.ensures)
