use Rattle.std.proofs.Common.{arith}
use Rattle.std.proofs.lemmas.Result.{err_from_is_err_and}
use Rattle.screen.proofs.Settling.{settle_count, settle_more, settle_stops}
use Rattle.screen.proofs.movements.Mover.settle.Goals as goal

pub scan-requires : goal.scan-requires
scan-requires g c =
    let n = settle_count g.B.Board g.B.M.Mark.kind _ _ c.loop.invariant (omega arith) in
    let h = c.args.self.now.rule.now.fits in
    let r = c.requires in
    omega arith

pub returns-in_err-scan : goal.returns-in_err-scan
returns-in_err-scan g c =
    let p = err_from_is_err_and c.from_residual.result c.from_residual.ensures.1 in
    rw p.1 (settle_stops g.B.Board g.B.M.Mark.kind _ _ c.loop.invariant (omega arith) c.in_err-scan.ensures)

pub loop-preserved : goal.loop-preserved
loop-preserved g c = settle_more g.B.Board g.B.M.Mark.kind _ _ c.loop.invariant c.in_ok-scan.ensures
