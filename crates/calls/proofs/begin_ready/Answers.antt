use Rattle.calls.proofs.Arms.{begin_goes, begin_long, begin_poor, begin_refused}
use Rattle.calls.proofs.begin_ready.Goals as goal
use Rattle.std.proofs.Common.{arith}
use Rattle.std.proofs.lemmas.Result.{err_from_is_err_and}

pub returns-then-length-from : goal.returns-then-length-from
returns-then-length-from g c = begin_long g.B.Board g.B.M.Mark.kind c.args.board.now _ _ _ (omega arith)

pub returns-then-allowance-all : goal.returns-then-allowance-all
returns-then-allowance-all g c = begin_poor g.B.Board g.B.M.Mark.kind c.args.board.now _ _ _ c.frame_touches-all.ensures c.last.ensures (omega arith) (omega arith)

pub returns-in_err-touches : goal.returns-in_err-touches
returns-in_err-touches g c =
    let p = err_from_is_err_and c.from_residual.result c.from_residual.ensures.1 in
    rw (p.1, p.2) (begin_refused g.B.Board g.B.M.Mark.kind c.args.board.now _ _ _ c.frame_touches-all.ensures c.last.ensures (omega arith) (omega arith) _ c.in_err-touches.ensures)

pub returns : goal.returns
returns g c = begin_goes g.B.Board g.B.M.Mark.kind c.args.board.now _ _ _ c.frame_touches-all.ensures c.last.ensures (omega arith) (omega arith) _ c.in_ok-touches.ensures
