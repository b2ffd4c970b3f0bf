use Rattle.calls.proofs.Arms.{finish_early, finish_goes, finish_other, finish_refused}
use Rattle.calls.proofs.finish_open.Goals as goal
use Rattle.std.proofs.lemmas.Result.{err_from_is_err_and}

pub returns-in_err-check_renter : goal.returns-in_err-check_renter
returns-in_err-check_renter g c =
    let p = err_from_is_err_and c.from_residual.result c.from_residual.ensures.1 in
    rw (p.1, p.2, c.in_err-check_renter.ensures.1) (finish_other g.B.Board g.B.M.Mark.kind c.args.board.now _ _ _ c.in_err-check_renter.ensures.0)

pub returns-then-frame : goal.returns-then-frame
returns-then-frame g c = finish_early g.B.Board g.B.M.Mark.kind c.args.board.now _ _ _ c.in_ok-check_renter.ensures c.if-frame.true

pub returns-in_err-mark : goal.returns-in_err-mark
returns-in_err-mark g c =
    let p = err_from_is_err_and c.from_residual-in_err-mark.result c.from_residual-in_err-mark.ensures.1 in
    rw (p.1, p.2) (finish_refused g.B.Board g.B.M.Mark.kind c.args.board.now _ _ _ c.in_ok-check_renter.ensures _ c.in_err-mark.ensures)

pub returns : goal.returns
returns g c = finish_goes g.B.Board g.B.M.Mark.kind c.args.board.now _ _ _ c.in_ok-check_renter.ensures _ _ c.if-frame.false c.in_ok-mark.ensures
