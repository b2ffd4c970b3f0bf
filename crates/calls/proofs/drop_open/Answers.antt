use Rattle.calls.proofs.Arms.{drop_goes, drop_other, drop_refused}
use Rattle.calls.proofs.drop_open.Goals as goal
use Rattle.std.proofs.lemmas.Result.{err_from_is_err_and}

pub returns-in_err-check_renter : goal.returns-in_err-check_renter
returns-in_err-check_renter g c =
    let p = err_from_is_err_and c.from_residual.result c.from_residual.ensures.1 in
    rw (p.1, p.2, c.in_err-check_renter.ensures.1) (drop_other g.B.Board g.B.M.Mark.kind c.args.board.now _ _ _ c.in_err-check_renter.ensures.0)

pub returns-in_err-more : goal.returns-in_err-more
returns-in_err-more g c =
    let p = err_from_is_err_and c.from_residual-in_err-more.result c.from_residual-in_err-more.ensures.1 in
    rw (p.1, p.2) (drop_refused g.B.Board g.B.M.Mark.kind c.args.board.now _ _ _ c.in_ok-check_renter.ensures _ c.in_err-more.ensures)

pub returns : goal.returns
returns g c = drop_goes g.B.Board g.B.M.Mark.kind c.args.board.now _ _ _ c.in_ok-check_renter.ensures _ c.in_ok-more.ensures
