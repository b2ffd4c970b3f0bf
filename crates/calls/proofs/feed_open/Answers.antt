use Rattle.calls.proofs.Arms.{feed_full, feed_goes, feed_other, feed_refused}
use Rattle.calls.proofs.feed_open.Goals as goal
use Rattle.std.proofs.Common.{arith}
use Rattle.std.proofs.lemmas.Result.{err_from_is_err_and}

pub returns-in_err-check_renter : goal.returns-in_err-check_renter
returns-in_err-check_renter g c =
    let p = err_from_is_err_and c.from_residual.result c.from_residual.ensures.1 in
    rw (p.1, p.2, c.in_err-check_renter.ensures.1) (feed_other g.B.Board g.B.M.Mark.kind c.args.board.now _ _ _ c.in_err-check_renter.ensures.0)

pub returns-then-frame : goal.returns-then-frame
returns-then-frame g c = feed_full g.B.Board g.B.M.Mark.kind c.args.board.now _ _ _ c.in_ok-check_renter.ensures c.if-frame.true

pub returns-in_err-more : goal.returns-in_err-more
returns-in_err-more g c =
    let p = err_from_is_err_and c.from_residual-in_err-more.result c.from_residual-in_err-more.ensures.1 in
    rw (p.1, p.2) (feed_refused g.B.Board g.B.M.Mark.kind c.args.board.now _ _ _ c.in_ok-check_renter.ensures _ c.if-frame.false _ c.in_err-more.ensures)

pub returns : goal.returns
returns g c = feed_goes g.B.Board g.B.M.Mark.kind c.args.board.now _ _ _ c.in_ok-check_renter.ensures _ c.if-frame.false _ (omega arith) c.in_ok-more.ensures
