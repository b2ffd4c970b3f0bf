use Rattle.board.proofs.metered.admit.Goals as goal
use Rattle.board.specs.Boards.{Refused, no_allowance, no_cell}
use Rattle.std.proofs.lemmas.Result.{err_from_is_err_and}
use Rattle.std.proofs.Common.{sym, refl, subst, arith}

pub returns-in_err-at-clause-done : goal.returns-in_err-at-clause-done
returns-in_err-at-clause-done g c =
    let p = err_from_is_err_and c.from_residual.result c.from_residual.ensures.1 in
    let why = c.in_err-at.ensures in
    rw (p.1, p.2) (subst (Refused _ _ _) (sym why.0) (no_cell (omega (arith, c.cell.ensures))), refl)

pub returns-in_err-count-clause-done : goal.returns-in_err-count-clause-done
returns-in_err-count-clause-done g c =
    let p = err_from_is_err_and c.from_residual-in_err-count.result c.from_residual-in_err-count.ensures.1 in
    let there = c.in_ok-at.ensures in
    let why = c.in_err-count.ensures.done in
    rw (p.1, p.2) (subst (Refused _ _ _) (sym why.0) (no_allowance (omega (arith, c.cell.ensures)) (why.1 _)), why.2)
